use Rattle.std.specs.Prelude.{◌==◌, string_len}
use Rattle.std.proofs.Common.{◌≡◌, ◌<◌, false, not, ℕ, zero, suc, List, codes, map, drop, string_bytes, length, sym, ap, ◌∙◌, subst, arith, rules}
use Rattle.std.specs.Str.{bytes_eq}
use Rattle.std.proofs.lemmas.List.{take_rest}
use Rattle.access_tokens.specs.Keys.{IsWordOf}
use Rattle.wopi_program.proofs.OnceRows.{four_items, too_short, once_refused}
use Rattle.wopi_program.proofs.once_words.once_words.Goals as goal

pub returns-in_default-clause-none : goal.returns-in_default-clause-none
returns-in_default-clause-none c = too_short string_bytes c.args.words.now (omega arith)

pub returns-in_err-keys-in-len4-up-clause-none : goal.returns-in_err-keys-in-len4-up-clause-none
returns-in_err-keys-in-len4-up-clause-none c =
    let are = ap (map string_bytes) (four_items c.args.words.now c.word-item.result c.folder-item.result c.key-item.result c.base-item.result
    (omega arith) c.word-item.is c.folder-item.is c.key-item.is c.base-item.is) in
    rw c.from_residual.ensures (once_refused _ _ _ _ _ _ are (λ keys word folder hex base options.
    cc (c.in_err-keys-in-len4-up.ensures.exact.1 (keys, subst (IsWordOf keys) (sym c.as_bytes.ensures.value) hex))))

not_zero : (count : ℕ) → (count == 0) ≡ false → 0 < count
not_zero zero is = absurd (cc is)
not_zero (suc count) is = omega arith

same_word : (word other : List ℕ) → false ≡ not (bytes_eq word other) → word ≡ other
same_word word other same = search rules

pub returns-in_ok-keys-in-len4-up-clause-some : goal.returns-in_ok-keys-in-len4-up-clause-some
returns-in_ok-keys-in-len4-up-clause-some c =
    let word : string_bytes c.word-item.result ≡ codes "once" = sym c.as_str.ensures.value ∙ same_word _ _ c.if-ne.ensures in
    let count = string_len c.folder-item.result in
    let long : 0 < count = not_zero count (sym c.is_empty.ensures ∙ c.if-is_empty.false) in
    let folder : 0 < length (string_bytes c.folder-item.result) = omega (arith, long, c.folder-item.result.bytes.ok.0) in
    let are = ap (map string_bytes) (four_items c.args.words.now c.word-item.result c.folder-item.result c.key-item.result c.base-item.result
    (omega arith) c.word-item.is c.folder-item.is c.key-item.is c.base-item.is) in
    record {
      folder = string_bytes c.folder-item.result;
      key_word = string_bytes c.key-item.result;
      options = map string_bytes (drop 4 c.args.words.now);
      words_are = cc (are, word);
      folder_is = folder;
      keys_are = subst (IsWordOf c.in_ok-keys-in-len4-up.keys) c.as_bytes.ensures.value c.in_ok-keys-in-len4-up.ensures.value;
      base_is = search rules;
      options_are = (rw take_rest at c.are_options.ensures).0 (search rules);
      editor_is = rw take_rest at c.serves_editors.ensures;
    }
