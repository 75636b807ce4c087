use Rattle.std.proofs.Common.{◌≡◌, codes, map, string_bytes, ap, sym, subst, arith, rules}
use Rattle.std.proofs.lemmas.List.{take_rest}
use Rattle.access_tokens.specs.Keys.{IsWordOf}
use Rattle.wopi_program.proofs.CtokenLemmas.{keyless, tokenless, row_of}
use Rattle.wopi_program.proofs.Rows.{four_items}
use Rattle.wopi_program.proofs.ctoken_words.ctoken_words.Goals as goal

pub returns-in_ok-token-in-len4-up-clause-some : goal.returns-in_ok-token-in-len4-up-clause-some
returns-in_ok-token-in-len4-up-clause-some c =
    let word : string_bytes c.word-item.result ≡ codes "ctoken" = search rules in
    let are = ap (map string_bytes) (four_items c.args.words.now c.word-item.result c.key-item.result c.user-item.result c.rights-item.result
    (omega arith) c.word-item.is c.key-item.is c.user-item.is c.rights-item.is) in
    let told = c.in_ok-token-in-len4-up.ensures.some in
    record {
      key_word = string_bytes c.key-item.result;
      words_are = row_of _ _ _ _ _ _ _ _ _ are word c.as_str-in-len4-up.ensures.value c.as_str-in-len4-up-2.ensures.value (rw take_rest at told.1);
      keys_are = subst (IsWordOf c.in_ok-keys-in-len4-up.keys) c.as_bytes.ensures.value c.in_ok-keys-in-len4-up.ensures.value;
      token_is = told.0;
    }

pub returns-in_err-keys-in-len4-up-clause-none : goal.returns-in_err-keys-in-len4-up-clause-none
returns-in_err-keys-in-len4-up-clause-none c =
    let are = ap (map string_bytes) (four_items c.args.words.now c.word-item.result c.key-item.result c.user-item.result c.rights-item.result
    (omega arith) c.word-item.is c.key-item.is c.user-item.is c.rights-item.is) in
    rw c.from_residual.ensures (keyless _ _ _ _ _ _ are (λ keys told.
    cc (c.in_err-keys-in-len4-up.ensures.exact.1 (keys, subst (IsWordOf keys) (sym c.as_bytes.ensures.value) told))))

pub returns-in_err-token-in-len4-up-clause-none : goal.returns-in_err-token-in-len4-up-clause-none
returns-in_err-token-in-len4-up-clause-none c =
    let are = ap (map string_bytes) (four_items c.args.words.now c.word-item.result c.key-item.result c.user-item.result c.rights-item.result
    (omega arith) c.word-item.is c.key-item.is c.user-item.is c.rights-item.is) in
    let none = rw take_rest at c.in_err-token-in-len4-up.ensures.none in
    rw c.from_residual-in_err-token-in-len4-up.ensures (tokenless _ _ _ _ _ _ _ _ are c.as_str-in-len4-up.ensures.value
    c.as_str-in-len4-up-2.ensures.value none)
