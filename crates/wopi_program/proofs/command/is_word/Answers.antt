use Rattle.std.proofs.Common.{ℕ, List, [], ◌∷◌, map, string_bytes, sym, ap, ◌∙◌, arith}
use Rattle.wopi_program.proofs.Rows.{one_item, word_alone}
use Rattle.wopi_program.proofs.command.is_word.Goals as goal

pub returns-in-len1 : goal.returns-in-len1
returns-in-len1 c =
    let is = ap (map string_bytes) (one_item c.args.words.now c.word-item.result (omega arith) (omega arith) c.word-item.is) in
    let alone = word_alone _ c.as_str.result.now c.args.wanted.now (is ∙ ap (λ (word : List ℕ). word ∷ []) (sym c.as_str.ensures.value)) in
    rw c.eq.ensures alone
