use Rattle.std.proofs.Common.{◌≡◌, Ok, sym, ap, ◌∙◌, rules}
use Rattle.hex.specs.Hex.{decode_of, encode_lower}
use Rattle.line_text.proofs.Endings.{not_empty}
use Rattle.line_text.proofs.HexWords.{empty_not, hex_back, hex_said}
use Rattle.line_text.proofs.values.hex_read.Goals as goal

pub returns-then-is_empty-clause-none : goal.returns-then-is_empty-clause-none
returns-then-is_empty-clause-none c = λ contents form says.
    let said = hex_said _ contents (λ e. cc (sym (c.is_word.ensures.1 (e ∙ sym c.as_slice.ensures)) ∙ c.if-is_word.false)) form says in
    empty_not _ _ c.is_empty.ensures c.if-is_empty.true said.some

pub returns-in_default-clause-none : goal.returns-in_default-clause-none
returns-in_default-clause-none c = λ contents form says.
    let said = hex_said _ contents (λ e. cc (sym (c.is_word.ensures.1 (e ∙ sym c.as_slice.ensures)) ∙ c.if-is_word.false)) form says in
    (rw c.in_default.is at c.in_ok-contents.ensures.none) contents said.reads

pub returns-then-is_word-2-clause-some : goal.returns-then-is_word-2-clause-some
returns-then-is_word-2-clause-some c =
    let back : decode_of c.args.word.now ≡ Ok c.in-Some.contents.items = rw c.in-Some.is at c.in_ok-contents.ensures.some in
    let text : c.as_bytes.result.now ≡ encode_lower c.in-Some.contents.items = search rules in
    let same = sym text ∙ c.is_word-2.ensures.0 c.if-is_word-2.true in
    let read = hex_back _ _ (not_empty _ _ c.is_empty.ensures c.if-is_empty.false) back same in
    rw c.from_vec-then-is_word-2.ensures read

pub returns-else-is_word-2-clause-none : goal.returns-else-is_word-2-clause-none
returns-else-is_word-2-clause-none c = λ contents form says.
    let said = hex_said _ contents (λ e. cc (sym (c.is_word.ensures.1 (e ∙ sym c.as_slice.ensures)) ∙ c.if-is_word.false)) form says in
    let back : decode_of c.args.word.now ≡ Ok c.in-Some.contents.items = rw c.in-Some.is at c.in_ok-contents.ensures.some in
    let text : c.as_bytes.result.now ≡ encode_lower c.in-Some.contents.items = search rules in
    let items : c.in-Some.contents.items ≡ contents = let both = sym back ∙ said.reads in cc both in
    cc (sym (c.is_word-2.ensures.1 (text ∙ ap encode_lower items ∙ said.writes)) ∙ c.if-is_word-2.false)
