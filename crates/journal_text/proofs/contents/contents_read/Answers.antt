use Rattle.std.proofs.Common.{ap, ◌∙◌, ◌≡◌, length, Option, ℕ, Some, subst}
use Rattle.hex.specs.Hex.{IsBytes}
use Rattle.host_table.specs.Text.{hex_text}
use Rattle.journal_text.specs.Lines.{AreSized}
use Rattle.journal_text.proofs.HexWords.{no_contents, other_size}
use Rattle.journal_text.proofs.contents.contents_read.Goals as goal

pub returns-clause-none : goal.returns-clause-none
returns-clause-none c = λ contents sized says.
    let read : IsBytes c.in-Some-2.contents × (c.args.word.now ≡ hex_text c.in-Some-2.contents) = rw c.in-Some-2.is at c.in_ok-contents.ensures.some in
    let given : AreSized (Some c.in-Some.size) contents = subst (λ (size : Option ℕ). AreSized size contents) c.in-Some.is sized in
    other_size c.args.word.now c.in-Some-2.contents c.in-Some.size contents read.1 (λ e. c.if-as_slice-size.false (ap length c.as_slice.ensures ∙ e)) given says

pub returns-in_default-2-clause-none : goal.returns-in_default-2-clause-none
returns-in_default-2-clause-none c = λ contents sized says.
    no_contents c.args.word.now c.args.size c.in-Some.size contents (rw c.in_default-2.is at c.in_ok-contents.ensures.none) c.in-Some.is sized says
