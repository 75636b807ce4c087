use Rattle.std.proofs.Common.{◌≡◌, ℕ, Err, ap, ◌∙◌, subst}
use Rattle.line_text.specs.declared.input.InputFault.TheVariants.{Text}
use Rattle.journal_text.specs.declared.input.SizeFault.TheVariants.{TooLong}
use Rattle.journal_text.specs.Inputs.{IsBadInput}
use Rattle.journal_text.proofs.PieceLemmas.{input_bad, input_read}
use Rattle.journal_text.proofs.input.read_lines.Goals as goal

pub returns-in-Err-Text-TooLong-clause-long : goal.returns-in-Err-Text-TooLong-clause-long
returns-in-Err-Text-TooLong-clause-long g c = λ is.
    let same : c.in-Err-Text-TooLong.field-0 ≡ Text TooLong = c.in-Err-Text-TooLong.field-0-is ∙ ap (λ f. Text f) c.in-Err-Text-TooLong.field-0-0-is in
    let so = c.in-Err-Text-TooLong.ensures.refused TooLong (ap (λ f. Err f) same) in
    record { bytes = so.bytes; consumed = so.read; many = so.says }

pub returns-in-Ok-finish-clause-read : goal.returns-in-Ok-finish-clause-read
returns-in-Ok-finish-clause-read g c =
    input_read g.R.Keeper.is_new g.R.Keeper.keeps (g.S.Source.left c.args.source.now) (g.S.Source.left c.read_text.new.source) c.read_text.new.text c.finish.result
    c.in-Ok-read_text.ensures.whole c.in-Ok-read_text.ensures.end c.finish.ensures c.in-Ok-finish.reader c.in-Ok-finish.keeper c.in-Ok-finish.is

pub returns-in-Err-clause-bad : goal.returns-in-Err-clause-bad
returns-in-Err-clause-bad g c = λ line is.
    let same : c.in-Err.line ≡ line = cc is in
    subst (λ (n : ℕ). IsBadInput (g.S.Source.left c.args.source.now) (g.S.Source.left c.read_text.new.source) n) same
    (input_bad g.R.Keeper.is_new g.R.Keeper.keeps (g.S.Source.left c.args.source.now) (g.S.Source.left c.read_text.new.source) c.read_text.new.text c.finish.result
    c.in-Ok-read_text.ensures.whole c.in-Ok-read_text.ensures.end c.finish.ensures c.in-Err.line c.in-Err.is)
