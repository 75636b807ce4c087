use Rattle.std.proofs.Common.{◌≡◌, ℕ, [], Result, Ok, Err, subst, ap, sym, ◌∙◌}
use Rattle.journal_text.specs.declared.reading.Reader.{Reader}
use Rattle.journal_text.specs.Coming.{IsTaken}
use Rattle.journal_text.specs.Journals.{IsBadLine}
use Rattle.journal_text.proofs.journal.read_with.Goals as goal

pub returns-in-Ok-finish-clause-read : goal.returns-in-Ok-finish-clause-read
returns-in-Ok-finish-clause-read g c =
    subst (λ (r : Result (Reader × g.row.R.Denot) ℕ). IsTaken g.R.Keeper.keeps c.args.bytes.now r) c.in-Ok-finish.is
    (c.finish.ensures c.args.bytes.now (c.in-Ok.ensures.taken [] c.new-lines.ensures.reaches))

pub returns-in-Err-finish-clause-bad : goal.returns-in-Err-finish-clause-bad
returns-in-Err-finish-clause-bad g c = λ line is.
    let same : c.in-Err-finish.line ≡ line = cc is in
    subst (λ (n : ℕ). IsBadLine c.args.bytes.now n) same
    (subst (λ (r : Result (Reader × g.row.R.Denot) ℕ). IsTaken g.R.Keeper.keeps c.args.bytes.now r) c.in-Err-finish.is
    (c.finish.ensures c.args.bytes.now (c.in-Ok.ensures.taken [] c.new-lines.ensures.reaches)))
