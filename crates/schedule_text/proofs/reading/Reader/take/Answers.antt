use Rattle.std.proofs.Common.{◌≡◌, ℕ, ◌+◌, true, false, IsTrue, inr, ap, subst, rules}
use Rattle.schedule_text.specs.declared.one_line.AnyLine.{AnyLine}
use Rattle.schedule_text.specs.Grammar.{says}
use Rattle.schedule_text.specs.Readings.{Fits, IsLine, lines_in}
use Rattle.schedule_text.proofs.OneSchedule.{line_same}
use Rattle.schedule_text.proofs.reading.Reader.take.Goals as goal

pub returns-then-not-branch-clause-bad : goal.returns-then-not-branch-clause-bad
returns-then-not-branch-clause-bad c = λ _.
    let said : says c.args.row.now ≡ true = search rules in
    let tells : IsLine c.args.row.now c.in-Some.line = rw c.in-Some.is at c.in_ok-line.ensures.some in
    let no : c.in_ok-add.field-0 ≡ false = search rules in
    let bad = c.in_ok-add.ensures.bad no in
    (inr (inr (said, λ line is fits. bad.0 (subst (λ (one : AnyLine). Fits (lines_in c.args.self.now) one) (line_same c.args.row.now line c.in-Some.line is tells) fits))), bad.1)

pub returns-clause-good : goal.returns-clause-good
returns-clause-good c = λ _.
    let said : says c.args.row.now ≡ true = search rules in
    let tells : IsLine c.args.row.now c.in-Some.line = rw c.in-Some.is at c.in_ok-line.ensures.some in
    let yes : IsTrue c.in_ok-add.field-0 = search rules in
    let added = c.in_ok-add.ensures.good yes in
    let same = added.rows in
    record {
      within = search rules;
      short = search rules;
      rows = ap (λ (n : ℕ). n + 1) same;
      kept = record { names_are = added.kept.names_are; latest_is = added.kept.latest_is };
      lines = inr (said, c.in-Some.line, tells, added.fits, added.lines);
    }
