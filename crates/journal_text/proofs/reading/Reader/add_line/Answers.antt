use Rattle.journal_text.proofs.Clocks.{clocked_line}
use Rattle.journal_text.proofs.reading.Reader.add_line.Goals as goal

pub returns-clause-form : goal.returns-clause-form
returns-clause-form c =
    let t = clocked_line c.args.self.now.form c.args.self.now.nows c.args.line c.timed.result c.time_at-now.result c.time_at-now.new.nows c.requires.line c.requires.times
    c.time_at-now.ensures.value c.time_at-now.ensures.set c.timed.ensures.first c.timed.ensures.second in
    (t.form_is, t.words)

pub returns-clause-clocked : goal.returns-clause-clocked
returns-clause-clocked c =
    (clocked_line c.args.self.now.form c.args.self.now.nows c.args.line c.timed.result c.time_at-now.result c.time_at-now.new.nows c.requires.line c.requires.times
    c.time_at-now.ensures.value c.time_at-now.ensures.set c.timed.ensures.first c.timed.ensures.second).clocked
