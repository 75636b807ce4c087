use Rattle.std.proofs.Common.{◌+◌}
use Rattle.journal_text.specs.declared.pieces.Step.TheVariants as step
use Rattle.journal_text.specs.SoFar.{Steps}
use Rattle.journal_text.specs.Words.{words_of}
use Rattle.journal_text.proofs.PieceLemmas.{lines_all, lines_bad, lines_on, lines_times}
use Rattle.journal_text.proofs.pieces.go_on.Goals as goal

pub read_next-requires : goal.read_next-requires
read_next-requires g c =
    let stands = c.requires.stands in
    lines_times g.R.Keeper.keeps stands.0 stands.1 c.args.row.now c.args.number c.args.keeper.now c.args.keeper.now c.args.reader c.args.reader stands.2

pub returns-in-Ok-On : goal.returns-in-Ok-On
returns-in-Ok-On g c = λ text behind stands.
    let steps : Steps g.R.Keeper.keeps (words_of c.args.row.now) (c.args.number + 1) c.args.reader c.args.keeper.now step.On c.read_next.new.reader c.read_next.new.keeper =
    rw c.in-Ok-On.field-0-is at c.in-Ok-On.ensures in
    lines_on g.R.Keeper.keeps text behind c.args.row.now c.args.number c.args.keeper.now c.read_next.new.keeper c.args.reader c.read_next.new.reader stands steps

pub returns-in-Ok-Last : goal.returns-in-Ok-Last
returns-in-Ok-Last g c = λ text behind stands.
    let steps : Steps g.R.Keeper.keeps (words_of c.args.row.now) (c.args.number + 1) c.args.reader c.args.keeper.now step.Last c.read_next.new.reader c.read_next.new.keeper =
    rw c.in-Ok-Last.field-0-is at c.in-Ok-Last.ensures in
    lines_all g.R.Keeper.keeps text behind c.args.row.now c.args.number c.args.keeper.now c.read_next.new.keeper c.args.reader c.read_next.new.reader stands steps

pub returns-in-Ok-Bad : goal.returns-in-Ok-Bad
returns-in-Ok-Bad g c = λ text behind stands.
    let steps : Steps g.R.Keeper.keeps (words_of c.args.row.now) (c.args.number + 1) c.args.reader c.args.keeper.now step.Bad c.read_next.new.reader c.read_next.new.keeper =
    rw c.in-Ok-Bad.field-0-is at c.in-Ok-Bad.ensures in
    lines_bad g.R.Keeper.keeps text behind c.args.row.now c.args.number c.args.keeper.now c.read_next.new.keeper c.args.reader c.read_next.new.reader stands steps
