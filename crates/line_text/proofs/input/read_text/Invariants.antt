use Rattle.std.proofs.Common.{◌≡◌, ◌<◌, length}
use Rattle.line_text.specs.Inputs.{HasRead}
use Rattle.line_text.proofs.input.read_text.Given as goal

abbrev pub invariant-pieces : goal.invariant-pieces
invariant-pieces g l = record {
  come : HasRead (g.S.Source.left l.initial.source) (g.S.Source.left l.source) (g.T.TakesText.has_come l.text);
  room : 0 < length l.piece;
  beside : g.S.Source.beside_reads l.source ≡ g.S.Source.beside_reads l.initial.source;
  fine : g.S.Source.read_faults l.source ≡ g.S.Source.read_faults l.initial.source;
}

abbrev pub decreases-pieces : goal.decreases-pieces
decreases-pieces g l = g.T.TakesText.room l.text
