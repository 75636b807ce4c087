use Rattle.std.proofs.Common.{◌≡◌, IsSomeAnd}
use Rattle.std.specs.Prelude.{slice_get, take}
use Rattle.wopi_program.proofs.PassLemmas.{AreUnder}
use Rattle.wopi_program.proofs.crew.heaviest.Given as goal

abbrev pub invariant-places : goal.invariant-places
invariant-places g l = record {
  stands : IsSomeAnd (slice_get l.passes.items l.place) (λ heavy. heavy.weight ≡ l.most);
  under : AreUnder l.most (take l.at l.passes.items);
}
