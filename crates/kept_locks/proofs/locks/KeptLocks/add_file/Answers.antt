use Rattle.std.proofs.Common.{List, [], ◌∷◌, ◌++◌, sym, ap, subst, ◌∙◌}
use Rattle.kept_locks.specs.declared.places.Place.{Place}
use Rattle.kept_locks.specs.Locks.{Locks}
use Rattle.kept_locks.specs.Ties.{AreTied, chains_in}
use Rattle.kept_locks.proofs.Counted.{chains_added, lefts_added, tied_short}
use Rattle.kept_locks.proofs.Indexing.{tied_added}
use Rattle.kept_locks.proofs.Latest.{latest_added, still_chained}
use Rattle.kept_locks.proofs.locks.KeptLocks.add_file.Goals as goal

pub invariant_of-self : goal.invariant_of-self
invariant_of-self c = tied_added c.self.inside.places.items c.add_place.new.places.items c.self.inside.queue c.self.inside.chains c.self.inside.index c.in-Ok.ensures.ok c.in-Ok.ensures.few c.self.invariant

pub returns-in-Ok-clause-latest : goal.returns-in-Ok-clause-latest
returns-in-Ok-clause-latest c = latest_added c.self.inside.places.items c.add_place.new.places.items c.in-Ok.ensures.ok ∙ ap (λ (l : Locks). l.latest) c.self.view_is

pub returns-in-Ok-clause-chains : goal.returns-in-Ok-clause-chains
returns-in-Ok-clause-chains c = still_chained c.self.inside.chains c.add_place.new.places.items

pub returns-in-Err-clause-chains : goal.returns-in-Err-clause-chains
returns-in-Err-clause-chains c = still_chained c.self.inside.chains c.add_place.new.places.items

pub returns-in-Ok-clause-short : goal.returns-in-Ok-clause-short
returns-in-Ok-clause-short c =
    let tied = tied_added c.self.inside.places.items c.add_place.new.places.items c.self.inside.queue c.self.inside.chains c.self.inside.index c.in-Ok.ensures.ok c.in-Ok.ensures.few c.self.invariant in
    tied_short c.add_place.new.places.items c.self.inside.queue c.self.inside.chains c.self.inside.index tied

pub returns-in-Ok-clause-left : goal.returns-in-Ok-clause-left
returns-in-Ok-clause-left c = lefts_added c.self.inside.places.items c.add_place.new.places.items c.in-Ok.ensures.ok ∙ ap (λ (l : Locks). l.left ++ 0 ∷ []) c.self.view_is

pub returns-in-Err-clause-short : goal.returns-in-Err-clause-short
returns-in-Err-clause-short c =
    let inside = c.self.inside in
    tied_short c.add_place.new.places.items inside.queue inside.chains inside.index
    (subst (λ (places : List Place). AreTied places inside.queue inside.chains inside.index) (sym c.in-Err.ensures.err) c.self.invariant)

pub returns-in-Ok-clause-ids : goal.returns-in-Ok-clause-ids
returns-in-Ok-clause-ids c = chains_added c.self.inside.chains c.self.inside.places.items c.add_place.new.places.items c.in-Ok.ensures.ok ∙ ap (λ (l : Locks). l.chains ++ [] ∷ []) c.self.view_is

pub returns-in-Err-clause-ids_err : goal.returns-in-Err-clause-ids_err
returns-in-Err-clause-ids_err c = ap (chains_in c.self.inside.chains) c.in-Err.ensures.err ∙ ap (λ (l : Locks). l.chains) c.self.view_is
