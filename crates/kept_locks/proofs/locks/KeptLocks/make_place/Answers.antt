use Rattle.std.proofs.Common.{◌≡◌, List, map, ap, subst, ◌∙◌, arith}
use Rattle.kept_locks.specs.Locks.{LeavesAll, Standing, all_ended, all_purged, held_in, ids_in, ids_of}
use Rattle.kept_locks.proofs.Counted.{leaves_next}
use Rattle.kept_locks.proofs.Falling.{falls_fresh, falls_next}
use Rattle.kept_locks.proofs.Placing.{places_are}
use Rattle.kept_locks.proofs.locks.KeptLocks.make_place.Goals as goal

pub returns-clause-spare : goal.returns-clause-spare
returns-clause-spare c =
    let now = c.args.now in
    let files = c.args.self.now.files in
    let is : c.purge.new.self.files ≡ all_purged now (all_ended now files) = c.purge.ensures.files ∙ ap (all_purged now) c.settle.ensures.files in
    let ids : ids_in c.purge.new.self.chains ≡ ids_in (map ids_of (all_purged now (all_ended now files))) = ap ids_in c.purge.ensures.ids ∙ ap (λ (l : List Standing). ids_in (map ids_of l)) is in
    let held : held_in c.purge.new.self.files ≡ held_in (all_purged now (all_ended now files)) = ap held_in is in
    let are = places_are now files in
    let left = c.used-left.ensures.used in
    let room = c.used-left.ensures.room in
    let same = c.purge.ensures.room in
    let first = c.settle.ensures.room in
    let few = c.requires.place in
    let enough = c.requires.room in
    omega (arith, ids, held, are, left, room, same, first, few, enough)

pub returns-clause-place : goal.returns-clause-place
returns-clause-place c =
    let now = c.args.now in
    let files = c.args.self.now.files in
    let is : c.purge.new.self.files ≡ all_purged now (all_ended now files) = c.purge.ensures.files ∙ ap (all_purged now) c.settle.ensures.files in
    let ids : ids_in c.purge.new.self.chains ≡ ids_in (map ids_of (all_purged now (all_ended now files))) = ap ids_in c.purge.ensures.ids ∙ ap (λ (l : List Standing). ids_in (map ids_of l)) is in
    let held : held_in c.purge.new.self.files ≡ held_in (all_purged now (all_ended now files)) = ap held_in is in
    let are = places_are now files in
    let few = c.requires.place in
    omega (arith, ids, held, are, few)

pub returns-then-taken-ids-clause-place : goal.returns-then-taken-ids-clause-place
returns-then-taken-ids-clause-place c =
    let taken = c.used-taken.ensures.used in
    let fewer = c.if-taken-ids.true in
    omega (arith, taken, fewer)

pub returns-clause-lazy : goal.returns-clause-lazy
returns-clause-lazy c = λ few.
    let taken = c.used-taken.ensures.used in
    let settled = c.settle.ensures.taken in
    let many = c.if-taken-ids.false in
    absurd (omega (arith, few, taken, settled, many))

pub returns-then-taken-ids-clause-left : goal.returns-then-taken-ids-clause-left
returns-then-taken-ids-clause-left c =
    subst (λ (files : List Standing). LeavesAll c.args.self.now.left c.settle.new.self.left files) c.settle.ensures.files c.settle.ensures.left

pub returns-clause-left : goal.returns-clause-left
returns-clause-left c =
    let ended = all_ended c.args.now c.args.self.now.files in
    leaves_next c.args.self.now.left c.settle.new.self.left c.purge.new.self.left ended ended
    (subst (λ (files : List Standing). LeavesAll c.args.self.now.left c.settle.new.self.left files) c.settle.ensures.files c.settle.ensures.left)
    (subst (λ (files : List Standing). LeavesAll c.settle.new.self.left c.purge.new.self.left files) c.settle.ensures.files c.purge.ensures.left) (λ n. omega arith)

pub returns-clause-falls : goal.returns-clause-falls
returns-clause-falls c =
    let first = c.args.self.now in
    let mid = c.settle.new.self in
    let last = c.purge.new.self in
    falls_next first.left mid.left last.left first.chains mid.chains last.chains c.settle.ensures.falls (falls_fresh mid.left last.left mid.chains last.chains c.purge.ensures.fresh)
