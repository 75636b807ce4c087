use Rattle.std.proofs.Common.{arith, ap, sym, subst, ◌∙◌, ◌≡◌, ◌+◌, ◌<◌, ◌≤◌, vec_len, vec_capacity, List, [], ◌∷◌, ◌++◌, length}
use Rattle.std.proofs.lemmas.List.{append-nil}
use Rattle.std.specs.Vec.Iter.{into_iter_items}
use Rattle.std.specs.Prelude.{IsSomeAnd}
use Rattle.std.specs.List.{AllByRecursion}
use Rattle.turn_lock.specs.Places.{total}
use Rattle.host_core.specs.Value.{Book, InMemory, Left}
use Rattle.host_table.specs.declared.journal.Spot.{Spot}
use Rattle.host_table.specs.Close.{capacity_of, AreTaken}
use Rattle.host_table.specs.Journal.{spots_from, all_spots}
use Rattle.host_table.proofs.Ending.{more_done, nothing_left}
use Rattle.host_table.proofs.Leaving.{within_calls}
use Rattle.host_table.proofs.Listing.{all_push, taken_push}
use Rattle.host_table.proofs.closing.take_apart.Goals as goal

pub loop-held-init : goal.loop-held-init
loop-held-init g c =
    let F = g.row.F.Denot in let f = g.F.Folder in let it = c.into_iter-rest.ensures in
    let long = it.len in let whole = c.args.shards.ok.0 in let many = c.requires.many in
    let none : vec_len c.args.spots.now ≡ 0 = c.args.spots.now.ok.0 ∙ ap length c.requires.spots.0 in
    let sums : total capacity_of (into_iter_items c.into_iter-rest.result) ≡ total capacity_of c.args.shards.items = ap (total capacity_of) it.rest in
    let room' : total capacity_of c.args.shards.items ≤ vec_capacity c.args.spots.now = c.requires.spots.1 in
    let P : List (Left F) × List F → Type 0 = λ z. AreTaken f.files f.faults [] z.0 z.1 in
    let both : ([], []) ≡ (c.args.pasts.now.items, c.args.folders.now.items) = λ i. (sym c.requires.pasts.0 i, sym c.requires.folders.0 i) in
    record {
      len = it.len ∙ (c.args.shards.ok.0 ∙ sym (ap length it.rest));
      count = omega (arith, long, whole, many);
      folders = (c.args.folders.now.ok.0 ∙ ap length c.requires.folders.0, c.requires.folders.1);
      pasts = (c.args.pasts.now.ok.0 ∙ ap length c.requires.pasts.0, c.requires.pasts.1);
      room = omega (arith, none, sums, room');
      few = subst (λ (books : List (Book (InMemory F))). AllByRecursion (λ book. IsSomeAnd book.limits.calls (λ calls. calls < 4294967296)) books) (sym it.rest) c.requires.few;
      spots = c.requires.spots.0 ∙ ap (all_spots 0) (sym c.requires.pasts.0);
      taken = ([], sym it.rest, subst P both tt);
    }

pub loop-held-preserved : goal.loop-held-preserved
loop-held-preserved g c =
    let F = g.row.F.Denot in let f = g.F.Folder in let inv = c.loop-held.invariant in let k = inv.taken in
    let held : Book (InMemory F) = c.in-Some.held in let part = c.end-folder.result.1 in let folder : F = c.end-folder.result.0 in
    let rest = into_iter_items c.loop-held.rest in let rest' = into_iter_items c.next.new.self in
    let len = inv.len in let count' = inv.count in let l = c.in-Some.ensures.len in
    let ll : length rest ≡ length rest' + 1 = ap length c.in-Some.ensures.items ∙ omega arith in
    let few = subst (λ (books : List (Book (InMemory F))). AllByRecursion (λ book. IsSomeAnd book.limits.calls (λ calls. calls < 4294967296)) books) c.in-Some.ensures.items inv.few in
    let taken = c.end-folder.ensures.taken in
    let made : length part.made ≡ length held.made = ap (λ (z : Left F). length z.made) taken.left_is in
    let most = (within_calls held.limits.calls (length held.made) 4294967296 taken.held.few few.0).0 in
    let sums : total capacity_of rest ≡ capacity_of held + total capacity_of rest' = ap (total capacity_of) c.in-Some.ensures.items in
    let room' = inv.room in let n = c.list_spots.ensures.len in let m = c.list_spots.ensures.capacity in let grown = c.grown-count.ensures in
    let a = inv.folders.0 in let b = inv.pasts.0 in
    let p = c.push_reserved.ensures.len in let q = c.push_reserved-in-Some.ensures.len in
    let P : List (Left F) × List F → Type 0 = λ z. AreTaken f.files f.faults (k.0 ++ held ∷ []) z.0 z.1 in
    let both : (c.loop-held.pasts.items ++ part ∷ [], c.loop-held.folders.items ++ folder ∷ []) ≡ (c.push_reserved-in-Some.new.self.items, c.push_reserved.new.self.items) = λ i. (sym c.push_reserved-in-Some.ensures.items i, sym c.push_reserved.ensures.items i) in
    record {
      len = omega arith;
      count = omega arith;
      folders = (omega arith, omega (arith, inv.folders.1, c.push_reserved.ensures.capacity));
      pasts = (omega arith, omega (arith, inv.pasts.1, c.push_reserved-in-Some.ensures.capacity));
      room = omega arith;
      few = few.1;
      spots = c.list_spots.ensures.spots ∙ (ap (λ (z : List Spot). z ++ spots_from c.loop-held.number 0 part.made) inv.spots
          ∙ (sym (all_push 0 c.loop-held.pasts.items part c.loop-held.number (omega (arith, c.loop-held.pasts.ok.0))) ∙ ap (all_spots 0) (sym c.push_reserved-in-Some.ensures.items)));
      taken = (
        k.0 ++ held ∷ [],
        more_done c.args.shards.items k.0 rest rest' held k.1 c.in-Some.ensures.items,
        subst P both (taken_push f.files f.faults k.0 c.loop-held.pasts.items c.loop-held.folders.items held part folder k.2 taken),
      );
    }

pub list_spots-requires-clause-few : goal.list_spots-requires-clause-few
list_spots-requires-clause-few g c =
    let held : Book (InMemory g.row.F.Denot) = c.in-Some.held in
    let few = subst (λ (books : List (Book (InMemory g.row.F.Denot))). AllByRecursion (λ book. IsSomeAnd book.limits.calls (λ calls. calls < 4294967296)) books) c.in-Some.ensures.items c.loop-held.invariant.few in
    let most = within_calls held.limits.calls (length held.made) 4294967296 c.end-folder.ensures.taken.held.few few.0 in
    omega (arith, c.grown-count.ensures, most.0, most.1)

pub list_spots-requires-clause-room : goal.list_spots-requires-clause-room
list_spots-requires-clause-room g c =
    let held : Book (InMemory g.row.F.Denot) = c.in-Some.held in let inv = c.loop-held.invariant in
    let few = subst (λ (books : List (Book (InMemory g.row.F.Denot))). AllByRecursion (λ book. IsSomeAnd book.limits.calls (λ calls. calls < 4294967296)) books) c.in-Some.ensures.items inv.few in
    let most = within_calls held.limits.calls (length held.made) 4294967296 c.end-folder.ensures.taken.held.few few.0 in
    let sums : total capacity_of (into_iter_items c.loop-held.rest) ≡ capacity_of held + total capacity_of (into_iter_items c.next.new.self) = ap (total capacity_of) c.in-Some.ensures.items in
    omega (arith, c.grown-count.ensures, most.0, sums, inv.room)

pub returns-clause-taken : goal.returns-clause-taken
returns-clause-taken g c =
    let F = g.row.F.Denot in let f = g.F.Folder in let inv = c.loop-held.invariant in let k = inv.taken in
    let none : into_iter_items c.loop-held.rest ≡ [] = nothing_left (into_iter_items c.loop-held.rest) (sym inv.len ∙ c.in_default.ensures.cases.0) in
    let all : k.0 ≡ c.args.shards.items = sym (k.1 ∙ (ap (λ (z : List (Book (InMemory F))). k.0 ++ z) none ∙ append-nil k.0)) in
    subst (λ (z : List (Book (InMemory F))). AreTaken f.files f.faults z c.loop-held.pasts.items c.loop-held.folders.items) all k.2
