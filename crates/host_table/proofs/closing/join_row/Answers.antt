use Rattle.std.proofs.Common.{arith, ap, sym, subst, ◌∙◌, ◌≡◌, ◌+◌, ◌<◌, List, [], ◌∷◌, ◌++◌, length, length-append}
use Rattle.std.proofs.lemmas.List.{length-map}
use Rattle.std.specs.Vec.Iter.{into_iter_items}
use Rattle.host_table.specs.Passes.{Place, lock_of}
use Rattle.host_table.specs.Close.{IsJoined, AreFree}
use Rattle.host_table.proofs.Ending.{more_done}
use Rattle.host_table.proofs.Joining.{first_left, joined_push, free_at, seat_here, set_here}
use Rattle.host_table.proofs.closing.join_row.Goals as goal

pub join-requires-clause-free : goal.join-requires-clause-free
join-requires-clause-free g c =
    let F = g.row.F.Denot in let k = c.loop-i.invariant.split in let v = c.index_mut-seat.result.now in
    let wide : length c.args.seats.now.items ≡ length c.args.locks.now.items = sym (length-map c.args.seats.now.items lock_of) ∙ ap length c.requires.locks in
    let long = c.loop-i.invariant.long in let t = c.loop-i-test.true in let end = c.len-i-end.ensures in
    let inside : c.loop-i.i < length (k.3 ++ k.1) = let same : length c.loop-i.seats.items ≡ length (k.3 ++ k.1) = ap length k.6 in omega (arith, c.loop-i.seats.ok.0, c.args.seats.now.ok.0, c.args.locks.now.ok.0) in
    let f = first_left k.3 k.1 c.loop-i.i k.8 inside in
    let here = seat_here c.loop-i.seats.items k.3 k.1 f.1 c.loop-i.i v f.0 c.index_mut-seat.ensures.value k.6 f.2 k.8 in
    let mine = free_at k.0 f.1 f.0 (subst AreFree (k.4 ∙ ap (λ (z : List (Place F)). k.0 ++ z) f.2) c.requires.free.0) in
    let theirs = free_at k.2 (into_iter_items c.next.new.self) c.in-Some.other (subst AreFree (k.5 ∙ ap (λ (z : List (Place F)). k.2 ++ z) c.in-Some.ensures.items) c.requires.free.1) in
    (ap (λ (p : Place F). p.taken) here ∙ mine, theirs)

pub loop-i-preserved : goal.loop-i-preserved
loop-i-preserved g c =
    let F = g.row.F.Denot in let inv = c.loop-i.invariant in let k = inv.split in let v = c.index_mut-seat.result.now in let n = c.join.new.seat in let other = c.in-Some.other in
    let wide : length c.args.seats.now.items ≡ length c.args.locks.now.items = sym (length-map c.args.seats.now.items lock_of) ∙ ap length c.requires.locks in
    let long = inv.long in let t = c.loop-i-test.true in let end = c.len-i-end.ensures in
    let inside : c.loop-i.i < length (k.3 ++ k.1) = let same : length c.loop-i.seats.items ≡ length (k.3 ++ k.1) = ap length k.6 in omega (arith, c.loop-i.seats.ok.0, c.args.seats.now.ok.0, c.args.locks.now.ok.0) in
    let f = first_left k.3 k.1 c.loop-i.i k.8 inside in
    let here = seat_here c.loop-i.seats.items k.3 k.1 f.1 c.loop-i.i v f.0 c.index_mut-seat.ensures.value k.6 f.2 k.8 in
    let one : IsJoined v other n = record { is = c.join.ensures.seat; begins = c.join.ensures.prefixes.0; other_begins = c.join.ensures.prefixes.1 } in
    let joined : IsJoined f.0 other n = subst (λ (s : Place F). IsJoined s other n) here one in
    let len = inv.len in let l = c.in-Some.ensures.len in
    let ll : length (into_iter_items c.loop-i.rest) ≡ length (into_iter_items c.next.new.self) + 1 = ap length c.in-Some.ensures.items ∙ omega arith in
    let a = k.8 in let b = k.9 in let d = k.10 in
    record {
      len = omega arith;
      long = inv.long;
      split = (
        k.0 ++ f.0 ∷ [],
        f.1,
        k.2 ++ other ∷ [],
        k.3 ++ n ∷ [],
        more_done c.args.seats.now.items k.0 k.1 f.1 f.0 k.4 f.2,
        more_done c.args.others.items k.2 (into_iter_items c.loop-i.rest) (into_iter_items c.next.new.self) other k.5 c.in-Some.ensures.items,
        set_here c.loop-i.seats.items k.3 k.1 f.1 c.loop-i.i f.0 n k.6 f.2 k.8,
        joined_push k.0 k.2 k.3 f.0 other n k.7 joined,
        omega (arith, length-append k.3 (n ∷ [])),
        omega (arith, length-append k.0 (f.0 ∷ [])),
        omega (arith, length-append k.2 (other ∷ [])),
      );
    }
