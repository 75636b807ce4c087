use Rattle.std.proofs.Common.{arith, ap, sym, ◌∙◌, ◌≡◌, ◌≤◌, ◌<◌, List, ◌∷◌, [], ◌++◌, length, set, get_or, subst, vec_len}
use Rattle.std.proofs.lemmas.List.{length-map}
use Rattle.host_table.specs.Passes.{Place, lock_of, kept_half, given_half}
use Rattle.host_table.proofs.Fronts.{front_here, front_more, taken_more, can_there}
use Rattle.host_table.proofs.rows.split_all.Goals as goal

pub index_mut-seat-requires : goal.index_mut-seat-requires
index_mut-seat-requires g c =
    let wide : length c.args.seats.now.items ≡ length c.args.locks.now.items = sym (length-map c.args.seats.now.items lock_of) ∙ ap length c.requires.locks in
    let long = c.loop-i.invariant.long in let below = c.loop-i-test.true in let end = c.len-i-end.ensures in
    omega (arith, c.args.seats.now.ok.0, c.args.locks.now.ok.0)

pub split-requires-clause-free : goal.split-requires-clause-free
split-requires-clause-free g c = let old = c.args.seats.now.items in let v = c.index_mut-seat.result.now in let t = c.loop-i-test.true in let end = c.len-i-end.ensures in
    let wide : length old ≡ length c.args.locks.now.items = sym (length-map old lock_of) ∙ ap length c.requires.locks in
    let at : v ≡ get_or old c.loop-i.i v = c.index_mut-seat.ensures.value ∙ (ap (λ (z : List (Place g.row.F.Denot)). get_or z c.loop-i.i v) c.loop-i.invariant.seats_are ∙ front_here kept_half c.loop-i.i old v) in
    (can_there old c.loop-i.i v c.requires.free (omega (arith, c.args.locks.now.ok.0)) at).0

pub split-requires-clause-weight : goal.split-requires-clause-weight
split-requires-clause-weight g c = let old = c.args.seats.now.items in let v = c.index_mut-seat.result.now in let t = c.loop-i-test.true in let end = c.len-i-end.ensures in
    let wide : length old ≡ length c.args.locks.now.items = sym (length-map old lock_of) ∙ ap length c.requires.locks in
    let at : v ≡ get_or old c.loop-i.i v = c.index_mut-seat.ensures.value ∙ (ap (λ (z : List (Place g.row.F.Denot)). get_or z c.loop-i.i v) c.loop-i.invariant.seats_are ∙ front_here kept_half c.loop-i.i old v) in
    (can_there old c.loop-i.i v c.requires.free (omega (arith, c.args.locks.now.ok.0)) at).1

pub loop-i-preserved : goal.loop-i-preserved
loop-i-preserved g c = let old = c.args.seats.now.items in let v = c.index_mut-seat.result.now in let t = c.loop-i-test.true in let i = c.loop-i.i in let end = c.len-i-end.ensures in
    let wide : length old ≡ length c.args.locks.now.items = sym (length-map old lock_of) ∙ ap length c.requires.locks in
    let here : i < length old = omega (arith, c.args.locks.now.ok.0) in
    let at : v ≡ get_or old i v = c.index_mut-seat.ensures.value ∙ (ap (λ (z : List (Place g.row.F.Denot)). get_or z i v) c.loop-i.invariant.seats_are ∙ front_here kept_half i old v) in
    let kept : c.split.new.seat ≡ kept_half (get_or old i v) = c.split.ensures.kept ∙ ap kept_half at in
    let given : c.in-Ok.given ≡ given_half (get_or old i v) = c.in-Ok.ensures.given ∙ ap given_half at in
    record {
      seats_are = (λ k. set (c.loop-i.invariant.seats_are k) i (kept k)) ∙ front_more kept_half i old v here;
      new_are = c.push_reserved.ensures.items ∙ ((λ k. c.loop-i.invariant.new_are k ++ given k ∷ []) ∙ taken_more given_half i old v here);
      long = c.loop-i.invariant.long;
      room = subst (λ n. vec_len c.args.seats.now ≤ n) (sym c.push_reserved.ensures.capacity) c.loop-i.invariant.room;
    }
