use Rattle.std.proofs.Common.{arith, ap, sym, ◌∙◌, ◌≡◌, ◌≤◌, ◌+◌, [], ◌∷◌, ◌++◌, length, map, subst, refl, vec_len, vec_capacity}
use Rattle.std.proofs.lemmas.List.{append-nil}
use Rattle.std.specs.Vec.Iter.{into_iter_items}
use Rattle.host_table.specs.Passes.{lock_of}
use Rattle.host_table.specs.Rows.{CanClose, IsEnd}
use Rattle.host_table.proofs.Ending.{ends_push, more_done, more_put}
use Rattle.host_table.proofs.rows.close_all.Goals as goal

pub loop-lock-init : goal.loop-lock-init
loop-lock-init g c =
    let seats = c.into_iter-rest_seats.ensures in let locks = c.into_iter-rest_locks.ensures in
    record {
      same = ap (map lock_of) seats.rest ∙ (c.requires.locks ∙ sym locks.rest);
      whole = subst CanClose (sym seats.rest) c.requires.whole;
      long = locks.len ∙ (c.args.locks.ok.0 ∙ sym (ap length locks.rest));
      wide = seats.len ∙ (c.args.seats.ok.0 ∙ sym (ap length seats.rest));
      room = subst (λ n. vec_len c.args.shards.now + n ≤ vec_capacity c.args.shards.now) (sym locks.len) c.requires.room;
      capacity = refl;
      count = ap (λ n. vec_len c.args.shards.now + n) locks.len;
      ended = ([], [], sym seats.rest, sym (append-nil c.args.shards.now.items), tt);
    }

pub loop-lock-preserved : goal.loop-lock-preserved
loop-lock-preserved g c =
    let inv = c.loop-lock.invariant in let seat = c.in-Some-next.seat in let book = c.close.result in
    let seats' = into_iter_items c.next-in-Some.new.self in let locks' = into_iter_items c.next.new.self in
    let both : lock_of seat ∷ map lock_of seats' ≡ c.in-Some.lock ∷ locks' = sym (ap (map lock_of) c.in-Some-next.ensures.items) ∙ (inv.same ∙ c.in-Some.ensures.items) in
    let whole = subst CanClose c.in-Some-next.ensures.items inv.whole in
    let end : IsEnd seat book = record { begins = c.close.ensures.prefix; based = c.close.ensures.base; owned = c.close.ensures.own } in
    let e = inv.ended in
    let long = inv.long in let wide = inv.wide in let room' = inv.room in let count' = inv.count in let l = c.in-Some.ensures.len in let w = c.in-Some-next.ensures.len in
    let p = c.push_reserved.ensures.len in let k = c.push_reserved.ensures.capacity in
    let ll : length (into_iter_items c.loop-lock.rest_locks) ≡ length locks' + 1 = ap length c.in-Some.ensures.items ∙ omega arith in
    let ww : length (into_iter_items c.loop-lock.rest_seats) ≡ length seats' + 1 = ap length c.in-Some-next.ensures.items ∙ omega arith in
    record {
      same = cc both;
      whole = whole.1;
      long = omega arith;
      wide = omega arith;
      room = omega arith;
      capacity = k ∙ inv.capacity;
      count = omega arith;
      ended = (
        e.0 ++ seat ∷ [],
        e.1 ++ book ∷ [],
        more_done c.args.seats.items e.0 (into_iter_items c.loop-lock.rest_seats) seats' seat e.2 c.in-Some-next.ensures.items,
        more_put c.push_reserved.new.self.items c.loop-lock.shards.items e.1 c.args.shards.now.items book c.push_reserved.ensures.items e.3,
        ends_push e.0 e.1 seat book e.4 end,
      );
    }
