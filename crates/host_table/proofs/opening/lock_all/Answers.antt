use Rattle.std.proofs.Common.{arith, ap, sym, subst, ◌∙◌, ◌≡◌, ◌+◌, List, [], ◌∷◌, ◌++◌, map, length}
use Rattle.std.proofs.lemmas.List.{length-map, map-append}
use Rattle.std.proofs.Common.{length-append}
use Rattle.std.specs.Vec.Iter.{into_iter_items}
use Rattle.host_core.specs.Value.{Book}
use Rattle.host_table.specs.Histories.{as_opened}
use Rattle.host_table.specs.Passes.{Place, lock_of}
use Rattle.host_table.specs.Rows.{CanClose, AreEnds}
use Rattle.host_table.specs.Start.{first_seats, AreNew}
use Rattle.host_table.proofs.Ending.{more_done}
use Rattle.host_table.proofs.Locking.{first_locks, first_close, first_push, all_back}
use Rattle.host_table.proofs.opening.lock_all.Goals as goal

pub loop-held-preserved : goal.loop-held-preserved
loop-held-preserved g c =
    let F = g.row.F.Denot in let inv = c.loop-held.invariant in let k = inv.locked in
    let len = inv.len in let count = inv.count in let same = inv.same in let l = c.in-Some.ensures.len in
    let p = c.push_reserved.ensures.len in let q = c.push_reserved-in-Ok-new.ensures.len in
    let rest = into_iter_items c.loop-held.rest in let rest' = into_iter_items c.next.new.self in
    let ll : length rest ≡ length rest' + 1 = ap length c.in-Some.ensures.items ∙ omega arith in
    let held : Book F = c.in-Some.held in let lock = c.in-Ok-new.lock in
    let new = subst AreNew c.in-Some.ensures.items inv.new in
    let locks' : c.push_reserved.new.self.items ≡ c.loop-held.locks.items ++ lock ∷ [] = c.push_reserved.ensures.items in
    let bases : List (Book F) = map as_opened k.0 in
    let seats : c.push_reserved-in-Ok-new.new.self.items ≡ first_seats (c.loop-held.locks.items ++ lock ∷ []) (map as_opened (k.0 ++ held ∷ [])) =
    c.push_reserved-in-Ok-new.ensures.items ∙ ((λ i. k.2 i ++ c.in-Ok-new.ensures.ok i ∷ []) ∙ (sym (first_push c.loop-held.locks.items bases lock (as_opened held) (length-map k.0 as_opened ∙ k.3))
    ∙ ap (first_seats (c.loop-held.locks.items ++ lock ∷ [])) (sym (map-append as_opened k.0 (held ∷ []))))) in
    record {
      len = omega arith;
      new = new.1;
      count = omega arith;
      same = omega arith;
      room = omega (arith, inv.room, c.push_reserved.ensures.capacity);
      room_seats = omega (arith, inv.room_seats, c.push_reserved-in-Ok-new.ensures.capacity);
      room_back = inv.room_back;
      empty = inv.empty;
      locked = (
        k.0 ++ held ∷ [],
        more_done c.args.shards.items k.0 rest rest' held k.1 c.in-Some.ensures.items,
        seats ∙ ap (λ (z : List _). first_seats z (map as_opened (k.0 ++ held ∷ []))) (sym locks'),
        length-append k.0 (held ∷ []) ∙ (ap (λ n. n + 1) k.3 ∙ sym (ap length locks' ∙ length-append c.loop-held.locks.items (lock ∷ []))),
      );
    }

pub close_all-requires-clause-locks : goal.close_all-requires-clause-locks
close_all-requires-clause-locks g c =
    let inv = c.loop-held.invariant in let l = inv.locked in
    ap (map lock_of) l.2 ∙ first_locks c.loop-held.locks.items (map as_opened l.0) (length-map l.0 as_opened ∙ l.3)

pub close_all-requires-clause-whole : goal.close_all-requires-clause-whole
close_all-requires-clause-whole g c =
    let l = c.loop-held.invariant.locked in subst CanClose (sym l.2) (first_close c.loop-held.locks.items (map as_opened l.0))

pub push_reserved-requires-in-Err : goal.push_reserved-requires-in-Err
push_reserved-requires-in-Err g c =
    let inv = c.loop-held.invariant in let a = inv.count in let r = inv.room_back in let l = c.in-Some.ensures.len in let k = c.close_all.ensures.capacity in let n = c.close_all.ensures.len in
    let e : length c.loop-held.back.items ≡ 0 = ap length inv.empty in
    omega (arith, c.loop-held.back.ok.0)

pub move_all-requires-clause-room : goal.move_all-requires-clause-room
move_all-requires-clause-room g c =
    let inv = c.loop-held.invariant in let a = inv.count in let r = inv.room_back in let l = c.in-Some.ensures.len in let k = c.close_all.ensures.capacity in let n = c.close_all.ensures.len in
    let p = c.push_reserved-in-Err.ensures.len in let q = c.push_reserved-in-Err.ensures.capacity in
    let e : length c.loop-held.back.items ≡ 0 = ap length inv.empty in
    omega (arith, c.loop-held.back.ok.0)

pub returns-in-Err-clause-back : goal.returns-in-Err-clause-back
returns-in-Err-clause-back g c =
    let F = g.row.F.Denot in let inv = c.loop-held.invariant in let l = inv.locked in let e = c.close_all.ensures.ended in
    let same : c.unlocked.result ≡ c.in-Some.held = cc (c.unlocked.ensures, c.in-Err.ensures.err) in
    let ends : AreEnds (first_seats c.loop-held.locks.items (map as_opened l.0)) e.0 = subst (λ (seats : List (Place F)). AreEnds seats e.0) l.2 e.2 in
    let pushed : c.push_reserved-in-Err.new.self.items ≡ c.close_all.new.shards.items ++ c.in-Some.held ∷ [] = c.push_reserved-in-Err.ensures.items ∙ ap (λ (b : Book F). c.close_all.new.shards.items ++ b ∷ []) same in
    all_back c.args.shards.items l.0 (into_iter_items c.loop-held.rest) (into_iter_items c.next.new.self) c.close_all.new.shards.items c.push_reserved-in-Err.new.self.items c.move_all.new.into.items e.0 c.loop-held.back.items c.in-Some.held c.loop-held.locks.items
    l.1 c.in-Some.ensures.items l.3 inv.empty e.1 ends pushed c.move_all.ensures inv.new
