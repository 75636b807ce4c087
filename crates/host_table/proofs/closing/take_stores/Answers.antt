use Rattle.std.proofs.Common.{arith, ap, sym, subst, ◌∙◌, ◌≡◌, ◌+◌, List, [], ◌∷◌, ◌++◌, length}
use Rattle.std.proofs.lemmas.List.{append-nil}
use Rattle.std.specs.Vec.Iter.{into_iter_items}
use Rattle.host_core.specs.Value.{Book}
use Rattle.host_table.specs.Close.{AreGiven}
use Rattle.host_table.proofs.Ending.{more_done, nothing_left}
use Rattle.host_table.proofs.Noted.{given_push}
use Rattle.host_table.proofs.closing.take_stores.Goals as goal

pub loop-held-init : goal.loop-held-init
loop-held-init g c =
    let F = g.row.F.Denot in let f = g.F.Store in let it = c.into_iter-rest.ensures in
    let none = c.args.stores.now.ok.0 ∙ ap length c.requires.room.0 in let room' = c.requires.room.1 in let long = it.len in
    record {
      len = it.len ∙ (c.args.shards.ok.0 ∙ sym (ap length it.rest));
      room = omega (arith, none, room', long);
      given = ([], sym it.rest, subst (λ (z : List F). AreGiven f.files f.faults f.notes [] z) (sym c.requires.room.0) tt);
    }

pub loop-held-preserved : goal.loop-held-preserved
loop-held-preserved g c =
    let F = g.row.F.Denot in let f = g.F.Store in let inv = c.loop-held.invariant in let k = inv.given in
    let held : Book F = c.in-Some.held in
    let rest = into_iter_items c.loop-held.rest in let rest' = into_iter_items c.next.new.self in
    let len = inv.len in let room' = inv.room in let l = c.in-Some.ensures.len in let p = c.push_reserved.ensures.len in let q = c.push_reserved.ensures.capacity in
    let ll : length rest ≡ length rest' + 1 = ap length c.in-Some.ensures.items ∙ omega arith in
    record {
      len = omega arith;
      room = omega arith;
      given = (
        k.0 ++ held ∷ [],
        more_done c.args.shards.items k.0 rest rest' held k.1 c.in-Some.ensures.items,
        subst (λ (z : List F). AreGiven f.files f.faults f.notes (k.0 ++ held ∷ []) z) (sym c.push_reserved.ensures.items)
            (given_push f.files f.faults f.notes k.0 c.loop-held.stores.items held c.into_store.result k.2 c.into_store.ensures.given),
      );
    }

pub returns : goal.returns
returns g c =
    let F = g.row.F.Denot in let f = g.F.Store in let inv = c.loop-held.invariant in let k = inv.given in
    let none : into_iter_items c.loop-held.rest ≡ [] = nothing_left (into_iter_items c.loop-held.rest) (sym inv.len ∙ c.in_default.ensures.cases.0) in
    let all : k.0 ≡ c.args.shards.items = sym (k.1 ∙ (ap (λ (z : List (Book F)). k.0 ++ z) none ∙ append-nil k.0)) in
    record { given = subst (λ (z : List (Book F)). AreGiven f.files f.faults f.notes z c.loop-held.stores.items) all k.2 }
