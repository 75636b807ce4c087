use Rattle.std.proofs.Common.{arith, ap, sym, subst, ◌∙◌, ◌≡◌, ◌≤◌, ◌+◌, List, [], ◌∷◌, ◌++◌, map, length, refl, vec_len, vec_capacity}
use Rattle.std.proofs.lemmas.List.{append-nil, map-append}
use Rattle.std.specs.Vec.Iter.{into_iter_items}
use Rattle.host_core.specs.Value.{Book}
use Rattle.host_table.specs.Start.{start_of, log_in, AreNew, IsHanded, AreHanded}
use Rattle.host_table.proofs.Ending.{more_done, more_put}
use Rattle.host_table.proofs.Starting.{handed_push, logs_push}
use Rattle.host_table.proofs.opening.hand_back.Goals as goal

pub loop-held-init : goal.loop-held-init
loop-held-init g c = let it = c.into_iter-rest.ensures in record {
  new = subst AreNew (sym it.rest) c.requires.new;
  len = it.len ∙ (c.args.shards.ok.0 ∙ sym (ap length it.rest));
  room = subst (λ n. vec_len c.args.back.now + n ≤ vec_capacity c.args.back.now) (sym it.len) c.requires.room;
  capacity = refl;
  count = ap (λ n. vec_len c.args.back.now + n) it.len;
  handed = ([], [], sym it.rest, sym (append-nil c.args.back.now.items), tt, refl);
}

pub loop-held-preserved : goal.loop-held-preserved
loop-held-preserved g c =
    let F = g.row.F.Denot in let f = g.F.Store in let held : Book F = c.in-Some.held in let folder : F = c.folder.result in
    let inv = c.loop-held.invariant in let len = inv.len in let room' = inv.room in let count' = inv.count in let l = c.in-Some.ensures.len in
    let p = c.push_reserved.ensures.len in let k = c.push_reserved.ensures.capacity in
    let ll : length (into_iter_items c.loop-held.rest) ≡ length (into_iter_items c.next.new.self) + 1 = ap length c.in-Some.ensures.items ∙ omega arith in
    let h = inv.handed in
    let all = subst AreNew c.in-Some.ensures.items inv.new in
    let one : IsHanded f.files f.faults held.start folder = record { same = c.folder.ensures.same; counts = c.folder.ensures.counts } in
    let P : List F → Type 0 = λ olds. AreHanded f.files f.faults olds (h.1 ++ folder ∷ []) × (map (log_in f.notes) (h.1 ++ folder ∷ []) ≡ map (log_in f.notes) olds) in
    let more : P (map start_of (h.0 ++ held ∷ [])) = subst P (sym (map-append start_of h.0 (held ∷ [])))
    (handed_push f.files f.faults (map start_of h.0) h.1 held.start folder h.4 one, logs_push f.notes (map start_of h.0) h.1 held.start folder h.5 c.folder.ensures.log) in
    record {
      new = all.1;
      len = omega arith;
      room = omega arith;
      capacity = k ∙ inv.capacity;
      count = omega arith;
      handed = (
        h.0 ++ held ∷ [],
        h.1 ++ folder ∷ [],
        more_done c.args.shards.items h.0 (into_iter_items c.loop-held.rest) (into_iter_items c.next.new.self) held h.2 c.in-Some.ensures.items,
        more_put c.push_reserved.new.self.items c.loop-held.back.items h.1 c.args.back.now.items folder c.push_reserved.ensures.items h.3,
        more.0,
        more.1,
      );
    }
