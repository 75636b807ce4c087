use Rattle.std.proofs.Common.{arith, Some, false, ap, sym, subst, ◌∙◌, ◌≡◌, ◌+◌, List, [], ◌∷◌, ◌++◌, map, length}
use Rattle.std.specs.Vec.Iter.{into_iter_items}
use Rattle.host_table.specs.Start.{limits_of, log_in, AreHanded, IsBegun, AreBegun}
use Rattle.host_table.proofs.Ending.{more_done}
use Rattle.host_table.proofs.Starting.{handed_self, begun_push, begun_new, begun_long, refused_handed, refused_blames, refused_logs}
use Rattle.host_table.proofs.opening.open_all.Goals as goal

pub returns-in_default-clause-handed : goal.returns-in_default-clause-handed
returns-in_default-clause-handed g c =
    let F = g.row.F.Denot in let f = g.F.Store in
    let P : List F → Type 0 = λ news. AreHanded f.files f.faults c.args.folders.items news in
    subst P (sym (c.move_all.ensures ∙ (ap (λ (z : List F). z ++ into_iter_items c.into_iter-rest.result) c.requires.room.0 ∙ c.into_iter-rest.ensures.rest))) (handed_self f.files f.faults c.args.folders.items)

pub returns-in_default-clause-logs : goal.returns-in_default-clause-logs
returns-in_default-clause-logs g c =
    let F = g.row.F.Denot in let f = g.F.Store in
    ap (map (log_in f.notes)) (c.move_all.ensures ∙ (ap (λ (z : List F). z ++ into_iter_items c.into_iter-rest.result) c.requires.room.0 ∙ c.into_iter-rest.ensures.rest))

pub loop-folder-preserved : goal.loop-folder-preserved
loop-folder-preserved g c =
    let F = g.row.F.Denot in let f = g.F.Store in let inv = c.loop-folder.invariant in let b = inv.begun in
    let len = inv.len in let count = inv.count in let l = c.in-Some.ensures.len in
    let p = c.push_reserved.ensures.len in let k = c.push_reserved.ensures.capacity in
    let rest = into_iter_items c.loop-folder.rest in let rest' = into_iter_items c.next.new.self in
    let ll : length rest ≡ length rest' + 1 = ap length c.in-Some.ensures.items ∙ omega arith in
    let held = c.in-Ok-open.held in let o = c.in-Ok-open.ensures.opening in
    let long = begun_long f.files f.times f.faults c.args.opened c.args.first (limits_of c.args.most) 0 b.0 c.loop-folder.shards.items b.2 in
    let one : IsBegun f.files f.times f.faults c.args.opened c.args.first (limits_of c.args.most) c.len.result c.in-Some.folder held = record {
      stood = o.0;
      book = c.in-Ok-open.ensures.opened ∙ (λ i. record { only = Some c.len.result; begin = o.1 i; limits = limits_of c.args.most; dates = held.dates; made = []; time = c.args.opened; ticked = false; start = c.in-Some.folder; folder = held.folder });
      opening = o.2;
      fits = o.3;
      dated = c.in-Ok-open.ensures.dates;
      told = c.in-Ok-open.ensures.told;
    } in
    let P : List _ → Type 0 = λ shards. AreBegun f.files f.times f.faults c.args.opened c.args.first (limits_of c.args.most) 0 (b.0 ++ c.in-Some.folder ∷ []) shards in
    record {
      len = omega arith;
      count = omega arith;
      room = omega (arith, inv.room);
      empty = inv.empty;
      capacity = inv.capacity;
      begun = (
        b.0 ++ c.in-Some.folder ∷ [],
        more_done c.args.folders.items b.0 rest rest' c.in-Some.folder b.1 c.in-Some.ensures.items,
        subst P (sym c.push_reserved.ensures.items) (begun_push f.files f.times f.faults c.args.opened c.args.first (limits_of c.args.most) 0 c.len.result b.0 c.loop-folder.shards.items c.in-Some.folder held (omega (arith, c.len.ensures, c.loop-folder.shards.ok.0)) b.2 one),
      );
    }

pub hand_back-requires-clause-new : goal.hand_back-requires-clause-new
hand_back-requires-clause-new g c =
    let f = g.F.Store in let b = c.loop-folder.invariant.begun in begun_new f.files f.times f.faults c.args.opened c.args.first (limits_of c.args.most) 0 b.0 c.loop-folder.shards.items b.2

pub returns-in-Err-clause-handed : goal.returns-in-Err-clause-handed
returns-in-Err-clause-handed g c =
    let f = g.F.Store in let inv = c.loop-folder.invariant in let b = inv.begun in let h = c.hand_back.ensures.handed in
    refused_handed f.files f.times f.faults c.args.opened c.args.first (limits_of c.args.most) c.len.result c.args.folders.items b.0 (into_iter_items c.loop-folder.rest) (into_iter_items c.next.new.self) c.in-Some.folder c.in-Err.folder c.loop-folder.shards.items b.1 c.in-Some.ensures.items b.2
    c.hand_back.new.back.items c.push_reserved-in-Err.new.self.items c.move_all-in-Err.new.into.items h.0 c.loop-folder.back.items inv.empty h.1 h.2 c.push_reserved-in-Err.ensures.items c.move_all-in-Err.ensures
    (record { same = c.in-Err.ensures.handed; counts = c.in-Err.ensures.counts })

pub returns-in-Err-clause-blamed : goal.returns-in-Err-clause-blamed
returns-in-Err-clause-blamed g c =
    let f = g.F.Store in let inv = c.loop-folder.invariant in let b = inv.begun in let h = c.hand_back.ensures.handed in
    refused_blames f.files f.times f.faults c.args.opened c.args.first (limits_of c.args.most) c.len.result c.args.folders.items b.0 (into_iter_items c.loop-folder.rest) (into_iter_items c.next.new.self) c.in-Some.folder c.in-Err.folder c.loop-folder.shards.items b.1 c.in-Some.ensures.items b.2
    c.hand_back.new.back.items c.push_reserved-in-Err.new.self.items c.move_all-in-Err.new.into.items h.0 c.loop-folder.back.items inv.empty h.1 h.2 c.push_reserved-in-Err.ensures.items c.move_all-in-Err.ensures
    c.in-Err.fault (omega (arith, c.len.ensures, c.loop-folder.shards.ok.0)) c.in-Err.ensures.too_large c.in-Err.ensures.failed

pub returns-in-Err-clause-logs : goal.returns-in-Err-clause-logs
returns-in-Err-clause-logs g c =
    let f = g.F.Store in let inv = c.loop-folder.invariant in let b = inv.begun in let h = c.hand_back.ensures.handed in
    refused_logs f.files f.times f.faults c.args.opened c.args.first (limits_of c.args.most) c.len.result c.args.folders.items b.0 (into_iter_items c.loop-folder.rest) (into_iter_items c.next.new.self) c.in-Some.folder c.in-Err.folder c.loop-folder.shards.items b.1 c.in-Some.ensures.items b.2
    c.hand_back.new.back.items c.push_reserved-in-Err.new.self.items c.move_all-in-Err.new.into.items h.0 c.loop-folder.back.items inv.empty h.1 h.2 c.push_reserved-in-Err.ensures.items c.move_all-in-Err.ensures
    f.notes h.3 c.in-Err.ensures.handed_log
