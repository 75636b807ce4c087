use Rattle.std.proofs.Common.{rules, ◌≡◌, ◌+◌, ◌∷◌, ◌∙◌, eqb-true, List, length, subst, sym, vec_len, arith}
use Rattle.std.specs.List.{AllByRecursion}
use Rattle.host_log.specs.Logs.{IsAnew}
use Rattle.wopi_program.specs.Paired.{IsPaired}
use Rattle.wopi_program.proofs.PairLemmas.{anew_all, anew_more, first_removed}
use Rattle.wopi_program.proofs.keeping.pair_all.Goals.{then-pairs-test+then-not-is_empty+else-not-is_empty-2, then-pairs-test+else-not-is_empty, else-pairs-test}
use Rattle.wopi_program.proofs.keeping.pair_all.Goals as goal

pub pairs-preserved : goal.pairs-preserved
pairs-preserved g c =
    let i = c.pairs.invariant in
    let left = c.remove-folder.new.self.items in
    let left' = c.remove-log.new.self.items in
    let fewer : length left + 1 ≡ length c.pairs.folders.items = search rules in
    let fewer' : length left' + 1 ≡ length c.pairs.logs.items = search rules in
    let fewer'' : length c.remove-room.new.self.items + 1 ≡ length c.pairs.rooms.items = search rules in
    let more : length c.push_reserved.new.self.items ≡ length c.pairs.stores.items + 1 = search rules in
    let same = i.same_logs in
    let same' = i.same_rooms in
    let many = i.many in
    let wide = i.room in
    let wider = c.push_reserved.ensures.capacity in
    let folders_are : c.pairs.folders.items ≡ c.remove-folder.result ∷ left =
    first_removed c.pairs.folders.items left c.remove-folder.result (omega (arith, fewer)) c.remove-folder.ensures.value c.remove-folder.ensures.items
    in
    let logs_are : c.pairs.logs.items ≡ c.remove-log.result ∷ left' =
    first_removed c.pairs.logs.items left' c.remove-log.result (omega (arith, fewer')) c.remove-log.ensures.value c.remove-log.ensures.items
    in
    let number : c.len-shard.result ≡ length c.pairs.stores.items = search rules in
    let paired : IsPaired g.G.Sink.held g.G.Sink.write_faults c.args.syncs_all (length c.pairs.stores.items) c.remove-folder.result c.remove-log.result c.new.result = record {
      anew = subst (λ n. IsAnew n c.remove-folder.result c.new.result) number c.new.ensures.anew;
      every_is = c.new.ensures.all;
      start = c.new.ensures.start;
      began = c.new.ensures.began;
    }
    in
    record {
      same_logs = omega (arith, fewer, fewer', same);
      same_rooms = omega (arith, fewer, fewer'', same');
      many = omega (arith, fewer, more, many);
      room = omega (arith, wide, wider);
      synced = (subst (λ (l : List g.row.G.Denot). AllByRecursion (λ log. g.G.Log.synced log ≡ g.G.Sink.held log) l) logs_are i.synced).1;
      anew = anew_more g.G.Sink.held g.G.Sink.write_faults c.args.syncs_all c.args.folders.items c.args.logs.items c.pairs.folders.items left c.pairs.logs.items left' c.remove-folder.result c.remove-log.result
          c.pairs.stores.items c.push_reserved.new.self.items c.new.result folders_are logs_are c.push_reserved.ensures.items paired i.anew;
    }

pub returns-clause-anew : goal.returns-clause-anew
returns-clause-anew g c =
    let i = c.pairs.invariant in
    let same = i.same_logs in
    let same' = i.same_rooms in
    let none : length c.pairs.folders.items ≡ 0 =
    elim c.pairs-test.branch as (λ _. length c.pairs.folders.items ≡ 0) [
      | then-pairs-test+then-not-is_empty+else-not-is_empty-2 w ↦ let zero : vec_len c.pairs.rooms ≡ 0 = eqb-true (vec_len c.pairs.rooms) 0 (sym w.is_empty-then-not-is_empty.ensures ∙ w.if-not-is_empty-2.false) in omega (arith, zero, c.pairs.rooms.ok.0, same')
      | then-pairs-test+else-not-is_empty w ↦ let zero : vec_len c.pairs.logs ≡ 0 = eqb-true (vec_len c.pairs.logs) 0 (sym w.is_empty-in-pairs.ensures ∙ w.if-not-is_empty.false) in omega (arith, zero, c.pairs.logs.ok.0, same)
      | else-pairs-test w ↦ let zero : vec_len c.pairs.folders ≡ 0 = eqb-true (vec_len c.pairs.folders) 0 (sym c.is_empty.ensures ∙ w.pairs-test.false) in omega (arith, zero, c.pairs.folders.ok.0)
    ]
    in
    anew_all g.G.Sink.held g.G.Sink.write_faults c.args.syncs_all c.args.folders.items c.args.logs.items c.pairs.folders.items c.pairs.logs.items c.pairs.stores.items none (omega (arith, none, same)) i.anew

pub returns-clause-many : goal.returns-clause-many
returns-clause-many g c =
    let i = c.pairs.invariant in
    let same = i.same_logs in
    let same' = i.same_rooms in
    let many = i.many in
    elim c.pairs-test.branch as (λ _. length c.pairs.stores.items ≡ 16) [
      | then-pairs-test+then-not-is_empty+else-not-is_empty-2 w ↦ let zero : vec_len c.pairs.rooms ≡ 0 = eqb-true (vec_len c.pairs.rooms) 0 (sym w.is_empty-then-not-is_empty.ensures ∙ w.if-not-is_empty-2.false) in omega (arith, zero, c.pairs.rooms.ok.0, same', many)
      | then-pairs-test+else-not-is_empty w ↦ let zero : vec_len c.pairs.logs ≡ 0 = eqb-true (vec_len c.pairs.logs) 0 (sym w.is_empty-in-pairs.ensures ∙ w.if-not-is_empty.false) in omega (arith, zero, c.pairs.logs.ok.0, same, many)
      | else-pairs-test w ↦ let zero : vec_len c.pairs.folders ≡ 0 = eqb-true (vec_len c.pairs.folders) 0 (sym c.is_empty.ensures ∙ w.pairs-test.false) in omega (arith, zero, c.pairs.folders.ok.0, many)
    ]
