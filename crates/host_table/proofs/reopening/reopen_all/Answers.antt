use Rattle.std.proofs.Common.{arith, ap, sym, subst, ◌∙◌, ◌≡◌, ◌+◌, List, [], ◌∷◌, ◌++◌, map, length, append_assoc, refl}
use Rattle.std.specs.Vec.Iter.{into_iter_items}
use Rattle.host_core.specs.declared.life.Life.{Life}
use Rattle.host_core.specs.Value.{Book}
use Rattle.host_table.specs.Reopen.{AllGoOn, AreHandedOn, IsFaultOfOne}
use Rattle.host_table.proofs.Ending.{more_done}
use Rattle.host_table.proofs.Resumed.{blamed_on, fault_behind, going_long, going_new, going_push, handed_back, on_append, on_long, on_self}
use Rattle.host_table.proofs.reopening.reopen_all.Goals as goal

pub returns-in_default-clause-handed : goal.returns-in_default-clause-handed
returns-in_default-clause-handed g c =
    let F = g.row.F.Denot in let f = g.F.Store in
    let P : List F → Type 0 = λ news. AreHandedOn f.files f.faults f.notes c.args.lives.items c.args.folders.items news in
    subst P (sym (c.move_all.ensures ∙ (ap (λ (z : List F). z ++ into_iter_items c.into_iter-rest.result) c.requires.room.0 ∙ c.into_iter-rest.ensures.rest)))
    (on_self f.files f.faults f.notes c.args.lives.items c.args.folders.items (c.requires.lives ∙ sym c.requires.folders))

pub loop-folder-init : goal.loop-folder-init
loop-folder-init g c =
    let F = g.row.F.Denot in let f = g.F.Store in
    let rest = c.into_iter-rest.ensures in let told = c.into_iter-told.ensures in
    let some = c.in-Ok.ensures.len in let none : length c.in-Ok.shards.items ≡ 0 = ap length c.in-Ok.ensures.items in
    let first = ap length rest.rest in let second = ap length told.rest in
    let folders = c.requires.folders in let lives = c.requires.lives in
    let few = rest.len in let many = told.len in let spare = c.in-Ok.ensures.capacity in
    record {
      len = rest.len ∙ (c.args.folders.ok.0 ∙ sym (ap length rest.rest));
      told_len = told.len ∙ (c.args.lives.ok.0 ∙ sym (ap length told.rest));
      same = told.len ∙ (c.args.lives.ok.0 ∙ (lives ∙ (sym folders ∙ (sym c.args.folders.ok.0 ∙ sym rest.len))));
      count = omega (arith, few, folders, c.args.folders.ok.0, none, c.in-Ok.shards.ok.0);
      room = omega (arith, spare);
      empty = c.requires.room.0;
      capacity = refl;
      going = ([], [], sym told.rest, sym rest.rest, subst (λ (books : List (Book F)). AllGoOn f.files f.times f.faults f.notes c.args.ids 0 [] [] books) (sym c.in-Ok.ensures.items) tt);
    }

pub loop-folder-preserved : goal.loop-folder-preserved
loop-folder-preserved g c =
    let F = g.row.F.Denot in let f = g.F.Store in let inv = c.loop-folder.invariant in let b = inv.going in
    let len = inv.len in let told_len = inv.told_len in let same = inv.same in let count = inv.count in let l = c.in-Some.ensures.len in let k = c.in-Some-next.ensures.len in
    let p = c.push_reserved.ensures.len in let spare = c.push_reserved.ensures.capacity in
    let rest = into_iter_items c.loop-folder.rest in let rest' = into_iter_items c.next.new.self in
    let told = into_iter_items c.loop-folder.told in let told' = into_iter_items c.next-in-Some.new.self in
    let folder = c.in-Some.folder in let life = c.in-Some-next.life in let held = c.in-Ok-reopen.held in
    let ll : length rest ≡ length rest' + 1 = ap length c.in-Some.ensures.items ∙ omega arith in
    let tl : length told ≡ length told' + 1 = ap length c.in-Some-next.ensures.items ∙ omega arith in
    let long = going_long f.files f.times f.faults f.notes c.args.ids 0 b.0 b.1 c.loop-folder.shards.items b.4 in
    let many = long.0 in
    let P : List (Book F) → Type 0 = λ shards. AllGoOn f.files f.times f.faults f.notes c.args.ids 0 (b.0 ++ life ∷ []) (b.1 ++ folder ∷ []) shards in
    record {
      len = omega arith;
      told_len = omega arith;
      same = omega arith;
      count = omega arith;
      room = omega (arith, inv.room);
      empty = inv.empty;
      capacity = inv.capacity;
      going = (
        b.0 ++ life ∷ [],
        b.1 ++ folder ∷ [],
        more_done c.args.lives.items b.0 told told' life b.2 c.in-Some-next.ensures.items,
        more_done c.args.folders.items b.1 rest rest' folder b.3 c.in-Some.ensures.items,
        subst P (sym c.push_reserved.ensures.items) (going_push f.files f.times f.faults f.notes c.args.ids 0 c.len.result b.0 b.1 c.loop-folder.shards.items life folder held (omega (arith, c.len.ensures, c.loop-folder.shards.ok.0, many)) b.4 c.in-Ok-reopen.ensures.going),
      );
    }

pub hand_back-requires-clause-new : goal.hand_back-requires-clause-new
hand_back-requires-clause-new g c =
    let f = g.F.Store in let b = c.loop-folder.invariant.going in going_new f.files f.times f.faults f.notes c.args.ids 0 b.0 b.1 c.loop-folder.shards.items b.4

pub returns-in-Err-clause-handed : goal.returns-in-Err-clause-handed
returns-in-Err-clause-handed g c =
    let F = g.row.F.Denot in let f = g.F.Store in let inv = c.loop-folder.invariant in let b = inv.going in let h = c.hand_back.ensures.handed in
    let rest' = into_iter_items c.next.new.self in let told' = into_iter_items c.next-in-Some.new.self in
    let old = c.in-Some.folder in let life = c.in-Some-next.life in let new = c.in-Err.folder in
    let lives_are : c.args.lives.items ≡ b.0 ++ life ∷ told' = b.2 ∙ ap (λ (z : List Life). b.0 ++ z) c.in-Some-next.ensures.items in
    let olds_are : c.args.folders.items ≡ b.1 ++ old ∷ rest' = b.3 ∙ ap (λ (z : List F). b.1 ++ z) c.in-Some.ensures.items in
    let news_are : c.move_all-in-Err.new.into.items ≡ h.0 ++ new ∷ rest' =
    c.move_all-in-Err.ensures ∙ (ap (λ (z : List F). z ++ rest') (c.push_reserved-in-Err.ensures.items ∙ ap (λ (z : List F). z ++ new ∷ []) (h.1 ∙ ap (λ (z : List F). z ++ h.0) inv.empty)) ∙ append_assoc h.0 (new ∷ []) rest') in
    let done = handed_back f.files f.times f.faults f.notes c.args.ids 0 b.0 b.1 c.loop-folder.shards.items h.0 b.4 h.2 h.3 in
    let len = inv.len in let told_len = inv.told_len in let same = inv.same in
    let ll : length (into_iter_items c.loop-folder.rest) ≡ length rest' + 1 = ap length c.in-Some.ensures.items ∙ omega arith in
    let tl : length (into_iter_items c.loop-folder.told) ≡ length told' + 1 = ap length c.in-Some-next.ensures.items ∙ omega arith in
    let all : AreHandedOn f.files f.faults f.notes (b.0 ++ life ∷ told') (b.1 ++ old ∷ rest') (h.0 ++ new ∷ rest') =
    on_append f.files f.faults f.notes b.0 b.1 h.0 (life ∷ told') (old ∷ rest') (new ∷ rest') done (c.in-Err.ensures.handed, on_self f.files f.faults f.notes told' rest' (omega (arith, len, told_len, same, ll, tl))) in
    let P : List Life × List F × List F → Type 0 = λ z. AreHandedOn f.files f.faults f.notes z.0 z.1 z.2 in
    let both : (b.0 ++ life ∷ told', b.1 ++ old ∷ rest', h.0 ++ new ∷ rest') ≡ (c.args.lives.items, c.args.folders.items, c.move_all-in-Err.new.into.items) = λ i. (sym lives_are i, sym olds_are i, sym news_are i) in
    subst P both all

pub returns-in-Err-clause-blamed : goal.returns-in-Err-clause-blamed
returns-in-Err-clause-blamed g c =
    let F = g.row.F.Denot in let f = g.F.Store in let inv = c.loop-folder.invariant in let b = inv.going in let h = c.hand_back.ensures.handed in
    let rest' = into_iter_items c.next.new.self in let told' = into_iter_items c.next-in-Some.new.self in
    let old = c.in-Some.folder in let life = c.in-Some-next.life in let new = c.in-Err.folder in let why = c.in-Err.fault in
    let lives_are : c.args.lives.items ≡ b.0 ++ life ∷ told' = b.2 ∙ ap (λ (z : List Life). b.0 ++ z) c.in-Some-next.ensures.items in
    let olds_are : c.args.folders.items ≡ b.1 ++ old ∷ rest' = b.3 ∙ ap (λ (z : List F). b.1 ++ z) c.in-Some.ensures.items in
    let news_are : c.move_all-in-Err.new.into.items ≡ h.0 ++ new ∷ rest' =
    c.move_all-in-Err.ensures ∙ (ap (λ (z : List F). z ++ rest') (c.push_reserved-in-Err.ensures.items ∙ ap (λ (z : List F). z ++ new ∷ []) (h.1 ∙ ap (λ (z : List F). z ++ h.0) inv.empty)) ∙ append_assoc h.0 (new ∷ []) rest') in
    let done = handed_back f.files f.times f.faults f.notes c.args.ids 0 b.0 b.1 c.loop-folder.shards.items h.0 b.4 h.2 h.3 in
    let long = going_long f.files f.times f.faults f.notes c.args.ids 0 b.0 b.1 c.loop-folder.shards.items b.4 in
    let many = long.0 in
    let there : IsFaultOfOne f.files f.times f.faults c.args.ids 0 (b.0 ++ life ∷ told') (b.1 ++ old ∷ rest') (h.0 ++ new ∷ rest') why =
    fault_behind f.files f.times f.faults c.args.ids 0 c.len.result b.0 b.1 h.0 life old new told' rest' rest' why long.1 (on_long f.files f.faults f.notes b.0 b.1 h.0 done) (omega (arith, c.len.ensures, c.loop-folder.shards.ok.0, many)) c.in-Err.ensures.blamed in
    let P : List Life × List F × List F → Type 0 = λ z. IsFaultOfOne f.files f.times f.faults c.args.ids 0 z.0 z.1 z.2 why in
    let both : (b.0 ++ life ∷ told', b.1 ++ old ∷ rest', h.0 ++ new ∷ rest') ≡ (c.args.lives.items, c.args.folders.items, c.move_all-in-Err.new.into.items) = λ i. (sym lives_are i, sym olds_are i, sym news_are i) in
    blamed_on f.files f.times f.faults c.args.ids c.args.lives.items c.args.folders.items c.move_all-in-Err.new.into.items why (subst P both there)
