use Rattle.std.proofs.Common.{arith, ap, sym, subst, ◌∙◌, ◌≡◌, ◌+◌, List, [], ◌∷◌, ◌++◌, length}
use Rattle.std.proofs.lemmas.List.{append-nil}
use Rattle.std.specs.Vec.Iter.{into_iter_items, into_iter_len}
use Rattle.std.specs.List.{AllByRecursion}
use Rattle.host_table.specs.Passes.{PassView, locks_of}
use Rattle.host_table.specs.Views.{pass_of}
use Rattle.host_table.specs.Close.{IsJoinOf}
use Rattle.host_table.proofs.Ending.{more_done, nothing_left}
use Rattle.host_table.proofs.Joining.{joined_locks, pass_free, join_first, join_more}
use Rattle.host_table.proofs.closing.join_all.Goals as goal

pub loop-pass-init : goal.loop-pass-init
loop-pass-init g c =
    let F = g.row.F.Denot in let p = pass_of c.first.inside in let rest' = into_iter_items c.next.new.self in
    let start = c.into_iter-rest.ensures in let l = c.in-Some.ensures.len in
    let all : c.args.passes.items ≡ c.in-Some.first ∷ rest' = sym start.rest ∙ c.in-Some.ensures.items in
    let locks = subst (λ (ps : List (PassView F)). AllByRecursion (λ pass. locks_of pass ≡ c.args.locks.now.items) ps) all c.requires.locks in
    let same : p ≡ c.in-Some.first = c.first.view_is in
    let len : into_iter_len c.into_iter-rest.result ≡ length c.args.passes.items = start.len ∙ c.args.passes.ok.0 in
    let ll : length c.args.passes.items ≡ length rest' + 1 = ap length all ∙ omega arith in
    let joined : IsJoinOf (c.in-Some.first ∷ []) p.seats = subst (λ (q : PassView F). IsJoinOf (q ∷ []) p.seats) same (join_first p c.first.invariant) in
    record {
      len = omega arith;
      locks = ap (λ (q : PassView F). locks_of q) same ∙ locks.0;
      rest_locks = locks.1;
      joined = (c.in-Some.first ∷ [], all, joined);
    }

pub join_row-requires-clause-free : goal.join_row-requires-clause-free
join_row-requires-clause-free g c = (c.loop-pass.invariant.joined.2.free, pass_free (pass_of c.pass.inside) c.pass.invariant)

pub loop-pass-preserved : goal.loop-pass-preserved
loop-pass-preserved g c =
    let F = g.row.F.Denot in let inv = c.loop-pass.invariant in let k = inv.joined in let p = pass_of c.pass.inside in
    let rest = into_iter_items c.loop-pass.rest in let rest' = into_iter_items c.next-in-loop-pass.new.self in
    let len = inv.len in let l = c.in-Some-next.ensures.len in
    let ll : length rest ≡ length rest' + 1 = ap length c.in-Some-next.ensures.items ∙ omega arith in
    let locks = subst (λ (ps : List (PassView F)). AllByRecursion (λ pass. locks_of pass ≡ c.args.locks.now.items) ps) c.in-Some-next.ensures.items inv.rest_locks in
    let same : p ≡ c.in-Some-next.pass = c.pass.view_is in
    let joined : IsJoinOf (k.0 ++ p ∷ []) c.join_row.new.seats.items = join_more k.0 p c.loop-pass.seats.items c.join_row.new.seats.items k.2 c.pass.invariant c.join_row.ensures in
    record {
      len = omega arith;
      locks = joined_locks c.loop-pass.seats.items p.seats c.join_row.new.seats.items c.join_row.ensures ∙ inv.locks;
      rest_locks = locks.1;
      joined = (
        k.0 ++ c.in-Some-next.pass ∷ [],
        more_done c.args.passes.items k.0 rest rest' c.in-Some-next.pass k.1 c.in-Some-next.ensures.items,
        subst (λ (q : PassView F). IsJoinOf (k.0 ++ q ∷ []) c.join_row.new.seats.items) same joined,
      );
    }

pub returns-clause-joined : goal.returns-clause-joined
returns-clause-joined g c =
    let F = g.row.F.Denot in let inv = c.loop-pass.invariant in let k = inv.joined in let len = inv.len in
    let none : into_iter_items c.loop-pass.rest ≡ [] = nothing_left (into_iter_items c.loop-pass.rest) (sym len ∙ c.in_default-next.ensures.cases.0) in
    subst (λ (ps : List (PassView F)). IsJoinOf ps c.loop-pass.seats.items) (sym (k.1 ∙ (ap (λ (z : List (PassView F)). k.0 ++ z) none ∙ append-nil k.0))) k.2
