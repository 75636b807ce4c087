use Rattle.std.proofs.Common.{◌≡◌, ◌<◌, ◌≤◌, ◌+◌, ℕ, List, length, None, refl, sym, ap, subst, ◌∙◌, arith}
use Rattle.kept_locks.specs.Locks.{Standing}
use Rattle.wopi_model.specs.declared.locks.Spent.{Spent}
use Rattle.host_core.specs.Going.{IsLive}
use Rattle.host_core.specs.Whole.{standing_at}
use Rattle.host_core.proofs.Regains.{HoldsSome, holds_all, holds_free, holds_more, holds_none, stands_get}
use Rattle.host_core.proofs.relocking.put_all_ids.Goals as goal

pub told-init : goal.told-init
told-init c = (omega arith, holds_none c.args.told.now.items c.args.locks.now.files c.requires.none, refl, c.requires.latest, c.requires.chains, refl)

pub put_ids-requires-clause-free : goal.put_ids-requires-clause-free
put_ids-requires-clause-free c = holds_free c.told.place c.args.told.now.items c.told.locks.files c.told.invariant.1

pub put_ids-requires-clause-none : goal.put_ids-requires-clause-none
put_ids-requires-clause-none c = (c.told.invariant.1 c.told.place).1 (omega arith)

pub put_ids-requires-clause-live : goal.put_ids-requires-clause-live
put_ids-requires-clause-live c =
    let told = c.args.told.now.items in
    let lt : c.told.place < length told = omega (arith, c.told-test.true, c.len.ensures, c.args.told.now.ok.0) in
    let stands = ap (λ (s : Standing). s.spent) (stands_get told c.told.place c.index.result.now lt c.index.ensures) in
    let view = ap (λ (s : Standing). s.spent) c.behind-told.view_is in
    let same : (standing_at told c.told.place).spent ≡ c.behind-told.inside.spent.items = cc (stands, view) in
    subst IsLive same (c.requires.live c.told.place)

pub told-preserved : goal.told-preserved
told-preserved c =
    let told = c.args.told.now.items in
    let so = c.told.invariant in
    let lt : c.told.place < length told = omega (arith, c.told-test.true, c.len.ensures, c.args.told.now.ok.0) in
    let stands = ap (λ (s : Standing). s.spent) (stands_get told c.told.place c.index.result.now lt c.index.ensures) in
    let view = ap (λ (s : Standing). s.spent) c.behind-told.view_is in
    let same : (standing_at told c.told.place).spent ≡ c.behind-told.inside.spent.items = cc (stands, view) in (
      omega (arith, lt),
      holds_more c.told.place told c.told.locks.files c.put_ids.new.locks.files so.1 (c.in_ok-put_ids.ensures.here ∙ sym (ap (λ (l : List Spent). record { lock = None; spent = l }) same)) c.put_ids.ensures.others,
      c.put_ids.ensures.long ∙ so.2,
      c.put_ids.ensures.latest,
      c.put_ids.ensures.chains,
      c.put_ids.ensures.room ∙ so.5,
    )

pub returns-clause-here : goal.returns-clause-here
returns-clause-here c =
    let told = c.args.told.now.items in
    let le = c.told.invariant.0 in
    let all : c.told.place ≡ length told = omega (arith, le, c.told-test.false, c.len.ensures, c.args.told.now.ok.0) in
    holds_all told c.told.locks.files (subst (λ (n : ℕ). HoldsSome n told c.told.locks.files) all c.told.invariant.1)
