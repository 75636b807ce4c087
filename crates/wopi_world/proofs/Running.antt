-- The events of a legal history run to that history.
use Rattle.std.proofs.Common.{◌≡◌, ℕ, ◌+◌, ◌==◌, Bool, true, false, not, ◌&&◌, cond, List, [], ◌∷◌, ◌++◌, map, refl, sym, ap, subst, ◌∙◌, inl, inr, arith}
use Rattle.std.proofs.lemmas.Bool.{cond_both, eqb-true}
use Rattle.std.proofs.lemmas.List.{append_assoc, append-nil}
use Rattle.wopi_model.specs.declared.locks.Verdict.{Verdict}
use Rattle.wopi_model.specs.declared.locks.Verdict.TheVariants as says
use Rattle.wopi_model.specs.declared.calls.Call.{Call}
use Rattle.wopi_model.specs.declared.calls.Ruling.{Ruling}
use Rattle.wopi_model.specs.File.{File}
use Rattle.wopi_model.specs.LockTable.{verdict}
use Rattle.wopi_model.specs.Act.{lock_act, presents_spent, is_stored}
use Rattle.wopi_model.specs.Step.{Decision, Refuse, Conflict, Accept, is_unauthorized, is_missing, lacks_right, is_too_large, effect, decision, ruling_of, store_fault, IsOutcome}
use Rattle.wopi_model.specs.Shard.{Shard, Item, Tick, Step, Legal, IsAllowed, Along, at_moment, happens, entries}
use Rattle.wopi_world.specs.History.{Item as Whole, Ran}
use Rattle.wopi_model.specs.Shard as shard
use Rattle.wopi_model.proofs.Replacing.{acceptance-status}
use Rattle.wopi_world.specs.World.{Setting, World, Event, Entry, Fault, is_accept, is_faulted, ruling_at, ruling_in, entry_of, item_of, with_item, enters, first_world, run_from, run}
use Rattle.wopi_world.proofs.Stamps.{count_since, count-ticked, count-stepped}
use Rattle.wopi_world.specs.Journals.{events_of, IsSameItem, AreSameItems, AreCounted}

-- no row of the table tells 500
no_row_500 : (a b c e : Bool) (r : Verdict) (file : File) (call : Call) (now : ℕ) →
    let d : Decision = cond a (Refuse 401) (cond b (Refuse 404) (cond c (Refuse 404)
    (elim r [ says.Refuse reason ↦ Conflict reason | says.Accept ↦ cond e (Refuse 412) Accept ]))) in
    (ruling_of d file call now).status ≡ 500 → ⊥
no_row_500 true b c e r file call now h = omega arith
no_row_500 false true c e r file call now h = omega arith
no_row_500 false false true e r file call now h = omega arith
no_row_500 false false false e (says.Refuse reason) file call now h = omega arith
no_row_500 false false false true says.Accept file call now h = omega arith
no_row_500 false false false false says.Accept file call now h = omega (arith, acceptance-status call.act (effect file call now))

-- the table alone decides where no store fails
without_fault : (at : Shard) (call : Call) (ruling : Ruling) → IsOutcome (at.files call.name) call at.opened at.now ruling →
    (ruling.status == 500) ≡ false → ruling_at false at call ≡ ruling
without_fault at call ruling (inl same) h = sym same
without_fault at call ruling (inr fault) h =
    let e : (ruling.status == 500) ≡ true = ap (λ (r : Ruling). r.status == 500) fault.2 in
    absurd (Rattle.std.proofs.lemmas.Bool.true≢false (sym e ∙ h))

faulted : (at : Shard) (call : Call) → decision (at.files call.name) call at.opened at.now ≡ Accept → is_stored call.act ≡ true → is_faulted true at call ≡ true
faulted at call accepted stored =
    ap (λ (b : Bool). b && is_accept (decision (at.files call.name) call at.opened at.now)) stored ∙ ap is_accept accepted

with_fault : (at : Shard) (call : Call) (ruling : Ruling) → IsOutcome (at.files call.name) call at.opened at.now ruling →
    ruling.status ≡ 500 → (is_faulted true at call ≡ true) × (ruling ≡ store_fault)
with_fault at call ruling (inl same) h =
    let file = at.files call.name in
    absurd (no_row_500 (is_unauthorized call at.opened at.now) (is_missing file call.act) (lacks_right call) (is_too_large file call.act)
    (verdict file.lock (presents_spent file.spent call.act) (lock_act file call.act)) file call at.now (sym (ap (λ (r : Ruling). r.status) same) ∙ h))
with_fault at call ruling (inr fault) h = (faulted at call fault.0 fault.1, fault.2)

-- The items that were added, all of this run, are these, and their entries are counted on.
pub record Adds (history : List Whole) (items : List Item) (next : World) : Type 0 where
  pub added : List Item
  pub history_is : next.history ≡ history ++ map Ran added
  pub same : AreSameItems items (map Ran added)
  pub counted : AreCounted (count_since history) (entries added)

add_tick : (history : List Whole) (items : List Item) (moment : ℕ) (next : World) → Adds (history ++ Ran (Tick moment) ∷ []) items next → Adds history (Tick moment ∷ items) next
add_tick history items moment next a =
    record {
      added = Tick moment ∷ a.added;
      history_is = a.history_is ∙ append_assoc history (Ran (Tick moment) ∷ []) (map Ran a.added);
      same = (refl, a.same);
      counted = subst (λ (n : ℕ). AreCounted n (entries a.added)) (count-ticked history moment) a.counted;
    }

add_step : (history : List Whole) (items : List Item) (entry other : shard.Entry) (next : World) → IsSameItem (Step entry) (Ran (Step other)) →
    other.stamp ≡ count_since history + 1 → other.pass ≡ 0 →
    Adds (history ++ Ran (Step other) ∷ []) items next → Adds history (Step entry ∷ items) next
add_step history items entry other next same stamp pass a =
    record {
      added = Step other ∷ a.added;
      history_is = a.history_is ∙ append_assoc history (Ran (Step other) ∷ []) (map Ran a.added);
      same = (same, a.same);
      counted = (stamp, pass, subst (λ (n : ℕ). AreCounted n (entries a.added)) (count-stepped history other) a.counted);
    }

-- the world's entry of a call has the ruling of that entry, and leaves the same shard
same_shard : (world : World) (entry : shard.Entry) → ruling_in world entry.call entry.moment ≡ entry.ruling →
    Rattle.wopi_world.specs.History.happens world.shard (item_of world entry.call entry.moment) ≡ happens world.shard (Step entry)
same_shard world entry is =
    ap (λ (r : Ruling). happens world.shard (Step (record { stamp = 0; pass = 0; moment = entry.moment; call = entry.call; ruling = r }))) is

pub runs : (setting : Setting) (world : World) (items : List Item) → world.faulty ≡ false → Along IsAllowed world.shard items →
    Adds world.history items (run_from setting world (events_of items))
runs setting world [] calm h = record { added = []; history_is = sym (append-nil world.history); same = tt; counted = tt }
runs setting world (Tick moment ∷ items) calm h =
    let next = with_item world (Ran (Tick moment)) in
    add_tick world.history items moment (run_from setting next (events_of items)) (runs setting next items calm h.1)
runs setting world (Step entry ∷ items) calm h =
    cond_both (entry.ruling.status == 500) (Fault ∷ (Entry entry.call entry.moment ∷ events_of items)) (Entry entry.call entry.moment ∷ events_of items)
    (λ (events : List Event). Adds world.history (Step entry ∷ items) (run_from setting world events))
    (λ e.
    let failing : World = record world { faulty = true } in
    let at = at_moment world.shard entry.moment in
    let f = with_fault at entry.call entry.ruling h.0 (eqb-true entry.ruling.status 500 e) in
    let is : ruling_in failing entry.call entry.moment ≡ entry.ruling =
    ap (λ (b : Bool). cond b store_fault (ruling_of (decision (at.files entry.call.name) entry.call at.opened at.now) (at.files entry.call.name) entry.call at.now)) f.0 ∙ sym f.1 in
    let next = enters failing entry.call entry.moment in
    let calm_again : next.faulty ≡ false = ap (λ (b : Bool). not b) f.0 in
    add_step world.history items entry (entry_of failing entry.call entry.moment) (run_from setting next (events_of items)) (refl, refl, sym is) refl refl
    (runs setting next items calm_again (subst (λ (x : Shard). Along IsAllowed x items) (sym (same_shard failing entry is)) h.1)))
    (λ e.
    let at = at_moment world.shard entry.moment in
    let is : ruling_in world entry.call entry.moment ≡ entry.ruling = ap (λ (b : Bool). ruling_at b at entry.call) calm ∙ without_fault at entry.call entry.ruling h.0 e in
    let next = enters world entry.call entry.moment in
    let calm_still : next.faulty ≡ false = ap (λ (b : Bool). b && not (is_faulted world.faulty at entry.call)) calm in
    add_step world.history items entry (entry_of world entry.call entry.moment) (run_from setting next (events_of items)) (refl, refl, sym is) refl refl
    (runs setting next items calm_still (subst (λ (x : Shard). Along IsAllowed x items) (sym (same_shard world entry is)) h.1)))

pub entries_run_lem : (setting : Setting) (history : List Item) → Legal setting.opening setting.opened setting.first history → AreSameItems history (run setting (events_of history)).history
entries_run_lem setting history legal =
    let a = runs setting (first_world setting) history refl legal.allowed in
    subst (AreSameItems history) (sym a.history_is) a.same

same_entry : (one other : shard.Entry) → one.stamp ≡ other.stamp → one.pass ≡ other.pass → IsSameItem (Step one) (Ran (Step other)) → one ≡ other
same_entry one other stamp pass same = λ i. record { stamp = stamp i; pass = pass i; moment = same.0 i; call = same.1 i; ruling = same.2 i }

-- the same items are equal where both are counted
same_counted : (count : ℕ) (items others : List Item) → AreSameItems items (map Ran others) → AreCounted count (entries items) → AreCounted count (entries others) → items ≡ others
same_counted count [] [] same c d = refl
same_counted count [] (other ∷ others) same c d = absurd same
same_counted count (item ∷ items) [] same c d = absurd same
same_counted count (Tick moment ∷ items) (Tick later ∷ others) same c d =
    ap (λ (m : ℕ). Tick m ∷ items) same.0 ∙ ap (λ (l : List Item). Tick later ∷ l) (same_counted count items others same.1 c d)
same_counted count (Tick moment ∷ items) (Step other ∷ others) same c d = absurd same.0
same_counted count (Step entry ∷ items) (Tick later ∷ others) same c d = absurd same.0
same_counted count (Step entry ∷ items) (Step other ∷ others) same c d =
    ap (λ (e : shard.Entry). Step e ∷ items) (same_entry entry other (c.0 ∙ sym d.0) (c.1 ∙ sym d.1) same.0)
    ∙ ap (λ (l : List Item). Step other ∷ l) (same_counted (count + 1) items others same.1 c.2 d.2)

pub counted_run_lem : (setting : Setting) (history : List Item) → Legal setting.opening setting.opened setting.first history → AreCounted 0 (entries history) →
    map Ran history ≡ (run setting (events_of history)).history
counted_run_lem setting history legal counted =
    let a = runs setting (first_world setting) history refl legal.allowed in
    ap (map Ran) (same_counted 0 history a.added a.same counted a.counted) ∙ sym a.history_is
