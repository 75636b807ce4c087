-- What a shard keeps under its lock, as a step is appended to it.
use Rattle.std.proofs.Common.{◌≡◌, ◌≢◌, ℕ, ◌+◌, ◌≤◌, max, Bool, true, false, if◌then◌else◌, Option, None, Some, IfSome, List, [], ◌∷◌, ◌++◌, length, inl, inr, refl, sym, ap, subst, ◌∙◌, arith, length-append}
use Rattle.std.proofs.Math.Nat.{max_comm}
use Rattle.std.proofs.lemmas.Bool.Decides.{nat_tests}
use Rattle.outside.specs.Folder.{Files}
use Rattle.wopi_text.specs.FileName.{shard_of}
use Rattle.wopi_model.specs.declared.calls.Call.{Call}
use Rattle.wopi_model.specs.Begin.{Begin}
use Rattle.wopi_model.specs.Moment.{IsMoment}
use Rattle.wopi_model.specs.Shard.{Entry, Item, LegalFrom, after, begun, entries, stamps, last_from}
use Rattle.wopi_model.specs.Host.{FullFrom, HasNoCall}
use Rattle.host_core.specs.declared.caller.Receipt.{Receipt}
use Rattle.host_core.specs.declared.caller.CallFault.{CallFault}
use Rattle.host_core.specs.declared.caller.EditorReceipt.{EditorReceipt}
use Rattle.host_core.specs.Opening.{IsOfShard}
use Rattle.host_core.specs.Caller.{entry_of, called_back, IsFullCall, IsLostCall}
use Rattle.host_core.specs.Entries.{Made, back_of, brought_by, history_of}
use Rattle.host_core.specs.Facts.{Dates, facts_of, is_info, is_late, made_for, saved_at}
use Rattle.host_core.specs.LockActs.{is_lock_act}
use Rattle.host_core.specs.Notes.{LogStart}
use Rattle.host_core.specs.Value.{Book, state_of}
use Rattle.host_core.specs.Times.{untimed, GoesByEntries}
use Rattle.host_table.specs.Editors.{TellsEditor}
use Rattle.host_table.specs.Histories.{as_opened, AreNamed, IsSeen}
use Rattle.host_table.specs.Held.{IsHeld, IsWithinCalls, Adds, AddsForEditor, Declines}
use Rattle.host_table.proofs.Stamps.{steps-long}
use Rattle.host_core.proofs.Dating.{contents-happened, late-happened, saved-happened}
use Rattle.host_core.proofs.Timing.{entries-history, entries-untimed, full-untimed, full-timed}
use Rattle.host_table.proofs.Timing.{named-push}

not_empty : (made : List Made) (one : Made) → made ++ one ∷ [] ≡ [] → ⊥
not_empty [] one e = absurd (cc e)
not_empty (first ∷ made) one e = absurd (cc e)

named_here : (only : Option ℕ) (name : List ℕ) → only ≡ Some (shard_of name) → IsOfShard only name
named_here only name is = subst (λ (o : Option ℕ). IsOfShard o name) (sym is) refl

below_calls : (made more calls : ℕ) → more ≡ made + 1 → made ≤ calls → made ≢ calls → more ≤ calls
below_calls made more calls next few apart = grind (arith, nat_tests)

-- one entry more is within the calls that the store takes
within_push : (calls : Option ℕ) (begin : Begin) (history : List Item) (call : Call) (moment made more : ℕ) → length (entries history) ≡ made → more ≡ made + 1 → IsWithinCalls calls made
    → (HasNoCall calls begin history call moment → ⊥) → IsWithinCalls calls more
within_push None begin history call moment made more long next few room = tt
within_push (Some calls) begin history call moment made more long next few room =
    below_calls made more calls next few (λ e. room (inl (long ∙ e)))

pub held_push : {F : Type 0} (old : Book F) (folder : F) (one : Made) (start now now' : Option Files) (began count count' floor : ℕ) (then_log log log' : Option LogStart) (call : Call) → IsHeld old start now began count then_log log
    → old.only ≡ Some (shard_of one.step.call.name)
    → (FullFrom old.limits old.begin (history_of old.made old.time) floor call one.step.moment → ⊥) → count ≤ count' → log' ≡ log
    → IsHeld (record old { made = old.made ++ one ∷ []; time = one.time; folder = folder }) start now' began count' then_log log'
held_push old folder one start now now' began count count' floor then_log log log' call h only room more same =
    let counts = h.counts in
    let long : length (entries (history_of old.made old.time)) ≡ length old.made = ap (λ (es : List Entry). length es) (entries-history old.made old.time) ∙ steps-long old.made in
    record {
      unticked = h.unticked;
      named = named-push old.only old.made one h.named (named_here old.only one.step.call.name only);
      few = within_push old.limits.calls old.begin (history_of old.made old.time) call one.step.moment (length old.made) _ long (length-append old.made (one ∷ [])) h.few (λ none. room (inr (inl none)));
      unchanged = λ e. absurd (not_empty old.made one e);
      counts = omega arith;
      log = same ∙ h.log;
    }

pub seen_of : {F : Type 0} (book : Book F) (start now : Option Files) (began count : ℕ) (then_log log : Option LogStart) → IsHeld book start now began count then_log log
    → (book.ticked ≡ false → LegalFrom book.begin (untimed book.made)) → IsSeen (as_opened book) book.made
seen_of book start now began count then_log log h alone = record { legal = alone h.unticked; named = h.named }

pub held_adds : {F : Type 0} (told : Bool) (old new : Book F) (call : Call) (pass floor moment : ℕ) (receipt : Receipt) → told ≡ receipt.told → GoesByEntries old.begin.now old.made old.time
    → new ≡ record old { made = old.made ++ record { time = max old.time moment; step = entry_of pass call moment receipt; told = told } ∷ []; time = max old.time moment; folder = new.folder }
    → old.only ≡ Some receipt.shard → receipt.place ≡ length old.made
    → receipt.stamp ≡ max (last_from old.begin.last (stamps (entries (history_of old.made old.time)))) floor + 1
    → (FullFrom old.limits old.begin (history_of old.made old.time) floor call moment → ⊥)
    → receipt.back ≡ back_of call.act receipt.ruling
    → Adds old new call pass floor moment receipt
held_adds told old new call pass floor moment receipt same goes is shard place stamp room back = record {
  time = max old.time moment;
  made = ap (λ (b : Book _). b.made) is ∙ ap (λ (b : Bool). old.made ++ record { time = max old.time moment; step = entry_of pass call moment receipt; told = b } ∷ []) same;
  shard = shard;
  place = place;
  stamp = stamp ∙ (ap (λ (es : List Entry). max (last_from old.begin.last (stamps es)) floor + 1) (entries-history old.made old.time ∙ sym (entries-untimed old.made))
      ∙ ap (λ (n : ℕ). n + 1) (max_comm (last_from old.begin.last (stamps (entries (untimed old.made)))) floor));
  room = λ full. room (full-timed old.limits old.begin old.made old.time floor call moment goes.timely goes.time_is full);
  back = back;
}

-- a call that is made has the name of the one that was asked for
pub name_made : (late : Bool) (call : Call) → (made_for late call).name ≡ call.name
name_made true call = refl
name_made false call = refl

-- what is told by the history with its ticks is told by the entries alone
told_untimed : {F : Type 0} (old new : Book F) (call : Call) (known : Option ℕ) (moment : ℕ) (late : Bool) (answer : EditorReceipt)
    → GoesByEntries old.begin.now old.made old.time → GoesByEntries new.begin.now new.made new.time → new.begin ≡ old.begin → new.dates ≡ old.dates
    → late ≡ is_late old.begin old.dates (history_of old.made old.time) call known moment
    → answer.late ≡ (if late then brought_by call.act else None)
    → answer.facts ≡ facts_of (is_info call.act) (saved_at new.begin new.dates (history_of new.made new.time) call.name) ((state_of new.begin new.made new.time).files call.name).contents
    → IfSome answer.facts (λ facts. IsMoment facts.saved)
    → TellsEditor old.begin old.dates (untimed old.made) (untimed new.made) call known moment late answer
told_untimed old new call known moment late answer goes goes' begin dates is held facts timed =
    let name = call.name in
    let asked = is_info call.act in
    let P : Begin × Dates → Type 0 = λ z. answer.facts ≡ facts_of asked (saved_at z.0 z.1 (untimed new.made) name) ((after (begun z.0) (untimed new.made)).files name).contents in
    let both : (new.begin, new.dates) ≡ (old.begin, old.dates) = λ i. (begin i, dates i) in
    let here : P (new.begin, new.dates) =
    facts
    ∙ sym (ap (λ (n : ℕ). facts_of asked n ((state_of new.begin new.made new.time).files name).contents) (saved-happened false new.begin new.dates new.made new.time name (λ _. goes')))
    ∙ sym (ap (λ (o : Option (List ℕ)). facts_of asked (saved_at new.begin new.dates (untimed new.made) name) o) (contents-happened false new.begin new.made new.time name (λ _. goes'))) in
    record {
      exactly = is ∙ sym (late-happened false old.begin old.dates old.made old.time call known moment (λ _. goes));
      held = held;
      facts = subst P both here;
      timed = timed;
    }

pub held_edits : {F : Type 0} (told : Bool) (old new : Book F) (call : Call) (known : Option ℕ) (pass floor moment : ℕ) (answer : EditorReceipt) (late : Bool)
    → told ≡ answer.receipt.told → GoesByEntries old.begin.now old.made old.time → GoesByEntries new.begin.now new.made new.time
    → late ≡ is_late old.begin old.dates (history_of old.made old.time) call known moment
    → new ≡ record old { made = old.made ++ record { time = max old.time moment; step = entry_of pass (made_for late call) moment answer.receipt; told = told } ∷ []; time = max old.time moment; folder = new.folder }
    → old.only ≡ Some answer.receipt.shard → answer.receipt.place ≡ length old.made
    → answer.receipt.stamp ≡ max (last_from old.begin.last (stamps (entries (history_of old.made old.time)))) floor + 1
    → (FullFrom old.limits old.begin (history_of old.made old.time) floor (made_for late call) moment → ⊥)
    → answer.receipt.back ≡ back_of (made_for late call).act answer.receipt.ruling
    → answer.late ≡ (if late then brought_by call.act else None)
    → answer.facts ≡ facts_of (is_info call.act) (saved_at new.begin new.dates (history_of new.made new.time) call.name) ((state_of new.begin new.made new.time).files call.name).contents
    → IfSome answer.facts (λ facts. IsMoment facts.saved)
    → AddsForEditor old new call known pass floor moment answer
held_edits told old new call known pass floor moment answer late as_told goes goes' exactly is shard place stamp room back held facts timed = record {
  late = late;
  adds = held_adds told old new (made_for late call) pass floor moment answer.receipt as_told goes is shard place stamp room back;
  tells = told_untimed old new call known moment late answer goes goes' (ap (λ (b : Book _). b.begin) is) (ap (λ (b : Book _). b.dates) is) exactly held facts timed;
}

pub held_declines : {F : Type 0} (old new : Book F) (call : Call) (floor moment : ℕ) (refusal : CallFault) → GoesByEntries old.begin.now old.made old.time
    → new ≡ record old { folder = new.folder }
    → (IsFullCall refusal → FullFrom old.limits old.begin (history_of old.made old.time) floor call moment) → called_back refusal ≡ call
    → (is_lock_act call.act ≡ true → (IsLostCall refusal → ⊥) → IsFullCall refusal) → Declines old new call floor moment refusal
held_declines old new call floor moment refusal goes is full handed light = record {
  made = ap (λ (b : Book _). b.made) is;
  full = λ f. full-untimed old.limits old.begin old.made old.time floor call moment goes.timely goes.time_is (full f);
  handed = handed;
  light = light;
}

pub seen_stays : {F : Type 0} (old new : Book F) (start now : Option Files) (began count : ℕ) (then_log log : Option LogStart) → IsHeld old start now began count then_log log → new ≡ record old { folder = new.folder }
    → (new.ticked ≡ false → LegalFrom new.begin (untimed new.made)) → IsSeen (as_opened new) new.made
seen_stays old new start now began count then_log log h is alone = record {
  legal = alone (ap (λ (b : Book _). b.ticked) is ∙ h.unticked);
  named = subst (λ (b : Book _). AreNamed b.only b.made) (sym is) h.named;
}

-- a Bool that is neither
pub neither : (b : Bool) → (b ≡ true → ⊥) → (b ≡ false → ⊥) → ⊥
neither true h k = h refl
neither false h k = k refl
