-- A call in its turn, as the seat sees it.
use Rattle.std.proofs.Common.{◌≡◌, ◌↔◌, ℕ, ◌-◌, Bool, true, false, not, refl, IsTrue, Option, None, Some, IsSomeAnd, Result, Ok, Err, IfOk, IfErr, OnErr, List, [], ◌∷◌, ◌++◌, length, sym, ap, subst, ◌∙◌, arith, length-append}
use Rattle.std.proofs.lemmas.List.{append-nil}
use mathlib.Core.List.{IsPrefix}
use Rattle.turn_lock.specs.Places.{places_from, places_behind}
use Rattle.turn_lock.specs.Seats.{added_places}
use Rattle.wopi_model.specs.declared.calls.Call.{Call}
use Rattle.wopi_model.specs.Host.{FullFrom}
use Rattle.host_core.specs.declared.caller.Receipt.{Receipt}
use Rattle.host_core.specs.declared.caller.CallFault.{CallFault}
use Rattle.host_core.specs.declared.caller.EditorReceipt.{EditorReceipt}
use Rattle.host_core.specs.declared.caller.Placed.{Placed}
use Rattle.host_core.specs.declared.caller.Refusal.{Refusal}
use Rattle.host_core.specs.declared.caller.Refusal.TheVariants as refusal
use Rattle.host_core.specs.declared.accept.Carried.{Carried}
use Rattle.host_core.specs.Caller.{answer_of, entry_of, IsFullCall, next_stamp}
use Rattle.host_core.specs.declared.listing.Listing.{Listing}
use Rattle.host_core.specs.Fullness.{IsNearlyFull}
use Rattle.host_core.specs.Listing.{IsListing}
use Rattle.host_core.specs.Entries.{Made}
use Rattle.host_core.specs.Facts.{made_for}
use Rattle.host_core.specs.Notes.{Notes}
use Rattle.host_core.specs.Value.{Book}
use Rattle.host_core.specs.Times.{untimed}
use Rattle.host_table.specs.Editors.{TellsEditor}
use Rattle.host_table.specs.Histories.{last_stamp, as_opened, IsSeen}
use Rattle.host_table.specs.Held.{Adds, AddsForEditor, Declines}
use Rattle.host_table.specs.Passes.{Place, begin_seen, last_seen}
use Rattle.host_table.specs.Calls.{Calls, CallsForEditor, Glances, Looks, AreSeenAt}

places_one : (made : List Made) (one : Made) → places_behind made (made ++ one ∷ []) ≡ length made ∷ []
places_one made one = let n : length (made ++ one ∷ []) - length made ≡ 1 = omega (arith, length-append made (one ∷ [])) in ap (places_from (length made)) n

places_none : (made : List Made) → places_behind made made ≡ []
places_none made = let n : length made - length made ≡ 0 = omega arith in ap (places_from (length made)) n

-- what an answer leaves of a call that made no entry, in its place
pub onerr_placed : (answer : Result Placed Refusal) (call : Call) (carried : Carried) (P : Type 0) → OnErr (answer_of answer call carried) P → OnErr answer P
onerr_placed (Ok placed) call carried P h = tt
onerr_placed (Err refusal.Full) call carried P h = h
onerr_placed (Err refusal.Memory) call carried P h = h
onerr_placed (Err refusal.Lost) call carried P h = h

-- a call adds at most an entry
pub grown : {F : Type 0} (old new : Book F) (call : Call) (pass floor moment : ℕ) (answer : Result Receipt CallFault) → IfOk answer (Adds old new call pass floor moment) → IfErr answer (Declines old new call floor moment) → IsPrefix old.made new.made
grown old new call pass floor moment (Ok receipt) adds declines = (record { time = adds.time; step = entry_of pass call moment receipt; told = receipt.told } ∷ [], sym adds.made)
grown old new call pass floor moment (Err refusal) adds declines = ([], append-nil old.made ∙ sym declines.made)

-- and so does an editor's
pub grown_for_editor : {F : Type 0} (old new : Book F) (call : Call) (known : Option ℕ) (pass floor moment : ℕ) (answer : Result EditorReceipt CallFault) → IfOk answer (AddsForEditor old new call known pass floor moment) → IfErr answer (Declines old new call floor moment)
    → IsPrefix old.made new.made
grown_for_editor old new call known pass floor moment (Ok told) edits declines = (record { time = edits.adds.time; step = entry_of pass (made_for edits.late call) moment told.receipt; told = told.receipt.told } ∷ [], sym edits.adds.made)
grown_for_editor old new call known pass floor moment (Err refusal) edits declines = ([], append-nil old.made ∙ sym declines.made)

-- the seat after the turn, by what it was before
pub given_back : {F : Type 0} (v t w : Place F) (old new : Book F) → t ≡ record { lock = v.lock; seen = v.seen; own = v.own; weight = v.weight; base = v.base; taken = Some old.made }
    → w ≡ record { lock = t.lock; seen = new.made; own = t.own ++ added_places t.taken new.made; weight = t.weight; base = t.base; taken = None }
    → w ≡ record { lock = v.lock; seen = new.made; own = v.own ++ added_places (Some old.made) new.made; weight = v.weight; base = v.base; taken = None }
given_back v t w old new taken given =
    given ∙ (λ i. record { lock = (taken i).lock; seen = new.made; own = (taken i).own ++ added_places (taken i).taken new.made; weight = (taken i).weight; base = (taken i).base; taken = None })

-- what the seat has seen is legal from its shard's opening
pub seen_call : {F : Type 0} (v w : Place F) (old new : Book F) → v.base ≡ Some (as_opened old) → as_opened new ≡ as_opened old
    → w ≡ record { lock = v.lock; seen = new.made; own = v.own ++ added_places (Some old.made) new.made; weight = v.weight; base = v.base; taken = None }
    → IsSeen (as_opened new) new.made → IsSomeAnd v.base (λ base. IsSeen base w.seen)
seen_call v w old new based same is seen =
    let P : Option (Book _) → Type 0 = λ o. IsSomeAnd o (λ base. IsSeen base w.seen) in
    let later : IsSeen (as_opened new) w.seen = subst (IsSeen (as_opened new)) (sym (ap (λ (p : Place _). p.seen) is)) seen in
    subst P (sym based) (subst (λ (b : Book _). IsSeen b w.seen) same later)

-- the shard's last stamp is the last that the seat has seen
pub last_given : {F : Type 0} (v w : Place F) (old new : Book F) → v.base ≡ Some (as_opened old) → as_opened new ≡ as_opened old
    → w ≡ record { lock = v.lock; seen = new.made; own = v.own ++ added_places (Some old.made) new.made; weight = v.weight; base = v.base; taken = None }
    → last_stamp new.begin.last new.made ≡ last_seen w
last_given v w old new based same is =
    let base : w.base ≡ Some (as_opened new) = ap (λ (p : Place _). p.base) is ∙ (based ∙ ap Some (sym same)) in
    let seen : w.seen ≡ new.made = ap (λ (p : Place _). p.seen) is in
    λ i. last_stamp (begin_seen (sym base i)).last (sym seen i)

-- what the shard's store has noted is what the seat has seen
pub noted_given : {F : Type 0} (v w : Place F) (old new : Book F) (notes : Notes) → v.base ≡ Some (as_opened old) → as_opened new ≡ as_opened old
    → w ≡ record { lock = v.lock; seen = new.made; own = v.own ++ added_places (Some old.made) new.made; weight = v.weight; base = v.base; taken = None }
    → notes.begin ≡ new.begin → notes.made ≡ new.made → AreSeenAt notes w
noted_given v w old new notes based same is begin made =
    let base : w.base ≡ Some (as_opened new) = ap (λ (p : Place _). p.base) is ∙ (based ∙ ap Some (sym same)) in
    let seen : w.seen ≡ new.made = ap (λ (p : Place _). p.seen) is in
    record {
      begin = begin ∙ sym (ap begin_seen base);
      made = made ∙ sym seen;
    }

pub made_call : {F : Type 0} (v w : Place F) (old new : Book F) (call : Call) (pass floor moment : ℕ) (receipt : Receipt) → v.taken ≡ None → v.base ≡ Some (as_opened old) → IsPrefix v.seen old.made
    → w ≡ record { lock = v.lock; seen = new.made; own = v.own ++ added_places (Some old.made) new.made; weight = v.weight; base = v.base; taken = None }
    → Adds old new call pass floor moment receipt → Calls v call pass floor moment receipt w
made_call v w old new call pass floor moment receipt free based begins is adds =
    let one : Made = record { time = adds.time; step = entry_of pass call moment receipt; told = receipt.told } in
    let seen : w.seen ≡ new.made = ap (λ (p : Place _). p.seen) is in
    let own : v.own ++ added_places (Some old.made) new.made ≡ v.own ++ receipt.place ∷ [] =
    ap (λ (places : List ℕ). v.own ++ places) (ap (places_behind old.made) adds.made ∙ (places_one old.made one ∙ ap (λ (place : ℕ). place ∷ []) (sym adds.place))) in
    let P : List Made → Type 0 = λ made. FullFrom old.limits old.begin (untimed made) floor call moment → ⊥ in
    record {
      base = as_opened old;
      based = based;
      between = begins.0;
      time = adds.time;
      seen = seen ∙ (adds.made ∙ ap (λ (made : List Made). made ++ one ∷ []) (sym begins.1));
      shard = adds.shard;
      place = adds.place ∙ ap (λ (made : List Made). length made) (sym begins.1);
      stamp = adds.stamp ∙ ap (λ (made : List Made). next_stamp old.begin floor (untimed made)) (sym begins.1);
      room = subst P (sym begins.1) adds.room;
      back = adds.back;
      same = is ∙ (λ i. record { lock = v.lock; seen = sym seen i; own = own i; weight = v.weight; base = v.base; taken = sym free i });
    }

pub edited_call : {F : Type 0} (v w : Place F) (old new : Book F) (call : Call) (known : Option ℕ) (pass floor moment : ℕ) (answer : EditorReceipt) → v.taken ≡ None → v.base ≡ Some (as_opened old) → IsPrefix v.seen old.made
    → w ≡ record { lock = v.lock; seen = new.made; own = v.own ++ added_places (Some old.made) new.made; weight = v.weight; base = v.base; taken = None }
    → AddsForEditor old new call known pass floor moment answer → CallsForEditor v call known pass floor moment answer w
unfolding made_call
edited_call v w old new call known pass floor moment answer free based begins is edits =
    let P : List Made × List Made → Type 0 = λ z. TellsEditor old.begin old.dates (untimed z.0) (untimed z.1) call known moment edits.late answer in
    let seen : w.seen ≡ new.made = ap (λ (p : Place _). p.seen) is in
    let both : (old.made, new.made) ≡ (v.seen ++ begins.0, w.seen) = λ i. (sym begins.1 i, sym seen i) in
    record {
      late = edits.late;
      calls = made_call v w old new (made_for edits.late call) pass floor moment answer.receipt free based begins is edits.adds;
      tells = subst P both edits.tells;
    }

-- a turn that adds no entry
pub glanced : {F : Type 0} (v w : Place F) (old new : Book F) → v.taken ≡ None → v.base ≡ Some (as_opened old) → IsPrefix v.seen old.made
    → w ≡ record { lock = v.lock; seen = new.made; own = v.own ++ added_places (Some old.made) new.made; weight = v.weight; base = v.base; taken = None }
    → new.made ≡ old.made → Glances v w
glanced v w old new free based begins is made =
    let seen : w.seen ≡ new.made = ap (λ (p : Place _). p.seen) is in
    let own : v.own ++ added_places (Some old.made) new.made ≡ v.own =
    ap (λ (places : List ℕ). v.own ++ places) (ap (places_behind old.made) made ∙ places_none old.made) ∙ append-nil v.own in
    record {
      base = as_opened old;
      based = based;
      later = (begins.0, begins.1 ∙ sym (seen ∙ made));
      same = is ∙ (λ i. record { lock = v.lock; seen = sym seen i; own = own i; weight = v.weight; base = v.base; taken = sym free i });
    }

pub refused_call : {F : Type 0} (v w : Place F) (old new : Book F) (call : Call) (floor moment : ℕ) (refusal : CallFault) → v.taken ≡ None → v.base ≡ Some (as_opened old) → IsPrefix v.seen old.made
    → w ≡ record { lock = v.lock; seen = new.made; own = v.own ++ added_places (Some old.made) new.made; weight = v.weight; base = v.base; taken = None }
    → Declines old new call floor moment refusal → Looks v call floor moment refusal w
unfolding glanced
refused_call v w old new call floor moment refusal free based begins is declines =
    let same : w.seen ≡ old.made = ap (λ (p : Place _). p.seen) is ∙ declines.made in
    let P : List Made → Type 0 = λ made. IsFullCall refusal → FullFrom old.limits old.begin (untimed made) floor call moment in
    record {
      glances = glanced v w old new free based begins is declines.made;
      full = subst P (sym same) declines.full;
      handed = declines.handed;
      light = declines.light;
    }

-- what a listing shows after the shard's history, it shows after what the seat has seen
pub shows_seen : {F : Type 0} (v w : Place F) (book : Book F) (number : ℕ) (listing : Listing) → v.base ≡ Some (as_opened book)
    → w ≡ record { lock = v.lock; seen = book.made; own = v.own ++ added_places (Some book.made) book.made; weight = v.weight; base = v.base; taken = None }
    → IsListing number book.begin (untimed book.made) listing
    → IsSomeAnd v.base (λ base. IsListing number base.begin (untimed w.seen) listing)
shows_seen v w book number listing based is shows =
    let P : Option (Book _) → Type 0 = λ o. IsSomeAnd o (λ base. IsListing number base.begin (untimed w.seen) listing) in
    let Q : List Made → Type 0 = λ made. IsListing number book.begin (untimed made) listing in
    let here : IsListing number book.begin (untimed w.seen) listing = subst Q (sym (ap (λ (p : Place _). p.seen) is)) shows in
    subst P (sym based) here

-- and so of how full the shard is
pub weighed_seen : {F : Type 0} (v w : Place F) (book : Book F) (answer : Bool) → v.base ≡ Some (as_opened book)
    → w ≡ record { lock = v.lock; seen = book.made; own = v.own ++ added_places (Some book.made) book.made; weight = v.weight; base = v.base; taken = None }
    → (IsTrue answer ↔ IsNearlyFull book.limits.calls book.begin (untimed book.made))
    → IsSomeAnd v.base (λ base. IsTrue answer ↔ IsNearlyFull base.limits.calls base.begin (untimed w.seen))
weighed_seen v w book answer based is tells =
    let P : Option (Book _) → Type 0 = λ o. IsSomeAnd o (λ base. IsTrue answer ↔ IsNearlyFull base.limits.calls base.begin (untimed w.seen)) in
    let Q : List Made → Type 0 = λ made. IsTrue answer ↔ IsNearlyFull book.limits.calls book.begin (untimed made) in
    let here : IsTrue answer ↔ IsNearlyFull book.limits.calls book.begin (untimed w.seen) = subst Q (sym (ap (λ (p : Place _). p.seen) is)) tells in
    subst P (sym based) here

pub err_map : {A E : Type 0} (r : Result A E) (P Q : E → Type 0) → ((e : E) → P e → Q e) → IfErr r P → IfErr r Q
err_map (Ok x) P Q f h = tt
err_map (Err e) P Q f h = f e h

-- what holds in either case
pub either_case : {A E : Type 0} (r : Result A E) (P : A → Type 0) (Q : E → Type 0) (R : Type 0) → ((x : A) → P x → R) → ((e : E) → Q e → R) → IfOk r P → IfErr r Q → R
either_case (Ok x) P Q R f g h k = f x h
either_case (Err e) P Q R f g h k = g e k

pub on_err : {A E : Type 0} (r : Result A E) (P : E → Type 0) (Q : Type 0) → ((e : E) → P e → Q) → IfErr r P → OnErr r Q
on_err (Ok x) P Q f h = tt
on_err (Err e) P Q f h = f e h

-- what is no false is true
pub lost_of : (b : Bool) → not b ≡ false → b ≡ true
lost_of true is = refl
lost_of false is = absurd (cc is)
