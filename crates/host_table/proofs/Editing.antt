-- A pass after an editor's call of one of its seats.
use Rattle.std.proofs.Common.{◌≡◌, ℕ, ◌<◌, max, Bool, true, false, if◌then◌else◌, ◌&&◌, Option, None, Some, is_some, IsSomeAnd, Result, IfOk, IfErr, OnErr, List, [], ◌∷◌, ◌++◌, length, set, get_or, slice_get, refl, ap, sym, ◌∙◌, subst, arith}
use Rattle.wopi_text.specs.FileName.{shard_of}
use Rattle.wopi_model.specs.declared.calls.Act.{Act}
use Rattle.wopi_model.specs.declared.calls.Act.TheVariants as act
use Rattle.wopi_model.specs.declared.calls.Call.{Call}
use Rattle.wopi_model.specs.Begin.{Begin}
use Rattle.wopi_model.specs.Shard.{Item}
use Rattle.host_core.specs.declared.caller.EditorReceipt.{EditorReceipt}
use Rattle.host_core.specs.declared.caller.CallFault.{CallFault}
use Rattle.host_core.specs.Caller.{entry_of, MakesForEditor, Refuses, Frames}
use Rattle.host_core.specs.Entries.{brought_by}
use Rattle.host_core.specs.Facts.{Dates, is_late, is_put, late_if, made_for, saved_at, would_accept}
use Rattle.host_core.specs.Times.{untimed}
use Rattle.host_table.specs.Editors.{TellsEditor}
use Rattle.host_table.specs.Histories.{IsSeen}
use Rattle.host_table.specs.Passes.{Place, PassView, own_of, begin_seen, dates_seen, last_seen, seen_at, beginning_at, dates_at, sight_of, IsPass, HasSeen, IsSamePass}
use Rattle.host_table.specs.Calls.{CallsForEditor, Looks}
use Rattle.host_core.proofs.Results.{ifok_map}
use Rattle.host_table.proofs.Calling.{with_seat, makes, makes_found, refuses, pass_called, pass_looked, frames_called, frames_looked, same_called, same_looked, own_call, own_looked}
use Rattle.host_table.proofs.Holding.{name_made}
use Rattle.host_table.proofs.Seats.{get_set, get_there, has_seen}
use Rattle.host_table.proofs.Turning.{err_map, on_err, either_case}

-- a Put that comes too late brings contents
put_brings : (asked : Act) → is_put asked ≡ true → is_some (brought_by asked) ≡ true
put_brings (act.Put lock contents) e = refl
put_brings _ e = absurd (cc)

late_put : (asked : Act) (known : Option ℕ) (accepted : Bool) (saved : ℕ) → late_if asked known accepted saved ≡ true → is_put asked ≡ true
late_put asked None accepted saved e = absurd (cc)
late_put asked (Some known) accepted saved e = go (is_put asked) _ e where
  go : (b rest : Bool) → (b && rest) ≡ true → b ≡ true
  go true rest e = refl
  go false rest e = absurd (cc)

-- so a call came too late exactly where contents are handed back
late_brought : (late : Bool) (asked : Act) (known : Option ℕ) (accepted : Bool) (saved : ℕ) → late ≡ late_if asked known accepted saved → is_some (if late then brought_by asked else None) ≡ late
late_brought true asked known accepted saved is = put_brings asked (late_put asked known accepted saved (sym is))
late_brought false asked known accepted saved is = refl

module _ {F : Type 0} (p : PassView F) (k : ℕ) (v w : Place F) (inside : IsPass p) (below : k < 16) (at : v ≡ get_or p.seats k v)
    (last : ℕ) (call : Call) (known : Option ℕ) (moment : ℕ) (home : k ≡ shard_of call.name) (seen_all : IsSomeAnd v.base (λ b. IsSeen b w.seen)) (last_is : last ≡ max p.last (last_seen w)) where
  abbrev q : PassView F
  q = with_seat p k w last

  here : k < length p.seats
  here = let wide = inside.wide in omega arith

  module _ (answer : EditorReceipt) (calls : CallsForEditor v call known p.number p.last moment answer w) where
    abbrev made : Call
    made = made_for calls.late call

    abbrev found : List Item
    found = untimed (v.seen ++ calls.calls.between)

    home_made : k ≡ shard_of made.name
    home_made = home ∙ ap shard_of (sym (name_made calls.late call))

    pass_edited : IsPass q
    pass_edited = pass_called p k v w inside below at last made moment home_made seen_all last_is answer.receipt calls.calls

    frames_edited : Frames (sight_of p) (sight_of q) call.name
    frames_edited =
        let P : List ℕ → Type 0 = λ name. Frames (sight_of p) (sight_of q) name in
        subst P (name_made calls.late call) (frames_called p k v w inside below at last made moment home_made seen_all last_is answer.receipt calls.calls)

    same_edited : IsSamePass p q
    same_edited = same_called p k v w inside below at last made moment home_made seen_all last_is answer.receipt calls.calls

    late_is : is_some answer.late ≡ calls.late
    late_is =
        let base = calls.calls.base in
        ap is_some calls.tells.held ∙ late_brought calls.late call.act known (would_accept base.begin found call moment) (saved_at base.begin base.dates found call.name) calls.tells.exactly

    own_edited : own_of q ≡ own_of p ++ record { shard = answer.receipt.shard; place = answer.receipt.place; entry = entry_of p.number (made_for (is_some answer.late) call) moment answer.receipt; told = answer.receipt.told } ∷ []
    own_edited =
        own_call p k v w inside below at last made moment home_made seen_all last_is answer.receipt calls.calls
        ∙ (λ i. own_of p ++ record { shard = answer.receipt.shard; place = answer.receipt.place; entry = entry_of p.number (made_for (sym late_is i) call) moment answer.receipt; told = answer.receipt.told } ∷ [])

    -- what is told by the history that the seat has seen, is told by what the pass has seen
    tells_home : TellsEditor (beginning_at (slice_get p.seats (shard_of call.name))) (dates_at (slice_get p.seats (shard_of call.name))) found (seen_at (slice_get (set p.seats k w) (shard_of call.name)))
        call known moment calls.late answer
    tells_home =
        let base = calls.calls.base in
        let was : slice_get p.seats k ≡ Some v = get_there p.seats k v here at in
        let begin : beginning_at (slice_get p.seats k) ≡ base.begin = ap beginning_at was ∙ ap begin_seen calls.calls.based in
        let dates : dates_at (slice_get p.seats k) ≡ base.dates = ap dates_at was ∙ ap dates_seen calls.calls.based in
        let now : seen_at (slice_get (set p.seats k w) k) ≡ untimed w.seen = ap seen_at (get_set p.seats k w here) in
        let P : Begin × (Dates × List Item) → Type 0 = λ z. TellsEditor z.0 z.1.0 found z.1.1 call known moment calls.late answer in
        let all : (base.begin, (base.dates, untimed w.seen)) ≡ (beginning_at (slice_get p.seats k), (dates_at (slice_get p.seats k), seen_at (slice_get (set p.seats k w) k))) = λ i. (sym begin i, (sym dates i, sym now i)) in
        let Q : ℕ → Type 0 = λ n. TellsEditor (beginning_at (slice_get p.seats n)) (dates_at (slice_get p.seats n)) found (seen_at (slice_get (set p.seats k w) n)) call known moment calls.late answer in
        subst Q home (subst P all calls.tells)

    edits : MakesForEditor (sight_of p) (sight_of q) call known moment answer
    edits =
        let tells = tells_home in
        let shard = shard_of call.name in
        let same = makes_found p k v w inside below at last made moment home_made seen_all last_is answer.receipt calls.calls in
        record {
          late = calls.late;
          made = makes p k v w inside below at last made moment home_made seen_all last_is answer.receipt calls.calls;
          exactly = tells.exactly ∙ ap (λ (history : List Item). is_late (beginning_at (slice_get p.seats shard)) (dates_at (slice_get p.seats shard)) history call known moment) (sym same);
          held = tells.held;
          facts = tells.facts;
          timed = tells.timed;
        }

  -- whatever was answered
  module _ (answer : Result EditorReceipt CallFault) (called : IfOk answer (λ told. CallsForEditor v call known p.number p.last moment told w)) (looked : IfErr answer (λ refusal. Looks v call p.last moment refusal w)) where
    pub pass_told : IsPass q
    pass_told = either_case answer _ _ _ pass_edited (pass_looked p k v w inside below at last call moment home seen_all last_is) called looked

    pub frames_told : Frames (sight_of p) (sight_of q) call.name
    frames_told = either_case answer _ _ _ frames_edited (frames_looked p k v w inside below at last call moment home seen_all last_is) called looked

    pub same_told : IsSamePass p q
    same_told = either_case answer _ _ _ same_edited (same_looked p k v w inside below at last call moment home seen_all last_is) called looked

    pub seen_told : HasSeen q
    seen_told = has_seen q pass_told

    pub edits_told : IfOk answer (MakesForEditor (sight_of p) (sight_of q) call known moment)
    edits_told = ifok_map answer _ _ edits called

    pub refuses_told : IfErr answer (Refuses (sight_of p) (sight_of q) call moment)
    refuses_told = err_map answer _ _ (refuses p k v w inside below at last call moment home seen_all last_is) looked

    pub own_told : IfOk answer (λ told. own_of q ≡ own_of p ++ record { shard = told.receipt.shard; place = told.receipt.place; entry = entry_of p.number (made_for (is_some told.late) call) moment told.receipt; told = told.receipt.told } ∷ [])
    own_told = ifok_map answer _ _ own_edited called

    pub own_stays_told : OnErr answer (own_of q ≡ own_of p)
    own_stays_told = on_err answer _ _ (own_looked p k v w inside below at last call moment home seen_all last_is) looked
