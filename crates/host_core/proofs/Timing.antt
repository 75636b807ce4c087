-- A history with its ticks and without.
use Rattle.std.proofs.Common.{◌≡◌, ◌⊎◌, inl, inr, ℕ, suc, ◌+◌, ◌-◌, ◌^◌, ◌<◌, ◌≤◌, max, ◌==◌, Bool, true, false, if◌then◌else◌, List, [], ◌∷◌, ◌++◌, length, map, sum_by, Option, None, Some, refl, sym, ap, subst, ◌∙◌, arith}
use Rattle.std.proofs.lemmas.List.{append-nil}
use Rattle.wopi_model.specs.declared.calls.Call.{Call}
use Rattle.wopi_model.specs.Settle.{settled}
use Rattle.wopi_model.specs.Step.{Accept, decision, IsOutcome}
use Rattle.wopi_model.specs.Shard as model
use Rattle.wopi_model.specs.Begin.{Begin}
use Rattle.wopi_model.specs.Lives.{begin_at, begin_after, begin_happens, bytes_of, left_of, live_bytes, live_ids}
use Rattle.wopi_model.specs.Shard.{Item, Tick, Step, Entry, LegalFrom, IsAllowed, Along, begun, at_moment, happens, after, entries, stamps, last_from}
use Rattle.wopi_model.specs.Host.{FullFrom, HasNoStampFrom, HasNoCall, HasNoBytes, HasNoId, Limits, file_at, found_at, new_bytes, begins_lock, brings_contents, kept_from, most_kept}
use Rattle.wopi_model.proofs.Histories.{at_moment-at_moment}
use Rattle.wopi_model.proofs.Living.{begin_at-begin_at, begun-left, left-append}
use Rattle.host_core.specs.Entries.{Made, items_of, history_of}
use Rattle.host_core.specs.Times.{steps_of, untimed, last_time, IsTimely, GoesByEntries, happened_of}
use Rattle.host_core.proofs.History.{items_of-push}

pub entries-untimed : (made : List Made) → entries (untimed made) ≡ steps_of made
entries-untimed [] = refl
entries-untimed (one ∷ made) = ap (λ (es : List Entry). one.step ∷ es) (entries-untimed made)

entries-items : (made : List Made) (rest : List Item) → entries (items_of made ++ rest) ≡ steps_of made ++ entries rest
entries-items [] rest = refl
entries-items (one ∷ made) rest = ap (λ (es : List Entry). one.step ∷ es) (entries-items made rest)

pub entries-history : (made : List Made) (time : ℕ) → entries (history_of made time) ≡ steps_of made
entries-history made time = entries-items made (Tick time ∷ []) ∙ append-nil (steps_of made)

-- the bytes that are kept don't depend on ticks
pub kept-untimed : (begin : Begin) (made : List Made) → kept_from begin (items_of made) ≡ kept_from begin (untimed made)
kept-untimed begin made =
    let same : entries (items_of made) ≡ entries (untimed made) =
    ap entries (sym (append-nil (items_of made))) ∙ entries-items made [] ∙ append-nil (steps_of made) ∙ sym (entries-untimed made)
    in
    ap (λ (es : List Entry). live_bytes begin.files + sum_by (λ (entry : Entry). if entry.ruling.status == 200 then new_bytes entry.call.act else 0) es) same

-- how many entries there are neither
pub length-untimed : (made : List Made) → length (entries (untimed made)) ≡ length made
length-untimed [] = refl
length-untimed (one ∷ made) = ap suc (length-untimed made)

-- a shard at a moment depends on the later of its time and the moment
at_later : (shard : model.Shard) (m n : ℕ) → max shard.now m ≡ max shard.now n → at_moment shard m ≡ at_moment shard n
at_later shard m n same = λ i. record { opened = shard.opened; first = shard.first; now = same i; files = λ name. settled (shard.files name) (same i) }

-- a tick to the time that an entry brings changes nothing
tick_again : (shard : model.Shard) (time m : ℕ) → time ≡ max shard.now m → at_moment (at_moment shard time) m ≡ at_moment shard m
tick_again shard time m is = at_moment-at_moment shard time m ∙ at_later shard (max time m) m (omega arith)

step_again : (shard : model.Shard) (one : Made) → one.time ≡ max shard.now one.step.moment → happens (at_moment shard one.time) (Step one.step) ≡ happens shard (Step one.step)
step_again shard one is = ap (λ (s : model.Shard). model.after_entry s one.step) (tick_again shard one.time one.step.moment is)

pub after-untimed : (shard : model.Shard) (made : List Made) → IsTimely shard.now made → after shard (items_of made) ≡ after shard (untimed made)
after-untimed shard [] t = refl
after-untimed shard (one ∷ made) t =
    let next = happens shard (Step one.step) in
    ap (λ (s : model.Shard). after s (items_of made)) (step_again shard one t.0) ∙ after-untimed next made (subst (λ (n : ℕ). IsTimely n made) t.0 t.1)

pub after-now : (shard : model.Shard) (made : List Made) → IsTimely shard.now made → (after shard (untimed made)).now ≡ last_time shard.now made
after-now shard [] t = refl
after-now shard (one ∷ made) t =
    let next = happens shard (Step one.step) in
    after-now next made (subst (λ (n : ℕ). IsTimely n made) t.0 t.1) ∙ ap (λ (n : ℕ). last_time n made) (sym t.0)

-- what is allowed with the ticks is allowed without
along-untimed : (shard : model.Shard) (made : List Made) (rest : List Item) → IsTimely shard.now made → Along IsAllowed shard (items_of made ++ rest) → Along IsAllowed shard (untimed made)
along-untimed shard [] rest t a = tt
along-untimed shard (one ∷ made) rest t a =
    let next = happens shard (Step one.step) in
    let same = tick_again shard one.time one.step.moment t.0 in
    let P : model.Shard → Type 0 = λ s. IsOutcome (s.files one.step.call.name) one.step.call s.opened s.now one.step.ruling in
    let here : IsAllowed shard (Step one.step) = subst P same a.1.0 in
    let Q : model.Shard → Type 0 = λ s. Along IsAllowed s (items_of made ++ rest) in
    (here, along-untimed next made rest (subst (λ (n : ℕ). IsTimely n made) t.0 t.1) (subst Q (step_again shard one t.0) a.1.1))

pub legal-untimed : (begin : Begin) (made : List Made) (time : ℕ) → IsTimely begin.now made → LegalFrom begin (history_of made time) → LegalFrom begin (untimed made)
legal-untimed begin made time t l = record {
  allowed = along-untimed (begun begin) made (Tick time ∷ []) t l.allowed;
  stamps = subst (λ (es : List Entry). model.RisesFrom begin.last (stamps es)) (entries-history made time ∙ sym (entries-untimed made)) l.stamps;
}

-- the same of what a part of a life leaves
begin_later : (begin : Begin) (m n : ℕ) → max begin.now m ≡ max begin.now n → begin_at begin m ≡ begin_at begin n
begin_later begin m n same =
    λ i. record { opened = begin.opened; first = begin.first; now = same i; last = begin.last; files = map (λ one. (one.0, settled one.1 (same i))) begin.files }

begin_again : (begin : Begin) (one : Made) → one.time ≡ max begin.now one.step.moment → begin_happens (begin_at begin one.time) (Step one.step) ≡ begin_happens begin (Step one.step)
begin_again begin one is =
    let m = one.step.moment in
    ap (λ (b : Begin). begin_after b one.step) (begin_at-begin_at begin one.time m ∙ begin_later begin (max one.time m) m (omega (arith, is)))

pub left-untimed : (begin : Begin) (made : List Made) → IsTimely begin.now made → left_of begin (items_of made) ≡ left_of begin (untimed made)
left-untimed begin [] t = refl
left-untimed begin (one ∷ made) t =
    let next = begin_happens begin (Step one.step) in
    ap (λ (b : Begin). left_of b (items_of made)) (begin_again begin one t.0) ∙ left-untimed next made (subst (λ (n : ℕ). IsTimely n made) t.0 t.1)

-- what a call finds behind a tick
found_timed : (begin : Begin) (made : List Made) (time m : ℕ) → found_at begin (history_of made time) m ≡ begin_at (left_of begin (items_of made)) (max time m)
found_timed begin made time m =
    let before = left_of begin (items_of made) in
    ap (λ (b : Begin). begin_at b m) (left-append begin (items_of made) (Tick time ∷ [])) ∙ begin_at-begin_at before time m

-- a call finds the same
found-untimed : (begin : Begin) (made : List Made) (time m : ℕ) → IsTimely begin.now made → time ≡ last_time begin.now made
    → found_at begin (history_of made time) m ≡ found_at begin (untimed made) m
found-untimed begin made time m t is =
    let end = left_of begin (untimed made) in
    let now : end.now ≡ time = ap (λ (s : model.Shard). s.now) (begun-left begin (untimed made)) ∙ after-now (begun begin) made t ∙ sym is in
    found_timed begin made time m ∙ ap (λ (b : Begin). begin_at b (max time m)) (left-untimed begin made t) ∙ begin_later end (max time m) m (omega (arith, now))

-- and a call at a moment finds the same, whether time has gone on to it or not
pub found-later : (begin : Begin) (made : List Made) (time m : ℕ) → found_at begin (history_of made (max time m)) m ≡ found_at begin (history_of made time) m
found-later begin made time m =
    let before = left_of begin (items_of made) in
    found_timed begin made (max time m) m ∙ begin_later before (max (max time m) m) (max time m) (omega arith) ∙ sym (found_timed begin made time m)

pub found-happened : (b : Bool) (begin : Begin) (made : List Made) (time m : ℕ) → (b ≡ false → GoesByEntries begin.now made time)
    → found_at begin (happened_of b made (max time m)) m ≡ found_at begin (history_of made time) m
found-happened true begin made time m goes = found-later begin made time m
found-happened false begin made time m goes = sym (found-untimed begin made time m (goes refl).timely (goes refl).time_is)

-- fullness looks at the entries, and at what a call finds
stamp_both : (calls : Option ℕ) (last floor : ℕ) (h k : List Item) → entries h ≡ entries k → HasNoStampFrom calls last h floor → HasNoStampFrom calls last k floor
stamp_both None last floor h k es full = subst (λ (l : List Entry). 2 ^ 63 - 1 ≤ max floor (last_from last (stamps l))) es full
stamp_both (Some calls) last floor h k es full = subst (λ (l : List Entry). max floor (last_from last (stamps l)) ≡ 2 ^ 64 - 1) es full

call_both : (calls : Option ℕ) (begin : Begin) (call : Call) (m : ℕ) (h k : List Item) → entries h ≡ entries k → found_at begin h m ≡ found_at begin k m → HasNoCall calls begin h call m → HasNoCall calls begin k call m
call_both None begin call m h k es at full = full
call_both (Some calls) begin call m h k es at full =
    let size : Entry → ℕ = λ entry. if entry.ruling.status == 200 then new_bytes entry.call.act else 0 in
    let P : List Entry × Begin → Type 0 = λ p.
    (length p.0 ≡ calls)
    ⊎ ((decision (file_at p.1 call) call p.1.opened p.1.now ≡ Accept) × (brings_contents call.act ≡ true)
    × (most_kept < live_bytes begin.files + sum_by size p.0 + new_bytes call.act)) in
    let pair : (entries h, found_at begin h m) ≡ (entries k, found_at begin k m) = λ i. (es i, at i) in
    subst P pair full

bytes_both : (begin : Begin) (call : Call) (m : ℕ) (h k : List Item) → found_at begin h m ≡ found_at begin k m → HasNoBytes begin h call m → HasNoBytes begin k call m
bytes_both begin call m h k at full =
    let P : Begin → Type 0 = λ b.
    (decision (file_at b call) call b.opened b.now ≡ Accept) × (brings_contents call.act ≡ true)
    × (most_kept + bytes_of (file_at b call).contents < live_bytes b.files + new_bytes call.act) in
    subst P at full

id_both : (ids : ℕ) (begin : Begin) (call : Call) (m : ℕ) (h k : List Item) → found_at begin h m ≡ found_at begin k m → HasNoId ids begin h call m → HasNoId ids begin k call m
id_both ids begin call m h k at full =
    let P : Begin → Type 0 = λ b. (decision (file_at b call) call b.opened b.now ≡ Accept) × (begins_lock (file_at b call) call.act ≡ true) × (ids ≤ live_ids b.files) in
    subst P at full

full_both : (limits : Limits) (begin : Begin) (floor : ℕ) (call : Call) (m : ℕ) (h k : List Item) → entries h ≡ entries k → found_at begin h m ≡ found_at begin k m
    → FullFrom limits begin h floor call m → FullFrom limits begin k floor call m
full_both limits begin floor call m h k es at (inl stamp) = inl (stamp_both limits.calls begin.last floor h k es stamp)
full_both limits begin floor call m h k es at (inr (inl none)) = inr (inl (call_both limits.calls begin call m h k es at none))
full_both limits begin floor call m h k es at (inr (inr (inl bytes))) = inr (inr (inl (bytes_both begin call m h k at bytes)))
full_both limits begin floor call m h k es at (inr (inr (inr id))) = inr (inr (inr (id_both limits.ids begin call m h k at id)))

module _ (limits : Limits) (begin : Begin) (made : List Made) (time floor : ℕ) (call : Call) (m : ℕ) (timely : IsTimely begin.now made) (is : time ≡ last_time begin.now made) where
  same_entries : entries (history_of made time) ≡ entries (untimed made)
  same_entries = entries-history made time ∙ sym (entries-untimed made)

  pub full-untimed : FullFrom limits begin (history_of made time) floor call m → FullFrom limits begin (untimed made) floor call m
  full-untimed = full_both limits begin floor call m (history_of made time) (untimed made) same_entries (found-untimed begin made time m timely is)

  pub full-timed : FullFrom limits begin (untimed made) floor call m → FullFrom limits begin (history_of made time) floor call m
  full-timed = full_both limits begin floor call m (untimed made) (history_of made time) (sym same_entries) (sym (found-untimed begin made time m timely is))

pub last_time-push : (time : ℕ) (made : List Made) (one : Made) → last_time time (made ++ one ∷ []) ≡ one.time
last_time-push time [] one = refl
last_time-push time (first ∷ made) one = last_time-push first.time made one

pub timely-push : (time : ℕ) (made : List Made) (one : Made) → IsTimely time made → one.time ≡ max (last_time time made) one.step.moment → IsTimely time (made ++ one ∷ [])
timely-push time [] one t is = (is, tt)
timely-push time (first ∷ made) one t is = (t.0, timely-push first.time made one t.1 is)

-- time goes on with one entry more
pub goes-push : (opened : ℕ) (made : List Made) (one : Made) (time : ℕ) → GoesByEntries opened made time → one.time ≡ max time one.step.moment → GoesByEntries opened (made ++ one ∷ []) one.time
goes-push opened made one time goes is = record {
  timely = timely-push opened made one goes.timely (is ∙ ap (λ (n : ℕ). max n one.step.moment) goes.time_is);
  time_is = sym (last_time-push opened made one);
}

untimed-push : (made : List Made) (one : Made) → untimed (made ++ one ∷ []) ≡ untimed made ++ Step one.step ∷ []
untimed-push [] one = refl
untimed-push (first ∷ made) one = ap (λ (rest : List Item). Step first.step ∷ rest) (untimed-push made one)

-- what stands behind the last entry
abbrev pub ticks_behind : Bool → ℕ → List Item
ticks_behind true time = Tick time ∷ []
ticks_behind false time = []

append-both : (a b c : List Item) → (a ++ b) ++ c ≡ a ++ (b ++ c)
append-both [] b c = refl
append-both (x ∷ a) b c = ap (λ (rest : List Item). x ∷ rest) (append-both a b c)

-- what has happened with an entry more is what has happened before it, the entry, and ticks
pub happened-push : (b : Bool) (made : List Made) (one : Made) → happened_of b (made ++ one ∷ []) one.time ≡ happened_of b made one.time ++ Step one.step ∷ ticks_behind b one.time
happened-push true made one =
    ap (λ (items : List Item). items ++ Tick one.time ∷ []) (items_of-push made one) ∙ append-both (history_of made one.time) (Step one.step ∷ []) (Tick one.time ∷ [])
happened-push false made one = untimed-push made one

-- what has happened is legal
pub legal-happened : (b : Bool) (begin : Begin) (made : List Made) (time : ℕ) → LegalFrom begin (history_of made time) → (b ≡ false → LegalFrom begin (untimed made))
    → LegalFrom begin (happened_of b made time)
legal-happened true begin made time legal alone = legal
legal-happened false begin made time legal alone = alone refl

module _ (limits : Limits) (begin : Begin) (made : List Made) (time floor : ℕ) (call : Call) (m : ℕ) where
  -- what the shard is full by before an entry, it was full by when the call came
  pub full-found : (b : Bool) → (b ≡ false → GoesByEntries begin.now made time) → FullFrom limits begin (happened_of b made (max time m)) floor call m
      → FullFrom limits begin (history_of made time) floor call m
  full-found true goes full =
      let later = max time m in
      let same : entries (history_of made later) ≡ entries (history_of made time) = entries-history made later ∙ sym (entries-history made time) in
      full_both limits begin floor call m (history_of made later) (history_of made time) same (found-later begin made time m) full
  full-found false goes full = full-timed limits begin made time floor call m (goes refl).timely (goes refl).time_is full

  pub full-happened : (b : Bool) → (b ≡ false → GoesByEntries begin.now made time) → FullFrom limits begin (history_of made time) floor call m
      → FullFrom limits begin (happened_of b made time) floor call m
  full-happened true goes full = full
  full-happened false goes full = full-untimed limits begin made time floor call m (goes refl).timely (goes refl).time_is full
