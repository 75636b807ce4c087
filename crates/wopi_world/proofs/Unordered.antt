-- Why the order is asked for: a legal journal, and a session's talk whose answers all tell entries of the session's own requests, where a
-- file that others changed is saved over unseen. The session's Get stands before its Lock, which it was sent after.
use Rattle.std.proofs.Common.{◌≡◌, ◌⊎◌, ℕ, zero, suc, true, List, [], ◌∷◌, Option, Some, refl, sym, ap, ◌∙◌, inl, inr, arith}
use Rattle.std.specs.List.{slice_get, AllByRecursion}
use Rattle.wopi_model.specs.declared.calls.Act.TheVariants as act
use Rattle.wopi_model.specs.Shard.{Step, Entry}
use Rattle.wopi_headers.specs.declared.answer.Answer.{Answer}
use Rattle.wopi_acts.specs.Answers.{ruling_told}
use Rattle.save_session.specs.LockIds.{lock_id}
use Rattle.save_session.specs.declared.input.Input.{Input}
use Rattle.save_session.specs.declared.input.Input.TheVariants.{Start, Save, Reply}
use Rattle.save_session.specs.declared.output.Outcome.TheVariants.{Opened, Saved}
use Rattle.save_session.specs.declared.state.Goal.TheVariants as goal
use Rattle.save_session.specs.declared.state.SessionOp.TheVariants as op
use Rattle.wopi_world.specs.History.{Item, Ran, IsAllowed, Along}
use Rattle.wopi_world.specs.Requests.{Client, Sent, Info, TakeLock, Get, Put, operation, call_of}
use Rattle.wopi_world.specs.World.{Told}
use Rattle.wopi_world.specs.Talks.{LooksSame, Speaker, first_speaker, hears, hears_all, told_by, Awaits, IsOfOthers, IsSafeFor}
use Rattle.wopi_world.proofs.Spoken.{client, start, ok, info, read, info_answer, own, by_others, waits_for}
use Rattle.wopi_world.proofs.Seeing.{looks_itself}

-- the item came of a request that the session ever sent, or is of others
abbrev IsOfSome : Client → List Sent → Item → Type 0
IsOfSome who sent (Ran (Step entry)) = IsOfOthers who (Ran (Step entry)) ⊎ ((place : ℕ) × (one : Sent) × (slice_get sent place ≡ Some one) × (entry.call ≡ call_of who one))
IsOfSome who sent item = IsOfOthers who item

-- the answer tells some entry of the request that the session waits for
record TellsSome (client : Client) (speaker : Speaker) (history : List Item) (answer : Answer) : Type 0 where
  sent : Sent
  at : ℕ
  entry : Entry
  awaits : Awaits speaker sent
  made : slice_get history at ≡ Some (Ran (Step entry))
  call : entry.call ≡ call_of client sent
  looks_same : LooksSame (operation sent) answer (ruling_told entry.ruling)

abbrev AreTold : Client → Speaker → List Item → List Input → Type 0
AreTold who speaker history [] = Unit {0}
AreTold who speaker history (Reply answer ∷ heard) = TellsSome who speaker history answer × AreTold client (hears who speaker (Reply answer)) history heard
AreTold who speaker history (input ∷ heard) = AreTold client (hears who speaker input) history heard

-- a talk over a history, in no order
record IsTalkAnyhow (client : Client) (heard : List Input) (history : List Item) : Type 0 where
  own_or_others : AllByRecursion (IsOfSome client (hears_all client first_speaker heard).sent) history
  told : AreTold client first_speaker history heard

abbrev before : List Item
before = own 1 0 1 Info (info 1 1) ∷ (own 2 0 2 Get (read 1 (49 ∷ [])) ∷ (by_others 3 0 3 (act.Create true (50 ∷ [])) (ok 2) ∷ (own 4 0 4 TakeLock (ok 2) ∷ [])))

abbrev save : Item
save = own 5 0 5 (Put 1 (65 ∷ [])) (ok 3)

abbrev journal : List Item
journal = own 1 0 1 Info (info 1 1) ∷ (own 2 0 2 Get (read 1 (49 ∷ [])) ∷ (by_others 3 0 3 (act.Create true (50 ∷ [])) (ok 2) ∷ (own 4 0 4 TakeLock (ok 2) ∷ (save ∷ []))))

abbrev heard : List Input
heard =
    Start ∷ (Reply info_answer ∷ (Reply (ruling_told (ok 2)) ∷ (Reply (ruling_told (read 1 (49 ∷ []))) ∷ (Save (65 ∷ []) ∷ (Reply (ruling_told (ok 3)) ∷ [])))))

is_allowed : Along IsAllowed start journal
unfolding lock_id
is_allowed = (inl refl, (inl refl, (inl refl, (inl refl, (inl refl, tt)))))

abbrev opened : Told
opened = record { number = 1; outcome = Opened (Some 1); contents = 49 ∷ []; saved = [] }

abbrev saved : Told
saved = record { number = 1; outcome = Saved (Some 3); contents = 49 ∷ []; saved = 65 ∷ [] }

tells : told_by client heard ≡ opened ∷ (saved ∷ [])
unfolding lock_id
tells = refl

entry_at : ℕ → Sent → Rattle.wopi_model.specs.declared.calls.Ruling.Ruling → Entry
entry_at moment sent ruling = record { stamp = moment; pass = 0; moment = moment; call = call_of client sent; ruling = ruling }

is_talk : IsTalkAnyhow client heard journal
unfolding lock_id entry_at
is_talk =
    record {
      own_or_others = (inr (0, Info, refl, refl), (inr (2, Get, refl, refl), (inl (λ here number e. e), (inr (1, TakeLock, refl, refl), (inr (3, Put 1 (65 ∷ []), refl, refl), tt)))));
      told = (record { sent = Info; at = 0; entry = entry_at 1 Info (info 1 1); awaits = record { waiting = waits_for goal.Start op.Info; waits = refl; sent_is = refl }; made = refl; call = refl; looks_same = record { status = refl; lock = λ conflict. refl; reason = λ conflict. refl; text = λ ok. tt } }, (record { sent = TakeLock; at = 3; entry = entry_at 4 TakeLock (ok 2); awaits = record { waiting = waits_for goal.Start op.TakeLock; waits = refl; sent_is = refl }; made = refl; call = refl; looks_same = looks_itself (operation TakeLock) (ruling_told (ok 2)) }, (record { sent = Get; at = 1; entry = entry_at 2 Get (read 1 (49 ∷ [])); awaits = record { waiting = waits_for goal.Start op.Get; waits = refl; sent_is = refl }; made = refl; call = refl; looks_same = looks_itself (operation Get) (ruling_told (read 1 (49 ∷ []))) }, (record { sent = Put 1 (65 ∷ []); at = 4; entry = entry_at 5 (Put 1 (65 ∷ [])) (ok 3); awaits = record { waiting = waits_for goal.Save (op.Put 1); waits = refl; sent_is = refl }; made = refl; call = refl; looks_same = looks_itself (operation (Put 1 (65 ∷ []))) (ruling_told (ok 3)) }, tt))));
    }

abbrev read_now : Option (List ℕ)
read_now = Some (50 ∷ [])

abbrev read_before : Option (List ℕ)
read_before = Some (49 ∷ [])

abbrev byte_of : Option (List ℕ) → ℕ
byte_of (Some (byte ∷ bytes)) = byte
byte_of _ = 0

contents_apart : read_now ≡ read_before → ⊥
contents_apart e = let bytes : 50 ≡ 49 = ap byte_of e in omega (arith, bytes)

opened_apart : (version : Option ℕ) → Saved (Some 3) ≡ Opened version → ⊥
opened_apart version e = cc

not_read : (place : ℕ) (one : Told) (version : Option ℕ) → slice_get (opened ∷ (saved ∷ [])) place ≡ Some one → one.outcome ≡ Opened version → read_now ≡ Some one.contents → ⊥
not_read zero one version get outcome contents =
    let same : opened ≡ one = cc in contents_apart (contents ∙ ap (λ (t : Told). Some t.contents) (sym same))
not_read (suc zero) one version get outcome contents =
    let same : saved ≡ one = cc in opened_apart version (ap (λ (t : Told). t.outcome) same ∙ outcome)
not_read (suc (suc place)) one version get outcome contents = cc

order_is_needed : IsTalkAnyhow client heard journal × Along IsAllowed start journal × (IsSafeFor client (told_by client heard) start journal → ⊥)
unfolding lock_id
order_is_needed = (
  is_talk,
  is_allowed,
  (λ safe.
      let found = safe.saves.upon_open before [] save 1 (65 ∷ []) refl ((λ n c s. cc), ((λ n c s. cc), ((λ n c s. cc), ((λ n c s. cc), tt)))) (refl, refl, refl) in
      not_read found.0 found.1 found.2 found.3 found.4 found.5),
)
