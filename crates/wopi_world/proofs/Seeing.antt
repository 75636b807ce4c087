-- A session does the same about answers that look the same to it, and about those that tell a fault by their status alone.
use Rattle.std.proofs.Common.{◌≡◌, ◌≢◌, ℕ, ◌==◌, ◌+◌, Bool, true, false, ◌&&◌, cond, List, Option, None, Some, refl, sym, ap, subst, ◌∙◌}
use Rattle.std.proofs.lemmas.Bool.{eqb-true, ne_eqb}
use Rattle.std.specs.Str.{bytes_eq}
use Rattle.wopi_text.specs.declared.reason.Reason.{Reason}
use Rattle.wopi_text.specs.declared.lock_field.LockField.{LockField}
use Rattle.wopi_text.specs.declared.lock_field.LockField.TheVariants as field
use Rattle.wopi_model.specs.Step.{bare}
use Rattle.wopi_acts.specs.Answers.{ruling_told}
use Rattle.wopi_headers.specs.declared.answer.Answer.{Answer}
use Rattle.save_session.specs.LockIds.{lock_id}
use Rattle.save_session.specs.declared.input.Input.{Input}
use Rattle.save_session.specs.declared.input.Input.TheVariants as input
use Rattle.save_session.specs.declared.output.Outcome.{Outcome}
use Rattle.save_session.specs.declared.output.Outcome.TheVariants as outcome
use Rattle.save_session.specs.declared.state.State.{State}
use Rattle.save_session.specs.declared.state.Waiting.{Waiting}
use Rattle.save_session.specs.declared.state.Effect.{Effect}
use Rattle.save_session.specs.declared.state.Effect.TheVariants.{Sends, Tells, Ignores}
use Rattle.save_session.specs.declared.state.Turn.{Turn}
use Rattle.save_session.specs.declared.state.Goal.{Goal}
use Rattle.save_session.specs.declared.state.Goal.TheVariants as goal
use Rattle.save_session.specs.declared.state.SessionOp.{SessionOp}
use Rattle.save_session.specs.declared.state.SessionOp.TheVariants as op
use Rattle.save_session.specs.Session.{ignores, sends, tells, ends, has_next, refused, was_read, continues_with, continues, names, says_spent, loses, reply_to, answered_while, stepped}
use Rattle.wopi_world.specs.Talks.{IsSameText, id_in, LooksSame}

text_itself : (asked : SessionOp) (answer : Answer) → IsSameText asked answer answer
text_itself op.Info answer = tt
text_itself op.TakeLock answer = tt
text_itself op.Get answer = (refl, refl)
text_itself (op.Put number) answer = refl
text_itself (op.Relock number) answer = tt
text_itself (op.Refresh number) answer = tt
text_itself (op.Unlock number) answer = tt

pub looks_itself : (asked : SessionOp) (answer : Answer) → LooksSame asked answer answer
looks_itself asked answer = record { status = refl; lock = λ conflict. refl; reason = λ conflict. refl; text = λ ok. text_itself asked answer }

abbrev pub IsSameEffect : Effect → Effect → Type 0
IsSameEffect (Sends asked) (Sends other) = asked ≡ other
IsSameEffect (Tells told) (Tells other) = told ≡ other
IsSameEffect (Ignores given) (Ignores other) = Unit {0}
IsSameEffect _ _ = ⊥

-- the same is done, but for an input that is handed back
pub record IsSameTurn (one other : Turn) : Type 0 where
  pub session : one.session ≡ other.session
  pub effect : IsSameEffect one.effect other.effect

pub same : (turn : Turn) → IsSameTurn turn turn
same turn = record { session = refl; effect = same_effect turn.effect }
  where
    same_effect : (effect : Effect) → IsSameEffect effect effect
    same_effect (Sends asked) = refl
    same_effect (Tells told) = refl
    same_effect (Ignores given) = tt

both : (test : Bool) (x y x' y' : Turn) → (test ≡ true → IsSameTurn x x') → (test ≡ false → IsSameTurn y y') → IsSameTurn (cond test x y) (cond test x' y')
both true x y x' y' p q = p refl
both false x y x' y' p q = q refl

handed_back : (session : State) (one other : Input) → IsSameTurn (ignores session one) (ignores session other)
handed_back session one other = record { session = refl; effect = tt }

-- a field names the ids that are in it
abbrev is_id : Option (List ℕ) → List ℕ → Bool
is_id None id = false
is_id (Some held) id = bytes_eq held id

names_in : (lock : LockField) (id : List ℕ) → names lock id ≡ is_id (id_in lock) id
names_in field.Absent id = refl
names_in field.Empty id = refl
names_in (field.Held held) id = refl

pub names_same : (lock other : LockField) (id : List ℕ) → id_in lock ≡ id_in other → names lock id ≡ names other id
names_same lock other id same = names_in lock id ∙ ap (λ (held : Option (List ℕ)). is_id held id) same ∙ sym (names_in other id)

-- an answer of the same status, in which the session sees no difference, and whose lock field is the same at a 409
module _ (nonce : List ℕ) (session : State) (purpose : Goal) (one other : Answer) (lock : one.status ≡ 409 → one.lock ≡ other.lock) (reason : one.status ≡ 409 → one.reason ≡ other.reason) where
  abbrev like : Answer
  like = record other { status = one.status }

  abbrev conflicts : Bool
  conflicts = one.status == 409

  ends_same : (told told' : Outcome) → told ≡ told' → IsSameTurn (ends session told) (ends session told')
  ends_same told told' is = record { session = refl; effect = is }

  tells_same : (told told' : Outcome) → told ≡ told' → IsSameTurn (tells session told) (tells session told')
  tells_same told told' is = record { session = refl; effect = is }

  loses_same : conflicts ≡ true → IsSameTurn (loses session one) (loses session like)
  loses_same e =
      let conflict = eqb-true one.status 409 e in
      let locks = lock conflict in
      let reasons = reason conflict in
      let told : outcome.LockLost one.lock one.reason ≡ outcome.LockLost other.lock other.reason = λ i. outcome.LockLost (locks i) (reasons i) in
      ends_same (outcome.LockLost one.lock one.reason) (outcome.LockLost other.lock other.reason) told

  -- where the version and the body are the same
  abbrev read_as : Answer
  read_as = record like { version = one.version; body = one.body }

  was_read_as : (purpose : Goal) → IsSameTurn (was_read session purpose one) (was_read session purpose read_as)
  was_read_as goal.Start = same (was_read session goal.Start one)
  was_read_as goal.Read = same (was_read session goal.Read one)
  was_read_as goal.Save = same (was_read session goal.Save one)
  was_read_as goal.Refresh = same (was_read session goal.Refresh one)
  was_read_as goal.Close = same (was_read session goal.Close one)

  was_read_same : one.version ≡ other.version → one.body ≡ other.body → IsSameTurn (was_read session purpose one) (was_read session purpose like)
  was_read_same versions bodies =
      let equal : read_as ≡ like =
      λ i. record { status = one.status; lock = other.lock; reason = other.reason; version = versions i; kind = other.kind; body = bodies i } in
      subst (λ (a : Answer). IsSameTurn (was_read session purpose one) (was_read session purpose a)) equal (was_read_as purpose)

  goes_on_same : (purpose : Goal) → IsSameTurn (continues_with session purpose one) (continues_with session purpose like)
  goes_on_same goal.Start = handed_back session (input.Reply one) (input.Reply like)
  goes_on_same goal.Read = handed_back session (input.Reply one) (input.Reply like)
  goes_on_same goal.Save = same (continues_with session goal.Save one)
  goes_on_same goal.Refresh = same (continues_with session goal.Refresh one)
  goes_on_same goal.Close = same (continues_with session goal.Close one)

  continues_same : IsSameTurn (continues session purpose one) (continues session purpose like)
  continues_same =
      both (has_next session.number) (continues_with session purpose one) (ignores session (input.Reply one)) (continues_with session purpose like) (ignores session (input.Reply like))
      (λ e. goes_on_same purpose) (λ e. handed_back session (input.Reply one) (input.Reply like))

  abbrev next : List ℕ
  next = lock_id nonce (session.number + 1)

  relocked_same : conflicts ≡ true → IsSameTurn (cond (has_next session.number && names one.lock next) (continues session purpose one) (loses session one))
      (cond (has_next session.number && names like.lock next) (continues session purpose like) (loses session like))
  relocked_same e =
      let named : names one.lock next ≡ names like.lock next = ap (λ (l : LockField). names l next) (lock (eqb-true one.status 409 e)) in
      subst (λ (b : Bool). IsSameTurn (cond (has_next session.number && names one.lock next) (continues session purpose one) (loses session one))
      (cond (has_next session.number && b) (continues session purpose like) (loses session like))) named
      (both (has_next session.number && names one.lock next) (continues session purpose one) (loses session one) (continues session purpose like) (loses session like)
      (λ f. continues_same) (λ f. loses_same e))

  unlocked_same : conflicts ≡ true → IsSameTurn (cond (says_spent one.reason) (ends session outcome.Closed) (loses session one))
      (cond (says_spent like.reason) (ends session outcome.Closed) (loses session like))
  unlocked_same e =
      subst (λ (r : Option Reason). IsSameTurn (cond (says_spent one.reason) (ends session outcome.Closed) (loses session one))
      (cond (says_spent r) (ends session outcome.Closed) (loses session like))) (reason (eqb-true one.status 409 e))
      (both (says_spent one.reason) (ends session outcome.Closed) (loses session one) (ends session outcome.Closed) (loses session like)
      (λ f. same (ends session outcome.Closed)) (λ f. loses_same e))

  conflict_same : conflicts ≡ true → IsSameTurn (tells session (outcome.Conflict one.lock one.reason)) (tells session (outcome.Conflict other.lock other.reason))
  conflict_same e =
      let conflict = eqb-true one.status 409 e in
      let locks = lock conflict in
      let reasons = reason conflict in
      let told : outcome.Conflict one.lock one.reason ≡ outcome.Conflict other.lock other.reason = λ i. outcome.Conflict (locks i) (reasons i) in
      tells_same (outcome.Conflict one.lock one.reason) (outcome.Conflict other.lock other.reason) told

  -- what comes where the operation wasn't done
  or_refused : (x x' : Turn) → (conflicts ≡ true → IsSameTurn x x') → (y : Turn) → IsSameTurn (cond conflicts x y) (cond conflicts x' y)
  or_refused x x' h y = both conflicts x y x' y h (λ e. same y)

  by_op : (asked : SessionOp) → (one.status ≡ 200 → IsSameText asked one other) → IsSameTurn (reply_to nonce session purpose asked one) (reply_to nonce session purpose asked like)
  by_op op.Info text = same (reply_to nonce session purpose op.Info one)
  by_op op.TakeLock text =
      let lost = tells session (outcome.Conflict one.lock one.reason) in
      let lost' = tells session (outcome.Conflict other.lock other.reason) in
      both (one.status == 200) (sends session purpose op.Get) (cond conflicts lost (refused session one)) (sends session purpose op.Get) (cond conflicts lost' (refused session one))
      (λ e. same (sends session purpose op.Get)) (λ e. or_refused lost lost' conflict_same (refused session one))
  by_op op.Get text =
      both (one.status == 200) (was_read session purpose one) (refused session one) (was_read session purpose like) (refused session one)
      (λ e. let t = text (eqb-true one.status 200 e) in was_read_same t.0 t.1) (λ e. same (refused session one))
  by_op (op.Put number) text =
      let rest = cond (one.status == 413) (tells session outcome.TooLarge) (refused session one) in
      both (one.status == 200) (tells session (outcome.Saved one.version)) (cond conflicts (loses session one) rest)
      (tells session (outcome.Saved other.version)) (cond conflicts (loses session like) rest)
      (λ e. tells_same (outcome.Saved one.version) (outcome.Saved other.version) (ap (λ (v : Option ℕ). outcome.Saved v) (text (eqb-true one.status 200 e))))
      (λ e. or_refused (loses session one) (loses session like) loses_same rest)
  by_op (op.Relock number) text =
      let lost = cond (has_next session.number && names one.lock next) (continues session purpose one) (loses session one) in
      let lost' = cond (has_next session.number && names like.lock next) (continues session purpose like) (loses session like) in
      both (one.status == 200) (continues session purpose one) (cond conflicts lost (refused session one)) (continues session purpose like) (cond conflicts lost' (refused session one))
      (λ e. continues_same) (λ e. or_refused lost lost' relocked_same (refused session one))
  by_op (op.Refresh number) text =
      let done = tells session outcome.Refreshed in
      both (one.status == 200) done (cond conflicts (loses session one) (refused session one)) done (cond conflicts (loses session like) (refused session one))
      (λ e. same done) (λ e. or_refused (loses session one) (loses session like) loses_same (refused session one))
  by_op (op.Unlock number) text =
      let done = ends session outcome.Closed in
      let lost = cond (says_spent one.reason) done (loses session one) in
      let lost' = cond (says_spent like.reason) done (loses session like) in
      both (one.status == 200) done (cond conflicts lost (refused session one)) done (cond conflicts lost' (refused session one))
      (λ e. same done) (λ e. or_refused lost lost' unlocked_same (refused session one))

looks_same : (nonce : List ℕ) (session : State) (purpose : Goal) (asked : SessionOp) (one other : Answer) → LooksSame asked one other
    → (one.status ≡ 409 → one.lock ≡ other.lock) → IsSameTurn (reply_to nonce session purpose asked one) (reply_to nonce session purpose asked other)
looks_same nonce session purpose asked one other h lock =
    subst (λ (n : ℕ). IsSameTurn (reply_to nonce session purpose asked one) (reply_to nonce session purpose asked (record other { status = n }))) h.status
    (by_op nonce session purpose one other lock h.reason asked h.text)

-- where the lock field is the very same too
pub answered_same : (nonce : List ℕ) (session : State) (waiting : Waiting) (one other : Answer) → session.waits ≡ Some waiting → LooksSame waiting.op one other
    → (one.status ≡ 409 → one.lock ≡ other.lock) → IsSameTurn (stepped nonce session (input.Reply one)) (stepped nonce session (input.Reply other))
answered_same nonce session waiting one other waits h lock =
    subst (λ (w : Option Waiting). IsSameTurn (answered_while nonce w session one) (answered_while nonce w session other)) (sym waits)
    (looks_same nonce session waiting.goal waiting.op one other h lock)

-- where nothing waits, an answer is handed back
pub unasked_same : (nonce : List ℕ) (session : State) (one other : Answer) → session.waits ≡ None
    → IsSameTurn (stepped nonce session (input.Reply one)) (stepped nonce session (input.Reply other))
unasked_same nonce session one other waits =
    subst (λ (w : Option Waiting). IsSameTurn (answered_while nonce w session one) (answered_while nonce w session other)) (sym waits)
    (handed_back session (input.Reply one) (input.Reply other))

-- a fault

first_false : (test : Bool) (x y x' y' : Turn) → test ≡ false → IsSameTurn y y' → IsSameTurn (cond test x y) (cond test x' y')
first_false true x y x' y' e h = absurd (Rattle.std.proofs.lemmas.Bool.true≢false e)
first_false false x y x' y' e h = h

module _ (nonce : List ℕ) (session : State) (purpose : Goal) (reply : Answer) (ok : (reply.status == 200) ≡ false) (conflict : (reply.status == 409) ≡ false) where
  abbrev bare_told : Answer
  bare_told = ruling_told (bare reply.status)

  fault_same : (asked : SessionOp) → IsSameTurn (reply_to nonce session purpose asked reply) (reply_to nonce session purpose asked bare_told)
  fault_same op.Info = same (reply_to nonce session purpose op.Info reply)
  fault_same op.TakeLock =
      first_false (reply.status == 200) (sends session purpose op.Get) (cond (reply.status == 409) (tells session (outcome.Conflict reply.lock reply.reason)) (refused session reply))
      (sends session purpose op.Get) (cond (reply.status == 409) (tells session (outcome.Conflict bare_told.lock bare_told.reason)) (refused session bare_told)) ok
      (first_false (reply.status == 409) (tells session (outcome.Conflict reply.lock reply.reason)) (refused session reply)
      (tells session (outcome.Conflict bare_told.lock bare_told.reason)) (refused session bare_told) conflict (same (refused session reply)))
  fault_same op.Get =
      first_false (reply.status == 200) (was_read session purpose reply) (refused session reply) (was_read session purpose bare_told) (refused session bare_told) ok
      (same (refused session reply))
  fault_same (op.Put number) =
      let large = cond (reply.status == 413) (tells session outcome.TooLarge) (refused session reply) in
      first_false (reply.status == 200) (tells session (outcome.Saved reply.version)) (cond (reply.status == 409) (loses session reply) large)
      (tells session (outcome.Saved bare_told.version)) (cond (reply.status == 409) (loses session bare_told) large) ok
      (first_false (reply.status == 409) (loses session reply) large (loses session bare_told) large conflict (same large))
  fault_same (op.Relock number) =
      let next = lock_id nonce (session.number + 1) in
      let one = cond (has_next session.number && names reply.lock next) (continues session purpose reply) (loses session reply) in
      let other = cond (has_next session.number && names bare_told.lock next) (continues session purpose bare_told) (loses session bare_told) in
      first_false (reply.status == 200) (continues session purpose reply) (cond (reply.status == 409) one (refused session reply))
      (continues session purpose bare_told) (cond (reply.status == 409) other (refused session bare_told)) ok
      (first_false (reply.status == 409) one (refused session reply) other (refused session bare_told) conflict (same (refused session reply)))
  fault_same (op.Refresh number) =
      first_false (reply.status == 200) (tells session outcome.Refreshed) (cond (reply.status == 409) (loses session reply) (refused session reply))
      (tells session outcome.Refreshed) (cond (reply.status == 409) (loses session bare_told) (refused session bare_told)) ok
      (first_false (reply.status == 409) (loses session reply) (refused session reply) (loses session bare_told) (refused session bare_told) conflict (same (refused session reply)))
  fault_same (op.Unlock number) =
      let done = ends session outcome.Closed in
      let one = cond (says_spent reply.reason) done (loses session reply) in
      let other = cond (says_spent bare_told.reason) done (loses session bare_told) in
      first_false (reply.status == 200) done (cond (reply.status == 409) one (refused session reply)) done (cond (reply.status == 409) other (refused session bare_told)) ok
      (first_false (reply.status == 409) one (refused session reply) other (refused session bare_told) conflict (same (refused session reply)))

-- a session does about an answer that is neither 200 nor 409 what it does about its status
pub faulted_same : (nonce : List ℕ) (session : State) (waiting : Waiting) (reply : Answer) → session.waits ≡ Some waiting → reply.status ≢ 200 → reply.status ≢ 409
    → IsSameTurn (stepped nonce session (input.Reply reply)) (stepped nonce session (input.Reply (ruling_told (bare reply.status))))
faulted_same nonce session waiting reply waits ok conflict =
    subst (λ (w : Option Waiting). IsSameTurn (answered_while nonce w session reply) (answered_while nonce w session (ruling_told (bare reply.status)))) (sym waits)
    (fault_same nonce session waiting.goal reply (ne_eqb reply.status 200 ok) (ne_eqb reply.status 409 conflict) waiting.op)
