-- What each step leaves: what is sent waits, for the first time or once more, and an outcome leaves nothing waiting.
use Rattle.std.proofs.Common.{◌≡◌, ℕ, ◌+◌, ◌<◌, ◌≤◌, Bool, true, false, ◌&&◌, ◌||◌, ◌==◌, nat_lt, List, Option, None, Some, IsTrue, if◌then◌else◌, refl, sym, ap, ◌∙◌, subst, arith}
use Rattle.std.specs.Bool.{⊤}
use Rattle.std.proofs.lemmas.Bool.{cond_both, ltb-true, ltb-false, lt-ltb}
use Rattle.wopi_headers.specs.declared.answer.Answer.{Answer}
use Rattle.save_session.specs.declared.input.Input.{Input}
use Rattle.save_session.specs.declared.input.Input.TheVariants as input
use Rattle.save_session.specs.declared.output.Outcome.{Outcome}
use Rattle.save_session.specs.declared.output.Outcome.TheVariants as outcome
use Rattle.save_session.specs.declared.state.Goal.{Goal}
use Rattle.save_session.specs.declared.state.Goal.TheVariants as goal
use Rattle.save_session.specs.declared.state.SessionOp.{SessionOp}
use Rattle.save_session.specs.declared.state.SessionOp.TheVariants as op
use Rattle.save_session.specs.declared.state.Waiting.{Waiting}
use Rattle.save_session.specs.declared.state.State.{State}
use Rattle.save_session.specs.declared.state.Effect.{Effect}
use Rattle.save_session.specs.declared.state.Effect.TheVariants.{Sends, Tells, Ignores}
use Rattle.save_session.specs.declared.state.Turn.{Turn}
use Rattle.save_session.specs.LockIds.{lock_id}
use Rattle.save_session.specs.Session.{stepped, sends, puts, relocks, ignores, ends, tells, unanswered_while, answered_while, reply_to, refused, continues, continues_with, was_read, has_next, names, loses, says_spent, saves, settles_then, is_new, is_free}
use Rattle.save_session.specs.Relocking.{wants_next, may_wait, waits_well, is_sound}
use Rattle.save_session.proofs.Ignoring.{stepped_leaves}

-- ---- what was tried before

-- how often the request that waits was lost, where an input says that its answer was lost once more
unfoldable pub owed : Input → Option Waiting → ℕ
owed input.NoAnswer None = 0
owed input.NoAnswer (Some w) = w.tries
owed i waits = 0

-- the operation waits, with this number of tries
pub IsTry : SessionOp → ℕ → ℕ → Option Waiting → Type 0
IsTry x tries number None = ⊥
IsTry x tries number (Some w) = (w.op ≡ x) × (w.tries ≡ tries) × IsTrue (may_wait number w.goal w.op)

-- what is sent waits after one try more than were lost; only three lost tries are told as no answer
pub Goes : ℕ → Effect → ℕ → Option Waiting → Type 0
Goes before (Sends x) number waits = IsTry x (1 + before) number waits
Goes before (Tells outcome.NoAnswer) number waits = (3 ≤ before) × (waits ≡ None)
Goes before (Tells told) number waits = waits ≡ None
Goes before (Ignores other) number waits = ⊤

abbrev pub GoesIn : ℕ → Turn → Type 0
GoesIn before turn = Goes before turn.effect turn.session.number turn.session.waits

both : (n : ℕ) (c : Bool) (x y : Turn) → GoesIn n x → GoesIn n y → GoesIn n (if c then x else y)
both n true x y p q = p
both n false x y p q = q

-- ---- a step that isn't for want of an answer

refused_goes : (s : State) (reply : Answer) → GoesIn 0 (refused s reply)
unfolding Goes
refused_goes s reply = both 0 (reply.status == 401) _ _ refl (both 0 (reply.status == 404) _ _ refl refl)

read_goes : (s : State) (g : Goal) (reply : Answer) → GoesIn 0 (was_read s g reply)
unfolding Goes
read_goes s goal.Start reply = refl
read_goes s goal.Read reply = refl
read_goes s goal.Save reply = refl
read_goes s goal.Refresh reply = refl
read_goes s goal.Close reply = refl

continues_goes : (s : State) (g : Goal) (reply : Answer) → GoesIn 0 (continues s g reply)
unfolding Goes IsTry
continues_goes s goal.Start reply = both 0 (has_next s.number) _ _ tt tt
continues_goes s goal.Read reply = both 0 (has_next s.number) _ _ tt tt
continues_goes s goal.Save reply = both 0 (has_next s.number) _ _ (refl, refl, refl) tt
continues_goes s goal.Refresh reply = both 0 (has_next s.number) _ _ (refl, refl, refl) tt
continues_goes s goal.Close reply = both 0 (has_next s.number) _ _ (refl, refl, refl) tt

reply_goes : (nonce : List ℕ) (s : State) (g : Goal) (o : SessionOp) (reply : Answer) → GoesIn 0 (reply_to nonce s g o reply)
unfolding Goes IsTry
reply_goes nonce s g op.Info reply = both 0 (reply.status == 200) _ _ (refl, refl, refl) (refused_goes s reply)
reply_goes nonce s g op.TakeLock reply = both 0 (reply.status == 200) _ _ (refl, refl, refl) (both 0 (reply.status == 409) _ _ refl (refused_goes s reply))
reply_goes nonce s g op.Get reply = both 0 (reply.status == 200) _ _ (read_goes s g reply) (refused_goes s reply)
reply_goes nonce s g (op.Put number) reply =
    both 0 (reply.status == 200) _ _ refl (both 0 (reply.status == 409) _ _ refl (both 0 (reply.status == 413) _ _ refl (refused_goes s reply)))
reply_goes nonce s g (op.Relock number) reply =
    both 0 (reply.status == 200) _ _ (continues_goes s g reply)
    (both 0 (reply.status == 409) _ _
    (both 0 (has_next s.number && names reply.lock (lock_id nonce (s.number + 1))) (continues s g reply) (loses s reply) (continues_goes s g reply) refl)
    (refused_goes s reply))
reply_goes nonce s g (op.Refresh number) reply = both 0 (reply.status == 200) _ _ refl (both 0 (reply.status == 409) _ _ refl (refused_goes s reply))
reply_goes nonce s g (op.Unlock number) reply =
    both 0 (reply.status == 200) _ _ refl (both 0 (reply.status == 409) _ _ (both 0 (says_spent reply.reason) _ _ refl refl) (refused_goes s reply))

answered_goes : (nonce : List ℕ) (waits : Option Waiting) (s : State) (reply : Answer) → GoesIn 0 (answered_while nonce waits s reply)
unfolding Goes
answered_goes nonce None s reply = tt
answered_goes nonce (Some w) s reply = reply_goes nonce s w.goal w.op reply

-- a relock where there is a next number
relocks_goes : (s : State) (g : Goal) (body : Option (List ℕ)) (i : Input) → wants_next g ≡ true → GoesIn 0 (if has_next s.number then relocks s g body else ignores s i)
unfolding Goes IsTry
relocks_goes s g body i wants =
    cond_both (has_next s.number) (relocks s g body) (ignores s i) (GoesIn 0) (λ e. (refl, refl, ap (λ b. b && has_next s.number) wants ∙ e)) (λ e. tt)

saves_goes : (s : State) (contents : List ℕ) → GoesIn 0 (saves s contents)
unfolding Goes IsTry
saves_goes s contents =
    both 0 (s.used || s.relocking) (if has_next s.number then relocks s goal.Save (Some contents) else ignores s (input.Save contents)) (puts s (Some contents))
    (relocks_goes s goal.Save (Some contents) (input.Save contents) refl) (refl, refl, refl)

settles_goes : (s : State) (g : Goal) (o : SessionOp) (i : Input) → wants_next g ≡ true → IsTrue (may_wait s.number g o) → GoesIn 0 (settles_then s g o i)
unfolding Goes IsTry
settles_goes s g o i wants may =
    both 0 s.relocking (if has_next s.number then relocks s g s.body else ignores s i) (sends s g o) (relocks_goes s g s.body i wants) (refl, refl, may)

-- ---- a step for want of an answer

again_goes : (s : State) (w : Waiting) (c : Bool) → c ≡ nat_lt w.tries 3 → IsTrue (may_wait s.number w.goal w.op)
    → GoesIn w.tries (if c then record { session = record s { waits = Some (record w { tries = w.tries + 1 }) }; effect = Sends w.op } else tells s outcome.NoAnswer)
unfolding Goes IsTry
again_goes s w true e may = (refl, omega arith, may)
again_goes s w false e may = (ltb-false w.tries 3 (sym e), refl)

lost_goes : (waits : Option Waiting) (s : State) → IsTrue (waits_well s.number waits) → GoesIn (owed input.NoAnswer waits) (unanswered_while waits s)
unfolding Goes owed
lost_goes None s sound = tt
lost_goes (Some w) s sound = again_goes s w (nat_lt w.tries 3) refl sound

-- ---- every step

pub step_goes : (nonce : List ℕ) (s : State) (i : Input) → IsTrue (is_sound s) → GoesIn (owed i s.waits) (stepped nonce s i)
unfolding Goes IsTry owed
step_goes nonce s input.Start sound = both 0 (is_new s) _ _ (refl, refl, refl) tt
step_goes nonce s input.Read sound = both 0 (is_free s) _ _ (refl, refl, refl) tt
step_goes nonce s (input.Save contents) sound = both 0 (is_free s) (saves s contents) _ (saves_goes s contents) tt
step_goes nonce s input.Refresh sound =
    both 0 (is_free s) (settles_then s goal.Refresh (op.Refresh s.number) input.Refresh) _ (settles_goes s goal.Refresh (op.Refresh s.number) input.Refresh refl refl) tt
step_goes nonce s input.Close sound =
    both 0 (is_free s) (settles_then s goal.Close (op.Unlock s.number) input.Close) _ (settles_goes s goal.Close (op.Unlock s.number) input.Close refl refl) tt
step_goes nonce s (input.Reply reply) sound = answered_goes nonce s.waits s reply
step_goes nonce s input.NoAnswer sound = lost_goes s.waits s sound

-- what is sent waits
abbrev pub IsSentBy : SessionOp → ℕ → State → Type 0
IsSentBy x before t = (w : Waiting) × (t.waits ≡ Some w) × (w.op ≡ x) × (w.tries ≡ 1 + before)

sent_of : (x : SessionOp) (tries number : ℕ) (waits : Option Waiting) → IsTry x tries number waits → (w : Waiting) × (waits ≡ Some w) × (w.op ≡ x) × (w.tries ≡ tries)
unfolding IsTry
sent_of x tries number None h = absurd h
sent_of x tries number (Some w) h = (w, refl, h.0, h.1)

try_of : (before number : ℕ) (waits : Option Waiting) (e : Effect) (x : SessionOp) → Goes before e number waits → e ≡ Sends x → IsTry x (1 + before) number waits
unfolding Goes
try_of before number waits e x goes is = subst (λ y. Goes before y number waits) is goes

pub sent_waits : (nonce : List ℕ) (s : State) (i : Input) (x : SessionOp) → IsTrue (is_sound s) → (stepped nonce s i).effect ≡ Sends x
    → IsSentBy x (owed i s.waits) (stepped nonce s i).session
sent_waits nonce s i x sound is =
    let turn = stepped nonce s i in
    sent_of x (1 + owed i s.waits) turn.session.number turn.session.waits
    (try_of (owed i s.waits) turn.session.number turn.session.waits turn.effect x (step_goes nonce s i sound) is)

-- only three lost tries are told as no answer
pub no_answer_owes : (nonce : List ℕ) (s : State) (i : Input) → IsTrue (is_sound s) → (stepped nonce s i).effect ≡ Tells outcome.NoAnswer → 3 ≤ owed i s.waits
unfolding Goes
no_answer_owes nonce s i sound is =
    let turn = stepped nonce s i in
    (subst (λ y. Goes (owed i s.waits) y turn.session.number turn.session.waits) is (step_goes nonce s i sound)).0

third_of : (s : State) (waits : Option Waiting) → 3 ≤ owed input.NoAnswer waits → (unanswered_while waits s).effect ≡ Tells outcome.NoAnswer
unfolding owed
third_of s None h = absurd (omega (arith, h))
third_of s (Some w) h =
    cond_both (nat_lt w.tries 3) (record { session = record s { waits = Some (record w { tries = w.tries + 1 }) }; effect = Sends w.op }) (tells s outcome.NoAnswer)
    (λ turn. turn.effect ≡ Tells outcome.NoAnswer) (λ e. let few = ltb-true w.tries 3 e in absurd (omega (arith, h, few))) (λ e. refl)

-- and three are told so
pub owed_is_told : (nonce : List ℕ) (s : State) (i : Input) → 3 ≤ owed i s.waits → (stepped nonce s i).effect ≡ Tells outcome.NoAnswer
unfolding owed
owed_is_told nonce s input.Start h = absurd (omega (arith, h))
owed_is_told nonce s input.Read h = absurd (omega (arith, h))
owed_is_told nonce s (input.Save contents) h = absurd (omega (arith, h))
owed_is_told nonce s input.Refresh h = absurd (omega (arith, h))
owed_is_told nonce s input.Close h = absurd (omega (arith, h))
owed_is_told nonce s (input.Reply reply) h = absurd (omega (arith, h))
owed_is_told nonce s input.NoAnswer h = third_of s s.waits h

-- a request that was lost is sent again, and what it carries stays
resent_of : (s : State) (w : Waiting) (x : SessionOp) → (unanswered_while (Some w) s).effect ≡ Sends x
    → (x ≡ w.op) × (w.tries < 3) × ((unanswered_while (Some w) s).session.body ≡ s.body)
resent_of s w x =
    cond_both (nat_lt w.tries 3) (record { session = record s { waits = Some (record w { tries = w.tries + 1 }) }; effect = Sends w.op }) (tells s outcome.NoAnswer)
    (λ turn. turn.effect ≡ Sends x → (x ≡ w.op) × (w.tries < 3) × (turn.session.body ≡ s.body))
    (λ e is. let same : w.op ≡ x = cc is in (sym same, ltb-true w.tries 3 e, refl)) (λ e is. absurd (cc is))

pub resends : (nonce : List ℕ) (s : State) (w : Waiting) (x : SessionOp) → s.waits ≡ Some w → (stepped nonce s input.NoAnswer).effect ≡ Sends x
    → (x ≡ w.op) × (w.tries < 3) × ((stepped nonce s input.NoAnswer).session.body ≡ s.body)
resends nonce s w x waits =
    subst (λ o. (unanswered_while o s).effect ≡ Sends x → (x ≡ w.op) × (w.tries < 3) × ((unanswered_while o s).session.body ≡ s.body)) (sym waits) (resent_of s w x)

-- where an outcome is told nothing waits
told_none : (before number : ℕ) (told : Outcome) (waits : Option Waiting) → Goes before (Tells told) number waits → waits ≡ None
unfolding Goes
told_none before number outcome.NoAnswer waits h = h.1
told_none before number (outcome.Opened version) waits h = h
told_none before number (outcome.Read version) waits h = h
told_none before number (outcome.Saved version) waits h = h
told_none before number outcome.Refreshed waits h = h
told_none before number outcome.Closed waits h = h
told_none before number (outcome.Conflict lock reason) waits h = h
told_none before number (outcome.LockLost lock reason) waits h = h
told_none before number outcome.TooLarge waits h = h
told_none before number (outcome.HostFault status) waits h = h
told_none before number outcome.TokenDead waits h = h
told_none before number outcome.Gone waits h = h

pub told_settles : (nonce : List ℕ) (s : State) (i : Input) (told : Outcome) → IsTrue (is_sound s) → (stepped nonce s i).effect ≡ Tells told → (stepped nonce s i).session.waits ≡ None
told_settles nonce s i told sound is =
    let turn = stepped nonce s i in
    told_none (owed i s.waits) turn.session.number told turn.session.waits
    (subst (λ y. Goes (owed i s.waits) y turn.session.number turn.session.waits) is (step_goes nonce s i sound))

-- ---- a session stays sound

sound_of : (before number : ℕ) (e : Effect) (waits : Option Waiting) → ((other : Input) → e ≡ Ignores other → IsTrue (waits_well number waits)) → Goes before e number waits → IsTrue (waits_well number waits)
unfolding Goes IsTry
sound_of before number (Sends x) None same h = absurd h
sound_of before number (Sends x) (Some w) same h = h.2
sound_of before number (Tells told) waits same h = ap (waits_well number) (told_none before number told waits h)
sound_of before number (Ignores other) waits same h = same other refl

pub stays_sound : (nonce : List ℕ) (s : State) (i : Input) → IsTrue (is_sound s) → IsTrue (is_sound (stepped nonce s i).session)
stays_sound nonce s i sound =
    let turn = stepped nonce s i in
    sound_of (owed i s.waits) turn.session.number turn.effect turn.session.waits
    (λ other is. subst (λ t. IsTrue (is_sound t)) (sym (stepped_leaves s nonce i other is).1) sound) (step_goes nonce s i sound)

pub kept_sound : (nonce : List ℕ) (s t : State) (i : Input) (turn : Turn) → t ≡ s → turn ≡ stepped nonce t i → IsTrue (is_sound s) → IsTrue (is_sound turn.session)
kept_sound nonce s t i turn same is sound =
    subst (λ u. IsTrue (is_sound u.session)) (sym is) (stays_sound nonce t i (subst (λ u. IsTrue (is_sound u)) (sym same) sound))

-- ---- an answer that is waited for is heard

abbrev IsHeard : Turn → Type 0
IsHeard turn = (other : Input) → turn.effect ≡ Ignores other → ⊥

either : (c : Bool) (x y : Turn) → IsHeard x → IsHeard y → IsHeard (if c then x else y)
either true x y p q = p
either false x y p q = q

refused_heard : (s : State) (reply : Answer) → IsHeard (refused s reply)
refused_heard s reply = either (reply.status == 401) _ _ (λ other e. cc e) (either (reply.status == 404) _ _ (λ other e. cc e) (λ other e. cc e))

read_heard : (s : State) (g : Goal) (reply : Answer) → IsHeard (was_read s g reply)
read_heard s goal.Start reply other e = cc e
read_heard s goal.Read reply other e = cc e
read_heard s goal.Save reply other e = cc e
read_heard s goal.Refresh reply other e = cc e
read_heard s goal.Close reply other e = cc e

goes_on : (s : State) (g : Goal) (reply : Answer) (c : Bool) → IsTrue (wants_next g && c) → IsHeard (if c then continues_with s g reply else ignores s (input.Reply reply))
goes_on s goal.Start reply c may = absurd (cc may)
goes_on s goal.Read reply c may = absurd (cc may)
goes_on s goal.Save reply true may = λ other e. cc e
goes_on s goal.Refresh reply true may = λ other e. cc e
goes_on s goal.Close reply true may = λ other e. cc e
goes_on s goal.Save reply false may = absurd (cc may)
goes_on s goal.Refresh reply false may = absurd (cc may)
goes_on s goal.Close reply false may = absurd (cc may)

reply_heard : (nonce : List ℕ) (s : State) (g : Goal) (o : SessionOp) (reply : Answer) → IsTrue (may_wait s.number g o) → IsHeard (reply_to nonce s g o reply)
reply_heard nonce s g op.Info reply may = either (reply.status == 200) _ _ (λ other e. cc e) (refused_heard s reply)
reply_heard nonce s g op.TakeLock reply may =
    either (reply.status == 200) _ _ (λ other e. cc e) (either (reply.status == 409) _ _ (λ other e. cc e) (refused_heard s reply))
reply_heard nonce s g op.Get reply may = either (reply.status == 200) _ _ (read_heard s g reply) (refused_heard s reply)
reply_heard nonce s g (op.Put number) reply may =
    either (reply.status == 200) _ _ (λ other e. cc e)
    (either (reply.status == 409) _ _ (λ other e. cc e) (either (reply.status == 413) _ _ (λ other e. cc e) (refused_heard s reply)))
reply_heard nonce s g (op.Relock number) reply may =
    either (reply.status == 200) _ _ (goes_on s g reply (has_next s.number) may)
    (either (reply.status == 409) _ _
    (either (has_next s.number && names reply.lock (lock_id nonce (s.number + 1))) (continues s g reply) (loses s reply) (goes_on s g reply (has_next s.number) may) (λ other e. cc e))
    (refused_heard s reply))
reply_heard nonce s g (op.Refresh number) reply may =
    either (reply.status == 200) _ _ (λ other e. cc e) (either (reply.status == 409) _ _ (λ other e. cc e) (refused_heard s reply))
reply_heard nonce s g (op.Unlock number) reply may =
    either (reply.status == 200) _ _ (λ other e. cc e)
    (either (reply.status == 409) _ _ (either (says_spent reply.reason) _ _ (λ other e. cc e) (λ other e. cc e)) (refused_heard s reply))

heard_while : (nonce : List ℕ) (waits : Option Waiting) (s : State) (reply : Answer) (other : Input) → IsTrue (waits_well s.number waits)
    → (answered_while nonce waits s reply).effect ≡ Ignores other → waits ≡ None
heard_while nonce None s reply other sound e = refl
heard_while nonce (Some w) s reply other sound e = absurd (reply_heard nonce s w.goal w.op reply sound other e)

lost_while : (waits : Option Waiting) (s : State) (other : Input) → (unanswered_while waits s).effect ≡ Ignores other → waits ≡ None
lost_while None s other e = refl
lost_while (Some w) s other e =
    absurd (either (nat_lt w.tries 3) (record { session = record s { waits = Some (record w { tries = w.tries + 1 }) }; effect = Sends w.op }) (tells s outcome.NoAnswer)
    (λ one is. cc is) (λ one is. cc is) other e)

-- an answer, or that none came, is handed back only where nothing waits
pub reply_unawaited : (nonce : List ℕ) (s : State) (reply : Answer) (other : Input) → IsTrue (is_sound s) → (stepped nonce s (input.Reply reply)).effect ≡ Ignores other → s.waits ≡ None
reply_unawaited nonce s reply other sound e = heard_while nonce s.waits s reply other sound e

pub loss_unawaited : (nonce : List ℕ) (s : State) (other : Input) → (stepped nonce s input.NoAnswer).effect ≡ Ignores other → s.waits ≡ None
loss_unawaited nonce s other e = lost_while s.waits s other e
