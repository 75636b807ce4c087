-- What can stand behind the lines of a schedule.
use Rattle.std.proofs.Common.{◌≡◌, ◌↔◌, ℕ, zero, suc, Bool, true, false, not, IsTrue, ◌||◌, ◌⊎◌, inl, inr, cond, List, [], ◌∷◌, ◌++◌, Option, None, Some, length, map, take, drop, refl, sym, ap, ◌∙◌, subst}
use Rattle.std.specs.Str.{bytes_eq}
use Rattle.std.proofs.lemmas.List.{take-append-drop, take_at, append_cancel_left}
use Rattle.std.proofs.lemmas.Slice.Eq.{bytes_eq-Decides}
use Rattle.wopi_model.specs.Safety.{Presents}
use Rattle.wopi_headers.specs.declared.ask.Op.{Op}
use Rattle.wopi_headers.specs.declared.ask.Op.TheVariants as op
use Rattle.save_session.specs.LockIds.{BeginsWith}
use Rattle.wopi_acts.specs.Acts.{act_with}
use Rattle.schedule_text.specs.declared.schedule.SessionLine.{SessionLine}
use Rattle.schedule_text.specs.Readings.{BeginsWithDash, HasNonce, IsOfSession, is_among}
use Rattle.schedule_text.specs.Schedules.{IsOfNobody}

-- a nonce that some session has
abbrev pub nonces_of : List SessionLine → List (List ℕ)
nonces_of sessions = map (λ session. session.nonce) sessions

or_true : (b : Bool) → (b || true) ≡ true
or_true true = refl
or_true false = refl

has_among : (sessions : List SessionLine) (nonce : List ℕ) → HasNonce sessions nonce → is_among (nonces_of sessions) nonce ≡ true
has_among [] nonce (s, session, at, e) = absurd (cc at)
has_among (first ∷ sessions) nonce (zero, session, at, e) =
    let same : first ≡ session = cc at in
    let is : first.nonce ≡ nonce = ap (λ (one : SessionLine). one.nonce) same ∙ e in
    ap (λ (b : Bool). b || is_among (nonces_of sessions) nonce) ((bytes_eq-Decides first.nonce nonce).1 is)
has_among (first ∷ sessions) nonce (suc s, session, at, e) =
    ap (λ (b : Bool). bytes_eq first.nonce nonce || b) (has_among sessions nonce (s, session, at, e)) ∙ or_true (bytes_eq first.nonce nonce)

among_has : (sessions : List SessionLine) (nonce : List ℕ) → is_among (nonces_of sessions) nonce ≡ true → HasNonce sessions nonce
among_has [] nonce h = absurd (cc h)
among_has (first ∷ sessions) nonce h = go (bytes_eq first.nonce nonce) refl (among_has sessions nonce) where
  go : (b : Bool) → bytes_eq first.nonce nonce ≡ b → (is_among (nonces_of sessions) nonce ≡ true → HasNonce sessions nonce) → HasNonce (first ∷ sessions) nonce
  go true here _ = (0, first, refl, (bytes_eq-Decides first.nonce nonce).0 here)
  go false other later =
      let rest : is_among (nonces_of sessions) nonce ≡ true = sym (ap (λ (b : Bool). b || is_among (nonces_of sessions) nonce) other) ∙ h in
      let (s, session, at, e) = later rest in (suc s, session, at, e)

pub none_among : (sessions : List SessionLine) (nonce : List ℕ) → (HasNonce sessions nonce → ⊥) → is_among (nonces_of sessions) nonce ≡ false
none_among sessions nonce never = go (is_among (nonces_of sessions) nonce) refl where
  go : (b : Bool) → is_among (nonces_of sessions) nonce ≡ b → is_among (nonces_of sessions) nonce ≡ false
  go true among = absurd (never (among_has sessions nonce among))
  go false among = among

pub among_none : (sessions : List SessionLine) (nonce : List ℕ) → is_among (nonces_of sessions) nonce ≡ false → HasNonce sessions nonce → ⊥
among_none sessions nonce none has = absurd (cc (none, has_among sessions nonce has))

-- an id that begins with a nonce
pub behind_nonce : (id nonce rest : List ℕ) → bytes_eq (take (length nonce) id) nonce ≡ true → rest ≡ drop (length nonce) id → id ≡ nonce ++ rest
behind_nonce id nonce rest test is =
    sym (take-append-drop (length nonce) id) ∙ ap (λ (l : List ℕ). l ++ drop (length nonce) id) ((bytes_eq-Decides (take (length nonce) id) nonce).0 test)
    ∙ ap (λ (l : List ℕ). nonce ++ l) (sym is)

pub begins_behind : (id nonce rest : List ℕ) → id ≡ nonce ++ rest → BeginsWithDash rest ↔ BeginsWith nonce id
begins_behind id nonce rest is = (
  λ dash. (dash.0, is ∙ ap (λ (l : List ℕ). nonce ++ l) dash.1),
  λ begins. (begins.0, append_cancel_left nonce rest (45 ∷ begins.0) (sym is ∙ begins.1)),
)

pub not_begun : (id nonce : List ℕ) → bytes_eq (take (length nonce) id) nonce ≡ false → BeginsWith nonce id → ⊥
not_begun id nonce test begins =
    let same : take (length nonce) id ≡ nonce = ap (take (length nonce)) begins.1 ∙ take_at nonce (45 ∷ begins.0) (length nonce) refl in
    let yes : bytes_eq (take (length nonce) id) nonce ≡ true = (bytes_eq-Decides (take (length nonce) id) nonce).1 same in
    absurd (cc (test, yes))

-- ---- ids that are presented

abbrev PresentsJust : List ℕ → Op → List ℕ → Type 0
PresentsJust body o id = (given : List ℕ) → Presents (act_with body o) given ↔ (id ≡ given)

pub lock_presents : (body id : List ℕ) (o : Op) → o ≡ op.Lock id → PresentsJust body o id
lock_presents body id o e = subst (λ (p : Op). PresentsJust body p id) (sym e) (λ given. (λ h. h, λ h. h))

pub refresh_presents : (body id : List ℕ) (o : Op) → o ≡ op.Refresh id → PresentsJust body o id
refresh_presents body id o e = subst (λ (p : Op). PresentsJust body p id) (sym e) (λ given. (λ h. h, λ h. h))

pub unlock_presents : (body id : List ℕ) (o : Op) → o ≡ op.Unlock id → PresentsJust body o id
unlock_presents body id o e = subst (λ (p : Op). PresentsJust body p id) (sym e) (λ given. (λ h. h, λ h. h))

is_not : (b : Bool) → IsTrue b → IsTrue (not b) → ⊥
is_not true h k = cc k
is_not false h k = cc h

truth : (b : Bool) → (IsTrue b → ⊥) → IsTrue (not b)
truth true never = absurd (never refl)
truth false never = refl

-- one id alone is presented
pub one_nobody : (sessions : List SessionLine) (body id : List ℕ) (o : Op) (b : Bool) → PresentsJust body o id → (IsTrue b ↔ IsOfSession sessions id)
    → IsTrue (not b) ↔ IsOfNobody sessions (act_with body o)
one_nobody sessions body id o b presents test = (
  λ not_it. λ s session given at presented begins.
      is_not b (test.1 (s, session, at, subst (BeginsWith session.nonce) (sym ((presents given).0 presented)) begins)) not_it,
  λ nobody. truth b (λ yes. let (s, session, at, begins) = test.0 yes in nobody s session id at ((presents id).1 refl) begins),
)

-- two ids are presented
abbrev PresentsTwo : List ℕ → Op → List ℕ → List ℕ → Type 0
PresentsTwo body o old id = (given : List ℕ) → Presents (act_with body o) given ↔ ((old ≡ given) ⊎ (id ≡ given))

pub relock_presents : (body old id : List ℕ) (o : Op) → o ≡ op.Relock old id → PresentsTwo body o old id
relock_presents body old id o e = subst (λ (p : Op). PresentsTwo body p old id) (sym e) (λ given. (λ h. h, λ h. h))

pub two_nobody : (sessions : List SessionLine) (body old id : List ℕ) (o : Op) (a b : Bool) → PresentsTwo body o old id → (IsTrue a ↔ IsOfSession sessions old)
    → (IsTrue b ↔ IsOfSession sessions id) → a ≡ false → IsTrue (not b) ↔ IsOfNobody sessions (act_with body o)
two_nobody sessions body old id o a b presents first second none = (
  λ not_second. λ s session given at presented begins. elim ((presents given).0 presented) [
    | inl e ↦ absurd (cc (none, first.1 (s, session, at, subst (BeginsWith session.nonce) (sym e) begins)))
    | inr e ↦ is_not b (second.1 (s, session, at, subst (BeginsWith session.nonce) (sym e) begins)) not_second
  ],
  λ nobody. truth b (λ yes. let (s, session, at, begins) = second.0 yes in nobody s session id at ((presents id).1 (inr refl)) begins),
)

pub first_nobody : (sessions : List SessionLine) (body old id : List ℕ) (o : Op) (a : Bool) → PresentsTwo body o old id → (IsTrue a ↔ IsOfSession sessions old)
    → a ≡ true → IsTrue (not a) ↔ IsOfNobody sessions (act_with body o)
first_nobody sessions body old id o a presents first some = (
  λ not_first. absurd (is_not a some not_first),
  λ nobody. truth a (λ yes. let (s, session, at, begins) = first.0 yes in nobody s session old at ((presents old).1 (inl refl)) begins),
)

-- the lock of a PutFile is presented, where there is one
abbrev IsLockOfNobody : List SessionLine → Option (List ℕ) → Type 0
IsLockOfNobody sessions lock = (id : List ℕ) → lock ≡ Some id → IsOfSession sessions id → ⊥

pub some_lock : (sessions : List SessionLine) (lock : Option (List ℕ)) (id : List ℕ) (b : Bool) → lock ≡ Some id → (IsTrue b ↔ IsOfSession sessions id)
    → IsTrue (not b) ↔ IsLockOfNobody sessions lock
some_lock sessions lock id b is test = (
  λ not_it. λ other e found.
      let both : Some other ≡ Some id = sym e ∙ is in
      let same : other ≡ id = cc both in
      is_not b (test.1 (subst (IsOfSession sessions) same found)) not_it,
  λ never. truth b (λ yes. never id is (test.0 yes)),
)

put_given : (sessions : List SessionLine) (body : List ℕ) (lock : Option (List ℕ)) (b : Bool) → (IsTrue b ↔ IsLockOfNobody sessions lock)
    → IsTrue b ↔ IsOfNobody sessions (act_with body (op.Put lock))
put_given sessions body None b test = (λ yes. λ s session given at presented begins. presented, λ nobody. test.1 (λ id e found. absurd (cc e)))
put_given sessions body (Some id) b test = (
  λ yes. λ s session given at presented begins. test.0 yes id refl (s, session, at, subst (BeginsWith session.nonce) (sym presented) begins),
  λ nobody. test.1 (λ other e found.
      let same : id ≡ other = cc e in
      let (s, session, at, begins) = found in
      nobody s session other at same begins),
)

pub put_nobody : (sessions : List SessionLine) (body : List ℕ) (lock : Option (List ℕ)) (o : Op) (b : Bool) → o ≡ op.Put lock
    → (IsTrue b ↔ IsLockOfNobody sessions lock) → IsTrue b ↔ IsOfNobody sessions (act_with body o)
put_nobody sessions body lock o b is test =
    subst (λ (p : Op). IsTrue b ↔ IsOfNobody sessions (act_with body p)) (sym is) (put_given sessions body lock b test)

-- a name that was noted
pub noted_or : (a b : Bool) → cond a true b ≡ (a || b)
noted_or true b = refl
noted_or false b = refl
