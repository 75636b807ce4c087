-- Files whose locks are not over stay.
use Rattle.std.proofs.Common.{◌≡◌, ◌≢◌, inl, inr, ℕ, true, List, Option, None, Some, if◌then◌else◌, refl, sym, ap, ◌∙◌}
use Rattle.std.specs.Prelude.{slice_get, option_map}
use Rattle.std.proofs.lemmas.Bool.{cases_eq}
use Rattle.std.proofs.lemmas.Option.{slice_get-map}
use Rattle.wopi_model.specs.Settle.{expired, is_over}
use Rattle.wopi_model.specs.declared.locks.Lock.{Lock}
use Rattle.wopi_model.specs.declared.locks.Spent.{Spent}
use Rattle.expiry_queue.specs.Chains.{Chains, Becomes}
use Rattle.kept_locks.specs.declared.places.Held.{Held}
use Rattle.kept_locks.specs.declared.places.Place.{Place}
use Rattle.kept_locks.specs.Locks.{OnlyDue, Standing}
use Rattle.kept_locks.specs.Ties.{OwnChains, Puts, chains_in, lock_of, standing_of, standings}
use Rattle.kept_locks.proofs.Falling.{beside_put}
use Rattle.kept_locks.proofs.Setting.{shown}
use Rattle.kept_locks.proofs.Tying.{shows_same}

some_none : (one : Spent) → Some one ≢ None
some_none one e = absurd (cc (e))

ended_is : (lock : Lock) (now : ℕ) → is_over lock now ≡ true → expired (Some lock) now ≢ None
ended_is lock now over none =
    let one : Spent = record { id = lock.id; until = lock.until } in
    let is : expired (Some lock) now ≡ Some one = ap (λ b. if b then Some one else None) over in
    some_none one (sym is ∙ none)

-- one file's lock ended, and it was over
pub due_put : (places places' : List Place) (old new : Chains) (i : ℕ) (was place : Place) (held : Held) (spent : List Spent) (now : ℕ) → OwnChains places old → slice_get places i ≡ Some was → was.held ≡ Some held
    → is_over held.lock now ≡ true → Becomes old.cells new.cells was.trail.chain place.trail.chain spent → Puts places places' i place
    → OnlyDue now (standings old places) (standings new places') (chains_in old places) (chains_in new places')
due_put places places' old new i was place held spent now own at holds over becomes puts = λ n file found none. elim (cases_eq n i) [
  | inl same ↦
      let this : standing_of old was ≡ file = cc (shown old places i was at, found, same) in
      let lock : Some held.lock ≡ file.lock = sym (ap (option_map lock_of) holds) ∙ ap (λ (s : Standing). s.lock) this in
      absurd (ended_is held.lock now over (ap (λ (l : Option Lock). expired l now) lock ∙ none))
  | inr differs ↦ (
    slice_get-map (standing_of new) places' n ∙ ap (option_map (standing_of new)) (puts.others n differs) ∙ beside n differs (slice_get places n) refl ∙ sym (slice_get-map (standing_of old) places n) ∙ found,
    beside_put places places' old new i was place spent own at becomes puts n differs,
  )
]
  where
    beside : (n : ℕ) → n ≢ i → (found : Option Place) → slice_get places n ≡ found → option_map (standing_of new) found ≡ option_map (standing_of old) found
    beside n differs None e = refl
    beside n differs (Some p) e = ap Some (shows_same places old new i was place.trail.chain spent own at becomes n p differs e)

pub due_next : (now : ℕ) (first second third : List Standing) (one two three : List (List Spent)) → OnlyDue now first second one two → OnlyDue now second third two three → OnlyDue now first third one three
due_next now first second third one two three a b = λ n file found none.
    let (here, same) = a n file found none in
    let (there, also) = b n file here none in
    (there, also ∙ same)
