-- An id of a session that was held stays held or is spent, for as long as the session's token lives.
use Rattle.std.proofs.Common.{◌≡◌, ℕ, ◌≤◌, List, [], ◌∷◌, ◌++◌, Some, sym, ap, subst, ◌∙◌, inl, inr}
use Rattle.wopi_model.specs.declared.locks.Lock.{Lock}
use Rattle.wopi_model.specs.Shard.{Shard}
use Rattle.wopi_world.specs.Requests.{Client}
use Rattle.wopi_world.specs.History.{Item, happens, after, Along}
use Rattle.wopi_world.specs.Safe.{IsHeldUnder}
use Rattle.wopi_world.specs.Sessions.{KeepsIds}
use Rattle.wopi_world.proofs.Held.{held_id, own_number}
use Rattle.wopi_world.proofs.Moving.{IsUnder, IsOutside, IsStaged, Moves, remains_out, taken, kept, saved, relocked, ended}
use Rattle.wopi_world.proofs.Lengthening.{after-append}
use Rattle.wopi_world.proofs.Positions.{Along-split}
use Rattle.wopi_world.proofs.Machine.{WasHeldIn}
use Rattle.wopi_world.proofs.Growing.{Ground, was_held-moves}

not_outside : (client : Client) (number : ℕ) (lock : Lock) (shard : Shard) → IsHeldUnder client number lock shard → IsOutside client shard → ⊥
not_outside client number lock shard h out = out number (ap held_id h.0 ∙ ap (λ (id : List ℕ). Some id) h.1)

same_lock : (client : Client) (number m : ℕ) (lock : Lock) (shard : Shard) → IsHeldUnder client number lock shard → (u : IsUnder client m shard) → u.lock ≡ lock
same_lock client number m lock shard h u = let both : Some u.lock ≡ Some lock = sym u.stands ∙ h.0 in cc

under_by : (client : Client) (number m : ℕ) (lock : Lock) (shard : Shard) → IsHeldUnder client number lock shard → IsUnder client m shard → IsUnder client number shard
under_by client number m lock shard h u =
    let ids = sym u.own ∙ ap (λ (l : Lock). l.id) (same_lock client number m lock shard h u) ∙ h.1 in
    subst (λ (n : ℕ). IsUnder client n shard) (own_number client m number ids) u

under-staged : (client : Client) (number : ℕ) (lock : Lock) (shard : Shard) → IsStaged client shard → IsHeldUnder client number lock shard → IsUnder client number shard
under-staged client number lock shard s h =
    elim s.stage [ inl under ↦ under_by client number under.0 lock shard h under.1 | inr out ↦ absurd (not_outside client number lock shard h out) ]

under-moves : (client : Client) (number : ℕ) (lock : Lock) (shard : Shard) (item : Item) → Moves client shard item → IsHeldUnder client number lock shard → IsUnder client number shard
under-moves client number lock shard item (remains_out b a n k) h = absurd (not_outside client number lock shard h b)
under-moves client number lock shard item (taken b g a n) h = absurd (not_outside client number lock shard h b)
under-moves client number lock shard item (kept m b a c n e) h = under_by client number m lock shard h b
under-moves client number lock shard item (saved m d b a c n e) h = under_by client number m lock shard h b
under-moves client number lock shard item (relocked m b a c n e) h = under_by client number m lock shard h b
under-moves client number lock shard item (ended m b a g k n x) h = under_by client number m lock shard h b

was_held-along : (client : Client) (number : ℕ) (shard : Shard) (items : List Item) → Along (Moves client) shard items → WasHeldIn client number shard → WasHeldIn client number (after shard items)
was_held-along client number shard [] moved h = h
was_held-along client number shard (item ∷ items) moved h =
    was_held-along client number (happens shard item) items moved.1 (was_held-moves client number shard item moved.0 h)

held_later : (client : Client) (number : ℕ) (lock : Lock) (shard : Shard) (last : List Item) → Along (Moves client) shard last → IsStaged client (after shard last) →
    IsHeldUnder client number lock shard → WasHeldIn client number (after shard last)
held_later client number lock shard [] moved s h = inl (under-staged client number lock shard s h)
held_later client number lock shard (item ∷ last) moved s h =
    was_held-along client number shard (item ∷ last) moved (inl (under-moves client number lock shard item moved.0 h))

pub keeps_ids : (client : Client) (start shard : Shard) (history : List Item) → Ground client start shard history → KeepsIds client start history
keeps_ids client start shard history g =
    let staged : IsStaged client (after start history) = subst (IsStaged client) (sym g.is_after) g.staged in
    let end = after start history in
    record {
      held = λ number lock h.
          let under = under-staged client number lock end staged h in
          subst (λ (l : Lock). client.token.expires ≤ l.until) (same_lock client number number lock end h under) under.long;
      ended = λ first last number lock e h.
          let joined : after (after start first) last ≡ end = sym (after-append start first last) ∙ ap (after start) e in
          let moved : Along (Moves client) start (first ++ last) = subst (Along (Moves client) start) (sym e) g.moved in
          let was = held_later client number lock (after start first) last (Along-split (Moves client) start first last moved) (subst (IsStaged client) (sym joined) staged) h in
          elim (subst (WasHeldIn client number) joined was) [
            | inl under ↦ inl (under.lock, (under.stands, under.own))
            | inr gone ↦ inr gone
          ];
    }
