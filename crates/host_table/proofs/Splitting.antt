-- A pass that is split in two.
use Rattle.std.proofs.Common.{◌≡◌, ℕ, ◌+◌, ◌-◌, ◌/◌, ◌≤◌, List, [], ◌∷◌, ◌++◌, length, map, Option, None, Some, refl, ap, sym, ◌∙◌, subst, arith}
use Rattle.std.proofs.lemmas.List.{length-map}
use Rattle.wopi_model.specs.Host.{Limits}
use Rattle.wopi_model.specs.Shard.{RisesFrom}
use Rattle.host_core.specs.Value.{Book}
use Rattle.host_table.specs.Passes.{HostView, IsHost, IsPassOf, AreBases, lock_of, base_of, Place, PassView, Own, stamp_of, owned, owned_from, by_stamp, top, AreSeats, IsPass, given_half, kept_half, given_pass, kept_pass}
use Rattle.host_table.specs.Rows.{CanSplit}

module _ {F : Type 0} where
  pub can_split : (number weight opened oldest : ℕ) (limits : Limits) (j : ℕ) (ss : List (Place F)) → 2 ≤ weight → AreSeats number weight opened oldest limits j ss → CanSplit ss
  can_split number weight opened oldest limits j [] h are = tt
  can_split number weight opened oldest limits j (s ∷ ss) h are = let w = are.0.weight_is in ((are.0.free, omega arith), can_split number weight opened oldest limits (j + 1) ss h are.1)

  given_seats : (number new weight opened oldest : ℕ) (limits : Limits) (j : ℕ) (ss : List (Place F)) → AreSeats number weight opened oldest limits j ss → AreSeats new (weight / 2) opened oldest limits j (map given_half ss)
  given_seats number new weight opened oldest limits j [] are = tt
  given_seats number new weight opened oldest limits j (s ∷ ss) are =
      let old = are.0 in
      (record { free = old.free; weight_is = ap (λ (n : ℕ). n / 2) old.weight_is; base = old.base; based = old.based; is_base = old.is_base; seen = old.seen; owns = tt }, given_seats number new weight opened oldest limits (j + 1) ss are.1)

  kept_seats : (number weight opened oldest : ℕ) (limits : Limits) (j : ℕ) (ss : List (Place F)) → AreSeats number weight opened oldest limits j ss → AreSeats number (weight - weight / 2) opened oldest limits j (map kept_half ss)
  kept_seats number weight opened oldest limits j [] are = tt
  kept_seats number weight opened oldest limits j (s ∷ ss) are =
      let old = are.0 in
      (record { free = old.free; weight_is = ap (λ (n : ℕ). n - n / 2) old.weight_is; base = old.base; based = old.based; is_base = old.is_base; seen = old.seen; owns = old.owns }, kept_seats number weight opened oldest limits (j + 1) ss are.1)

  top_given : (ss : List (Place F)) → top (map given_half ss) ≡ top ss
  top_given [] = refl
  top_given (s ∷ ss) = let rest = top_given ss in grind arith

  top_kept : (ss : List (Place F)) → top (map kept_half ss) ≡ top ss
  top_kept [] = refl
  top_kept (s ∷ ss) = let rest = top_kept ss in grind arith

  own_given : (j : ℕ) (ss : List (Place F)) → owned_from j (map given_half ss) ≡ []
  own_given j [] = refl
  own_given j (s ∷ ss) = own_given (j + 1) ss

  own_kept : (j : ℕ) (ss : List (Place F)) → owned_from j (map kept_half ss) ≡ owned_from j ss
  own_kept j [] = refl
  own_kept j (s ∷ ss) = ap (λ (rest : List Own). owned j s.seen s.own ++ rest) (own_kept (j + 1) ss)

  pub pass_given : (number : ℕ) (p : PassView F) → IsPass p → IsPass (given_pass number p)
  pass_given number p is = record {
    seats = given_seats p.number number p.weight p.opened p.first p.limits 0 p.seats is.seats;
    last_is = is.last_is ∙ sym (top_given p.seats);
    wide = length-map p.seats given_half ∙ is.wide;
    rises = subst (λ (own : List Own). RisesFrom 0 (map stamp_of (by_stamp own))) (sym (own_given 0 p.seats)) tt;
  }

  pub pass_kept : (p : PassView F) → IsPass p → IsPass (kept_pass p)
  pass_kept p is = record {
    seats = kept_seats p.number p.weight p.opened p.first p.limits 0 p.seats is.seats;
    last_is = is.last_is ∙ sym (top_kept p.seats);
    wide = length-map p.seats kept_half ∙ is.wide;
    rises = subst (λ (own : List Own). RisesFrom 0 (map stamp_of (by_stamp own))) (sym (own_kept 0 p.seats)) is.rises;
  }

  pub given_of : (host : HostView F) (number : ℕ) (p : PassView F) → IsPassOf host p → IsPassOf (record host { made = host.made + 1 }) (given_pass number p)
  given_of host number p of = record { locks = locks_given p.seats ∙ of.locks; bases = bases_given p.seats ∙ of.bases } where
    locks_given : (ss : List (Place F)) → map lock_of (map given_half ss) ≡ map lock_of ss
    locks_given [] = refl
    locks_given (s ∷ ss) = ap (λ (z : List _). s.lock ∷ z) (locks_given ss)

    bases_given : (ss : List (Place F)) → map base_of (map given_half ss) ≡ map base_of ss
    bases_given [] = refl
    bases_given (s ∷ ss) = ap (λ (z : List _). s.base ∷ z) (bases_given ss)

  pub kept_of : (host : HostView F) (p : PassView F) → IsPassOf host p → IsPassOf (record host { made = host.made + 1 }) (kept_pass p)
  kept_of host p of = record { locks = locks_kept p.seats ∙ of.locks; bases = bases_kept p.seats ∙ of.bases } where
    locks_kept : (ss : List (Place F)) → map lock_of (map kept_half ss) ≡ map lock_of ss
    locks_kept [] = refl
    locks_kept (s ∷ ss) = ap (λ (z : List _). s.lock ∷ z) (locks_kept ss)

    bases_kept : (ss : List (Place F)) → map base_of (map kept_half ss) ≡ map base_of ss
    bases_kept [] = refl
    bases_kept (s ∷ ss) = ap (λ (z : List _). s.base ∷ z) (bases_kept ss)

  abbrev begins_with : List (Option (Book F)) → Option (Book F)
  begins_with [] = None
  begins_with (base ∷ bases) = base

  same_times : (number weight opened oldest : ℕ) (limits : Limits) (opened' oldest' : ℕ) (limits' : Limits) (bases : List (Book F)) (ss : List (Place F)) → AreBases opened oldest limits 0 bases → length bases ≡ 16
      → AreSeats number weight opened' oldest' limits' 0 ss → map base_of ss ≡ map Some bases → (opened' ≡ opened) × (oldest' ≡ oldest) × (limits' ≡ limits)
  same_times number weight opened oldest limits opened' oldest' limits' [] ss bases many seats same = absurd (omega (arith, many))
  same_times number weight opened oldest limits opened' oldest' limits' (base ∷ bases) [] are many seats same =
      let none : None ≡ Some base = ap begins_with same in absurd (cc none)
  same_times number weight opened oldest limits opened' oldest' limits' (base ∷ bases) (s ∷ ss) are many seats same =
      let first : s.base ≡ Some base = ap begins_with same in
      let based : s.base ≡ Some seats.0.base = seats.0.based in
      let is : seats.0.base ≡ base = cc (first, based) in
      (sym seats.0.is_base.opened_is ∙ ap (λ (b : Book F). b.begin.opened) is ∙ are.0.opened_is, sym seats.0.is_base.first_is ∙ ap (λ (b : Book F). b.begin.first) is ∙ are.0.first_is, sym seats.0.is_base.limits_is ∙ ap (λ (b : Book F). b.limits) is ∙ are.0.limits_is)

  -- a pass has the moment, the first version and the limits of its host
  pub as_its_host : (host : HostView F) (p : PassView F) → IsHost host → IsPass p → IsPassOf host p → (p.opened ≡ host.opened) × (p.first ≡ host.first) × (p.limits ≡ host.limits)
  as_its_host host p is_host is of =
      same_times p.number p.weight host.opened host.first host.limits p.opened p.first p.limits host.bases p.seats is_host.bases is_host.many is.seats of.bases
