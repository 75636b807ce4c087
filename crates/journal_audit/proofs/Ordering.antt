-- The order of lines, as it is kept.
use Rattle.std.proofs.Common.{◌≡◌, ◌↔◌, ◌⊎◌, inl, inr, ℕ, ◌<◌, ◌≤◌, ◌==◌, Bool, true, false, cond, not, ◌||◌, List, [], ◌∷◌, ◌++◌, Option, None, Some, refl, ap, sym, ◌∙◌, subst, arith, true≢false}
use Rattle.std.specs.List.{list_any}
use Rattle.std.proofs.lemmas.Bool.{eqb-true, eq-eqb}
use Rattle.wopi_text.specs.FileName.{shard_of}
use Rattle.journal_text.specs.declared.text.Line.{Line}
use Rattle.journal_audit.specs.declared.order.Order.{Order}
use Rattle.journal_audit.specs.Lines.{Begun, IsBehind, IsOrdered, behind_line}
use Rattle.journal_audit.specs.Orders.{IsLastAt, KeepsOrder, has_pass}
use Rattle.journal_audit.proofs.Merges.{by_eq}

later_behind : (last : Option (ℕ × ℕ)) (stamp shard : ℕ) (line : Line) → IsLastAt last stamp shard → stamp < line.stamp → IsBehind last line
later_behind None stamp shard line is less = tt
later_behind (Some last) stamp shard line is less = let e = is.0 in inl (omega (arith, e, less))

here_behind : (last : Option (ℕ × ℕ)) (stamp shard : ℕ) (line : Line) → IsLastAt last stamp shard → stamp ≡ line.stamp → shard < line.shard → IsBehind last line
here_behind None stamp shard line is same less = tt
here_behind (Some last) stamp shard line is same less = let e = is.1 in inr (is.0 ∙ same, omega (arith, e, less))

pub ordered_later : (order : Order) (begun : Begun) (line : Line) → KeepsOrder order begun → line.shard ≡ shard_of line.name → order.stamp < line.stamp → IsOrdered begun line
ordered_later order begun line keeps own less =
    let low = keeps.low line.pass in
    record { behind = later_behind begun.last order.stamp order.shard line keeps.last less; own = own; rises = omega (arith, low, less) }

below : (low stamp : ℕ) → low ≤ stamp → (low ≡ stamp → ⊥) → low < stamp
below low stamp le apart = omega (arith, le, apart)

pub ordered_here : (order : Order) (begun : Begun) (line : Line) → KeepsOrder order begun → line.shard ≡ shard_of line.name → order.stamp ≡ line.stamp → 0 < line.stamp → order.shard < line.shard →
    (has_pass order.passes.items line.pass → ⊥) → IsOrdered begun line
ordered_here order begun line keeps own same positive less none =
    let rises = below (begun.passes line.pass) order.stamp (keeps.low line.pass) (λ e. none ((keeps.here line.pass (omega (arith, positive, same))).1 e)) in
    record { behind = here_behind begun.last order.stamp order.shard line keeps.last same less; own = own; rises = omega (arith, rises, same) }

not_behind : (last : Option (ℕ × ℕ)) (stamp shard : ℕ) (line : Line) → IsLastAt last stamp shard → 0 < line.stamp → IsBehind last line → (stamp < line.stamp) ⊎ ((stamp ≡ line.stamp) × (shard < line.shard))
not_behind None stamp shard line is positive h = inl (omega (arith, is, positive))
not_behind (Some last) stamp shard line is positive h = elim h as (λ _. (stamp < line.stamp) ⊎ ((stamp ≡ line.stamp) × (shard < line.shard))) [
  | inl l ↦ let e = is.0 in inl (omega (arith, e, l))
  | inr r ↦ let e = is.1 in let less = r.1 in inr (sym is.0 ∙ r.0, omega (arith, e, less))
]

-- what an ordered line is
pub ordered_is : (order : Order) (begun : Begun) (line : Line) → KeepsOrder order begun → IsOrdered begun line →
    (line.shard ≡ shard_of line.name) × (0 < line.stamp) × ((order.stamp < line.stamp) ⊎ ((order.stamp ≡ line.stamp) × (order.shard < line.shard) × (has_pass order.passes.items line.pass → ⊥)))
ordered_is order begun line keeps ordered =
    let rises = ordered.rises in
    let positive : 0 < line.stamp = omega (arith, rises) in (
      ordered.own,
      positive,
      elim (not_behind begun.last order.stamp order.shard line keeps.last positive ordered.behind)
          as (λ _. (order.stamp < line.stamp) ⊎ ((order.stamp ≡ line.stamp) × (order.shard < line.shard) × (has_pass order.passes.items line.pass → ⊥))) [
            | inl l ↦ inl l
            | inr r ↦
                let same = r.0 in
                inr (r.0, r.1, λ has. let at = (keeps.here line.pass (omega (arith, same, positive))).0 has in absurd (omega (arith, at, rises, same)))
          ],
    )

-- ---- behind a line

any-push : (p : ℕ → Bool) (xs : List ℕ) (x : ℕ) → list_any p (xs ++ x ∷ []) ≡ list_any p xs || p x
any-push p [] x = or_false (p x)
  where
    or_false : (b : Bool) → b || false ≡ b
    or_false true = refl
    or_false false = refl
any-push p (y ∷ xs) x = either (p y) (any-push p xs x)
  where
    either : (b : Bool) → list_any p (xs ++ x ∷ []) ≡ list_any p xs || p x → b || list_any p (xs ++ x ∷ []) ≡ (b || list_any p xs) || p x
    either true e = refl
    either false e = e

pub keeps_later : (old new : Order) (begun : Begun) (line : Line) → KeepsOrder old begun → old.stamp < line.stamp → new.stamp ≡ line.stamp → new.shard ≡ line.shard →
    new.passes.items ≡ line.pass ∷ [] → KeepsOrder new (behind_line begun line)
keeps_later old new begun line keeps less stamp shard passes =
    record {
      last = (sym stamp, sym shard);
      low = λ pass. by_eq line.pass pass (λ b. cond b line.stamp (begun.passes pass) ≤ new.stamp) (λ e. omega (arith, stamp)) (λ e. let low = keeps.low pass in omega (arith, low, less, stamp));
      here = λ pass positive.
          by_eq line.pass pass (λ b. has_pass new.passes.items pass ↔ (cond b line.stamp (begun.passes pass) ≡ new.stamp))
          (λ e. (λ h. sym stamp, λ h. ap (λ (l : List ℕ). list_any (λ one. one == pass) l) passes ∙ ap (λ (b : Bool). b || false) (eq-eqb line.pass pass e)))
          (λ apart. (
            λ h. absurd (apart (eqb-true line.pass pass (first_of (line.pass == pass) (sym (ap (λ (l : List ℕ). list_any (λ one. one == pass) l) passes) ∙ h)))),
            λ h. let low = keeps.low pass in absurd (omega (arith, low, less, stamp, h)),
          ));
    }
  where
    first_of : (b : Bool) → b || false ≡ true → b ≡ true
    first_of true e = refl
    first_of false e = e

pub keeps_here : (old new : Order) (begun : Begun) (line : Line) → KeepsOrder old begun → old.stamp ≡ line.stamp → new.stamp ≡ line.stamp → new.shard ≡ line.shard →
    new.passes.items ≡ old.passes.items ++ line.pass ∷ [] → KeepsOrder new (behind_line begun line)
keeps_here old new begun line keeps same stamp shard passes =
    record {
      last = (sym stamp, sym shard);
      low = λ pass. by_eq line.pass pass (λ b. cond b line.stamp (begun.passes pass) ≤ new.stamp) (λ e. omega (arith, stamp)) (λ e. let low = keeps.low pass in omega (arith, low, same, stamp));
      here = λ pass positive.
          let at : list_any (λ one. one == pass) new.passes.items ≡ list_any (λ one. one == pass) old.passes.items || (line.pass == pass) =
          ap (λ (l : List ℕ). list_any (λ one. one == pass) l) passes ∙ any-push (λ one. one == pass) old.passes.items line.pass in
          let before = keeps.here pass (omega (arith, positive, same, stamp)) in
          by_eq line.pass pass (λ b. list_any (λ one. one == pass) new.passes.items ≡ list_any (λ one. one == pass) old.passes.items || b → has_pass new.passes.items pass ↔ (cond b line.stamp (begun.passes pass) ≡ new.stamp))
          (λ e is. (λ h. sym stamp, λ h. is ∙ or_true (list_any (λ one. one == pass) old.passes.items)))
          (λ apart is. (
            λ h. before.0 (sym (or_false (list_any (λ one. one == pass) old.passes.items)) ∙ sym is ∙ h) ∙ same ∙ sym stamp,
            λ h. is ∙ or_false (list_any (λ one. one == pass) old.passes.items) ∙ before.1 (h ∙ stamp ∙ sym same),
          )) at;
    }
  where
    or_true : (b : Bool) → b || true ≡ true
    or_true true = refl
    or_true false = refl

    or_false : (b : Bool) → b || false ≡ b
    or_false true = refl
    or_false false = refl

pub begins : (order : Order) (begun : Begun) → order.stamp ≡ 0 → begun.last ≡ None → ((pass : ℕ) → begun.passes pass ≡ 0) → KeepsOrder order begun
begins order begun zero none passes =
    record {
      last = subst (λ (l : Option (ℕ × ℕ)). IsLastAt l order.stamp order.shard) (sym none) zero;
      low = λ pass. let e = passes pass in omega (arith, e);
      here = λ pass positive. absurd (omega (arith, positive, zero));
    }

pub true_not : (b : Bool) → not b ≡ true → b ≡ true → ⊥
true_not true e h = absurd (true≢false (sym e))
true_not false e h = absurd (true≢false (sym h))

pub not_true : (b : Bool) → (b ≡ true → ⊥) → not b ≡ true
not_true true h = absurd (h refl)
not_true false h = refl
