-- The bytes between two places of a list.
use Rattle.std.proofs.Common.{◌≡◌, ℕ, ◌+◌, ◌-◌, ◌≤◌, List, ◌++◌, length, take, drop, Option, None, Some, sym, ap, ◌∙◌, arith, append_assoc, append-nil}
use Rattle.std.specs.Io.KnownBytes.{Consumes, Keeps, prepend_known}
use Rattle.std.proofs.lemmas.List.{length-take, drop-drop, drop-take}
use Rattle.std.proofs.Math.Seq.{take-add}

-- n of them are skipped
pub view_skip : (items : List ℕ) (at end n : ℕ) → at ≤ end → n ≤ length (take (end - at) (drop at items))
    → take (end - (at + n)) (drop (at + n) items) ≡ drop n (take (end - at) (drop at items))
view_skip items at end n inside fits =
    let ys = drop at items in
    let few : n ≤ end - at = omega (arith, fits, length-take (end - at) ys) in
    let rest : end - at - n ≡ end - (at + n) = omega arith in
    let whole : n + (end - at - n) ≡ end - at = omega arith in
    ap (λ k. take k (drop (at + n) items)) (sym rest) ∙ ap (take (end - at - n)) (sym (drop-drop n at items))
    ∙ sym (drop-take n (end - at - n) ys) ∙ ap (λ k. drop n (take k ys)) whole

-- n more come behind them
pub view_grown : (old new : List ℕ) (at end n : ℕ) → at ≤ end → take end new ≡ take end old
    → take (end + n - at) (drop at new) ≡ take (end - at) (drop at old) ++ take n (drop end new)
view_grown old new at end n inside front =
    let all : end + n - at ≡ (end - at) + n = omega arith in
    let place : at + (end - at) ≡ end = omega arith in
    let first : take (end - at) (drop at new) ≡ take (end - at) (drop at old) =
    sym (drop-take at (end - at) new) ∙ ap (λ k. drop at (take k new)) place ∙ ap (drop at) front
    ∙ ap (λ k. drop at (take k old)) (sym place) ∙ drop-take at (end - at) old in
    ap (λ k. take k (drop at new)) all ∙ take-add (end - at) n (drop at new)
    ∙ ap (λ z. z ++ take n (drop (end - at) (drop at new))) first
    ∙ ap (λ z. take (end - at) (drop at old) ++ take n z) (drop-drop (end - at) at new ∙ ap (λ k. drop k new) place)

-- what was read before stays before what is left
pub keeps_grown : (a b : Option (List ℕ)) (old new more : List ℕ) → new ≡ old ++ more → Consumes a b more
    → Keeps (prepend_known old a) (prepend_known new b)
keeps_grown None b old new more e consumed = tt
keeps_grown (Some x) None old new more e consumed = absurd consumed
keeps_grown (Some x) (Some y) old new more e consumed =
    ap (λ z. z ++ y) e ∙ append_assoc old more y ∙ ap (λ z. old ++ z) (sym consumed)

pub none_more : (old new more : List ℕ) (n : ℕ) → new ≡ old ++ take n more → n ≡ 0 → new ≡ old
none_more old new more n e none = e ∙ ap (λ k. old ++ take k more) none ∙ append-nil old
