-- Words that tell no length of time.
use Rattle.std.proofs.Common.{◌≡◌, ℕ, ◌+◌, ◌-◌, ◌*◌, ◌<◌, ◌≤◌, List, [], ◌∷◌, ◌++◌, length, take, get_or, Option, Some, None, IfNone, sym, ap, ◌∙◌, arith, length-append}
use Rattle.std.proofs.Math.Seq.{take-append_seam, get_or-append_seam}
use Rattle.wopi_text.specs.Decimals.{decimal_of}
use Rattle.wopi_text.specs.Moments.{moments_end}
use Rattle.command_words.specs.Spans.{IsSpan, unit_of}

-- it would have to be all of the units, and there are none or too many
pub no_span : (word bytes : List ℕ) (count unit : ℕ) → bytes ≡ word → Some count ≡ decimal_of (take (length bytes - 1) bytes)
    → unit ≡ unit_of (get_or bytes (length bytes - 1) 0) → (0 < count * unit → moments_end ≤ count * unit) → (span : ℕ) → Prim.¬◌ (IsSpan word span)
no_span word bytes count unit same count_is unit_is long span told =
    let is : bytes ≡ told.digits ++ (told.unit ∷ []) = same ∙ told.word_is in
    let whole : length bytes ≡ length told.digits + 1 = ap length is ∙ length-append told.digits (told.unit ∷ []) in
    let at : length bytes - 1 ≡ length told.digits = omega (arith, whole) in
    let fronts : take (length bytes - 1) bytes ≡ told.digits = rw (at, is) (take-append_seam told.digits (told.unit ∷ [])) in
    let lasts : get_or bytes (length bytes - 1) 0 ≡ told.unit = rw (at, is) (get_or-append_seam told.digits told.unit [] 0) in
    let both : Some count ≡ Some told.count = count_is ∙ ap (λ (l : List ℕ). decimal_of l) fronts ∙ told.count_is in
    let counts : count ≡ told.count = cc in
    let units : unit ≡ unit_of told.unit = unit_is ∙ ap (λ (u : ℕ). unit_of u) lasts in
    let span_is : span ≡ count * unit = told.span_is ∙ ap (λ (n : ℕ). n * unit_of told.unit) (sym counts) ∙ ap (λ (u : ℕ). count * u) (sym units) in
    let some : 0 < span = told.some in
    let low : span < moments_end = told.low in
    let some_so : 0 < count * unit = rw span_is at some in
    let much : moments_end ≤ count * unit = long some_so in
    omega (arith, span_is, low, much)

pub if_none : {A B : Type 0} (r : Option ℕ) → (A → B) → IfNone r A → IfNone r B
if_none None f a = f a
if_none (Some n) f a = a
