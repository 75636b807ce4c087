-- Lengths of time as words. (Own.)
use Rattle.std.specs.Prelude.{◌≡◌, ℕ, ◌*◌, ◌<◌, ◌==◌, if◌then◌else◌, List, [], ◌∷◌, ◌++◌, Some}
use Rattle.wopi_text.specs.Decimals.{decimal_of}
use Rattle.wopi_text.specs.Moments.{moments_end}

-- the milliseconds of `s`, `m`, `h` and `d`
abbrev pub unit_of : ℕ → ℕ
unit_of unit =
    if unit == 115 then 1000 else if unit == 109 then 60000 else if unit == 104 then 3600000 else if unit == 100 then 86400000 else 0

-- so many milliseconds: a decimal and then a unit
pub record IsSpan (word : List ℕ) (span : ℕ) : Type 0 where
  pub digits : List ℕ
  pub unit : ℕ
  pub count : ℕ
  pub word_is : word ≡ digits ++ (unit ∷ [])
  pub count_is : decimal_of digits ≡ Some count
  pub span_is : span ≡ count * unit_of unit
  pub some : 0 < span
  pub low : span < moments_end
