-- Where moments end. (Own: a moment is a number of milliseconds since 1970, and its year has four digits.)
use Rattle.std.specs.Prelude.{ℕ}

-- the beginning of the year 10,000, in milliseconds
abbrev pub moments_end : ℕ
moments_end = 253402300800000
