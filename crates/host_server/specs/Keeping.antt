-- Whether what a caller made may be told. (Own.)
use Rattle.std.specs.Prelude.{◌≡◌, Bool, true, false}
use Rattle.host_core.specs.Caller.{Sight, Extends}

-- each of its own entries may
abbrev pub AreTold : Sight → Type 0
AreTold sight = sight.told ≡ sight.own

-- From the old sight to the new one, by whether the caller said before and after that all may be told. What may be told stays so. Where the caller
-- still says so, each entry that was made may be told as well; and it ceases to only where there are callers to which a store is lost.
pub record KeepsTold (loses before after : Bool) (old new : Sight) : Type 0 where
  pub extends : Extends old.told new.told
  pub all : after ≡ true → AreTold old → AreTold new
  pub falls : after ≡ true → before ≡ true
  pub cause : before ≡ true → after ≡ false → loses ≡ true
