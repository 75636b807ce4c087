-- Replies that are given in order.
use Rattle.std.specs.Prelude.{ℕ, List, Option, slice_get}
use Rattle.std.specs.Option.{option_flatten}

-- the reply of an exchange, counted from 0: none where the script says so, or has ended
abbrev pub reply_at : List (Option (List ℕ)) → ℕ → Option (List ℕ)
reply_at replies place = option_flatten (slice_get replies place)
