-- What the passing of time does to a file.
use Rattle.std.specs.Prelude.{ℕ, ◌+◌, Bool, List, ◌∷◌, filter, Option, None, Some, nat_lt, nat_le, if◌then◌else◌}
use Rattle.wopi_model.specs.Moment.{lock_life}
use Rattle.wopi_model.specs.declared.locks.Lock.{Lock}
use Rattle.wopi_model.specs.declared.locks.Spent.{Spent}
use Rattle.wopi_model.specs.File.{File}

-- a lock that began 30 minutes ago has ended
abbrev pub is_over : Lock → ℕ → Bool
is_over lock now = nat_le (lock.since + lock_life) now

-- the lock that still stands
abbrev pub standing : Option Lock → ℕ → Option Lock
standing None now = None
standing (Some lock) now = if is_over lock now then None else Some lock

-- the id that the lock leaves where it has ended
abbrev pub expired : Option Lock → ℕ → Option Spent
expired None now = None
expired (Some lock) now = if is_over lock now then Some (record { id = lock.id; until = lock.until }) else None

abbrev pub with_spent : Option Spent → List Spent → List Spent
with_spent None spent = spent
with_spent (Some one) spent = one ∷ spent

-- the spent ids that are still refused
abbrev pub still_spent : List Spent → ℕ → List Spent
still_spent spent now = filter (λ one. nat_lt now one.until) spent

abbrev pub settled : File → ℕ → File
settled file now =
    record file {
      lock = standing file.lock now;
      spent = still_spent (with_spent (expired file.lock now) file.spent) now;
    }
