-- How long a link may take. Limits are in seconds, and what went by in milliseconds. (Own.)
use Rattle.std.specs.Prelude.{ℕ, ◌*◌, ◌<◌, ◌≤◌}

-- there is a limit, and nothing came or went for that long
abbrev pub IsTooSilent : ℕ → ℕ → Type 0
IsTooSilent idle silence = (0 < idle) × (idle * 1000 ≤ silence)

-- there is a limit, a message has been on its way for longer, and by fewer than 1,024 bytes a second
abbrev pub IsTooSlow : ℕ → ℕ → ℕ → Type 0
IsTooSlow patience time bytes = (0 < patience) × (patience * 1000 < time) × (bytes * 1000 < 1024 * time)
