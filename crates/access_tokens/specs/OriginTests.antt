-- How a text is tested for being an origin. (Own.)
use Rattle.std.specs.Prelude.{ℕ, ◌==◌, eqb, Bool, true, false, nat_lt, nat_le, not, ◌&&◌, if◌then◌else◌, List, [], ◌∷◌, length, drop, codes, Option, None, Some}
use Rattle.std.specs.List.{starts_with, take_while}
use Rattle.wopi_text.specs.Decimals.{decimal_of}
use Rattle.access_tokens.specs.Origins.{is_host_byte, own_port}

-- the number of a port that is written
abbrev pub is_written : Bool → Option ℕ → Bool
is_written secure None = false
is_written secure (Some port) = nat_lt 0 port && (nat_le port 65535 && not (port == own_port secure))

-- what stands behind a host
abbrev pub is_behind_host : Bool → List ℕ → Bool
is_behind_host secure [] = true
is_behind_host secure (byte ∷ digits) = byte == 58 && is_written secure (decimal_of digits)

-- how long the host is
abbrev pub host_len : List ℕ → ℕ
host_len text = length (take_while is_host_byte text)

-- a host and its port
abbrev pub is_place : Bool → List ℕ → Bool
is_place secure text = nat_lt 0 (host_len text) && is_behind_host secure (drop (host_len text) text)

-- what follows the scheme
abbrev pub is_schemed : List ℕ → Bool
is_schemed text =
    if starts_with eqb text (codes "https://") then is_place true (drop 8 text)
    else if starts_with eqb text (codes "http://") then is_place false (drop 7 text)
    else false

abbrev pub passes : List ℕ → Bool
passes text = nat_le (length text) 200 && is_schemed text
