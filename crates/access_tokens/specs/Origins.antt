-- The origin of a page, as it is written. (RFC 6454, 4 and 6.2: the scheme and the host are in lower case, and a port is written where it isn't the scheme's own; that the scheme is http or https, that a host is of letters, digits, dashes and dots, and how long an origin may be, is own.)
use Rattle.std.specs.Prelude.{ℕ, ◌≡◌, ◌<◌, ◌≤◌, ◌==◌, ◌||◌, Bool, true, false, List, [], ◌∷◌, ◌++◌, length, codes, decimal, if◌then◌else◌}
use Rattle.std.specs.List.{list_all}
use Rattle.std.specs.Char.{is_ascii_digit, is_ascii_lowercase}

-- by whether it is the one that is secure
abbrev pub scheme : Bool → List ℕ
scheme true = codes "https"
scheme false = codes "http"

-- the port of a scheme where none is written
abbrev pub own_port : Bool → ℕ
own_port true = 443
own_port false = 80

-- a lower-case letter or a digit, a hyphen, a period or a low line
abbrev pub is_host_byte : ℕ → Bool
is_host_byte byte = is_ascii_lowercase byte || (is_ascii_digit byte || (byte == 45 || (byte == 46 || byte == 95)))

abbrev pub port_text : Bool → ℕ → List ℕ
port_text secure port = if port == own_port secure then [] else 58 ∷ decimal port

-- how the origin of this scheme, host and port is written
abbrev pub origin_text : Bool → List ℕ → ℕ → List ℕ
origin_text secure host port = scheme secure ++ (codes "://" ++ (host ++ port_text secure port))

-- a text that an origin is written as, of 200 bytes at most
pub record IsOrigin (text : List ℕ) : Type 0 where
  pub secure : Bool
  pub host : List ℕ
  pub port : ℕ
  pub some : 0 < length host
  pub letters : list_all is_host_byte host ≡ true
  pub least : 0 < port
  pub most : port ≤ 65535
  pub text_is : text ≡ origin_text secure host port
  pub short : length text ≤ 200
