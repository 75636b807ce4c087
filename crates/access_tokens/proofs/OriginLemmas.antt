-- What passes the tests is an origin, and each origin passes them.
use Rattle.std.proofs.Common.{◌≡◌, ℕ, ◌<◌, ◌≤◌, Bool, true, false, nat_lt, nat_le, not, eqb, ◌==◌, ◌&&◌, if◌then◌else◌, cond, List, [], ◌∷◌, ◌++◌, length, drop, take_while, codes, decimal, Option, None, Some, refl, sym, ap, ◌∙◌, subst, arith, lit<, lit≤, inl, inr, true≢false}
use Rattle.std.specs.Bool.{⊤}
use Rattle.std.specs.Cmp.Derive.{both_true}
use Rattle.std.specs.List.{list_all, starts_with}
use Rattle.std.specs.Str.{IsAscii, IsUtf8}
use Rattle.std.proofs.Math.Seq.{drop-append_seam}
use Rattle.std.proofs.lemmas.Bool.{and_parts, cases_Bool, eqb-true, le-leb, lt-ltb}
use Rattle.std.proofs.lemmas.Bool.Decides.{Decides-eqb}
use Rattle.std.proofs.lemmas.Fmt.{IsAscii-decimal}
use Rattle.std.proofs.lemmas.List.{take-append-drop}
use Rattle.std.proofs.lemmas.List.Folds.{length-prefix_len}
use Rattle.std.proofs.lemmas.List.Sums.{take_while-cons}
use Rattle.std.proofs.lemmas.Slice.Eq.{starts_is}
use Rattle.std.proofs.lemmas.Str.{IsAscii-append, IsUtf8-from_ascii}
use Rattle.std.specs.List.{prefix_len}
use Rattle.wopi_text.specs.Decimals.{decimal_of}
use Rattle.wopi_text.proofs.Decimals.{decimal_of-decimal, decimal_of-some}
use Rattle.access_tokens.specs.Origins.{IsOrigin, is_host_byte, origin_text, own_port, port_text, scheme}
use Rattle.access_tokens.specs.OriginTests.{host_len, is_behind_host, is_place, is_schemed, is_written, passes}
use Rattle.access_tokens.proofs.Ascii.{all_ascii, literal}

-- no byte of a host stands at its front
abbrev Stops : List ℕ → Type 0
Stops [] = ⊤
Stops (byte ∷ text) = is_host_byte byte ≡ false

host_is : (host more : List ℕ) → list_all is_host_byte host ≡ true → Stops more → take_while is_host_byte (host ++ more) ≡ host
host_is [] [] all stops = refl
host_is [] (b ∷ more) all stops = take_while-cons is_host_byte b more ∙ ap (λ t. cond t (b ∷ take_while is_host_byte more) []) stops
host_is (h ∷ host) more all stops =
    let parts = and_parts (is_host_byte h) (list_all is_host_byte host) all in
    take_while-cons is_host_byte h (host ++ more) ∙ ap (λ t. cond t (h ∷ take_while is_host_byte (host ++ more)) []) parts.0 ∙ ap (λ (l : List ℕ). h ∷ l) (host_is host more parts.1 stops)

all_taken : (text : List ℕ) → list_all is_host_byte (take_while is_host_byte text) ≡ true
all_taken [] = refl
all_taken (b ∷ text) =
    elim (cases_Bool (is_host_byte b)) [
      | inl is ↦
          (let same = take_while-cons is_host_byte b text ∙ ap (λ t. cond t (b ∷ take_while is_host_byte text) []) is in
          ap (list_all is_host_byte) same ∙ both_true is (all_taken text))
      | inr none ↦
          (let same = take_while-cons is_host_byte b text ∙ ap (λ t. cond t (b ∷ take_while is_host_byte text) []) none in
          ap (list_all is_host_byte) same)
    ]

parted : (text : List ℕ) → take_while is_host_byte text ++ drop (host_len text) text ≡ text
parted text =
    let long : host_len text ≡ prefix_len is_host_byte text = length-prefix_len is_host_byte text in
    ap (λ (n : ℕ). take_while is_host_byte text ++ drop n text) long ∙ take-append-drop (prefix_len is_host_byte text) text

-- ---- ports

port_stops : (secure : Bool) (port : ℕ) → Stops (port_text secure port)
port_stops secure port = elim (port == own_port secure) as (λ b. Stops (if b then [] else 58 ∷ decimal port)) [ true ↦ tt | false ↦ refl ]

written : (secure : Bool) (port : ℕ) → 0 < port → port ≤ 65535 → (port == own_port secure) ≡ false → is_written secure (Some port) ≡ true
written secure port least most other = both_true (lt-ltb 0 port least) (both_true (le-leb port 65535 most) (ap not other))

port_passes : (secure : Bool) (port : ℕ) → 0 < port → port ≤ 65535 → is_behind_host secure (port_text secure port) ≡ true
port_passes secure port least most =
    elim (port == own_port secure) as (λ b. (port == own_port secure) ≡ b → is_behind_host secure (if b then [] else 58 ∷ decimal port) ≡ true) [
      | true ↦ λ own. refl
      | false ↦ λ other. ap (is_written secure) (decimal_of-decimal port (omega (arith, most))) ∙ written secure port least most other
    ] refl

-- a port that the text writes
record Port (secure : Bool) (text : List ℕ) : Type 0 where
  pub port : ℕ
  pub least : 0 < port
  pub most : port ≤ 65535
  pub text_is : text ≡ port_text secure port

no_port : (secure : Bool) → Port secure []
no_port true = record { port = 443; least = lit< tt; most = lit≤ tt; text_is = refl }
no_port false = record { port = 80; least = lit< tt; most = lit≤ tt; text_is = refl }

not_false : (b : Bool) → not b ≡ true → b ≡ false
not_false true is = absurd (true≢false (sym is))
not_false false is = refl

port_of : (secure : Bool) (digits : List ℕ) (o : Option ℕ) → decimal_of digits ≡ o → is_written secure o ≡ true → Port secure (58 ∷ digits)
port_of secure digits None is held = absurd (true≢false (sym held))
port_of secure digits (Some port) is held =
    let some = and_parts (nat_lt 0 port) _ held in
    let few = and_parts (nat_le port 65535) (not (port == own_port secure)) some.1 in
    let other : (port == own_port secure) ≡ false = not_false (port == own_port secure) few.1 in
    let number = decimal_of-some digits port is in
    record {
      port = port;
      least = grind (arith, some.0);
      most = grind (arith, few.0);
      text_is = ap (λ (l : List ℕ). 58 ∷ l) number.1 ∙ sym (ap (λ b. if b then [] else 58 ∷ decimal port) other);
    }

behind_port : (secure : Bool) (text : List ℕ) → is_behind_host secure text ≡ true → Port secure text
behind_port secure [] is = no_port secure
behind_port secure (byte ∷ digits) is =
    let parts = and_parts (byte == 58) (is_written secure (decimal_of digits)) is in
    let colon : byte ≡ 58 = eqb-true byte 58 parts.0 in
    subst (λ (b : ℕ). Port secure (b ∷ digits)) (sym colon) (port_of secure digits (decimal_of digits) refl parts.1)

-- ---- a host and its port

place_passes : (secure : Bool) (host : List ℕ) (port : ℕ) → 0 < length host → list_all is_host_byte host ≡ true → 0 < port → port ≤ 65535 → is_place secure (host ++ port_text secure port) ≡ true
place_passes secure host port some letters least most =
    let taken = host_is host (port_text secure port) letters (port_stops secure port) in
    let bare : (nat_lt 0 (length host) && is_behind_host secure (drop (length host) (host ++ port_text secure port))) ≡ true =
    both_true (lt-ltb 0 (length host) some) (ap (is_behind_host secure) (drop-append_seam host (port_text secure port)) ∙ port_passes secure port least most) in
    subst (λ (l : List ℕ). (nat_lt 0 (length l) && is_behind_host secure (drop (length l) (host ++ port_text secure port))) ≡ true) (sym taken) bare

short_passes : (text : List ℕ) → length text ≤ 200 → is_schemed text ≡ true → passes text ≡ true
short_passes text short is = both_true (le-leb (length text) 200 short) is

schemed : (secure : Bool) (host : List ℕ) (port : ℕ) → is_place secure (host ++ port_text secure port) ≡ true → is_schemed (origin_text secure host port) ≡ true
schemed true host port is = is
schemed false host port is = is

pub origin_passes : (text : List ℕ) → IsOrigin text → passes text ≡ true
origin_passes text o =
    short_passes text o.short (ap is_schemed o.text_is ∙ schemed o.secure o.host o.port (place_passes o.secure o.host o.port o.some o.letters o.least o.most))

place_is : (secure : Bool) (text rest : List ℕ) → length text ≤ 200 → text ≡ scheme secure ++ (codes "://" ++ rest) → is_place secure rest ≡ true → IsOrigin text
place_is secure text rest short is held =
    let host = take_while is_host_byte rest in
    let parts = and_parts (nat_lt 0 (length host)) _ held in
    let port = behind_port secure (drop (host_len rest) rest) parts.1 in
    let whole : rest ≡ host ++ port_text secure port.port = sym (parted rest) ∙ ap (λ (l : List ℕ). host ++ l) port.text_is in
    record {
      secure = secure;
      host = host;
      port = port.port;
      some = grind (arith, parts.0);
      letters = all_taken rest;
      least = port.least;
      most = port.most;
      text_is = is ∙ ap (λ (l : List ℕ). scheme secure ++ (codes "://" ++ l)) whole;
      short = short;
    }

schemed_is : (text : List ℕ) (a b : Bool) → length text ≤ 200 → (a ≡ true → text ≡ codes "https://" ++ drop 8 text) → (b ≡ true → text ≡ codes "http://" ++ drop 7 text)
    → (if a then is_place true (drop 8 text) else if b then is_place false (drop 7 text) else false) ≡ true → IsOrigin text
schemed_is text true b short secure plain is = place_is true text (drop 8 text) short (secure refl) is
schemed_is text false true short secure plain is = place_is false text (drop 7 text) short (plain refl) is
schemed_is text false false short secure plain is = absurd (true≢false (sym is))

pub passes_is : (text : List ℕ) → passes text ≡ true → IsOrigin text
passes_is text is =
    let parts = and_parts (nat_le (length text) 200) (is_schemed text) is in
    let short : length text ≤ 200 = grind (arith, parts.0) in
    schemed_is text (starts_with eqb text (codes "https://")) (starts_with eqb text (codes "http://")) short
    (starts_is Decides-eqb text (codes "https://") _ refl).0 (starts_is Decides-eqb text (codes "http://") _ refl).0 parts.1

-- ---- an origin is of ASCII alone

host_is_low : (byte : ℕ) → is_host_byte byte ≡ true → byte < 128
host_is_low byte is = grind (arith, is)

scheme_is_ascii : (secure : Bool) → IsAscii (scheme secure ++ codes "://")
scheme_is_ascii true = literal (codes "https://") refl
scheme_is_ascii false = literal (codes "http://") refl

port_is_ascii : (secure : Bool) (port : ℕ) → port ≤ 65535 → IsAscii (port_text secure port)
port_is_ascii secure port most =
    elim (port == own_port secure) as (λ b. IsAscii (if b then [] else 58 ∷ decimal port)) [
      | true ↦ literal [] refl
      | false ↦ IsAscii-append (58 ∷ []) (decimal port) (literal (58 ∷ []) refl) (IsAscii-decimal port (omega (arith, most)))
    ]

written_is_ascii : (secure : Bool) (host : List ℕ) (port : ℕ) → list_all is_host_byte host ≡ true → port ≤ 65535 → IsAscii (origin_text secure host port)
written_is_ascii true host port letters most =
    IsAscii-append (codes "https://") (host ++ port_text true port) (literal (codes "https://") refl)
    (IsAscii-append host (port_text true port) (all_ascii is_host_byte host_is_low host letters) (port_is_ascii true port most))
written_is_ascii false host port letters most =
    IsAscii-append (codes "http://") (host ++ port_text false port) (literal (codes "http://") refl)
    (IsAscii-append host (port_text false port) (all_ascii is_host_byte host_is_low host letters) (port_is_ascii false port most))

pub origin_is_text : (text : List ℕ) → IsOrigin text → IsUtf8 text
origin_is_text text o =
    IsUtf8-from_ascii text (subst IsAscii (sym o.text_is) (written_is_ascii o.secure o.host o.port o.letters o.most))
