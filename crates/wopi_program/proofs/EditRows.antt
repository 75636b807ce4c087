-- The words of `edit`.
use Rattle.std.proofs.Common.{◌≡◌, ℕ, suc, ◌+◌, ◌<◌, List, [], ◌∷◌, ◌++◌, None, Some, length, take, drop, get_or, decimal, ◌↔◌, IsTrue, nat_lt, ltb-true, lt-ltb, refl, sym, ap, ◌∙◌, subst, arith}
use Rattle.std.proofs.lemmas.List.{drop_more, length-append, length-take, take-append-drop}
use Rattle.wopi_text.specs.Decimals.{decimal_of}
use Rattle.wopi_text.proofs.Decimals.{decimal_of-some, decimal_of-decimal}
use Rattle.wopi_program.specs.EditWords.{HasPort, IsPort, SplitsAt}

-- a list with these five things in it
pub five_alone : {A : Type 0} (xs : List A) (v w x y z : A) → 4 < length xs → length xs < 6
    → v ≡ get_or xs 0 v → w ≡ get_or xs 1 w → x ≡ get_or xs 2 x → y ≡ get_or xs 3 y → z ≡ get_or xs 4 z → xs ≡ v ∷ w ∷ x ∷ y ∷ z ∷ []
five_alone [] v w x y z some few a b c d e = absurd (omega (arith, some))
five_alone (p ∷ []) v w x y z some few a b c d e = absurd (omega (arith, some))
five_alone (p ∷ q ∷ []) v w x y z some few a b c d e = absurd (omega (arith, some))
five_alone (p ∷ q ∷ r ∷ []) v w x y z some few a b c d e = absurd (omega (arith, some))
five_alone (p ∷ q ∷ r ∷ s ∷ []) v w x y z some few a b c d e = absurd (omega (arith, some))
five_alone (p ∷ q ∷ r ∷ s ∷ t ∷ []) v w x y z some few a b c d e = cc
five_alone (p ∷ q ∷ r ∷ s ∷ t ∷ u ∷ xs) v w x y z some few a b c d e = absurd (omega (arith, few))

-- a colon and a port at a place behind the first part a name from it
pub port_found : (bytes : List ℕ) (at : ℕ) → 0 < at → at < length bytes → SplitsAt bytes at → HasPort bytes
port_found bytes at low within splits =
    let n = length-take at bytes in
    record {
      name = take at bytes;
      digits = drop (at + 1) bytes;
      authority_is = sym (take-append-drop at bytes) ∙ ap (λ l. take at bytes ++ l) (drop_more bytes at 0 within ∙ ap (λ b. b ∷ drop (at + 1) bytes) splits.0);
      name_is = omega (arith, n, within);
      port_is = splits.1;
    }

colon_at : (name digits : List ℕ) → get_or (name ++ (58 ∷ digits)) (length name) 0 ≡ 58
colon_at [] digits = refl
colon_at (b ∷ name) digits = colon_at name digits

behind : (name digits : List ℕ) → drop (suc (length name)) (name ++ (58 ∷ digits)) ≡ digits
behind [] digits = refl
behind (b ∷ name) digits = behind name digits

behind_colon : (name digits : List ℕ) → drop (length name + 1) (name ++ (58 ∷ digits)) ≡ digits
behind_colon name digits =
    let one : length name + 1 ≡ suc (length name) = omega arith in
    ap (λ k. drop k (name ++ (58 ∷ digits))) one ∙ behind name digits

-- and where there is one, it is at some place
pub no_port : (bytes : List ℕ) → ((at : ℕ) → 0 < at → at < length bytes → SplitsAt bytes at → ⊥) → HasPort bytes → ⊥
no_port bytes none has =
    let n = length-append has.name (58 ∷ has.digits) in
    let m : length bytes ≡ length (has.name ++ (58 ∷ has.digits)) = ap length has.authority_is in
    let colon : get_or bytes (length has.name) 0 ≡ 58 = ap (λ l. get_or l (length has.name) 0) has.authority_is ∙ colon_at has.name has.digits in
    let rest : drop (length has.name + 1) bytes ≡ has.digits = ap (drop (length has.name + 1)) has.authority_is ∙ behind_colon has.name has.digits in
    none (length has.name) has.name_is (omega (arith, n, m)) (colon, subst IsPort (sym rest) has.port_is)

-- ---- ports

pub is_port_of : (digits : List ℕ) (port : ℕ) → decimal_of digits ≡ Some port → 0 < port → port < 65536 → IsPort digits
is_port_of digits port is low high = record { port = port; digits_are = (decimal_of-some digits port is).1; low = low; high = high }

pub port_within : (digits : List ℕ) (port : ℕ) → decimal_of digits ≡ Some port → IsPort digits → (0 < port) × (port < 65536)
port_within digits port is has =
    let high = has.high in
    let value : Some has.port ≡ Some port = sym (decimal_of-decimal has.port (omega (arith, high))) ∙ (sym (ap decimal_of has.digits_are) ∙ is) in
    let same : has.port ≡ port = cc value in
    (subst (λ n. 0 < n) same has.low, subst (λ n. n < 65536) same has.high)

pub no_port_read : (digits : List ℕ) → decimal_of digits ≡ None → IsPort digits → ⊥
no_port_read digits is has =
    let high = has.high in
    let value : decimal_of (decimal has.port) ≡ Some has.port = decimal_of-decimal has.port (omega (arith, high)) in
    absurd (cc (is, ap decimal_of has.digits_are, value))

-- the tests of a port

pub is_port_then : (digits : List ℕ) (port : ℕ) → decimal_of digits ≡ Some port → 0 < port → IsTrue (nat_lt port 65536) ↔ IsPort digits
is_port_then digits port is low =
    (λ below. is_port_of digits port is low (ltb-true port 65536 below), λ has. lt-ltb port 65536 (port_within digits port is has).1)

pub is_port_else : (digits : List ℕ) (port : ℕ) → decimal_of digits ≡ Some port → port < 1 → IsTrue (nat_lt 0 port) ↔ IsPort digits
is_port_else digits port is none =
    (λ above. (let low = ltb-true 0 port above in absurd (omega (arith, low, none))), λ has. lt-ltb 0 port (port_within digits port is has).0)
