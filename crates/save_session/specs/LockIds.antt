-- The lock ids of a session. (Own: MS-WOPI leaves the form of lock ids to the client.)
use Rattle.std.specs.Prelude.{◌≡◌, ℕ, ◌+◌, List, ◌∷◌, ◌++◌, map}
use Rattle.std.specs.Int.Digits.{digits_of}

-- the decimal of a number above 0
abbrev pub decimal : ℕ → List ℕ
decimal number = map (λ digit. 48 + digit) (digits_of 10 number)

-- the nonce, a dash and the number
unfoldable pub lock_id : List ℕ → ℕ → List ℕ
lock_id nonce number = nonce ++ 45 ∷ decimal number

-- the nonce and a dash begin the id, as they begin each of the session's own
abbrev pub BeginsWith : List ℕ → List ℕ → Type 0
BeginsWith nonce id = (rest : List ℕ) × (id ≡ nonce ++ 45 ∷ rest)
