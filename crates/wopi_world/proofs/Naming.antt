-- The lock ids of two sessions are apart where their nonces are.
use Rattle.std.proofs.Common.{◌≡◌, ◌≢◌, ℕ, ◌+◌, List, [], ◌∷◌, ◌++◌, map, refl, sym, inl, inr, arith}
use Rattle.std.specs.List.{AllByRecursion}
use Rattle.std.specs.Int.Digits.{digits_of}
use Rattle.wopi_model.specs.Safety.{Presents}
use Rattle.save_session.specs.LockIds.{decimal, lock_id}
use Rattle.wopi_world.specs.Requests.{Client, Sent, Info, TakeLock, Get, Put, Relock, RefreshLock, Unlock, act_sent, call_of, PresentsNone}

abbrev HasNoDash : List ℕ → Type 0
HasNoDash bytes = AllByRecursion (λ byte. byte ≢ 45) bytes

decimal_plain : (digits : List ℕ) → HasNoDash (map (λ digit. 48 + digit) digits)
decimal_plain [] = tt
decimal_plain (digit ∷ digits) = ((λ (e : 48 + digit ≡ 45). omega (arith, e)), decimal_plain digits)

dash_within : (front rest bytes : List ℕ) → bytes ≡ front ++ 45 ∷ rest → HasNoDash bytes → ⊥
dash_within [] rest [] e plain = cc
dash_within [] rest (byte ∷ bytes) e plain = let bad : byte ≡ 45 = cc in plain.0 bad
dash_within (one ∷ front) rest [] e plain = cc
dash_within (one ∷ front) rest (byte ∷ bytes) e plain = let more : bytes ≡ front ++ 45 ∷ rest = cc in dash_within front rest bytes more plain.1

-- the last dash parts a text in one way
last_dash : (one other x y : List ℕ) → HasNoDash x → HasNoDash y → one ++ 45 ∷ x ≡ other ++ 45 ∷ y → one ≡ other
last_dash [] [] x y p q e = refl
last_dash [] (byte ∷ other) x y p q e = let rest : x ≡ other ++ 45 ∷ y = cc in absurd (dash_within other y x rest p)
last_dash (byte ∷ one) [] x y p q e = let rest : y ≡ one ++ 45 ∷ x = cc in absurd (dash_within one x y rest q)
last_dash (first ∷ one) (second ∷ other) x y p q e =
    let rest : one ++ 45 ∷ x ≡ other ++ 45 ∷ y = cc in
    let tail : one ≡ other = last_dash one other x y p q rest in
    cc

pub same_nonce : (one other : List ℕ) (i j : ℕ) → lock_id one i ≡ lock_id other j → one ≡ other
unfolding lock_id
same_nonce one other i j e = last_dash one other (decimal i) (decimal j) (decimal_plain (digits_of 10 i)) (decimal_plain (digits_of 10 j)) e

-- a session presents ids of its own
pub presented : (nonce : List ℕ) (op : Sent) (id : List ℕ) → Presents (act_sent nonce op) id → (i : ℕ) × (lock_id nonce i ≡ id)
presented nonce Info id h = absurd h
presented nonce TakeLock id h = (1, h)
presented nonce Get id h = absurd h
presented nonce (Put j d) id h = (j, h)
presented nonce (Relock j) id (inl h) = (j, h)
presented nonce (Relock j) id (inr h) = (j + 1, h)
presented nonce (RefreshLock j) id h = (j, h)
presented nonce (Unlock j) id h = (j, h)

pub apart_lem : (client other : Client) (sent : Sent) → (client.token.file ≡ other.token.file → client.nonce ≢ other.nonce) → PresentsNone client (call_of other sent)
apart_lem client other sent apart here number h =
    let p = presented other.nonce sent (lock_id client.nonce number) h in
    apart (sym here) (sym (same_nonce other.nonce client.nonce p.0 number p.1))
