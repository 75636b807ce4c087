-- What is known of a text that was read before.
use Rattle.std.proofs.Common.{◌≡◌, List, ℕ, None, Some, Ok, Err, ap, subst}
use Rattle.std.specs.Prelude.{◌↔◌, Bool, true, false, cond, [], ◌∷◌, ◌++◌}
use Rattle.std.specs.List.{All}
use Rattle.std.proofs.lemmas.List.Elements.{All-push}
use Rattle.wopi_model.specs.declared.token.Token.{Token}
use Rattle.access_tokens.specs.TokenText.{IsSigned}
use Rattle.access_tokens.specs.declared.keys.Keys.{Keys}
use Rattle.access_tokens.specs.declared.checking.TokenFault.{TokenFault}
use Rattle.access_tokens.proofs.Readings.{one_reading}

same_token : (first second : Token) → Some first ≡ Some second → first ≡ second
same_token first second e = cc e

-- a text has no token but the one it is known to have
pub signed_only : (keys : Keys) (text : List ℕ) (known : Token) → IsSigned keys text known
    → (token : Token) → (Some known ≡ Some token) ↔ IsSigned keys text token
signed_only keys text known signed token = (
  λ e. subst (IsSigned keys text) (same_token known token e) signed,
  λ other. ap (λ (t : Token). Some t) (one_reading text signed.0 other.0 known token _ _ signed.3 other.3).1,
)

-- a text that isn't read has none
pub signed_never : (keys : Keys) (text : List ℕ) (fault : TokenFault) → ((token : Token) → (Err fault ≡ Ok token) ↔ IsSigned keys text token)
    → (token : Token) → (None ≡ Some token) ↔ IsSigned keys text token
signed_never keys text fault exact token = (λ e. cc e, λ signed. let e : Err fault ≡ Ok token = (exact token).1 signed in absurd (cc e))

-- what holds of each element holds once another one was added, or was not
pub all_pushed : {X : Type 0} (P : X → Type 0) (fits : Bool) (xs : List X) (x : X) → All P xs → P x → All P (cond fits (xs ++ x ∷ []) xs)
all_pushed P true xs x all one = All-push P xs x all one
all_pushed P false xs x all one = all
