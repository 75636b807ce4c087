-- What every token claims beside its user, and how it is written. (Own.)
use Rattle.std.specs.Prelude.{ℕ, ◌<◌, ◌^◌, List, ◌∷◌, ◌++◌, decimal}
use Rattle.wopi_model.specs.Moment.{IsMoment}
use Rattle.access_tokens.specs.declared.claims.Claims.{Claims}
use Rattle.access_tokens.specs.TokenText.{period, rights_of}

-- claims that can be written: their moments are moments
pub record AreWritable (claims : Claims) : Type 0 where
  pub serial : claims.serial < 2 ^ 64
  pub issued : IsMoment claims.issued
  pub expires : IsMoment claims.expires

-- the right and the numbers in decimal, a period before each
abbrev pub claims_text : Claims → List ℕ
claims_text claims =
    period ∷ rights_of claims.write ++ period ∷ decimal claims.serial ++ period ∷ decimal claims.issued ++ period ∷ decimal claims.expires
