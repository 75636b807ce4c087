-- What a run of `token` tells.
use Rattle.std.proofs.Common.{◌≡◌, ◌≢◌, ℕ, List, inl, inr, subst, arith}
use Rattle.access_tokens.specs.declared.keys.Keys.{Keys}
use Rattle.wopi_model.specs.declared.token.Token.{Token}
use Rattle.wopi_program.specs.declared.outside_world.Outside.{Outside}
use Rattle.wopi_program.specs.Meanings.{Meanings}
use Rattle.wopi_program.specs.Telling.{TextEnds}
use Rattle.wopi_program.specs.Token.{TokenEnds, token_line}
use Rattle.wopi_program.specs.Words.{IsTokenRow}

module _ {S K F N D C G L : Type 0} (m : Meanings S K F N D C G L) (words : List (List ℕ)) (status : ℕ) (old new : Outside S K F N D C G) where
  pub TokenEnds-told : (keys : Keys) (token : Token) (text : List ℕ) → IsTokenRow words keys token → text ≡ token_line keys token
      → TextEnds m text status old new → TokenEnds m words status old new
  TokenEnds-told keys token text row text_is ends =
      inr (record { keys = keys; token = token; row = row; told = subst (λ (t : List ℕ). TextEnds m t status old new) text_is ends })

  pub TokenEnds-known : TokenEnds m words status old new → status ≢ 2
  TokenEnds-known (inl wants) two = let six = wants.status_is in absurd (omega (arith, six, two))
  TokenEnds-known (inr told) two = elim told.told.statuses [
    | inl none ↦ absurd (omega (arith, none, two))
    | inr four ↦ absurd (omega (arith, four, two))
  ]
