use Rattle.std.proofs.Common.{List, ℕ, drop, refl, sym, ap, subst, rules}
use Rattle.wopi_model.specs.User.{IsUser}
use Rattle.access_tokens.specs.Fields.{claims_of}
use Rattle.access_tokens.proofs.Readings.{claims-writable, same_fields}
use Rattle.access_tokens.proofs.reading.token_of.Goals as goal

pub returns-clause-some : goal.returns-clause-some
returns-clause-some c =
    let claims = c.in_ok-claims.ensures.some in (
      record {
        user = subst IsUser (sym c.in_ok-user.ensures.value) (c.in_ok-user.ensures.exact.0 refl);
        file = search rules;
        serial = claims.0.serial;
        issued = claims.0.issued;
        expires = claims.0.expires;
      },
      claims.1,
      same_fields _ _ _ _ _ _ (sym c.in_ok-user.ensures.value) c.in-Ok.ensures.value claims.2,
    )

pub returns-in_err-claims-clause-none : goal.returns-in_err-claims-clause-none
returns-in_err-claims-clause-none c =
    rw c.from_residual-in_err-claims.ensures (λ token form digits e. c.in_err-claims.ensures.none (claims_of token) (claims-writable token form) digits
    (ap (λ (all : List (List ℕ)). drop 2 all) e))
