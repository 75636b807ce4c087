use Rattle.std.proofs.Common.{refl, rules}
use Rattle.access_tokens.proofs.Readings.{same_claims}
use Rattle.access_tokens.proofs.claims.claims_of.Goals as goal

pub returns-clause-some : goal.returns-clause-some
returns-clause-some c =
    let write = (c.in_ok-write.ensures c.in_ok-write.write).0 refl in
    let serial = (c.in_ok-serial.ensures c.in_ok-serial.serial).0 refl in
    let issued = (c.in_ok-issued.ensures c.in_ok-issued.issued).0 refl in
    let expires = (c.in_ok-expires.ensures c.in_ok-expires.expires).0 refl in (
      record { serial = serial.0; issued = issued.0; expires = expires.0 },
      search rules,
      same_claims _ _ _ _ _ _ _ _ _ write serial.1 issued.1 expires.1,
    )
