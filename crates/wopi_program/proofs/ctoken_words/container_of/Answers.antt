use Rattle.std.proofs.Common.{refl, sym, subst, ◌∙◌}
use Rattle.wopi_model.specs.User.{IsUser}
use Rattle.wopi_text.proofs.Decimals.{decimal_of-some}
use Rattle.wopi_program.proofs.CtokenLemmas.{same_words, serial_refused}
use Rattle.wopi_program.proofs.ctoken_words.container_of.Goals as goal

pub returns-in_err-serial-clause-none : goal.returns-in_err-serial-clause-none
returns-in_err-serial-clause-none c =
    rw c.from_residual-in_err-serial.ensures (serial_refused _ _ _ _ _ c.as_bytes-3.result.now c.in_err-serial.ensures c.as_bytes-3.ensures.value)

pub returns-clause-some : goal.returns-clause-some
returns-clause-some c =
    let serial = decimal_of-some c.as_bytes-3.result.now c.in_ok-serial.serial (sym c.in_ok-serial.ensures) in
    let issued = (c.in_ok-issued.ensures c.in_ok-issued.issued).0 refl in
    let expires = (c.in_ok-expires.ensures c.in_ok-expires.expires).0 refl in
    let rights = (c.in_ok-write.ensures c.in_ok-write.write).0 refl in (
      record {
        user = subst IsUser (sym c.in_ok-user.ensures.value) (c.in_ok-user.ensures.exact.0 refl);
        serial = serial.0;
        issued = issued.0;
        expires = expires.0;
      },
      same_words _ _ _ _ _ _ _ _ _ _
          (sym c.as_bytes.ensures.value ∙ sym c.in_ok-user.ensures.value) (sym c.as_bytes-2.ensures.value ∙ rights)
          (sym c.as_bytes-3.ensures.value ∙ serial.1) (sym c.as_bytes-4.ensures.value ∙ issued.1) (sym c.as_bytes-5.ensures.value ∙ expires.1),
    )
