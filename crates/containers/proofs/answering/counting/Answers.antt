use Rattle.std.proofs.Common.{◌≡◌, ap, refl, arith}
use Rattle.containers.specs.declared.token.ContainerToken.{ContainerToken}
use Rattle.containers.proofs.answering.counting.Goals as goal

pub returns-in_default-clause-none : goal.returns-in_default-clause-none
returns-in_default-clause-none c = λ token h. cc ((c.in_default.ensures.exact token).1 h.signed)

pub returns-then-token-opened-clause-none : goal.returns-then-token-opened-clause-none
returns-then-token-opened-clause-none c = λ token h.
    let read = (c.in-Ok.ensures.exact token).1 h.signed in
    let same : c.in-Ok.token ≡ token = cc read in
    let issued = ap (λ (t : ContainerToken). t.issued) same in
    omega (arith, issued, h.begun, c.if-token-opened.true)

pub returns-then-token-moment-clause-none : goal.returns-then-token-moment-clause-none
returns-then-token-moment-clause-none c = λ token h.
    let read = (c.in-Ok.ensures.exact token).1 h.signed in
    let same : c.in-Ok.token ≡ token = cc read in
    let expires = ap (λ (t : ContainerToken). t.expires) same in
    omega (arith, expires, h.lasts, c.if-token-moment.true)

pub returns-clause-some : goal.returns-clause-some
returns-clause-some c = record {
  signed = (c.in-Ok.ensures.exact c.in-Ok.token).0 refl;
  begun = c.if-token-opened.false;
  lasts = c.if-token-moment.false;
}
