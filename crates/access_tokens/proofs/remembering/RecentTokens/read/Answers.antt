use Rattle.std.proofs.Common.{◌≡◌, List, ℕ, Ok, Err, refl, sym, subst}
use Rattle.std.specs.Prelude.{◌↔◌}
use Rattle.access_tokens.specs.TokenText.{IsSigned}
use Rattle.access_tokens.proofs.Remembered.{signed_never, signed_only}
use Rattle.access_tokens.proofs.remembering.RecentTokens.read.Goals as goal

pub returns-in-Some-clause-exact : goal.returns-in-Some-clause-exact
returns-in-Some-clause-exact c =
    let keys = c.args.keys.now in
    signed_only keys c.args.text c.in-Some.token
    (subst (λ (text : List ℕ). IsSigned keys text c.in-Some.token) c.as_slice-2.ensures (c.in-Some.ensures keys c.requires))

pub returns-in_default-read-clause-exact : goal.returns-in_default-read-clause-exact
returns-in_default-read-clause-exact c =
    signed_never c.args.keys.now c.args.text c.in_default-read.field-0
    (λ token. subst (λ (text : List ℕ). (Err c.in_default-read.field-0 ≡ Ok token) ↔ IsSigned c.args.keys.now text token) c.as_slice-3.ensures (c.in_default-read.ensures.exact token))

pub returns-clause-exact : goal.returns-clause-exact
returns-clause-exact c =
    let keys = c.args.keys.now in
    signed_only keys c.args.text c.in-Ok.token
    (subst (λ (text : List ℕ). IsSigned keys text c.in-Ok.token) c.as_slice-3.ensures ((c.in-Ok.ensures.exact c.in-Ok.token).0 refl))

pub returns-clause-remembers : goal.returns-clause-remembers
returns-clause-remembers c =
    let keys = c.args.keys.now in
    c.keep.ensures keys c.requires
    (subst (IsSigned keys c.args.text) (sym c.copy-kept.ensures)
    (subst (λ (text : List ℕ). IsSigned keys text c.in-Ok.token) c.as_slice-3.ensures ((c.in-Ok.ensures.exact c.in-Ok.token).0 refl)))
