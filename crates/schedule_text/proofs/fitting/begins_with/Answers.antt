use Rattle.std.proofs.Common.{◌≡◌, ◌++◌, ◌∙◌, sym, ap}
use Rattle.schedule_text.proofs.FittingLines.{behind_nonce, begins_behind, not_begun}
use Rattle.schedule_text.proofs.fitting.begins_with.Goals as goal

pub returns-in-Some : goal.returns-in-Some
returns-in-Some c =
    let found = rw c.in-Some.is at c.strip_prefix.ensures.cases in
    let id : c.as_slice.result.now ≡ c.args.id.now = c.as_slice.ensures.value in
    let nonce : c.as_slice-2.result.now ≡ c.args.nonce.now = c.as_slice-2.ensures.value in
    let split = behind_nonce c.as_slice.result.now c.as_slice-2.result.now c.in-Some.rest.now found.0 found.1 in
    let whole = begins_behind c.args.id.now c.args.nonce.now c.in-Some.rest.now (sym id ∙ split ∙ ap (λ n. n ++ c.in-Some.rest.now) nonce) in
    (λ t. whole.0 (c.begins_with_dash.ensures.0 t), λ b. c.begins_with_dash.ensures.1 (whole.1 b))

pub returns-in-None : goal.returns-in-None
returns-in-None c =
    let test = rw c.in-None.is at c.strip_prefix.ensures.cases in
    let id = c.as_slice.ensures.value in
    let nonce = c.as_slice-2.ensures.value in
    (λ t. cc t, λ b. absurd (not_begun c.args.id.now c.args.nonce.now (cc (test, id, nonce)) b))
