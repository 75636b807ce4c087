use Rattle.std.proofs.Common.{◌≡◌, Bool, ◌∙◌}
use Rattle.std.proofs.lemmas.Result.{IfOk-weaker}
use Rattle.wopi_http.specs.declared.reply_body.Extent.TheVariants.{Framed}
use Rattle.wopi_http.proofs.EndLemmas.{extent_told, body_told}
use Rattle.wopi_http.proofs.reply_end.body_ends.Goals as goal

pub returns-in-Framed : goal.returns-in-Framed
returns-in-Framed c = λ h reply version.
    let framing = c.in-Framed.framing in
    let e : c.extent_of-extent.result ≡ Framed framing = cc in
    let told = extent_told h c.args.head.now c.as_slice.result.now c.extent_of-extent.result c.as_slice.ensures c.extent_of-extent.ensures.value reply version in
    IfOk-weaker c.has_body.result _ _ (λ (is : Bool) x. body_told h framing c.args.bytes.now is (told ∙ e) x) c.has_body.ensures
