use Rattle.std.proofs.Common.{◌≡◌, true, sym, subst}
use Rattle.wopi_http.specs.declared.framing.Framing.{Framing}
use Rattle.wopi_http.specs.declared.framing.Framing.TheVariants.{Sized}
use Rattle.wopi_http.specs.ReplyEnds.{HasBody}
use Rattle.wopi_http.proofs.EndLemmas.{sized_ends}
use Rattle.wopi_http.proofs.reply_end.has_body.Goals as goal

pub returns-then-size-bytes : goal.returns-then-size-bytes
returns-then-size-bytes c =
    let bytes = c.args.bytes.now in
    let size = c.in-Sized.size in
    let e : c.args.framing ≡ Sized size = cc in
    subst (λ (f : Framing). HasBody f bytes true) (sym e) (sized_ends size bytes c.if-size-bytes.true)
