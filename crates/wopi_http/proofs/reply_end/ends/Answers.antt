use Rattle.std.proofs.Common.{◌∷◌, [], ◌++◌, Bool, None, Some, subst, sym}
use Rattle.std.proofs.lemmas.Result.{IfOk-weaker}
use Rattle.wopi_http.specs.ReplyForms.{ReplyHeadSays}
use Rattle.wopi_http.specs.ReplyEnds.{BodyEnds}
use Rattle.wopi_http.proofs.ReplyLemmas.{passes_head, one_more}
use Rattle.wopi_http.proofs.EndLemmas.{ends_without, ends_behind}
use Rattle.wopi_http.proofs.reply_end.ends.Goals as goal

pub returns-in_default : goal.returns-in_default
returns-in_default c =
    let skipped = c.heads.invariant.skipped in
    let says = subst (λ z. ReplyHeadSays z None) c.behind.ensures (subst (ReplyHeadSays c.behind.result.now) c.in_default.is c.in_ok-head.ensures) in
    ends_without c.args.bytes.now c.heads.at skipped.0 skipped.1 says

pub returns-then-not-is_interim : goal.returns-then-not-is_interim
returns-then-not-is_interim c =
    let bytes = c.args.bytes.now in
    let at = c.heads.at in
    let x = c.in-Some.head in
    let skipped = c.heads.invariant.skipped in
    let says = subst (λ z. ReplyHeadSays z (Some x)) c.behind.ensures (subst (ReplyHeadSays c.behind.result.now) c.in-Some.is c.in_ok-head.ensures) in
    let p = passes_head bytes at x c.heads.invariant.within says in
    IfOk-weaker c.body_ends.result _ _
    (λ (is : Bool) on. ends_behind bytes at skipped.0 x is skipped.1 p (sym c.if-not-is_interim.ensures)
    (subst (λ z. BodyEnds p.head z is) c.behind-then-not-is_interim.ensures on))
    (c.body_ends.ensures p.head p.reply p.version)

pub heads-preserved : goal.heads-preserved
heads-preserved c =
    let bytes = c.args.bytes.now in
    let at = c.heads.at in
    let x = c.in-Some.head in
    let skipped = c.heads.invariant.skipped in
    let says = subst (λ z. ReplyHeadSays z (Some x)) c.behind.ensures (subst (ReplyHeadSays c.behind.result.now) c.in-Some.is c.in_ok-head.ensures) in
    let p = passes_head bytes at x c.heads.invariant.within says in
    record {
      within = p.within;
      skipped = (skipped.0 ++ p.head ∷ [], one_more bytes at skipped.0 x skipped.1 p (sym c.if-not-is_interim.ensures));
    }
