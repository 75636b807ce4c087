use Rattle.std.proofs.Common.{◌≡◌, ◌+◌, ◌-◌, take, ◌∙◌, subst, arith}
use Rattle.wopi_http.specs.Waits.{Takes}
use Rattle.wopi_http.proofs.LookLemmas.{takes_then, takes_behind}
use Rattle.wopi_http.proofs.body.read_to_end.Goals as goal

pub reading-preserved : goal.reading-preserved
reading-preserved g c =
    let l = c.reading in
    let new = c.read_behind.new.space in
    let n = c.in-Ok.count in
    let a = g.S.Source.left l.source in
    let b = g.S.Source.left c.read_behind.new.source in
    let more : Takes a b (take l.done l.body.items) (take (l.done + n) new.items) n =
    takes_behind a b l.body.items new.items l.done n c.in-Ok.ensures.front (omega (arith, c.in-Ok.ensures.fits, new.ok.0)) c.in-Ok.ensures.bytes in
    let sum : l.done - c.args.filled + n ≡ l.done + n - c.args.filled = omega (arith, l.invariant.from) in
    record {
      from = omega (arith, l.invariant.from);
      inside = omega (arith, c.in-Ok.ensures.fits);
      len = c.in-Ok.ensures.len ∙ l.invariant.len;
      capacity = c.in-Ok.ensures.capacity ∙ l.invariant.capacity;
      taken = subst (Takes _ _ _ _) sum (takes_then _ _ _ _ _ _ _ _ l.invariant.taken more);
      beside = c.in-Ok.ensures.beside ∙ l.invariant.beside;
      fine = c.in-Ok.ensures.fine ∙ l.invariant.fine;
      never_falls = omega (arith, c.in-Ok.ensures.never_falls, l.invariant.never_falls);
    }
