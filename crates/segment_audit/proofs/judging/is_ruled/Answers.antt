use Rattle.std.proofs.Common.{◌≡◌, ◌↔◌, ℕ, ap, ◌∙◌, sym, subst}
use Rattle.std.specs.Prelude.{IsTrue}
use Rattle.wopi_model.specs.Begin.{at_name}
use Rattle.wopi_model.specs.Settle.{settled}
use Rattle.journal_audit.specs.Lines.{IsRuledOn}
use Rattle.journal_segments.specs.Told.{Placed, unmet}
use Rattle.segment_audit.specs.Sizes.{file_of}
use Rattle.segment_audit.proofs.judging.is_ruled.Goals as goal

pub returns-in-Some : goal.returns-in-Some
returns-in-Some c =
    let told = c.args.told.now in
    let line = c.args.line.now in
    let other = unmet told.first in
    let at : c.in-Some.file.now ≡ at_name other told.files line.name = sym (c.find.ensures other ∙ cc (c.in-Some.is)) in
    let P : Placed × ℕ → Type 0 = λ p. IsTrue c.is_ruled_on.result ↔ IsRuledOn (settled (file_of p.0) line.now) line p.1 line.now in
    subst P (λ i. (at i, c.opened.ensures i)) c.is_ruled_on.ensures

pub returns-in-None : goal.returns-in-None
returns-in-None c =
    let told = c.args.told.now in
    let line = c.args.line.now in
    let other = unmet told.first in
    let at : c.unmet-file.result ≡ at_name other told.files line.name = c.unmet-file.ensures ∙ ap unmet c.first.ensures ∙ sym (c.find.ensures other ∙ cc (c.in-None.is)) in
    let P : Placed × ℕ → Type 0 = λ p. IsTrue c.is_ruled_on-in-None.result ↔ IsRuledOn (settled (file_of p.0) line.now) line p.1 line.now in
    subst P (λ i. (at i, c.opened-in-None.ensures i)) c.is_ruled_on-in-None.ensures
