use Rattle.std.proofs.Common.{◌≡◌, ◌≤◌, ◌+◌, ◌++◌, ◌∷◌, [], List, ℕ, Some, length, ap, subst, sym, ◌∙◌}
use Rattle.std.specs.Prelude.{take}
use Rattle.std.proofs.lemmas.List.{take_all}
use Rattle.wopi_model.specs.Shard.{Opening}
use Rattle.journal_audit.specs.Audits.{IsOpenedHost}
use Rattle.journal_audit.proofs.Auditing.{opened_keeps, take_next}
use Rattle.journal_audit.proofs.Tracking.{got_or}
use Rattle.journal_audit.proofs.auditor.begin.Goals as goal

pub loop-file-preserved : goal.loop-file-preserved
loop-file-preserved c =
    let files : Opening = c.args.text.now.files in
    let seen : Opening = c.as_slice-file-items.result.now in
    let same : seen ≡ files = c.as_slice-file-items.ensures in
    let place = c.loop-file.file-index in
    let item : List ℕ × List ℕ = c.file-item.result in
    let at = got_or seen place item c.loop-file-test.true ∙ ap (λ (f : List ℕ × List ℕ). Some f) (sym c.file-item.is) in
    let more = ap (take (place + 1)) (sym same) ∙ take_next seen place item at ∙ ap (λ (o : Opening). take place o ++ item ∷ []) same in
    subst (λ (o : Opening). IsOpenedHost c.add_file.new.self o c.args.text.now.opened c.args.text.now.first) (sym more)
    (c.in_ok-add_file.ensures (take place files) item.1 c.args.text.now.opened c.args.text.now.first (ap (λ (l : List ℕ). length l) (sym c.as_slice.ensures)) c.loop-file.invariant)

pub returns : goal.returns
returns c =
    let files : Opening = c.args.text.now.files in
    let seen : Opening = c.as_slice-file-items.result.now in
    let same : seen ≡ files = c.as_slice-file-items.ensures in
    let place = c.loop-file.file-index in
    let far : length files ≤ place = subst (λ (o : Opening). length o ≤ place) same c.loop-file-test.false in
    opened_keeps c.loop-file.auditor files c.args.text.now.opened c.args.text.now.first
    (subst (λ (o : Opening). IsOpenedHost c.loop-file.auditor o c.args.text.now.opened c.args.text.now.first) (take_all place files far) c.loop-file.invariant)
