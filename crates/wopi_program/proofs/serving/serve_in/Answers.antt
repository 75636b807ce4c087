use Rattle.std.proofs.Common.{◌∙◌, inl, refl, rules, sym}
use Rattle.wopi_model.specs.Host.{kept_limits}
use Rattle.host_table.proofs.Starting.{handed_self}
use Rattle.wopi_program.proofs.ServeLemmas.{ready_at_start, refused_apart, runs, runs_refused}
use Rattle.wopi_program.proofs.serving.serve_in.Goals as goal

pub returns-in_default-clause-runs : goal.returns-in_default-clause-runs
returns-in_default-clause-runs g c =
    inl (refl, refl, refl, handed_self g.F.Folder.files g.F.Folder.faults c.args.outside.now.folders.items, (c.first_moment-opened.result, c.first_moment-opened.ensures.opens))

pub returns-in-Err-clause-runs : goal.returns-in-Err-clause-runs
returns-in-Err-clause-runs g c =
    runs_refused _ c.args.keys c.args.base c.args.origin c.args.ask c.first_moment-opened.result _ _ c.in-Err.refused.1 c.refused_end.result c.replace-folders.result.items
    c.refused_end.ensures (λ i. (c.replace-folders.ensures.value i).items) refl refl refl c.in-Err.ensures.handed c.first_moment-opened.ensures.opens c.in-Err.ensures.blamed

pub returns-in-Err-clause-write_fault : goal.returns-in-Err-clause-write_fault
returns-in-Err-clause-write_fault g c = λ is. absurd (refused_apart c.in-Err.refused.1 (sym c.refused_end.ensures ∙ is))

pub serve_opened-requires-clause-first : goal.serve_opened-requires-clause-first
serve_opened-requires-clause-first g c κs within =
    let kept = c.in-Ok-keep.ensures.starts in
    let fact = ready_at_start _ _ _ kept.stores (kept_limits c.args.ask.capacity) c.first_moment-opened.result c.args.ask.first c.in-Ok-keep.begun.0 c.in-Ok-keep.begun.1 kept.starts in
    search (rules, fact)

pub returns-in-Ok-keep-clause-runs : goal.returns-in-Ok-keep-clause-runs
returns-in-Ok-keep-clause-runs g c =
    runs _ c.args.keys c.args.base c.args.origin c.args.ask c.serving-desk.result c.first_moment-opened.result c.in-Ok-keep.begun.0 c.in-Ok-keep.begun.1 _ _ _
    c.serving-desk.ensures.keys c.serving-desk.ensures.base c.serving-desk.ensures.editor c.serving-desk.ensures.origin c.serving-desk.ensures.opened c.first_moment-opened.ensures.opens refl refl refl
    c.replace-folders.result.items (λ i. (c.replace-folders.ensures.value i).items) c.in-Ok-keep.ensures.starts c.serve_opened.result c.serve_opened.ensures.runs
