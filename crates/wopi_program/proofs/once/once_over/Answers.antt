use Rattle.std.proofs.Common.{ap, ◌∙◌, None, false, []}
use Rattle.wopi_model.specs.Host.{kept_limits}
use Rattle.wopi_program.specs.Once.{over_folder}
use Rattle.wopi_program.proofs.OnceLemmas.{kept_and_served}
use Rattle.wopi_program.proofs.once.once_over.Goals as goal

pub returns-in-Ok-clause-runs : goal.returns-in-Ok-clause-runs
returns-in-Ok-clause-runs g c =
    let o = c.in-Ok.ensures.opening in
    kept_and_served _ c.serving-desk.result c.args.keys c.args.base c.args.editor c.args.origin c.now-opened.result c.serve_over-folder.result.1 c.args.folder c.new-store.result.folder c.serve_over-folder.result.0 _ _ _ _ _
    o.0 (over_folder c.in-Ok.shard) c.new-store.ensures.folder c.serving-desk.ensures.keys c.serving-desk.ensures.base c.serving-desk.ensures.editor c.serving-desk.ensures.origin c.serving-desk.ensures.opened c.now-opened.ensures.told
    (ap over_folder (c.in-Ok.ensures.opened ∙ (λ i. record { only = None; begin = o.1 i; limits = kept_limits 4096; dates = c.in-Ok.shard.dates; made = []; time = c.now-opened.result; ticked = false; start = c.new-store.result; folder = c.in-Ok.shard.folder }))) o.2 o.3 c.in-Ok.ensures.dates c.in-Ok.ensures.told c.serve_over-folder.ensures.serves
