use Rattle.std.proofs.Common.{◌≡◌, ◌≤◌, None, List, length, vec_capacity, refl, sym, ◌∙◌, subst, rules, arith}
use Rattle.host_table.proofs.Starting.{handed_long}
use Rattle.wopi_program.specs.Paired.{AreAnew}
use Rattle.wopi_program.proofs.KeepLemmas.{kept_runs}
use Rattle.wopi_program.proofs.KeepLives.{lives_of}
use Rattle.wopi_program.proofs.KeepRefused.{keep_refused, keep_wanted}
use Rattle.wopi_program.proofs.ServeLemmas.{begun_many, ready_at_start}
use Rattle.wopi_program.proofs.keeping.keep_in.Goals as goal

pub returns-in_default-clause-runs : goal.returns-in_default-clause-runs
returns-in_default-clause-runs g c = keep_wanted _ c.args.keep.syncs_all c.args.keys c.args.base c.args.origin c.args.ask c.args.keep _ _ c.first_moment-opened.result refl refl refl refl c.first_moment-opened.ensures.opens

-- there is room for the folders and the logs of all stores
pub refuse_keep-requires-clause-folders : goal.refuse_keep-requires-clause-folders
refuse_keep-requires-clause-folders g c =
    let long : length c.in-Err.refused.0.items ≡ length c.pair_all-stores.result.items = handed_long _ _ _ _ c.in-Err.ensures.handed in
    let many = c.pair_all-stores.ensures.many in
    let room = c.in-Ok.space.folders_fit.1 in
    let fits : length c.in-Err.refused.0.items ≤ vec_capacity c.in-Ok.space.folders = omega (arith, long, many, room) in
    ((λ i. (c.replace-folders.ensures.after i).items) ∙ c.in-Ok.space.folders_fit.0, subst (λ n. length c.in-Err.refused.0.items ≤ n) (sym (λ i. vec_capacity (c.replace-folders.ensures.after i))) fits)

pub refuse_keep-requires-clause-logs : goal.refuse_keep-requires-clause-logs
refuse_keep-requires-clause-logs g c =
    let long : length c.in-Err.refused.0.items ≡ length c.pair_all-stores.result.items = handed_long _ _ _ _ c.in-Err.ensures.handed in
    let many = c.pair_all-stores.ensures.many in
    let room = c.in-Ok.space.logs_fit.1 in
    let fits : length c.in-Err.refused.0.items ≤ vec_capacity c.in-Ok.space.logs = omega (arith, long, many, room) in
    ((λ i. (c.replace-logs.ensures.after i).items) ∙ c.in-Ok.space.logs_fit.0, subst (λ n. length c.in-Err.refused.0.items ≤ n) (sym (λ i. vec_capacity (c.replace-logs.ensures.after i))) fits)

pub returns-in-Err-clause-runs : goal.returns-in-Err-clause-runs
returns-in-Err-clause-runs g c =
    let F = g.row.F.Denot in
    let G = g.row.G.Denot in
    let stores = c.pair_all-stores.result.items in
    let lasts = c.in-Err.refused.0.items in
    let both : (c.replace-folders.result.items, c.replace-logs.result.items) ≡ (c.args.outside.now.folders.items, c.args.outside.now.logs.items) =
    λ i. ((c.replace-folders.ensures.value i).items, (c.replace-logs.ensures.value i).items)
    in
    let anew = subst (λ (z : List F × List G). AreAnew g.G.Sink.held g.G.Sink.write_faults c.args.keep.syncs_all 0 z.0 z.1 stores) both c.pair_all-stores.ensures.anew in
    let lives = lives_of g.G.Sink.held g.G.Log.synced g.G.Sink.write_faults c.args.keep.syncs_all 0 c.args.outside.now.folders.items c.args.outside.now.logs.items stores lasts _ _ anew c.in-Err.ensures.logs c.refuse_keep.ensures.parted in
    keep_refused _ c.args.keep.syncs_all c.args.keys c.args.base c.args.origin c.args.ask c.args.keep _ _ c.first_moment-opened.result stores lasts c.in-Err.refused.1 c.refuse_keep.result refl refl lives
    c.in-Err.ensures.handed c.in-Err.ensures.blamed c.first_moment-opened.ensures.opens c.refuse_keep.ensures.ended

pub keep_host-requires-clause-first : goal.keep_host-requires-clause-first
keep_host-requires-clause-first g c κs within =
    let begun = c.in-Ok-start_endless.begun in
    let fact = ready_at_start _ _ _ c.pair_all-stores.result.items (record { calls = None; ids = c.args.keep.ids }) c.first_moment-opened.result c.args.ask.first begun.0 begun.1 c.in-Ok-start_endless.ensures.starts in
    search (rules, fact)

pub keep_host-requires-clause-many : goal.keep_host-requires-clause-many
keep_host-requires-clause-many g c κs within =
    begun_many _ _ _ c.first_moment-opened.result c.args.ask.first _ 0 c.pair_all-stores.result.items _ c.in-Ok-start_endless.ensures.starts.bases ∙ c.pair_all-stores.ensures.many

pub keep_host-requires-clause-folders : goal.keep_host-requires-clause-folders
keep_host-requires-clause-folders g c κs within =
    ((λ i. (c.replace-folders.ensures.after i).items) ∙ c.in-Ok.space.folders_fit.0, subst (λ n. 16 ≤ n) (sym (λ i. vec_capacity (c.replace-folders.ensures.after i))) c.in-Ok.space.folders_fit.1)

pub keep_host-requires-clause-logs : goal.keep_host-requires-clause-logs
keep_host-requires-clause-logs g c κs within =
    ((λ i. (c.replace-logs.ensures.after i).items) ∙ c.in-Ok.space.logs_fit.0, subst (λ n. 16 ≤ n) (sym (λ i. vec_capacity (c.replace-logs.ensures.after i))) c.in-Ok.space.logs_fit.1)

pub returns-in-Ok-start_endless-clause-runs : goal.returns-in-Ok-start_endless-clause-runs
returns-in-Ok-start_endless-clause-runs g c =
    let F = g.row.F.Denot in
    let G = g.row.G.Denot in
    let begun = c.in-Ok-start_endless.begun in
    let starts = c.in-Ok-start_endless.ensures.starts in
    let stores = c.pair_all-stores.result.items in
    let both : (c.replace-folders.result.items, c.replace-logs.result.items) ≡ (c.args.outside.now.folders.items, c.args.outside.now.logs.items) =
    λ i. ((c.replace-folders.ensures.value i).items, (c.replace-logs.ensures.value i).items)
    in
    let anew = subst (λ (z : List F × List G). AreAnew g.G.Sink.held g.G.Sink.write_faults c.args.keep.syncs_all 0 z.0 z.1 stores) both c.pair_all-stores.ensures.anew in
    let many = begun_many _ _ _ c.first_moment-opened.result c.args.ask.first _ 0 stores _ starts.bases ∙ c.pair_all-stores.ensures.many in
    kept_runs _ c.args.keys c.args.base c.args.origin c.args.ask c.args.keep c.serving-desk.result c.first_moment-opened.result begun.0 begun.1 _ _ _
    c.serving-desk.ensures.keys c.serving-desk.ensures.base c.serving-desk.ensures.editor c.serving-desk.ensures.origin c.serving-desk.ensures.opened c.first_moment-opened.ensures.opens refl refl
    stores anew starts c.requires.first.0 many c.keep_host.result c.keep_host.ensures.kept
