use Rattle.std.proofs.Common.{ap}
use Rattle.host_core.specs.Value.{InMemory}
use Rattle.wopi_program.specs.Once.{over_folder}
use Rattle.wopi_program.proofs.OnceLemmas.{lawful_over, shard_serves}
use Rattle.wopi_program.proofs.once.serve_over.Goals as goal

pub returns-clause-serves : goal.returns-clause-serves
returns-clause-serves g c =
    shard_serves _ c.args.desk.now c.serve-end.result (over_folder c.args.shard) (over_folder c.new-single.result.shard) (over_folder c.serve-end.new.single.shard) (over_folder c.end-shard.result) c.leave-folder.result.0 _ _ _ _
    (ap over_folder c.new-single.ensures) (ap over_folder c.end-shard.ensures.same) c.serve-end.ensures.serves (ap (λ (s : InMemory g.row.F.Denot). s.folder) c.serve-end.ensures.start) c.end-shard.ensures.whole
    (lawful_over c.end-shard.result _ _ _ _ c.leave-folder.ensures.lawful) c.leave-folder.ensures.folder c.serve-end.ensures.kept
