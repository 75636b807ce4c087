use Rattle.std.proofs.Common.{List, ℕ, subst}
use Rattle.host_table.specs.Writing.{IsGathered}
use Rattle.host_table.proofs.WritingLemmas.{all_sent}
use Rattle.host_log.specs.Begins.{begin_in}
use Rattle.host_log.specs.Rows.{begin_text}
use Rattle.host_log.proofs.writing.write_start.Goals as goal

pub returns-clause-bytes : goal.returns-clause-bytes
returns-clause-bytes g c =
    let text = begin_text c.args.shard (begin_in c.args.start.now) in
    let first = subst (λ (l : List ℕ). IsGathered (g.L.Sink.held c.args.log.now) (g.L.Sink.held c.put_start.new.log) l c.put_start.new.room.bytes.items text) c.clear.ensures.items c.in-Ok.ensures.bytes in
    all_sent _ _ _ c.put_start.new.room.bytes.items c.send.new.room.bytes.items text _ first c.send.ensures.bytes c.send.ensures.none
