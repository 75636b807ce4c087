use Rattle.std.proofs.Common.{◌≡◌, ◌+◌, ◌-◌, length, arith}
use Rattle.journal_segments.proofs.Coming.{end_missing, end_short, end_told, timed_at}
use Rattle.journal_segments.proofs.reading.SegmentReader.finish.Goals as goal

pub returns-in-First-clause-head : goal.returns-in-First-clause-head
returns-in-First-clause-head g c = λ text come. end_missing g.W.Watcher.has_seen c.args.self text c.in-First.is come

pub finish-requires : goal.finish-requires
finish-requires g c =
    let (text, come) = c.requires in
    timed_at g.W.Watcher.has_seen c.args.self c.in-Rows.state text c.in-Rows.is come

pub overflow_sub-result : goal.overflow_sub-result
overflow_sub-result g c =
    let (text, come) = c.requires in
    let short = end_short g.W.Watcher.has_seen c.args.self text come in
    omega (arith, short)

pub returns-in-Ok-clause-seen : goal.returns-in-Ok-clause-seen
returns-in-Ok-clause-seen g c = λ text come.
    let reader = c.args.self in
    let short = end_short g.W.Watcher.has_seen reader text come in
    let used : (reader.size - c.len.result) + length reader.held.items ≡ reader.size = omega (arith, short) in
    end_told g.W.Watcher.has_seen reader c.in-Rows.state _ text c.in-Rows.is come c.shard-shard.ensures c.in-Ok.ensures used
