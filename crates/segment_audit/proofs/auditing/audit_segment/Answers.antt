use Rattle.std.proofs.Common.{refl}
use Rattle.segment_audit.proofs.Verdicts.{audited, fresh}
use Rattle.segment_audit.proofs.auditing.audit_segment.Goals as goal

pub watch_segment-requires : goal.watch_segment-requires
watch_segment-requires g c = fresh _ refl refl

pub returns-in-Ok-clause-judged : goal.returns-in-Ok-clause-judged
returns-in-Ok-clause-judged g c =
    audited (g.S.Source.left c.args.source.now) (g.S.Source.left c.watch_segment.new.source) c.in-Ok.read c.in-Ok.judge _ c.in-Ok.ensures.watched refl refl refl
