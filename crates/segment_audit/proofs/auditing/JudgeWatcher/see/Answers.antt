use Rattle.segment_audit.proofs.Judged.{judged_more}
use Rattle.segment_audit.proofs.auditing.JudgeWatcher.see.Goals as goal

pub returns : goal.returns
returns c = λ head rows one next judged.
    judged_more c.args.self.now _ head rows one c.args.number c.args.back c.args.state.now c.wrong_in-wrong.result next c.wrong_in-wrong.ensures c.is_saved-saved.ensures
    c.verdict_behind-verdict.ensures judged
