use Rattle.std.proofs.Common.{subst}
use Rattle.std.specs.Prelude.{Err}
use Rattle.wopi_http.specs.declared.reply_reading.ReplyFault.{ReplyFault}
use Rattle.wopi_http.specs.ReplyReads.{IsReadAs}
use Rattle.replay_cmd.proofs.carrying.read_back.Goals as goal

pub returns-in-Bad-clause-none : goal.returns-in-Bad-clause-none
returns-in-Bad-clause-none c = λ reply reads.
    let bad = subst (λ (f : ReplyFault). IsReadAs c.args.bytes.now (Err f)) c.in-Bad.is c.in-Err.ensures in
    c.bytes_begin_with_one_reply.ensures.none c.args.bytes.now c.in-Bad.at reply bad reads
