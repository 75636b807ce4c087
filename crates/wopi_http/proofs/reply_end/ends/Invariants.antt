use Rattle.std.proofs.Common.{◌-◌, ◌≤◌, List, length, drop}
use Rattle.httparse.specs.Grammar.{ResponseHead}
use Rattle.wopi_http.specs.ReplyReads.{ReadsInterim}
use Rattle.wopi_http.proofs.reply_end.ends.Given as goal

-- what was passed over are heads of interim replies
abbrev pub invariant-heads : goal.invariant-heads
invariant-heads l = record {
  within : l.at ≤ length l.bytes;
  skipped : (heads : List ResponseHead) × ReadsInterim l.bytes heads (drop l.at l.bytes);
}

abbrev pub decreases-heads : goal.decreases-heads
decreases-heads l = length l.bytes - l.at
