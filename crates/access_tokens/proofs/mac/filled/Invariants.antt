use Rattle.std.proofs.Common.{◌≡◌, ℕ, ◌<◌, ◌≤◌, length, get_or}
use Rattle.access_tokens.proofs.mac.filled.Given as goal

-- the bytes so far, and zeros behind them
abbrev pub invariant-loop-i : goal.invariant-loop-i
invariant-loop-i l = record {
  sized : length l.block ≡ 64;
  front : (k : ℕ) → k < l.i → get_or l.block k 0 ≡ get_or l.bytes k 0;
  zeros : (k : ℕ) → l.i ≤ k → get_or l.block k 0 ≡ 0;
}
