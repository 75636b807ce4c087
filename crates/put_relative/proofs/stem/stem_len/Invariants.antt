use Rattle.std.proofs.Common.{◌≡◌, ℕ, ◌≤◌, ◌<◌, false, length, get_or}
use Rattle.put_relative.specs.CopyNames.{is_period}
use Rattle.put_relative.proofs.stem.stem_len.Given as goal

abbrev pub invariant-back : goal.invariant-back
invariant-back l = record {
  inside : l.end ≤ length l.name;
  none : (k : ℕ) → l.end ≤ k → k < length l.name → is_period (get_or l.name k 0) ≡ false;
}

abbrev pub decreases-back : goal.decreases-back
decreases-back l = l.end
