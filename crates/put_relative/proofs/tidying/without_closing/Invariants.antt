use Rattle.std.proofs.Common.{◌≡◌, ℕ, ◌≤◌, ◌<◌, true, length, get_or}
use Rattle.put_relative.specs.CopyNames.{is_closing}
use Rattle.put_relative.proofs.tidying.without_closing.Given as goal

abbrev pub invariant-back : goal.invariant-back
invariant-back l = record {
  inside : l.end ≤ length l.text;
  all : (k : ℕ) → l.end ≤ k → k < length l.text → is_closing (get_or l.text k 0) ≡ true;
}

abbrev pub decreases-back : goal.decreases-back
decreases-back l = l.end
