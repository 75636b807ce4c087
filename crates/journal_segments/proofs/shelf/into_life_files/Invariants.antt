use Rattle.std.proofs.Common.{◌≡◌, map}
use Rattle.journal_segments.specs.Lives.{file_told}
use Rattle.journal_segments.proofs.shelf.into_life_files.Given as goal

abbrev pub invariant-files : goal.invariant-files
invariant-files l = map file_told l.lived.items ≡ l.yielded
