use Rattle.std.proofs.Common.{length}
use Rattle.command_words.proofs.values.+values_told.Given as goal

abbrev pub decreases-values_told : goal.decreases-values_told
decreases-values_told l = length l.options.now
