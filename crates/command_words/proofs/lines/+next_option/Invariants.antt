use Rattle.std.proofs.Common.{length}
use Rattle.command_words.proofs.lines.+next_option.Given as goal

abbrev pub decreases-next_option : goal.decreases-next_option
decreases-next_option l = length l.options.now
