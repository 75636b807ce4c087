use Rattle.std.proofs.Common.{length}
use Rattle.command_words.proofs.meaning.+push_option.Given as goal

abbrev pub decreases-push_option : goal.decreases-push_option
decreases-push_option l = length l.options.now
