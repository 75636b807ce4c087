use Rattle.std.proofs.Common.{length}
use Rattle.command_words.proofs.meaning.+push_run_options.Given as goal

abbrev pub decreases-push_run_options : goal.decreases-push_run_options
decreases-push_run_options l = length l.options.now
