use Rattle.std.proofs.Common.{refl, inr, arith}
use Rattle.std.proofs.lemmas.Str.Pattern.{strip_suffix_char}
use Rattle.command_words.proofs.secret.secret_of.Goals as goal

pub returns-in-None : goal.returns-in-None
returns-in-None c =
    inr (refl, rw c.in-None.is at (strip_suffix_char 10 c.args.text.now c.strip_suffix.result c.strip_suffix.ensures.cases (omega arith)))
