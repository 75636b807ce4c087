use Rattle.std.proofs.Common.{string_bytes, sym}
use Rattle.std.proofs.lemmas.List.{take-map}
use Rattle.command_words.proofs.explaining.front_of.Goals as goal

pub returns : goal.returns
returns c = sym (take-map string_bytes c.args.place c.args.words.now)
