use Rattle.std.proofs.Common.{string_bytes}
use Rattle.command_words.proofs.LineLemmas.{shown_at}
use Rattle.command_words.proofs.explaining.word_at.Goals as goal

pub returns : goal.returns
returns c = shown_at string_bytes c.args.words.now c.args.place c.index-words-place.result c.as_str.result.now c.requires c.index-words-place.is c.as_str.ensures.value
