use Rattle.std.proofs.Common.{string_bytes}
use Rattle.command_words.proofs.LineLemmas.{behind_rules}
use Rattle.command_words.proofs.lines.next_in.Goals as goal

pub returns : goal.returns
returns c =
    behind_rules string_bytes c.args.words.now c.args.name.now c.rules_of-rules.result.now c.next_behind.result c.rules_of-rules.ensures c.if-words-rules.false
    c.next_behind.ensures
