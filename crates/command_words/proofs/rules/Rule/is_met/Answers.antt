use Rattle.std.proofs.Common.{◌↔◌, IsTrue, sym, subst}
use Rattle.command_words.specs.Rules.{Keeps}
use Rattle.command_words.specs.declared.rules.Rule.{Rule}
use Rattle.command_words.proofs.rules.Rule.is_met.Goals as goal

pub returns-in-Key : goal.returns-in-Key
returns-in-Key c =
    let writes = rw c.as_bytes-word.ensures.value at c.are_keys.ensures in
    subst (λ (rule : Rule). IsTrue c.are_keys.result ↔ Keeps rule c.args.word.now) (sym c.in-Key.is) writes
