use Rattle.std.proofs.Common.{refl}
use Rattle.command_words.proofs.rules.is_moment.Goals as goal

pub returns-in-Some : goal.returns-in-Some
returns-in-Some c =
    let read = (c.in-Some.ensures c.in-Some.field-0).0 refl in
    (λ _. (c.in-Some.field-0, read.0, read.1), λ _. refl)
