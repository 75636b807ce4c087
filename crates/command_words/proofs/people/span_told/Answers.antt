use Rattle.command_words.proofs.people.span_told.Goals as goal

pub returns-in_default-clause-refused : goal.returns-in_default-clause-refused
returns-in_default-clause-refused c = λ span is. absurd (c.in_default.ensures.none span is)
