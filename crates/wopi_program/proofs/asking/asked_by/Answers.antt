use Rattle.std.proofs.Common.{◌≡◌, Some, is_some, refl, sym, ap, ◌∙◌}
use Rattle.wopi_program.specs.Asking.{second_of}
use Rattle.wopi_program.proofs.ServeRows.{copied_some, row_kept, serve_logs}
use Rattle.wopi_program.proofs.asking.asked_by.Goals as goal

pub returns-in-Some-clause-once : goal.returns-in-Some-clause-once
returns-in-Some-clause-once c = λ keys base editor row. cc (sym (c.is_once.ensures.1 (keys, base, editor, row)) ∙ c.if-is_once.false)

pub returns-in-Some-clause-serve : goal.returns-in-Some-clause-serve
returns-in-Some-clause-serve c = λ keys base ask row.
    let both : Some c.in-Some.numbers ≡ Some ask = (c.in-Some.ensures ask).1 (keys, base, row) in
    let same : c.in-Some.numbers ≡ ask = cc both in
    (c.second-in-Some.ensures ∙ ap second_of row.words_are, same)

pub returns-in-Some-clause-logs : goal.returns-in-Some-clause-logs
returns-in-Some-clause-logs c = λ keys base ask row. c.logs_named.ensures ∙ serve_logs _ keys base ask row

pub returns-in-Some-clause-kept : goal.returns-in-Some-clause-kept
returns-in-Some-clause-kept c =
    let found = (c.in-Some.ensures c.in-Some.numbers).0 refl in
    row_kept _ found.0 found.1 c.in-Some.numbers found.2 ∙ ap is_some (sym (c.logs_named.ensures ∙ serve_logs _ found.0 found.1 c.in-Some.numbers found.2)) ∙ copied_some c.logs_named.result

pub returns-in-Some-clause-nothing : goal.returns-in-Some-clause-nothing
returns-in-Some-clause-nothing c = λ no_once no_serve no_edit.
    let found = (c.in-Some.ensures c.in-Some.numbers).0 refl in absurd (no_serve (found.0, found.1, c.in-Some.numbers, found.2))

pub returns-in-None-clause-logs : goal.returns-in-None-clause-logs
returns-in-None-clause-logs c = λ keys base ask row. let is = (c.in-None.ensures ask).1 (keys, base, row) in absurd (cc is)

pub returns-in-None-clause-once : goal.returns-in-None-clause-once
returns-in-None-clause-once c = λ keys base editor row. cc (sym (c.is_once.ensures.1 (keys, base, editor, row)) ∙ c.if-is_once.false)

pub returns-in-None-clause-serve : goal.returns-in-None-clause-serve
returns-in-None-clause-serve c = λ keys base ask row. let is = (c.in-None.ensures ask).1 (keys, base, row) in absurd (cc is)
