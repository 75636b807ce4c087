use Rattle.std.specs.Prelude.{codes, ◌≡◌}
use Rattle.std.proofs.Common.{length, ap, rules}
use Rattle.wopi_text.specs.FileName.{IsFileName}
use Rattle.schedule_text.specs.Grammar.{IsContents}
use Rattle.line_text.specs.Words.{hex_text}
use Rattle.schedule_text.proofs.RowForms.{three_same}
use Rattle.schedule_text.proofs.opening_rows.file_read.Goals as goal

pub returns-in_default-clause-none : goal.returns-in_default-clause-none
returns-in_default-clause-none c = λ file form. c.in_default.ensures.none (ap length form.words)

pub returns-in_default-id_read-clause-none : goal.returns-in_default-id_read-clause-none
returns-in_default-id_read-clause-none c = λ file form.
    let parts = three_same _ _ _ _ _ _ _ c.in-Some.ensures.some form.words in
    cc (c.in_default-id_read.ensures.exact.1 (file.name, form.name, parts.1))

pub returns-in_default-2-clause-none : goal.returns-in_default-2-clause-none
returns-in_default-2-clause-none c = λ file form.
    let parts = three_same _ _ _ _ _ _ _ c.in-Some.ensures.some form.words in
    search rules

pub returns-clause-some : goal.returns-clause-some
returns-clause-some c =
    let kind : c.in-Some.kind.now ≡ codes "file" = search rules in
    let name : IsFileName c.in-Ok.name = search rules in
    let contents : IsContents c.in-Some-2.contents × (c.in-Some.digits.now ≡ hex_text c.in-Some-2.contents) = rw c.in-Some-2.is at c.in_ok-contents.ensures.some in
    record { name = name; contents = contents.0; words = cc (c.in-Some.ensures.some, kind, c.in-Ok.ensures.value, contents.1) }
