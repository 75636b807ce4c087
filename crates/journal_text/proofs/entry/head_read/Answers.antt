use Rattle.std.proofs.Common.{sym, ap, ◌∙◌, ◌∷◌, drop}
use Rattle.wopi_text.specs.Ids.{id_of}
use Rattle.journal_text.proofs.entry.head_read.Goals as goal

pub returns-in_default-time_read-clause-none : goal.returns-in_default-time_read-clause-none
returns-in_default-time_read-clause-none c = λ head word words form is.
    c.in_default-time_read.ensures.none head.now (id_of head.name) (word ∷ words) form.now (ap (drop 4) (sym c.in-Some.ensures.some.1 ∙ (rw c.in-Second.is at is)))

pub returns-in_default-name_read-2-clause-none : goal.returns-in_default-name_read-2-clause-none
returns-in_default-name_read-2-clause-none c = λ head word words form is.
    c.in_default-name_read-2.ensures.none head.name word words form.name
    (ap (drop 1) (sym c.in-Some-time_read.ensures.some.1 ∙ ap (drop 4) (sym c.in-Some.ensures.some.1 ∙ (rw c.in-Second.is at is))))
