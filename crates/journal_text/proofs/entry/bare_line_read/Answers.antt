use Rattle.std.proofs.Common.{refl, sym, ap, ◌∙◌, ◌≡◌, ◌++◌, ◌∷◌, get_or, [], List, Option, ℕ, subst}
use Rattle.std.specs.Prelude.{decimal}
use Rattle.host_table.specs.Text.{optional_hex, optional_number, reason_text, token_fields, version_text}
use Rattle.journal_text.specs.declared.text.Format.TheVariants.{Second}
use Rattle.journal_text.specs.declared.text.Line.{Line}
use Rattle.journal_text.specs.Entries.{head_words}
use Rattle.journal_text.specs.Lines.{told_size}
use Rattle.journal_text.specs.Words.{act_words, bare_words, words_of}
use Rattle.journal_text.proofs.Asking.{front, one_act}
use Rattle.journal_text.proofs.Bare.{AreEnds-bare, IsHead-bare, bare_end}
use Rattle.journal_text.proofs.EntryWords.{behind_head, head_of, same_told}
use Rattle.journal_text.proofs.entry.bare_line_read.Goals as goal

pub returns-in_default-clause-none : goal.returns-in_default-clause-none
returns-in_default-clause-none c = λ line form is.
    let f = front line.act (bare_end line) in
    c.in_default.ensures.none (head_of line) f.word f.words (IsHead-bare line form) (is ∙ ap (λ l. head_words Second (head_of line) ++ l) f.whole)

pub returns-in_default-ends_read-clause-none : goal.returns-in_default-ends_read-clause-none
returns-in_default-ends_read-clause-none c = λ line form is.
    let rest : words_of c.in-Some.rest.now ≡ act_words line.act ++ bare_end line =
    behind_head Second (words_of c.args.row.now) (words_of c.in-Some.rest.now) (act_words line.act ++ bare_end line) c.in-Some.head (head_of line) c.in-Some.ensures.some.1 is in
    let act = one_act (words_of c.in-Some.rest.now) _ _ c.in-Some-act_read.act line.act c.in-Some-act_read.ensures.some.1 rest in
    c.in_default-ends_read.ensures.none line.token line.status line.lock line.reason line.version (optional_number (told_size line.act line.status)) (AreEnds-bare line form) act.1

pub returns-then-not-is_size-clause-none : goal.returns-then-not-is_size-clause-none
returns-then-not-is_size-clause-none c = λ line form is.
    let rest : words_of c.in-Some.rest.now ≡ act_words line.act ++ bare_end line =
    behind_head Second (words_of c.args.row.now) (words_of c.in-Some.rest.now) (act_words line.act ++ bare_end line) c.in-Some.head (head_of line) c.in-Some.ensures.some.1 is in
    let act = one_act (words_of c.in-Some.rest.now) _ _ c.in-Some-act_read.act line.act c.in-Some-act_read.ensures.some.1 rest in
    let ends = sym c.in-Some-ends_read.ensures.some.1 ∙ act.1 in
    let size = same_told c.in-Some-act_read.act line.act c.in-Some-ends_read.ends.status line.status c.in-Some-act_read.ensures.some.0 form.asked act.0
    c.in-Some-ends_read.ensures.some.0.status_is form.status (ap (λ l. get_or l 1 []) ends) in
    let word : c.in-Some-ends_read.ends.contents.now ≡ optional_number (told_size line.act line.status) = ap (λ l. get_or l 5 []) ends in
    let sized : c.in-Some-ends_read.ends.contents.now ≡ optional_number c.told_size.result = word ∙ ap optional_number (sym (c.told_size.ensures ∙ size)) in
    absurd (cc (c.is_size.ensures.1 sized, c.if-not-is_size.true))
