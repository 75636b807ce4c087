use Rattle.std.proofs.Common.{sym, ap, ◌∙◌, ◌≡◌, ◌++◌, get_or, [], List, Option, ℕ, subst}
use Rattle.host_table.specs.Text.{optional_hex}
use Rattle.journal_text.specs.Entries.{head_words}
use Rattle.host_core.specs.declared.entry.EntryAct.{EntryAct}
use Rattle.journal_text.specs.Lines.{AreOfForm, AreSized}
use Rattle.journal_text.specs.Words.{act_words, end_words, words_of}
use Rattle.journal_text.proofs.Asking.{front, one_act}
use Rattle.journal_text.proofs.EntryWords.{AreEnds-line, IsHead-line, behind_head, head_of, line_parts, same_told}
use Rattle.journal_text.proofs.Uniqueness.{same_act, same_optional_lock}
use Rattle.journal_text.proofs.entry.line_read.Goals as goal

pub returns-in_default-clause-none : goal.returns-in_default-clause-none
returns-in_default-clause-none c = λ line form is.
    let f = front line.act (end_words line) in
    c.in_default.ensures.none (head_of line) f.word f.words (IsHead-line c.args.form line form) (is ∙ line_parts c.args.form line ∙ ap (λ l. head_words c.args.form (head_of line) ++ l) f.whole)

pub returns-in_default-ends_read-clause-none : goal.returns-in_default-ends_read-clause-none
returns-in_default-ends_read-clause-none c = λ line form is.
    let rest : words_of c.in-Some.rest.now ≡ act_words line.act ++ end_words line =
    behind_head c.args.form (words_of c.args.row.now) (words_of c.in-Some.rest.now) (act_words line.act ++ end_words line) c.in-Some.head (head_of line) c.in-Some.ensures.some.1 (is ∙ line_parts c.args.form line) in
    let act = one_act (words_of c.in-Some.rest.now) _ _ c.in-Some-act_read.act line.act c.in-Some-act_read.ensures.some.1 rest in
    c.in_default-ends_read.ensures.none line.token line.status line.lock line.reason line.version (optional_hex line.contents) (AreEnds-line c.args.form line form) act.1

pub returns-then-not-are_of_form-clause-none : goal.returns-then-not-are_of_form-clause-none
returns-then-not-are_of_form-clause-none c = λ line form is.
    let rest : words_of c.in-Some.rest.now ≡ act_words line.act ++ end_words line =
    behind_head c.args.form (words_of c.args.row.now) (words_of c.in-Some.rest.now) (act_words line.act ++ end_words line) c.in-Some.head (head_of line) c.in-Some.ensures.some.1 (is ∙ line_parts c.args.form line) in
    let act = one_act (words_of c.in-Some.rest.now) _ _ c.in-Some-act_read.act line.act c.in-Some-act_read.ensures.some.1 rest in
    let ends = sym c.in-Some-ends_read.ensures.some.1 ∙ act.1 in
    let asked : c.in-Some-act_read.act ≡ line.act = same_act _ _ c.in-Some-act_read.ensures.some.0 form.asked act.0 in
    let lock : c.in-Some-ends_read.ends.lock ≡ line.lock = same_optional_lock _ _ c.in-Some-ends_read.ensures.some.0.lock_is form.lock (ap (λ l. get_or l 2 []) ends) in
    let ids = subst (λ (o : EntryAct). AreOfForm c.args.form o c.in-Some-ends_read.ends.lock) (sym asked) (subst (λ (o : Option (List ℕ)). AreOfForm c.args.form line.act o) (sym lock) form.ids) in
    absurd (cc (c.if-not-are_of_form.ensures.1 ids))

pub returns-in_default-2-clause-none : goal.returns-in_default-2-clause-none
returns-in_default-2-clause-none c = λ line form is.
    let rest : words_of c.in-Some.rest.now ≡ act_words line.act ++ end_words line =
    behind_head c.args.form (words_of c.args.row.now) (words_of c.in-Some.rest.now) (act_words line.act ++ end_words line) c.in-Some.head (head_of line) c.in-Some.ensures.some.1 (is ∙ line_parts c.args.form line) in
    let act = one_act (words_of c.in-Some.rest.now) _ _ c.in-Some-act_read.act line.act c.in-Some-act_read.ensures.some.1 rest in
    let ends = sym c.in-Some-ends_read.ensures.some.1 ∙ act.1 in
    let size = same_told c.in-Some-act_read.act line.act c.in-Some-ends_read.ends.status line.status c.in-Some-act_read.ensures.some.0 form.asked act.0
    c.in-Some-ends_read.ensures.some.0.status_is form.status (ap (λ l. get_or l 1 []) ends) in
    let sized : AreSized c.told_size-size.result line.contents = subst (λ (n : Option ℕ). AreSized n line.contents) (sym (c.told_size-size.ensures ∙ size)) form.contents in
    (rw c.in_default-2.is at c.in_ok-contents.ensures.none) line.contents sized (ap (λ l. get_or l 5 []) ends)
