use Rattle.std.proofs.Common.{◌≡◌, ◌∷◌, [], length, ap, ◌+◌, rules}
use Rattle.std.specs.Prelude.{decimal}
use Rattle.schedule_text.specs.Grammar.{words_of}
use Rattle.schedule_text.proofs.RowForms.{two_same}
use Rattle.schedule_text.proofs.event_rows.place_after.Goals as goal

pub returns-in_default : goal.returns-in_default
returns-in_default c = λ s. (λ e. cc e, λ form. absurd (c.in_default.ensures.none (ap length form.1)))

pub returns-then-not-is_word : goal.returns-then-not-is_word
returns-then-not-is_word c = λ s. (
  λ e. cc e,
  λ form.
      let both = two_same _ _ _ _ _ c.in-Some.ensures.some form.1 in
      let yes = c.is_word.ensures.1 both.0 in
      absurd (search rules),
)

pub returns : goal.returns
returns c = λ s. (
  λ e.
      let read = (c.place_read.ensures s).0 e in
      let kind : c.in-Some.first.now ≡ c.args.kind.now = search rules in
      let words : words_of c.args.row.now ≡ c.args.kind.now ∷ decimal (s + 1) ∷ [] = cc (c.in-Some.ensures.some, kind, read.1) in
      (read.0, words),
  λ form. let both = two_same _ _ _ _ _ c.in-Some.ensures.some form.1 in (c.place_read.ensures s).1 (form.0, both.1),
)
