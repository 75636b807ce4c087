use Rattle.std.proofs.Common.{◌≡◌, ◌∙◌, refl}
use Rattle.std.specs.Prelude.{codes}
use Rattle.journal_text.proofs.opening.second_form.Goals as goal

pub returns-clause-some : goal.returns-clause-some
returns-clause-some c =
    let word : c.in_ok-word.word.now ≡ codes "opened" = c.is_word.ensures.0 c.if-not-is_word.false ∙ c.as_slice.ensures in
    let second : c.in_ok-second.second.now ≡ codes "first" = c.is_word-2.ensures.0 c.if-not-is_word-2.false ∙ c.as_slice-2.ensures in
    let opened = (c.in_ok-opened-2.ensures c.in_ok-opened-2.opened).0 refl in
    let first = (c.in_ok-first.ensures c.in_ok-first.first).0 refl in (
      opened.0,
      first.0,
      cc (c.in_ok-word.ensures.some, c.in_ok-opened.ensures.some, c.in_ok-second.ensures.some, word, second, c.has_more.ensures.one c.if-has_more.false, opened.1, first.1),
    )
