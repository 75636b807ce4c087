use Rattle.std.proofs.Common.{◌≡◌, ◌∷◌, [], rules}
use Rattle.std.specs.Prelude.{codes, decimal}
use Rattle.schedule_text.specs.Grammar.{reference_word, words_of}
use Rattle.schedule_text.proofs.event_rows.deliver_read.Goals as goal

pub returns-clause-some : goal.returns-clause-some
returns-clause-some c =
    let kind : c.in-Some.first.now ≡ codes "deliver" = search rules in
    let read = c.in-Some-reference_read.ensures.some in
    let at = (c.moment_read.ensures c.in-Some-moment_read.moment).0 c.in-Some-moment_read.is in
    let words : words_of c.args.row.now ≡ codes "deliver" ∷ reference_word c.in-Some-reference_read.request ∷ decimal c.in-Some-moment_read.moment ∷ [] =
    cc (c.in-Some.ensures.some, kind, read.1, at.1) in
    (read.0, at.0, words)
