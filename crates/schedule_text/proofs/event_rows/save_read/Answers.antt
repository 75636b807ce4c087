use Rattle.std.proofs.Common.{◌≡◌, rules}
use Rattle.std.specs.Prelude.{codes}
use Rattle.schedule_text.specs.Grammar.{IsContents}
use Rattle.line_text.specs.Words.{hex_text}
use Rattle.schedule_text.proofs.event_rows.save_read.Goals as goal

pub returns-clause-some : goal.returns-clause-some
returns-clause-some c =
    let kind : c.in-Some.first.now ≡ codes "save" = search rules in
    let place = (c.place_read.ensures c.in-Some-place_read.session).0 c.in-Some-place_read.is in
    let contents : IsContents c.in-Some-2.contents × (c.in-Some.third.now ≡ hex_text c.in-Some-2.contents) = rw c.in-Some-2.is at c.in_ok-contents.ensures.some in
    (place.0, (contents.0, cc (c.in-Some.ensures.some, kind, place.1, contents.1)))
