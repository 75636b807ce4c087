use Rattle.std.proofs.Common.{◌≡◌, sym, subst, rules}
use Rattle.std.specs.Prelude.{codes}
use Rattle.wopi_model.specs.Moment.{IsMoment}
use Rattle.schedule_text.specs.Grammar.{words_of}
use Rattle.schedule_text.specs.Readings.{Asks}
use Rattle.schedule_text.proofs.foreign_rows.foreign_read.Goals as goal

pub returns-clause-some : goal.returns-clause-some
returns-clause-some c =
    let kind : c.in-Some.kind.now ≡ codes "foreign" = search rules in
    let moment = (c.moment_read.ensures c.in-Some-moment_read.moment).0 c.in-Some-moment_read.is in
    let expires = (c.moment_read-2.ensures c.in-Some-moment_read-2.expires).0 c.in-Some-moment_read-2.is in
    let ask : Asks c.in-Some-split_word-2.asked.now c.in-Some-moment_read-2.expires c.in-Some-2.ask = rw c.in-Some-2.is at c.in_ok-ask.ensures.some in
    let until : IsMoment c.in-Some-2.ask.expires = subst IsMoment (sym ask.1) expires.0 in
    record {
      moment_is = moment.0;
      expires = until;
      op = words_of c.in-Some-split_word-2.asked.now;
      asked = ask.0;
      words = cc (c.in-Some.ensures.some, kind, c.in-Some-split_word.ensures.some, moment.1, c.in-Some-split_word-2.ensures.some, expires.1, ask.1);
    }
