use Rattle.std.proofs.Common.{refl}
use Rattle.journal_text.proofs.entry.place_read.Goals as goal

pub returns-clause-some : goal.returns-clause-some
returns-clause-some c =
    let stamp = (c.in_ok-stamp-2.ensures c.in_ok-stamp-2.stamp).0 refl in
    let shard = (c.in_ok-shard-2.ensures c.in_ok-shard-2.shard).0 refl in
    let pass = (c.in_ok-pass-2.ensures c.in_ok-pass-2.pass).0 refl in
    let moment = (c.in_ok-moment-2.ensures c.in_ok-moment-2.moment).0 refl in (
      record { stamp = stamp.0; shard = shard.0; pass = pass.0; moment = moment.0 },
      cc (c.in_ok-stamp.ensures.some, c.in_ok-shard.ensures.some, c.in_ok-pass.ensures.some, c.in_ok-moment.ensures.some, stamp.1, shard.1, pass.1, moment.1),
    )
