use Rattle.std.proofs.Common.{◌≡◌, ◌∙◌, refl}
use Rattle.std.specs.Prelude.{codes}
use Rattle.journal_segments.proofs.rows.head_begin.Goals as goal

pub returns-clause-some : goal.returns-clause-some
returns-clause-some c =
    let three : c.in-Some.version.now ≡ codes "3" = c.is_word.ensures.0 c.if-not-is_word.false ∙ c.as_slice.ensures in
    let shard = (c.in-Some-shard_read.ensures c.in-Some-shard_read.shard).0 refl in
    (shard.0, cc (c.in-Some.ensures.some, three, c.as_slice-2.ensures, c.in-Some-labelled.ensures.some, shard.1))
