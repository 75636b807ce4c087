use Rattle.std.proofs.Common.{◌∷◌, map}
use Rattle.wopi_text.specs.FileName.{shard_of}
use Rattle.wopi_program.specs.BothEnds.{journal_of}
use Rattle.wopi_program.proofs.EndsLemmas.{all_legal, shard_below}
use Rattle.wopi_program.proofs.laws.exchanges_over_restarts_are_safe.Goals as goal

pub returns : goal.returns
returns g c m journal later desktop client ending spoken heard served opens restarts hears crosses =
    c.restarts_begin_at_any_version.ensures.journals desktop client ending spoken heard (journal_of journal) (map journal_of later) (shard_of client.token.file)
    (shard_below client.token.file) (all_legal m (journal ∷ later) served) opens restarts hears crosses
