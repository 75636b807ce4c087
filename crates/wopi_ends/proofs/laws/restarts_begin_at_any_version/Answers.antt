use Rattle.wopi_model.specs.Shard.{opened_shard}
use Rattle.wopi_model.specs.Host.{opening_of}
use Rattle.wopi_world.proofs.Talking.{talk_lem}
use Rattle.wopi_ends.specs.Restarts.{history_over}
use Rattle.wopi_ends.proofs.Reopening.{over_allowed, items_safe}
use Rattle.wopi_ends.proofs.laws.restarts_begin_at_any_version.Goals as goal

pub returns-clause-items : goal.returns-clause-items
returns-clause-items c opening opened first history allowed = items_safe (opened_shard opening opened first) history allowed

pub returns-clause-talk : goal.returns-clause-talk
returns-clause-talk c = talk_lem

pub returns-clause-journals : goal.returns-clause-journals
returns-clause-journals c desktop client ending spoken heard journal later shard within legal turns restarts hears crosses =
    talk_lem (opening_of shard journal.opening) journal.opened journal.first client heard (history_over shard journal later) (over_allowed shard journal later within legal turns) restarts
    (c.both_ends_are_safe.ensures.talk desktop client ending spoken heard (history_over shard journal later) hears crosses)
