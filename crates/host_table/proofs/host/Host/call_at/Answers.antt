use Rattle.std.proofs.Common.{sym, ◌∙◌}
use Rattle.host_core.proofs.Results.{ifok_map}
use Rattle.host_table.proofs.Turning.{err_map, lost_of}
use Rattle.host_table.proofs.host.Host.call_at.Goals as goal

pub returns-clause-told : goal.returns-clause-told
returns-clause-told g c =
    ifok_map c.call_at_store-answer.result.0 _ _ (λ receipt told. (c.call_at_store-answer.result.1.value, c.call_at_store-answer.ensures.noted, told)) c.call_at_store-answer.ensures.told

pub returns-clause-lost : goal.returns-clause-lost
returns-clause-lost g c =
    err_map c.call_at_store-answer.result.0 _ _ (λ refusal lost is. (c.call_at_store-answer.result.1.value, c.call_at_store-answer.ensures.noted, lost is)) c.call_at_store-answer.ensures.lost

pub returns-clause-loses : goal.returns-clause-loses
returns-clause-loses g c =
    ifok_map c.call_at_store-answer.result.0 _ _ (λ receipt told untold. g.F.Store.loses_is c.call_at_store-answer.result.1.value (lost_of (g.F.Store.lost c.call_at_store-answer.result.1.value) (sym told ∙ untold))) c.call_at_store-answer.ensures.told

pub returns-clause-may_lose : goal.returns-clause-may_lose
returns-clause-may_lose g c =
    err_map c.call_at_store-answer.result.0 _ _ (λ refusal lost is. g.F.Store.loses_is c.call_at_store-answer.result.1.value (lost is)) c.call_at_store-answer.ensures.lost
