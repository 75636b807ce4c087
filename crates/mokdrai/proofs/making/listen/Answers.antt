use Rattle.std.proofs.Common.{◌≡◌, sym, ◌∙◌, subst, vec_len}
use Rattle.std.specs.Prelude.{IfOk}
use Rattle.mokdrai.proofs.StopLemmas.{all_weaker, held_each_ok, over_each_ok}
use Rattle.mokdrai.proofs.making.listen.Goals as goal

pub returns-clause-each : goal.returns-clause-each
returns-clause-each g c =
    over_each_ok (λ all. all.items) (λ one. one.listener) (λ own. (own.listener.most ≡ c.args.ask.each) × (own.listener.accepted ≡ 0) × (own.listener.finished ≡ 0)) c.until_stopped.result c.in_ok-bound.bound.items
    c.until_stopped.ensures.over c.in_ok-bound.ensures.each

pub returns-clause-untold : goal.returns-clause-untold
returns-clause-untold g c = λ none.
    held_each_ok (λ all. all.items) (λ one. one.listener) c.until_stopped.result c.in_ok-bound.bound.items (c.until_stopped.ensures.untold none)

pub until_stopped-requires-after_bounds : goal.until_stopped-requires-after_bounds
until_stopped-requires-after_bounds g c κs within = all_weaker _ _ (λ one is. is.2 ∙ sym is.1) c.in_ok-bound.bound.items c.in_ok-bound.ensures.each

pub returns-clause-count : goal.returns-clause-count
returns-clause-count g c =
    subst (λ n. IfOk c.until_stopped.result (λ all. vec_len all ≡ n)) c.in_ok-bound.ensures.count c.until_stopped.ensures.count
