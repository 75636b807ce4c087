use Rattle.std.proofs.Common.{◌≡◌, ◌∷◌, ◌++◌, [], codes, decimal, ℕ, refl, sym, ap, ◌∙◌, subst}
use Rattle.wopi_world.specs.History.{IsNextFirst, after}
use Rattle.wopi_world.specs.World.{Restarts, comes, first_shard, next_first}
use Rattle.replay_cmd.specs.Begun.{opening_in}
use Rattle.replay_cmd.specs.Pasts.{ShowsHosts}
use Rattle.replay_cmd.specs.Stages.{Shows}
use Rattle.replay_cmd.proofs.EndedHosts.{hosts_more}
use Rattle.replay_cmd.proofs.Anew.{same_first, shows_anew}
use Rattle.replay_cmd.proofs.Chosen.{of_some, of_none}
use Rattle.replay_cmd.proofs.Roomy.{files_fit, versions_left}
use Rattle.replay_cmd.proofs.stage.Stage.restart.Goals as goal

pub returns-in_default-clause-none : goal.returns-in_default-clause-none
returns-in_default-clause-none c =
    λ setting world was space reached. versions_left c.args.self.host.shard world was.shows.host space (of_none c.in_ok-first.field-0 c.in_ok-first.ensures.none c.in_default.is)

pub returns-in_default-2-clause-none : goal.returns-in_default-2-clause-none
returns-in_default-2-clause-none c =
    λ setting world was space reached. files_fit c.args.self.host.shard world was.shows.host space (of_none c.in_ok-reopened.field-0 c.in_ok-reopened.ensures.none c.in_default-2.is)

pub returns-clause-follows : goal.returns-clause-follows
returns-clause-follows c =
    let stage = c.args.self in
    let moment = c.args.moment in
    let reopened = c.in-Some-2.reopened in
    let host = reopened.host in
    let first = c.in-Some.first in
    let told = of_some c.in_ok-first.field-0 _ c.in_ok-first.ensures.next first c.in-Some.is in
    let reopens = of_some c.in_ok-reopened.field-0 _ c.in_ok-reopened.ensures.reopens reopened c.in-Some-2.is in
    let past = of_some c.in_ok-reopened.field-0 _ c.in_ok-reopened.ensures.past reopened c.in-Some-2.is in
    λ setting world was space reached.
    let shows = was.shows in
    let leaves = subst (λ w. after (first_shard setting) w.history ≡ w.shard) (sym reached.1) (c.worlds_are_legal.ensures.leaves setting reached.0) in
    let next = subst (λ w. IsNextFirst w.shard (next_first setting w)) (sym reached.1) (c.worlds_are_legal.ensures.next setting reached.0) in
    let anew = comes setting world (Restarts moment) in
    let shown = shows_anew setting stage.desk stage.host.shard host.shard stage.history.items stage.requests.items stage.replies.items stage.members.items world shows moment first
    told.0 next reopens c.restarts_open_anew.ensures c.open_at.new.desk c.open_at.ensures.keys c.open_at.ensures.base c.open_at.ensures.opened in
    let pasts = hosts_more (first_shard setting) stage.pasts.items stage.host.shard host.shard world moment first (next_first setting world) leaves shows.host reopens was.pasts in (
      record {
        shows = subst (λ l. Shows setting c.open_at.new.desk host.shard l stage.requests.items stage.replies.items stage.members.items anew) (sym c.in_ok-push-2.ensures.items) shown;
        pasts = subst (λ l. ShowsHosts (first_shard setting) l (opening_in host.shard.begin) anew.history)
            (ap (λ p. stage.pasts.items ++ p ∷ []) (sym past) ∙ sym c.in_ok-push.ensures.items) pasts;
      },
      c.in_ok-words.ensures ∙ ap (λ (n : ℕ). codes "restarted" ∷ decimal n ∷ [])
          (same_first setting stage.desk stage.host.shard host.shard stage.history.items stage.requests.items stage.replies.items stage.members.items world shows moment first told.0 next reopens),
    )

pub returns-clause-anew : goal.returns-clause-anew
returns-clause-anew c = record {
  talk = record { requests = refl; replies = refl; members = refl; keys = c.open_at.ensures.keys; base = c.open_at.ensures.base };
  opened = c.open_at.ensures.opened;
  first = c.in-Some.first;
  reopens = of_some c.in_ok-reopened.field-0 _ c.in_ok-reopened.ensures.reopens c.in-Some-2.reopened c.in-Some-2.is;
}
