-- The hosts that ended, as a world goes on.
use Rattle.std.proofs.Common.{◌≡◌, ℕ, List, [], ◌∷◌, ◌++◌, refl, sym, ap, ◌∙◌, subst}
use Rattle.std.specs.Prelude.{⊤}
use Rattle.wopi_model.specs.Shard.{Shard, Opening, Tick, Step}
use Rattle.wopi_model.specs.Shard as run
use Rattle.wopi_model.proofs.Histories.{after-append}
use Rattle.host_core.specs.Opening.{opened_contents}
use Rattle.host_core.specs.Value.{Book, InMemory, Left}
use Rattle.wopi_world.specs.History.{Item, Ran, Restarted, restarted, after, ran_from, last_run}
use Rattle.wopi_world.specs.World as in_world
use Rattle.wopi_world.specs.World.{Setting, World, Event, comes, entry_of, first_shard}
use Rattle.wopi_world.proofs.Coming.{kept-comes}
use Rattle.wopi_world.proofs.Moving.{same_reopened}
use Rattle.replay_cmd.specs.Begun.{opening_in}
use Rattle.replay_cmd.specs.Hosts.{StandsFor}
use Rattle.replay_cmd.specs.Pasts.{Ended, ended_from, began_from, IsOver, IsPast, ArePasts, ShowsHosts, past_left_by}
use Rattle.replay_cmd.specs.Stages.{Shows, IsStageOf}
use Rattle.replay_cmd.specs.Starts.{Reopens}
use Rattle.replay_cmd.specs.declared.stage.Stage.{Stage}

-- ---- histories

ended_ran : (began : Shard) (seen : List run.Item) (history : List Item) (item : run.Item) → ended_from began seen (history ++ Ran item ∷ []) ≡ ended_from began seen history
ended_ran began seen [] item = refl
ended_ran began seen (Ran one ∷ history) item = ended_ran began (seen ++ one ∷ []) history item
ended_ran began seen (Restarted moment first ∷ history) item =
    ap (λ (l : List Ended). record { began = began; ran = seen } ∷ l) (ended_ran (restarted (run.after began seen) moment first) [] history item)

began_ran : (began : Shard) (seen : List run.Item) (history : List Item) (item : run.Item) → began_from began seen (history ++ Ran item ∷ []) ≡ began_from began seen history
began_ran began seen [] item = refl
began_ran began seen (Ran one ∷ history) item = began_ran began (seen ++ one ∷ []) history item
began_ran began seen (Restarted moment first ∷ history) item = began_ran (restarted (run.after began seen) moment first) [] history item

-- a restart ends the last host
ended_restarted : (began : Shard) (seen : List run.Item) (history : List Item) (moment first : ℕ)
    → ended_from began seen (history ++ Restarted moment first ∷ [])
    ≡ ended_from began seen history ++ record { began = began_from began seen history; ran = ran_from seen history } ∷ []
ended_restarted began seen [] moment first = refl
ended_restarted began seen (Ran one ∷ history) moment first = ended_restarted began (seen ++ one ∷ []) history moment first
ended_restarted began seen (Restarted other number ∷ history) moment first =
    ap (λ (l : List Ended). record { began = began; ran = seen } ∷ l) (ended_restarted (restarted (run.after began seen) other number) [] history moment first)

began_restarted : (began : Shard) (seen : List run.Item) (history : List Item) (moment first : ℕ)
    → began_from began seen (history ++ Restarted moment first ∷ []) ≡ restarted (run.after (began_from began seen history) (ran_from seen history)) moment first
began_restarted began seen [] moment first = refl
began_restarted began seen (Ran one ∷ history) moment first = began_restarted began (seen ++ one ∷ []) history moment first
began_restarted began seen (Restarted other number ∷ history) moment first = began_restarted (restarted (run.after began seen) other number) [] history moment first

-- the shard is what the last host makes of the one that it opened with
after_hosts : (began : Shard) (seen : List run.Item) (history : List Item)
    → after (run.after began seen) history ≡ run.after (began_from began seen history) (ran_from seen history)
after_hosts began seen [] = refl
after_hosts began seen (Ran one ∷ history) =
    ap (λ (s : Shard). after s history) (sym (after-append began seen (one ∷ []))) ∙ after_hosts began (seen ++ one ∷ []) history
after_hosts began seen (Restarted moment first ∷ history) = after_hosts (restarted (run.after began seen) moment first) [] history

-- ---- events

-- the same hosts ended
abbrev HasSameHosts : List Item → List Item → Type 0
HasSameHosts old new = (began : Shard) → (ended_from began [] new ≡ ended_from began [] old) × (began_from began [] new ≡ began_from began [] old)

same_ran : (old history : List Item) (item : run.Item) → HasSameHosts old history → HasSameHosts old (history ++ Ran item ∷ [])
same_ran old history item same began = (ended_ran began [] history item ∙ (same began).0, began_ran began [] history item ∙ (same began).1)

-- the host runs on
abbrev pub IsNoRestart : Event → Type 0
IsNoRestart (in_world.Restarts moment) = ⊥
IsNoRestart _ = ⊤

same_hosts : (setting : Setting) (world : World) (event : Event) → IsNoRestart event → HasSameHosts world.history (comes setting world event).history
same_hosts setting world event runs =
    kept-comes setting (λ shard history. HasSameHosts world.history history) (λ at moment same. same_ran world.history at.history (Tick moment) same)
    (λ at call moment same. same_ran world.history at.history (Step (entry_of at call moment)) same) world event (λ began. (refl, refl))
    (λ moment is. absurd (subst IsNoRestart is runs))

-- ---- the running world

-- no past comes while the host runs on
hosts_stay : {F : Type 0} (start : Shard) (pasts : List (Left F)) (opening opening' : Opening) (old new : World) → opening' ≡ opening
    → HasSameHosts old.history new.history → ShowsHosts start pasts opening old.history → ShowsHosts start pasts opening' new.history
hosts_stay start pasts opening opening' old new same hosts shows =
    record {
      ended = subst (ArePasts pasts) (sym (hosts start).0) shows.ended;
      over = λ name. ap (λ (o : Opening). opened_contents o name) same ∙ shows.over name ∙ ap (λ (s : Shard). (s.files name).contents) (sym (hosts start).1);
    }

past_more : {F : Type 0} (pasts : List (Left F)) (hosts : List Ended) (past : Left F) (host : Ended) → ArePasts pasts hosts → IsPast past host
    → ArePasts (pasts ++ past ∷ []) (hosts ++ host ∷ [])
past_more [] [] past host h one = (one, tt)
past_more [] (other ∷ hosts) past host h one = absurd h
past_more (other ∷ pasts) [] past host h one = absurd h
past_more (other ∷ pasts) (another ∷ hosts) past host h one = (h.0, past_more pasts hosts past host h.1 one)

-- at a restart one more comes, from the host that ends
pub hosts_more : {F : Type 0} (start : Shard) (pasts : List (Left F)) (book book' : Book (InMemory F)) (world : World) (moment first next : ℕ)
    → after start world.history ≡ world.shard → StandsFor book world → Reopens book moment first book' → ShowsHosts start pasts (opening_in book.begin) world.history
    → ShowsHosts start (pasts ++ past_left_by book ∷ []) (opening_in book'.begin) (world.history ++ Restarted moment next ∷ [])
hosts_more start pasts book book' world moment first next leaves stands reopens shows =
    let began : Shard = began_from start [] world.history in
    let last : Ended = record { began = began; ran = last_run world.history } in
    let one : IsPast (past_left_by book) last = record { made = sym stands.entries; over = shows.over } in
    let shard : world.shard ≡ run.after began (last_run world.history) = sym leaves ∙ after_hosts start [] world.history in
    record {
      ended = subst (ArePasts (pasts ++ past_left_by book ∷ [])) (sym (ended_restarted start [] world.history moment next))
          (past_more pasts (ended_from start [] world.history) (past_left_by book) last shows.ended one);
      over = λ name.
          reopens.contents name
          ∙ ap (λ (s : Shard). (s.files name).contents) (sym stands.shard)
          ∙ ap (λ (s : Shard). (s.files name).contents) shard
          ∙ sym (same_reopened next ((run.after began (last_run world.history)).files name).contents)
          ∙ ap (λ (s : Shard). (s.files name).contents) (sym (began_restarted start [] world.history moment next));
    }

-- before the first event none has ended
pub hosts_first : {F : Type 0} (start : Shard) (pasts : List (Left F)) (opening : Opening) → pasts ≡ [] → IsOver opening start → ShowsHosts start pasts opening []
hosts_first start pasts opening none over = record { ended = subst (λ l. ArePasts l []) (sym none) tt; over = over }

-- what a stage shows after an event, where its host runs on
pub with_hosts : (setting : Setting) (old new : Stage) (world : World) (event : Event) {P : Type 0} → IsNoRestart event
    → new.pasts.items ≡ old.pasts.items → opening_in new.host.shard.begin ≡ opening_in old.host.shard.begin → IsStageOf setting old world
    → Shows setting new.desk new.host.shard new.history.items new.requests.items new.replies.items new.members.items (comes setting world event) × P
    → IsStageOf setting new (comes setting world event) × P
with_hosts setting old new world event runs same_pasts same_opening was shows = (
  record {
    shows = shows.0;
    pasts = subst (λ l. ShowsHosts (first_shard setting) l (opening_in new.host.shard.begin) (comes setting world event).history) (sym same_pasts)
        (hosts_stay (first_shard setting) old.pasts.items (opening_in old.host.shard.begin) (opening_in new.host.shard.begin) world (comes setting world event) same_opening
        (same_hosts setting world event runs) was.pasts);
  },
  shows.1,
)
