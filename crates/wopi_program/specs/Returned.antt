-- What a host's workers leave of its passes. (Own.)
use Rattle.std.specs.Prelude.{◌≡◌, ℕ, Bool, ◌+◌, List, [], ◌∷◌, ◌++◌, length, map}
use Rattle.std.specs.List.{AllZip}
use Rattle.host_table.specs.Passes.{HostView, PassView, IsSamePass, own_of, sight_of}
use Rattle.host_server.specs.declared.desk.Desk.{Desk}
use Rattle.host_server.specs.declared.working.WorkEnd.{WorkEnd}
use Rattle.host_server.specs.declared.working.Worker.{Worker}
use Rattle.host_server.specs.WorkMeanings.{WorkMeanings}
use Rattle.host_server.specs.Working.{Works}
use Rattle.wopi_program.specs.Passes.{AreSplit}
use Rattle.wopi_program.specs.Watched.{AreRight}

-- A host was split into a pass for each worker, in order, and a last one for the watch. Each worker had the listener and the clock of its place,
-- worked and came back with them, and the watch came back, which made no entry and saw each shard nearly full that is marked.
pub record AreReturned {N L C F : Type 0} (m : WorkMeanings N L C) (desk : Desk) (host : HostView F) (made : ℕ) (marks : List Bool) (passes : List (PassView F)) (ends : List WorkEnd)
    (listeners listeners' : List N) (clocks clocks' : List C) : Type 0 where
  pub olds : List (Worker N C F)
  pub news : List (Worker N C F)
  pub eye : PassView F
  pub eye' : PassView F
  pub split : AreSplit host (length listeners + 1) made (map (λ worker. worker.pass) olds ++ eye ∷ [])
  pub works : AllZip (Works m desk) olds news
  pub same : IsSamePass eye eye'
  pub own : own_of eye' ≡ own_of eye
  pub right : AreRight marks (sight_of eye')
  pub passes_are : passes ≡ map (λ worker. worker.pass) news ++ eye' ∷ []
  pub ends_are : ends ≡ map (λ worker. worker.end) news
  pub listeners_were : map (λ worker. worker.listener) olds ≡ listeners
  pub listeners_are : listeners' ≡ map (λ worker. worker.listener) news
  pub clocks_were : map (λ worker. worker.clock) olds ≡ clocks
  pub clocks_are : clocks' ≡ map (λ worker. worker.clock) news
