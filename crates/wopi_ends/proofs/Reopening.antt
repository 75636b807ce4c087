-- The journals of hosts that had a folder one after another say a history that a shard may have, whatever version each began with.
use Rattle.std.proofs.Common.{◌<◌, ℕ, List, [], ◌∷◌, sym, subst}
use Rattle.std.specs.List.{AllByRecursion}
use Rattle.wopi_model.specs.Shard.{Shard}
use Rattle.wopi_model.specs.Host.{part_of, opening_of}
use Rattle.wopi_world.specs.History.{Item, Restarted, IsAllowed, Along}
use Rattle.wopi_world.specs.Safe.{KeepsAll, TellsAll}
use Rattle.wopi_world.proofs.Lengthening.{Along-append, Along-weaker}
use Rattle.wopi_world.proofs.Reopening.{opens_anew}
use Rattle.wopi_world.proofs.Talking.{allowed_along}
use Rattle.wopi_world.proofs.Worlds.{keeps_all, tells_all}
use Rattle.wopi_ends.specs.Restarts.{Journal, IsLegal, OpenInTurn, start_in, part_in, left_in, history_over}

part_allowed : (shard : ℕ) (journal : Journal) → shard < 16 → IsLegal journal → Along IsAllowed (start_in shard journal) (part_in shard journal)
part_allowed shard journal within legal = allowed_along (start_in shard journal) (part_of shard journal.merge) (legal.shards shard within).allowed

pub over_allowed : (shard : ℕ) (journal : Journal) (later : List Journal) → shard < 16 → AllByRecursion IsLegal (journal ∷ later) → OpenInTurn shard journal later →
    Along IsAllowed (start_in shard journal) (history_over shard journal later)
over_allowed shard journal [] within legal turns = part_allowed shard journal within legal.0
over_allowed shard journal (next ∷ later) within legal turns =
    let opens = turns.0 in
    let anew = opens_anew (left_in shard journal) (opening_of shard next.opening) next.opened next.first opens.contents in
    let rest : Along IsAllowed (start_in shard next) (history_over shard next later) = over_allowed shard next later within legal.1 turns.1 in
    Along-append IsAllowed (start_in shard journal) (part_in shard journal) (Restarted next.opened next.first ∷ history_over shard next later) (part_allowed shard journal within legal.0)
    (opens.later, subst (λ (s : Shard). Along IsAllowed s (history_over shard next later)) (sym anew) rest)

-- what each item keeps and tells, a restart too

pub items_safe : (shard : Shard) (history : List Item) → Along IsAllowed shard history → Along KeepsAll shard history × Along TellsAll shard history
items_safe shard history allowed = (Along-weaker IsAllowed KeepsAll keeps_all shard history allowed, Along-weaker IsAllowed TellsAll tells_all shard history allowed)
