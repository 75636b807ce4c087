-- What ran since the last restart.
use Rattle.std.proofs.Common.{◌≡◌, ℕ, ◌+◌, List, [], ◌∷◌, ◌++◌, refl, ap, ◌∙◌, arith}
use Rattle.std.proofs.lemmas.List.{append-nil}
use Rattle.wopi_model.specs.Shard.{Entry, Tick, Step, entries}
use Rattle.wopi_model.specs.Shard as run
use Rattle.wopi_model.proofs.Histories.{entries-append}
use Rattle.wopi_world.specs.History.{Item, Ran, Restarted, ran_from, last_run}
use Rattle.replay_cmd.specs.Limits.{kept_by, kept_in}

ran_push : (seen : List run.Item) (history : List Item) (item : run.Item) → ran_from seen (history ++ Ran item ∷ []) ≡ ran_from seen history ++ item ∷ []
ran_push seen [] item = refl
ran_push seen (Ran one ∷ history) item = ran_push (seen ++ one ∷ []) history item
ran_push seen (Restarted moment first ∷ history) item = ran_push [] history item

-- a tick makes no entry
pub entries_ticked : (history : List Item) (moment : ℕ) → entries (last_run (history ++ Ran (Tick moment) ∷ [])) ≡ entries (last_run history)
entries_ticked history moment =
    ap entries (ran_push [] history (Tick moment)) ∙ entries-append (last_run history) (Tick moment ∷ []) ∙ append-nil (entries (last_run history))

-- an entry more
pub entries_stepped : (history : List Item) (entry : Entry) → entries (last_run (history ++ Ran (Step entry) ∷ [])) ≡ entries (last_run history) ++ entry ∷ []
entries_stepped history entry = ap entries (ran_push [] history (Step entry)) ∙ entries-append (last_run history) (Step entry ∷ [])

-- no entry stands behind a restart
pub entries_restarted : (history : List Item) (moment first : ℕ) → entries (last_run (history ++ Restarted moment first ∷ [])) ≡ []
entries_restarted history moment first = ap entries (none [] history)
  where
    none : (seen : List run.Item) (items : List Item) → ran_from seen (items ++ Restarted moment first ∷ []) ≡ []
    none seen [] = refl
    none seen (Ran one ∷ items) = none (seen ++ one ∷ []) items
    none seen (Restarted other number ∷ items) = none [] items

-- what one more item keeps
abbrev pub kept_more : Item → ℕ
kept_more (Ran (Tick moment)) = 0
kept_more (Ran (Step entry)) = kept_by entry
kept_more (Restarted moment first) = 0

pub kept_pushed : (history : List Item) (item : Item) → kept_in (history ++ item ∷ []) ≡ kept_in history + kept_more item
kept_pushed [] (Ran (Tick moment)) = refl
kept_pushed [] (Ran (Step entry)) = omega arith
kept_pushed [] (Restarted moment first) = refl
kept_pushed (Ran (Tick moment) ∷ history) item = kept_pushed history item
kept_pushed (Ran (Step entry) ∷ history) item = let rest = kept_pushed history item in omega (arith, rest)
kept_pushed (Restarted moment first ∷ history) item = kept_pushed history item
