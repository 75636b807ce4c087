-- What is kept of a schedule's run. (Own.)
use Rattle.std.specs.Prelude.{◌≡◌, ℕ, List}
use Rattle.wopi_model.specs.Shard.{AreNames}
use Rattle.wopi_world.specs.World.{first_world}
use Rattle.replay_cmd.specs.declared.world.World.{World}
use Rattle.schedule_text.specs.Schedules.{Lines}
use Rattle.replay_cmd.specs.Runs.{setting_of, world_of}
use Rattle.replay_cmd.specs.Stages.{IsStageOf}
use Rattle.replay_cmd.specs.Trace.{events_text}

-- the world to which the lines lead, and a line for each of their events
pub record IsRunOf (lines : Lines) (kept : World) : Type 0 where
  pub stage : IsStageOf (setting_of lines) kept.stage (world_of lines)
  pub trace : kept.trace ≡ events_text (setting_of lines) (first_world (setting_of lines)) lines.events

-- The text over the names that were met at the end: each once, by their bytes.
abbrev pub IsTextOf : (List (List ℕ) → Lines → List ℕ) → Lines → List ℕ → Type 0
IsTextOf text_of lines text = (names : List (List ℕ)) × AreNames (world_of lines).shard names × (text ≡ text_of names lines)
