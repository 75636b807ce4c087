-- What the top call promises of each command. (Own.)
use Rattle.std.specs.Prelude.{ℕ, List}
use Rattle.wopi_program.specs.declared.command.Command.{Command}
use Rattle.wopi_program.specs.declared.command.Command.TheVariants as command
use Rattle.wopi_program.specs.declared.outside_world.Outside.{Outside}
use Rattle.wopi_program.specs.Meanings.{Meanings}
use Rattle.wopi_program.specs.Telling.{TextEnds, help_text, version_text}
use Rattle.wopi_program.specs.Ctoken.{CtokenEnds}
use Rattle.wopi_program.specs.Once.{OnceEnds}
use Rattle.wopi_program.specs.Edit.{EditEnds}
use Rattle.wopi_program.specs.Replay.{ReplayEnds}
use Rattle.wopi_program.specs.ServeEnds.{ServeEnds}
use Rattle.wopi_program.specs.Token.{TokenEnds}
use Rattle.wopi_program.specs.Upgrade.{UpgradeEnds}
use Rattle.wopi_program.specs.Audit.{AuditEnds}
use Rattle.wopi_program.specs.Contents.{ContentsEnds}

-- how a run of a command ends, with which status and what it leaves
abbrev pub RunEnds : {S K F N D C G L : Type 0} → Meanings S K F N D C G L → List (List ℕ) → ℕ → Outside S K F N D C G → Outside S K F N D C G → Command → Type 0
RunEnds m words status old new command.Help = TextEnds m help_text status old new
RunEnds m words status old new command.Version = TextEnds m version_text status old new
RunEnds m words status old new command.Once = OnceEnds m words status old new
RunEnds m words status old new command.Serve = ServeEnds m words status old new
RunEnds m words status old new command.Edit = EditEnds m words status old new
RunEnds m words status old new command.Replay = ReplayEnds m words status old new
RunEnds m words status old new command.Token = TokenEnds m words status old new
RunEnds m words status old new command.Ctoken = CtokenEnds m words status old new
RunEnds m words status old new command.Upgrade = UpgradeEnds m status old new
RunEnds m words status old new command.Audit = AuditEnds m status old new
RunEnds m words status old new command.Contents = ContentsEnds m words status old new
