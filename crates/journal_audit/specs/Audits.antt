-- What an auditor keeps of the lines so far. (Own.)
use Rattle.std.specs.Prelude.{◌≡◌, ◌<◌, ℕ, List, Option, None, Some, slice_get}
use Rattle.wopi_model.specs.Shard.{Opening, Shard, Step, happens}
use Rattle.wopi_model.specs.Host.{opening_of}
use Rattle.journal_text.specs.declared.text.Line.{Line}
use Rattle.journal_audit.specs.declared.order.Order.{Order}
use Rattle.journal_audit.specs.declared.verdict.AuditFault.{AuditFault}
use Rattle.journal_audit.specs.declared.verdict.AuditFault.TheVariants as fault
use Rattle.journal_audit.specs.Calls.{entry_of, told_ruling}
use Rattle.journal_audit.specs.Lines.{Begun, HasFault, IsBadAt, IsRuled, IsRuledIn, IsTimed, IsTimedIn, LegalLines, MayCome, behind_line}
use Rattle.journal_audit.specs.Orders.{KeepsOrder}
use Rattle.journal_audit.specs.Tracks.{IsOpened, Knows, Tracked}

pub record Audited : Type 0 where
  pub order : Order
  pub tracks : List Tracked

-- the track of each shard knows what stands in it
abbrev pub AreTracked : List Tracked → Begun → Type 0
AreTracked tracks begun = (shard : ℕ) → shard < 16 → (track : Tracked) × (slice_get tracks shard ≡ Some track) × Knows track (begun.shards shard)

pub record Keeps (kept : Audited) (begun : Begun) : Type 0 where
  pub order : KeepsOrder kept.order begun
  pub tracks : AreTracked kept.tracks begun

-- each track has the opening files of its shard that came so far
abbrev pub AreOpened : List Tracked → Opening → ℕ → ℕ → Type 0
AreOpened tracks files opened first = (shard : ℕ) → shard < 16 → (track : Tracked) × (slice_get tracks shard ≡ Some track) × IsOpened track (opening_of shard files) opened first

-- before the first line, behind these opening files
pub record IsOpenedHost (kept : Audited) (files : Opening) (opened first : ℕ) : Type 0 where
  pub order : (begun : Begun) → begun.last ≡ None → ((pass : ℕ) → begun.passes pass ≡ 0) → KeepsOrder kept.order begun
  pub tracks : AreOpened kept.tracks files opened first

-- a line may come next, and is behind the others then, or has that fault
abbrev pub Judges : Audited → Line → Option AuditFault → Audited → Type 0
Judges old line None new = (begun : Begun) → Keeps old begun → MayCome begun line × Keeps new (behind_line begun line)
Judges old line (Some fault) new = (begun : Begun) → Keeps old begun → HasFault begun line fault

-- time and ruling are right in a shard, and its track goes on; or that is wrong
abbrev pub IsTurnIn : Shard → Line → Option AuditFault → Tracked → Type 0
IsTurnIn shard line None track' = IsTimedIn shard line × IsRuledIn shard line × Knows track' (happens shard (Step (entry_of line (told_ruling line))))
IsTurnIn shard line (Some fault.Order) track' = ⊥
IsTurnIn shard line (Some fault.Now) track' = IsTimedIn shard line → ⊥
IsTurnIn shard line (Some fault.Ruling) track' = IsTimedIn shard line × (IsRuledIn shard line → ⊥)

-- the same in a host
abbrev pub IsTurn : Begun → Line → Option AuditFault → List Tracked → Type 0
IsTurn begun line None tracks' = IsTimed begun line × IsRuled begun line × AreTracked tracks' (behind_line begun line)
IsTurn begun line (Some fault.Order) tracks' = ⊥
IsTurn begun line (Some fault.Now) tracks' = IsTimed begun line → ⊥
IsTurn begun line (Some fault.Ruling) tracks' = IsTimed begun line × (IsRuled begun line → ⊥)

-- what the track of a line's shard says of its time and of its ruling
abbrev pub Turns : List Tracked → Line → Option AuditFault → List Tracked → Type 0
Turns tracks line wrong tracks' = (begun : Begun) → AreTracked tracks begun → IsTurn begun line wrong tracks'

-- all lines are legal, or the first that isn't stands there
abbrev pub IsFound : Begun → List Line → Option (ℕ × AuditFault) → Type 0
IsFound begun lines None = LegalLines begun lines
IsFound begun lines (Some found) = IsBadAt begun lines found.0 found.1
