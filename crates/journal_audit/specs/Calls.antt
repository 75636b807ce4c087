-- The calls and the rulings that the lines of a journal tell. (Own.)
use Rattle.std.specs.Prelude.{ℕ, List, Option, None, Some, replicate}
use Rattle.wopi_text.specs.declared.lock_field.LockField.{LockField}
use Rattle.wopi_text.specs.declared.lock_field.LockField.TheVariants as field
use Rattle.wopi_text.specs.declared.reason.Reason.{Reason}
use Rattle.wopi_model.specs.declared.calls.Act.{Act}
use Rattle.wopi_model.specs.declared.calls.Act.TheVariants as act
use Rattle.wopi_model.specs.declared.calls.Call.{Call}
use Rattle.wopi_model.specs.declared.calls.Ruling.{Ruling}
use Rattle.wopi_model.specs.Shard.{Entry}
use Rattle.host_core.specs.declared.entry.EntryAct.{EntryAct}
use Rattle.host_core.specs.declared.entry.EntryAct.TheVariants as kept
use Rattle.journal_text.specs.declared.text.Line.{Line}
use Rattle.journal_text.specs.Told.{lock_of}

-- The contents that a line tells. Where it tells none, which is where the call wasn't accepted, they are as many zero bytes: what
-- is decided of a call doesn't depend on the contents that it brings.
abbrev pub contents_of : ℕ → Option (List ℕ) → List ℕ
contents_of size None = replicate size 0
contents_of size (Some contents) = contents

abbrev pub act_of : EntryAct → Option (List ℕ) → Act
act_of kept.Info contents = act.Info
act_of (kept.Get most) contents = act.Get most
act_of (kept.Put lock size) contents = act.Put lock (contents_of size contents)
act_of (kept.Lock id) contents = act.Lock id
act_of kept.GetLock contents = act.GetLock
act_of (kept.Refresh id) contents = act.Refresh id
act_of (kept.Unlock id) contents = act.Unlock id
act_of (kept.Relock old id) contents = act.Relock old id
act_of kept.Look contents = act.Look
act_of (kept.Create overwrite size) contents = act.Create overwrite (contents_of size contents)
act_of kept.Delete contents = act.Delete

abbrev pub call_of : Line → Call
call_of line = record { name = line.name; token = line.token; act = act_of line.act line.contents }

-- ---- what is said of a ruling

-- status, lock, reason and version: the size and the contents of a ruling stand in no line
pub record Said : Type 0 where
  pub status : ℕ
  pub lock : Option (List ℕ)
  pub reason : Option Reason
  pub version : Option ℕ

abbrev pub said_by : Line → Said
said_by line = record { status = line.status; lock = line.lock; reason = line.reason; version = line.version }

abbrev pub said_of : Ruling → Said
said_of ruling = record { status = ruling.status; lock = lock_of ruling.lock; reason = ruling.reason; version = ruling.version }

-- the entry of a line, where that is its ruling
abbrev pub entry_of : Line → Ruling → Entry
entry_of line ruling = record { stamp = line.stamp; pass = line.pass; moment = line.moment; call = call_of line; ruling = ruling }

abbrev pub field_of : Option (List ℕ) → LockField
field_of None = field.Absent
field_of (Some id) = field.Held id

-- a ruling that says what the line says
abbrev pub told_ruling : Line → Ruling
told_ruling line =
    record { status = line.status; lock = field_of line.lock; reason = line.reason; version = line.version; size = 0; contents = None }
