-- What the text of a host's journal tells. (Own.)
use Rattle.std.specs.Prelude.{ℕ, List, Option, None, Some, map}
use Rattle.wopi_text.specs.declared.lock_field.LockField.{LockField}
use Rattle.wopi_text.specs.declared.lock_field.LockField.TheVariants as field
use Rattle.wopi_model.specs.Host.{shard_of_entry}
use Rattle.host_core.specs.Entries.{Made, accepted_contents, kept_act}
use Rattle.host_table.specs.Journal.{JournalView, openings}
use Rattle.journal_text.specs.declared.text.JournalText.{JournalText}
use Rattle.journal_text.specs.declared.text.Line.{Line}

-- the standing lock
abbrev pub lock_of : LockField → Option (List ℕ)
lock_of field.Absent = None
lock_of field.Empty = None
lock_of (field.Held id) = Some id

abbrev pub line_of : Made → Line
line_of one = record {
  stamp = one.step.stamp;
  shard = shard_of_entry one.step;
  pass = one.step.pass;
  moment = one.step.moment;
  now = one.time;
  name = one.step.call.name;
  act = kept_act one.step.call.act;
  token = one.step.call.token;
  status = one.step.ruling.status;
  lock = lock_of one.step.ruling.lock;
  reason = one.step.ruling.reason;
  version = one.step.ruling.version;
  contents = accepted_contents one;
}

-- the opening and the entries of a journal
abbrev pub told_by : {F : Type 0} → JournalView F → JournalText
told_by journal = record { opened = journal.opened; first = journal.first; files = openings journal.parts; lines = map line_of journal.merge }
