-- What stands in a log.
use Rattle.std.specs.Prelude.{◌≡◌, ◌==◌, ◌&&◌, ℕ, Bool, true, false, List, [], ◌∷◌, ◌++◌, length, Option, None, Some, codes, decimal, if◌then◌else◌, not, option_map, unwrap_or}
use Rattle.std.specs.List.{AllByRecursion, flat_map}
use Rattle.std.specs.Io.KnownBytes.{Appends}
use Rattle.kept_locks.specs.Locks.{Standing}
use Rattle.wopi_text.specs.FileName.{shard_of}
use Rattle.wopi_text.specs.Ids.{id_of}
use Rattle.wopi_model.specs.Act.{is_stored}
use Rattle.wopi_model.specs.declared.calls.Act.{Act}
use Rattle.wopi_model.specs.declared.calls.Act.TheVariants as act
use Rattle.wopi_model.specs.Begin.{Begin, new_life}
use Rattle.wopi_model.specs.File.{File, opened_with}
use Rattle.wopi_model.specs.Host.{shard_of_entry}
use Rattle.wopi_model.specs.Shard.{Opening}
use Rattle.wopi_model.specs.declared.locks.Lock.{Lock}
use Rattle.wopi_model.specs.declared.locks.Spent.{Spent}
use Rattle.host_core.specs.declared.file.KeptFile.{KeptFile}
use Rattle.host_core.specs.Entries.{Asked, Made, accepted_contents, kept_act}
use Rattle.host_core.specs.Files.{file_of}
use Rattle.host_core.specs.Whole.{Whole}
use Rattle.host_table.specs.Pieces.{place_text}
use Rattle.host_table.specs.Text.{space, line_feed, act_text, call_text, hex_text, optional_number, ruling_text, token_fields}

-- ---- the text of a beginning

abbrev pub size_in : Option (List ℕ) → Option ℕ
size_in contents = option_map (λ bytes. length bytes) contents

-- the first line of a segment of that shard: when it opened anew and with which version, its time, and the stamp of the last entry before
unfoldable pub head_line : ℕ → ℕ → ℕ → ℕ → ℕ → List ℕ
head_line shard opened first now last =
    codes "wopi journal 3 shard "
    ++ (decimal shard ++ (codes " opened " ++ (decimal opened ++ (codes " first " ++ (decimal first ++ (codes " now " ++ (decimal now ++ (codes " last " ++ (decimal last ++ line_feed ∷ [])))))))))

-- a file that was met: its name, its version and the size of its contents, if it has any
unfoldable pub at_line : List ℕ → ℕ → Option ℕ → List ℕ
at_line name version size = codes "at " ++ (id_of name ++ (codes " v" ++ (decimal version ++ (space ∷ (optional_number size ++ line_feed ∷ [])))))

-- the lock of a file, since when it is held and until when
unfoldable pub held_line : List ℕ → Lock → List ℕ
held_line name lock = codes "held " ++ (id_of name ++ (space ∷ (hex_text lock.id ++ (space ∷ (decimal lock.since ++ (space ∷ (decimal lock.until ++ line_feed ∷ [])))))))

-- an id that is refused on a file, and until when
unfoldable pub spent_line : List ℕ → Spent → List ℕ
spent_line name one = codes "spent " ++ (id_of name ++ (space ∷ (hex_text one.id ++ (space ∷ (decimal one.until ++ line_feed ∷ [])))))

abbrev pub held_text : List ℕ → Option Lock → List ℕ
held_text name None = []
held_text name (Some lock) = held_line name lock

-- the lock of a file, and the ids that are refused on it, the one that ended last first
abbrev pub locks_text : List ℕ → Standing → List ℕ
locks_text name locks = held_text name locks.lock ++ flat_map (spent_line name) locks.spent

-- a file by name, and behind it these
abbrev pub file_text : List ℕ × File → List ℕ
file_text file = at_line file.0 file.1.version (size_in file.1.contents) ++ locks_text file.0 (record { lock = file.1.lock; spent = file.1.spent })

-- what a segment of that shard begins with: the first line, and the files in their order
abbrev pub begin_text : ℕ → Begin → List ℕ
begin_text shard begin = head_line shard begin.opened begin.first begin.now begin.last ++ flat_map file_text begin.files

-- that of a shard that opened anew
abbrev pub opening_text : ℕ → ℕ → ℕ → Opening → List ℕ
opening_text shard opened first files = begin_text shard (new_life files opened first)

-- The shard's files begin with versions from 1 on: at 0 nothing was begun, and nothing stands there.
abbrev pub head_of : ℕ → Begin → List ℕ
head_of shard begin = if begin.first == 0 then [] else begin_text shard begin

-- ---- as it is kept

-- a file with its locks
abbrev pub whole_text : Whole → List ℕ
whole_text kept = file_text (kept.name, file_of kept)

-- a file that the store is given as it opens anew
abbrev pub opened_text : ℕ → KeptFile → List ℕ
opened_text first file = file_text (file.name, opened_with first (unwrap_or file.contents []))

-- ---- the text of an entry

-- contents stand behind their line as they are, with a line feed behind them
abbrev pub contents_text : Option (List ℕ) → List ℕ
contents_text None = []
contents_text (Some contents) = contents ++ line_feed ∷ []

-- an entry's line, which tells how many bytes were accepted, and these
unfoldable pub entry_text : Made → List ℕ
entry_text one =
    decimal one.step.stamp ++ space ∷ decimal (shard_of_entry one.step) ++ space ∷ decimal one.step.pass
    ++ space ∷ call_text one.step.moment one.time one.step.call ++ space ∷ ruling_text one.step.ruling
    ++ space ∷ optional_number (size_in (accepted_contents one)) ++ line_feed ∷ contents_text (accepted_contents one)

-- the front of it, which is the call's
abbrev pub asked_text : Asked → List ℕ
asked_text one =
    place_text one.stamp (shard_of one.call.name) one.pass one.moment one.time one.call.name
    ++ ((space ∷ act_text (kept_act one.call.act)) ++ (space ∷ token_fields one.call.token))

-- the end of it, from the accepted contents on
abbrev pub brought_text : Option (List ℕ) → List ℕ
brought_text contents = space ∷ (optional_number (size_in contents) ++ line_feed ∷ contents_text contents)

-- it says that the entry before it doesn't count
unfoldable pub off_line : List ℕ
off_line = codes "off" ++ line_feed ∷ []

-- ---- one after another

-- an entry, or one that was taken back
pub data Row : Type 0 where
  Counts : (one : Made) → Row
  TakenBack : (one : Made) → Row

abbrev pub row_text : Row → List ℕ
row_text (Counts one) = entry_text one
row_text (TakenBack one) = entry_text one ++ off_line

abbrev pub rows_text : List Row → List ℕ
rows_text rows = flat_map row_text rows

-- the entries that count
abbrev pub counted : List Row → List Made
counted [] = []
counted (Counts one ∷ rows) = one ∷ counted rows
counted (TakenBack one ∷ rows) = counted rows

-- the act leaves the file and its lock as they are
abbrev pub only_looks : Act → Bool
only_looks act.Info = true
only_looks (act.Get most) = true
only_looks act.GetLock = true
only_looks act.Look = true
only_looks _ = false

-- An entry that is synced before it's told: it changed the folder, or, in a log that syncs all changes, the folder or a lock.
abbrev pub is_synced : Bool → Made → Bool
is_synced all one = one.step.ruling.status == 200 && (if all then not (only_looks one.step.call.act) else is_stored one.step.call.act)

-- nothing was changed that is synced, or taken back
abbrev pub IsIdle : Bool → Row → Type 0
IsIdle all (Counts one) = is_synced all one ≡ false
IsIdle all (TakenBack one) = ⊥

-- The log grew by the head, by the texts of these entries, among which stand some that were taken back, and then by the tail. What was
-- synced of it has the head and all that changed the folder, and where all changes are synced, a lock.
pub record IsLog (all : Bool) (start held synced : Option (List ℕ)) (head : List ℕ) (told : List Made) (tail : List ℕ) : Type 0 where
  pub sure : List Row
  pub loose : List Row
  pub told_are : counted (sure ++ loose) ≡ told
  pub idle : AllByRecursion (IsIdle all) loose
  pub grew : Appends start held (head ++ (rows_text (sure ++ loose) ++ tail))
  pub more : List ℕ
  pub reached : Appends start synced (head ++ (rows_text sure ++ more))

-- the text of a call as accepted, where it stands and may yet be taken back
abbrev pub standing_text : Option Made → List ℕ
standing_text None = []
standing_text (Some one) = entry_text one

-- a front of a beginning
abbrev pub IsOpeningCut : List ℕ → Type 0
IsOpeningCut tail = (shard : ℕ) × (begin : Begin) × (rest : List ℕ) × (begin_text shard begin ≡ tail ++ rest)

-- A front of the text of that entry, and maybe of what takes it back. Where no entry is in doubt the log was lost at its beginning.
abbrev pub IsInDoubt : List ℕ → List Made → Option Made → List ℕ → Type 0
IsInDoubt head told None tail = (head ≡ []) × (told ≡ []) × IsOpeningCut tail
IsInDoubt head told (Some one) tail = (rest : List ℕ) × (entry_text one ++ off_line ≡ tail ++ rest)

-- what stands behind the entries that were told
abbrev pub IsTail : List ℕ → List Made → Bool → Option Made → Option Made → List ℕ → Type 0
IsTail head told false standing doubt tail = tail ≡ standing_text standing
IsTail head told true standing doubt tail = (standing ≡ None) × IsInDoubt head told doubt tail
