-- The lines of the files that were met, and the lines that count. (Own.)
use Rattle.std.specs.Prelude.{◌≡◌, ⊤, ℕ, ◌≤◌, false, List, [], ◌∷◌, ◌++◌, map, Option, None, Some}
use Rattle.std.specs.List.{AllByRecursion, flat_map}
use Rattle.wopi_text.specs.FileName.{shard_of}
use Rattle.wopi_model.specs.declared.locks.Lock.{Lock}
use Rattle.journal_segments.specs.declared.rows.Head.{Head}
use Rattle.journal_segments.specs.declared.rows.Row.{Row}
use Rattle.journal_segments.specs.declared.rows.Row.TheVariants as row
use Rattle.wopi_model.specs.Shard.{Shard, Step, at_moment, happens}
use Rattle.host_core.specs.Entries.{Made}
use Rattle.host_core.specs.Life.{is_changed}
use Rattle.journal_text.specs.Told.{line_of}
use Rattle.journal_segments.specs.Told.{Placed, Told, size_told, told_line}
use Rattle.wopi_model.specs.declared.locks.Spent.{Spent}
use Rattle.journal_text.specs.Journals.{row_text}
use Rattle.journal_segments.specs.Rows.{IsAt, IsHeld, IsSpent, at_words, head_words, held_words, spent_words, told_holds}

abbrev pub held_rows : List ℕ → Option Lock → List Row
held_rows name None = []
held_rows name (Some lock) = row.Held name lock ∷ []

-- a file, its lock, and its spent ids
abbrev pub place_rows : List ℕ × Placed → List Row
place_rows file = row.At file.0 file.1.version (size_told file.1.contents) ∷ (held_rows file.0 file.1.lock ++ map (λ one. row.Spent file.0 one) file.1.spent)

abbrev pub opening_rows : List (List ℕ × Placed) → List Row
opening_rows files = flat_map place_rows files

-- what a beginning tells
abbrev pub told_of : Head → List (List ℕ × Placed) → Told
told_of head files = record { opened = head.opened; first = head.first; now = head.now; last = head.last; files = files }

abbrev pub MayBeHeld : List ℕ → Option Lock → Type 0
MayBeHeld name None = ⊤
MayBeHeld name (Some lock) = IsHeld name lock

-- what a beginning may tell of a file: no line has changed its contents
pub record IsPlaced (shard : ℕ) (file : List ℕ × Placed) : Type 0 where
  pub own : shard_of file.0 ≡ shard
  pub at_is : IsAt file.0 file.1.version (size_told file.1.contents)
  pub lock_is : MayBeHeld file.0 file.1.lock
  pub spent_are : AllByRecursion (IsSpent file.0) file.1.spent
  pub left : is_changed file.1.contents ≡ false

-- ---- the lines that count

abbrev pub AreEntries : List Row → Type 0
AreEntries [] = ⊤
AreEntries (row.Entry line ∷ rows) = AreEntries rows
AreEntries (row.Off ∷ rows) = AreEntries rows
AreEntries (row.Holds name contents ∷ rows) = AreEntries rows
AreEntries (one ∷ rows) = ⊥

-- behind a line that may still be taken back, if there is one
abbrev pub counted : List Row → List Row → List Row
counted held [] = held
counted held (row.Entry line ∷ rows) = held ++ counted (row.Entry line ∷ []) rows
counted held (row.Off ∷ rows) = counted [] rows
counted held (row.Holds name contents ∷ rows) = held ++ row.Holds name contents ∷ counted [] rows
counted held (other ∷ rows) = counted held rows

abbrev pub told_row : Told → Row → Told
told_row told (row.Entry line) = told_line told line
told_row told (row.Holds name contents) = told_holds told name contents
told_row told other = told

abbrev pub told_rows : Told → List Row → Told
told_rows told [] = told
told_rows told (one ∷ rows) = told_rows (told_row told one) rows

-- the shard's time never falls, and is no less than what is handed in
abbrev pub GoOn : ℕ → List Row → Type 0
GoOn now [] = ⊤
GoOn now (row.Entry line ∷ rows) = (now ≤ line.now) × (line.moment ≤ line.now) × GoOn line.now rows
GoOn now (other ∷ rows) = GoOn now rows

-- the lines are those of the entries, in order, and between them may be told what stands under a name then
abbrev pub AreOf : Shard → List Row → List Made → Type 0
AreOf shard [] [] = ⊤
AreOf shard (row.Entry line ∷ rows) (one ∷ made) = (line ≡ line_of one) × AreOf (happens (at_moment shard one.time) (Step one.step)) rows made
AreOf shard (row.Holds name contents ∷ rows) made = ((shard.files name).contents ≡ contents) × AreOf shard rows made
AreOf shard _ _ = ⊥

-- ---- as they are written

abbrev pub spent_text : List ℕ → Spent → List ℕ
spent_text name one = row_text (spent_words name one)

abbrev pub held_text : List ℕ → Option Lock → List ℕ
held_text name None = []
held_text name (Some lock) = row_text (held_words name lock)

abbrev pub place_text : List ℕ × Placed → List ℕ
place_text file = row_text (at_words file.0 file.1.version (size_told file.1.contents)) ++ (held_text file.0 file.1.lock ++ flat_map (spent_text file.0) file.1.spent)

abbrev pub opening_text : Head → List (List ℕ × Placed) → List ℕ
opening_text head files = row_text (head_words head) ++ flat_map place_text files
