-- A life that tells what lines tell.
use Rattle.std.proofs.Common.{◌≡◌, ◌≤◌, ◌-◌, ◌^◌, ℕ, suc, ◌==◌, Bool, true, false, cond, List, [], ◌∷◌, ◌++◌, length, Option, None, Some, refl, ap, sym, ◌∙◌, subst}
use Rattle.std.specs.Prelude.{map, option_map}
use Rattle.std.specs.List.{AllByRecursion}
use Rattle.std.specs.Str.{bytes_eq}
use Rattle.std.proofs.lemmas.Bool.{eq-eqb}
use Rattle.std.proofs.lemmas.Slice.Eq.{bytes_eq-Decides}
use Rattle.outside.specs.Folder.{Files}
use Rattle.wopi_model.specs.Begin.{Begin, at_name}
use Rattle.wopi_model.specs.File.{File}
use Rattle.wopi_model.specs.Lives.{IsLeftBy}
use Rattle.wopi_model.specs.Settle.{settled}
use Rattle.wopi_model.specs.Shard.{Along, IsAllowed, Shard, after, begun, entries, last_from, stamps}
use Rattle.host_core.specs.declared.life.Life.{Life}
use Rattle.host_core.specs.declared.life.LifeFile.{LifeFile}
use Rattle.host_core.specs.declared.life.LifeContents.{LifeContents}
use Rattle.host_core.specs.declared.life.LifeContents.TheVariants as has
use Rattle.host_core.specs.Entries.{Made, history_of, items_of}
use Rattle.host_core.specs.Life.{IsGoodLife, MayGoOn, TellsFile, TellsShard, is_as_told, is_changed, life_names, mended_with, told_at}
use Rattle.host_core.specs.Names as names
use Rattle.host_core.specs.Opening.{MayKeep}
use Rattle.journal_segments.specs.declared.rows.Head.{Head}
use Rattle.journal_segments.specs.declared.rows.Row.{Row}
use Rattle.journal_segments.specs.Line.{size_in}
use Rattle.journal_segments.specs.Places.{AreOnce, AreOwn, place_in}
use Rattle.journal_segments.specs.Told.{Placed, Tells, Told, begin_of, contents_in, files_in, size_told, unmet, whole}
use Rattle.journal_segments.specs.Lives.{HasSizesOf, HoldsUnchanged, file_told, told_in}
use Rattle.journal_segments.specs.Openings.{AreEntries, AreOf, IsPlaced, counted, opening_rows, told_of, told_rows}
use Rattle.journal_segments.specs.Rows.{AreRows, IsHead, start, state_after, told_by}
use Rattle.journal_segments.proofs.Apart.{some_of_size}
use Rattle.journal_segments.proofs.Once.{each_once}
use Rattle.journal_segments.proofs.Own.{each_own, placed_own}
use Rattle.journal_segments.proofs.Setting.{AreSet, all_set}
use Rattle.journal_segments.proofs.Sized.{AreSized, rows_sizes, sizes_of}
use Rattle.journal_segments.proofs.Telling.{begun-file}
use Rattle.journal_segments.proofs.Written.{counts, restored_is_left}

-- ---- names

abbrev at_first : Option LifeFile → Placed → Placed
at_first None place = place
at_first (Some it) place = (file_told it).1

there : (files : List LifeFile) (other : Placed) (name : List ℕ) (file : LifeFile) → told_at files name ≡ Some file → at_name other (map file_told files) name ≡ (file_told file).1
there [] other name file e = absurd (cc e)
there (one ∷ files) other name file e =
    elim (bytes_eq one.name name) as (λ b. cond b (Some one) (told_at files name) ≡ Some file → cond b (file_told one).1 (at_name other (map file_told files) name) ≡ (file_told file).1) [
      | true ↦ λ h. ap (λ (o : Option LifeFile). at_first o (file_told one).1) h
      | false ↦ λ h. there files other name file h
    ] e

absent : (files : List LifeFile) (other : Placed) (name : List ℕ) → told_at files name ≡ None → at_name other (map file_told files) name ≡ other
absent [] other name e = refl
absent (one ∷ files) other name e =
    elim (bytes_eq one.name name) as (λ b. cond b (Some one) (told_at files name) ≡ None → cond b (file_told one).1 (at_name other (map file_told files) name) ≡ other) [
      | true ↦ λ h. absurd (cc h)
      | false ↦ λ h. absent files other name h
    ] e

kept : (number : ℕ) (files : List LifeFile) (name : List ℕ) (file : LifeFile) → AreOwn number (map file_told files) → told_at files name ≡ Some file → MayKeep (Some number) name
kept number [] name file own e = absurd (cc e)
kept number (one ∷ files) name file own e =
    elim (bytes_eq one.name name) as (λ b. bytes_eq one.name name ≡ b → cond b (Some one) (told_at files name) ≡ Some file → MayKeep (Some number) name) [
      | true ↦ λ same h. subst (MayKeep (Some number)) ((bytes_eq-Decides one.name name).0 same) own.0
      | false ↦ λ off h. kept number files name file own.1 h
    ] refl e

-- ---- one file

-- what a folder has once it is mended
record IsMended (told : LifeContents) (before held : Option (List ℕ)) : Type 0 where
  as_told : is_as_told told (mended_with told held) ≡ true
  same : contents_in before told ≡ mended_with told held

left_as_told : (size : ℕ) (held : Option (List ℕ)) → Some size ≡ size_in held → is_as_told (has.Left size) held ≡ true
left_as_told size None e = refl
left_as_told size (Some bytes) e = eq-eqb (length bytes) size (sym (some_of_size size (length bytes) e))

absent_as_told : (held : Option (List ℕ)) → held ≡ None → is_as_told has.Absent held ≡ true
absent_as_told held e = ap (is_as_told has.Absent) e

mended : (told : LifeContents) (before held : Option (List ℕ)) → size_told told ≡ size_in (contents_in before told) → (is_changed told ≡ false → held ≡ contents_in before told) → IsMended told before held
mended has.Absent before held sized same = record { as_told = absent_as_told held (same refl); same = sym (same refl) }
mended (has.Left size) before held sized same =
    record { as_told = left_as_told size held (sized ∙ ap size_in (sym (same refl))); same = sym (same refl) }
mended has.Removed before held sized same = record { as_told = refl; same = refl }
mended (has.Told bytes) before held sized same = record { as_told = (bytes_eq-Decides bytes bytes).1 refl; same = refl }

-- ---- a shard

tells_shard : (number : ℕ) (folder files : Files) (life : Life) → AreOwn number (told_in life).files → AreSized folder (told_in life) →
    HoldsUnchanged number files (told_in life) (begun (begin_of folder (told_in life))) → TellsShard (Some number) files life (begun (begin_of folder (told_in life)))
tells_shard number folder files life own sized holds =
    let told = told_in life in
    let lives = life.files.items in
    let shard = begun (begin_of folder told) in
    let stands : (name : List ℕ) → shard.files name ≡ settled (files_in folder told name) life.now = begun-file folder told.first told.now told.files in
    let held : (name : List ℕ) → MayKeep (Some number) name → is_changed (at_name (unmet told.first) told.files name).contents ≡ false → files name ≡ (files_in folder told name).contents =
    λ name may left. holds name may left ∙ ap (λ (f : File). f.contents) (stands name) in
    record {
      opened_is = refl;
      first_is = refl;
      now_is = refl;
      told = λ name file is.
          let at : at_name (unmet told.first) told.files name ≡ (file_told file).1 = there lives (unmet told.first) name file is in
          let P : Placed → Type 0 = λ place. is_changed place.contents ≡ false → files name ≡ contents_in (folder name) place.contents in
          let Q : Placed → Type 0 = λ place. size_told place.contents ≡ size_in (contents_in (folder name) place.contents) in
          let is_mended = mended file.contents (folder name) (files name) (subst Q at (sized name)) (subst P at (held name (kept number lives name file own is))) in
          record {
            as_told = is_mended.as_told;
            stands_is = stands name ∙ ap (λ (place : Placed). settled (whole (folder name) place) life.now) at
                ∙ ap (λ (c : Option (List ℕ)). settled (record { contents = c; version = file.version; lock = file.lock; spent = file.spent.items }) life.now) is_mended.same;
          };
      unmet = λ name is. stands name ∙ ap (λ (place : Placed). settled (whole (folder name) place) life.now) (absent lives (unmet told.first) name is);
      alone = λ name is may.
          let at : at_name (unmet told.first) told.files name ≡ unmet told.first = absent lives (unmet told.first) name is in
          let P : Placed → Type 0 = λ place. is_changed place.contents ≡ false → files name ≡ contents_in (folder name) place.contents in
          subst P at (held name may) refl;
    }

-- the life that a segment restores tells its shard
pub life_tells : (folder files : Files) (begin : Begin) (head : Head) (placed : List (List ℕ × Placed)) (rows : List Row) (made : List Made) (life : Life) →
    AllByRecursion (IsPlaced head.shard) placed → AreEntries rows → AreRows (state_after (start head) (opening_rows placed)) rows → AreOf (begun begin) (counted [] rows) made →
    Tells folder (told_of head placed) (begun begin) → HasSizesOf (begun begin) (told_of head placed) → head.last ≡ begin.last → Along IsAllowed (begun begin) (items_of made) →
    told_in life ≡ told_by head (opening_rows placed ++ rows) → HoldsUnchanged head.shard files (told_in life) (after (begun begin) (history_of made life.now)) →
    TellsShard (Some head.shard) files life (after (begun begin) (history_of made life.now)) × (life.last ≡ last_from begin.last (stamps (entries (history_of made life.now))))
life_tells folder files begin head placed rows made life are entries_are lines of tells sizes last along is holds =
    let told = told_in life in
    let counted_is : told ≡ told_rows (told_of head placed) (counted [] rows) = is ∙ counts head placed rows are entries_are lines in
    let own : AreOwn head.shard told.files = subst (λ (t : Told). AreOwn head.shard t.files) (sym is) (placed_own head placed rows are lines) in
    let sized : AreSized folder told =
    subst (AreSized folder) (sym counted_is) (rows_sizes folder (told_of head placed) (counted [] rows) (sizes_of folder (told_of head placed) (begun begin) tells sizes)) in
    let left : IsLeftBy begin (history_of made life.now) (begin_of folder told) =
    subst (λ (t : Told). IsLeftBy begin (history_of made t.now) (begin_of folder t)) (sym is) (restored_is_left folder begin head placed rows made are entries_are lines of tells last along) in
    let P : Shard → Type 0 = λ shard. HoldsUnchanged head.shard files told shard in
    let Q : Shard → Type 0 = λ shard. TellsShard (Some head.shard) files life shard in
    (subst Q left.shard (tells_shard head.shard folder files life own sized (subst P (sym left.shard) holds)), left.last)

-- ---- which lives are restored

all_own : (number : ℕ) (files : List LifeFile) → AreOwn number (map file_told files) → AllByRecursion (λ file. MayKeep (Some number) file.name) files
all_own number [] own = tt
all_own number (one ∷ files) own = (own.0, all_own number files own.1)

same_place : (files : List LifeFile) (name : List ℕ) → names.place_in (life_names files) name ≡ place_in (map file_told files) name
same_place [] name = refl
same_place (one ∷ files) name = ap (λ (o : Option ℕ). cond (bytes_eq one.name name) (Some 0) (option_map (λ place. suc place) o)) (same_place files name)

all_once : (files : List LifeFile) → AreOnce (map file_told files) → names.AreOnce (life_names files)
all_once [] once = tt
all_once (one ∷ files) once = (same_place files one.name ∙ once.0, all_once files once.1)

pub life_is_good : (head : Head) (rows : List Row) (life : Life) → IsHead head → AreRows (start head) rows → told_in life ≡ told_by head rows → life.last ≤ 2 ^ 63 - 1 →
    AllByRecursion (MayGoOn life.now life.last) life.files.items → IsGoodLife (Some head.shard) life
life_is_good head rows life is are told low goes =
    let set : AreSet (told_in life) = subst AreSet (sym told) (all_set head rows is are) in
    record {
      opened = set.0;
      first = set.1;
      now = set.2;
      last = low;
      own = all_own head.shard life.files.items (subst (λ (t : Told). AreOwn head.shard t.files) (sym told) (each_own head rows are));
      files = goes;
      once = all_once life.files.items (subst (λ (t : Told). AreOnce t.files) (sym told) (each_once head rows are));
    }
