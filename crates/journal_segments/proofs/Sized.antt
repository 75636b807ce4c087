-- The sizes that are told are those of the contents.
use Rattle.std.proofs.Common.{◌≡◌, ℕ, ◌==◌, true, false, cond, List, [], ◌∷◌, length, Option, None, Some, refl, ap, sym, ◌∙◌, subst}
use Rattle.std.specs.Str.{bytes_eq}
use Rattle.std.proofs.lemmas.Slice.Eq.{bytes_eq-Decides}
use Rattle.wopi_model.specs.Begin.{Begin, at_name, put_name}
use Rattle.wopi_model.specs.File.{File}
use Rattle.wopi_model.specs.Shard.{Shard}
use Rattle.wopi_model.proofs.Living.{at-put}
use Rattle.host_core.specs.declared.entry.EntryAct.{EntryAct}
use Rattle.host_core.specs.declared.entry.EntryAct.TheVariants as act
use Rattle.host_core.specs.declared.life.LifeContents.{LifeContents}
use Rattle.host_core.specs.declared.life.LifeContents.TheVariants as has
use Rattle.journal_text.specs.declared.text.Line.{Line}
use Rattle.journal_segments.specs.declared.rows.Row.{Row}
use Rattle.journal_segments.specs.declared.rows.Row.TheVariants as row
use Rattle.journal_segments.specs.Line.{size_in}
use Rattle.journal_segments.specs.Told.{Placed, Tells, Told, contents_after, contents_in, placed_by, settled_place, size_told, told_as, told_line, unmet}
use Rattle.journal_segments.specs.Rows.{holding, told_holds}
use Rattle.journal_segments.specs.Openings.{told_row, told_rows}
use Rattle.journal_segments.specs.Lives.{HasSizesOf}

-- ---- one file

-- contents of that size stand there, whether lines brought them or the folder has them
abbrev pub IsSized : Option (List ℕ) → Placed → Type 0
IsSized kept place = size_told place.contents ≡ size_in (contents_in kept place.contents)

brought : (kept contents : Option (List ℕ)) → size_told (told_as contents) ≡ size_in (contents_in kept (told_as contents))
brought kept None = refl
brought kept (Some bytes) = refl

size_goes : (kept : Option (List ℕ)) (old : LifeContents) (one : EntryAct) (contents : Option (List ℕ)) → size_told old ≡ size_in (contents_in kept old) →
    size_told (contents_after old one contents) ≡ size_in (contents_in kept (contents_after old one contents))
size_goes kept old act.Info contents sized = sized
size_goes kept old (act.Get most) contents sized = sized
size_goes kept old (act.Put lock size) contents sized = brought kept contents
size_goes kept old (act.Lock id) contents sized = sized
size_goes kept old act.GetLock contents sized = sized
size_goes kept old (act.Refresh id) contents sized = sized
size_goes kept old (act.Unlock id) contents sized = sized
size_goes kept old (act.Relock before id) contents sized = sized
size_goes kept old act.Look contents sized = sized
size_goes kept old (act.Create overwrite size) contents sized = brought kept contents
size_goes kept old act.Delete contents sized = refl

-- ---- all files

abbrev pub AreSized : (List ℕ → Option (List ℕ)) → Told → Type 0
AreSized folder told = (name : List ℕ) → IsSized (folder name) (at_name (unmet told.first) told.files name)

put_sized : (folder : List ℕ → Option (List ℕ)) (other : Placed) (files : List (List ℕ × Placed)) (own : List ℕ) (it : Placed) → ((name : List ℕ) → IsSized (folder name) (at_name other files name)) →
    IsSized (folder own) it → (name : List ℕ) → IsSized (folder name) (at_name other (put_name own it files) name)
put_sized folder other files own it sized is name =
    subst (IsSized (folder name)) (sym (at-put other own it files name))
    (elim (bytes_eq own name) as (λ b. bytes_eq own name ≡ b → IsSized (folder name) (cond b it (at_name other files name))) [
      | true ↦ λ e. subst (λ (n : List ℕ). IsSized (folder n) it) ((bytes_eq-Decides own name).0 e) is
      | false ↦ λ e. sized name
    ] refl)

pub sizes_go : (folder : List ℕ → Option (List ℕ)) (told : Told) (line : Line) → AreSized folder told → AreSized folder (told_line told line)
sizes_go folder told line sized name =
    let other = unmet told.first in
    let own = line.name in
    let it = placed_by told.files told.first line in
    elim (line.status == 200) as (λ b. IsSized (folder name) (at_name other (cond b (put_name own it told.files) told.files) name)) [
      | true ↦ put_sized folder other told.files own it sized (size_goes (folder own) (at_name other told.files own).contents line.act line.contents (sized own)) name
      | false ↦ sized name
    ]

sizes_hold : (folder : List ℕ → Option (List ℕ)) (told : Told) (own : List ℕ) (contents : Option (List ℕ)) → AreSized folder told → AreSized folder (told_holds told own contents)
sizes_hold folder told own contents sized =
    let other = unmet told.first in
    put_sized folder other told.files own (holding (at_name other told.files own) contents) sized (brought (folder own) contents)

row_sizes : (folder : List ℕ → Option (List ℕ)) (told : Told) (one : Row) → AreSized folder told → AreSized folder (told_row told one)
row_sizes folder told (row.Entry line) sized = sizes_go folder told line sized
row_sizes folder told (row.Holds name contents) sized = sizes_hold folder told name contents sized
row_sizes folder told (row.At name version size) sized = sized
row_sizes folder told (row.Held name lock) sized = sized
row_sizes folder told (row.Spent name one) sized = sized
row_sizes folder told row.Off sized = sized

pub rows_sizes : (folder : List ℕ → Option (List ℕ)) (told : Told) (rows : List Row) → AreSized folder told → AreSized folder (told_rows told rows)
rows_sizes folder told [] sized = sized
rows_sizes folder told (one ∷ rows) sized = rows_sizes folder (told_row told one) rows (row_sizes folder told one sized)

-- what tells of a shard, and the sizes of its contents, tells those of the folder
pub sizes_of : (folder : List ℕ → Option (List ℕ)) (told : Told) (shard : Shard) → Tells folder told shard → HasSizesOf shard told → AreSized folder told
sizes_of folder told shard tells sizes name = sizes name ∙ ap (λ (f : File). size_in f.contents) (sym (tells.files_are name))
