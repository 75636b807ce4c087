-- A host's journal keeps the bounds of a reading.
use Rattle.std.proofs.Common.{◌≡◌, ℕ, ◌+◌, ◌<◌, ◌==◌, nat_lt, Bool, true, false, if◌then◌else◌, Option, None, Some, List, [], ◌∷◌, ◌++◌, map, refl, ap, ◌∙◌, arith}
use Rattle.std.proofs.lemmas.Bool.Decides.{nat_tests}
use Rattle.std.proofs.lemmas.List.{length-map}
use Rattle.std.specs.List.{AllByRecursion}
use Rattle.std.specs.List.Sorted.{IsStrictlySortedBy}
use Rattle.std.specs.Ordering.{is_lt, nat_cmp}
use Rattle.std.specs.Cmp.Lexicographic.{slice_cmp}
use Rattle.std.specs.declared.cmp.Ordering.TheVariants.{Less}
use Rattle.hex.specs.Hex.{IsBytes}
use Rattle.wopi_text.specs.FileName.{shard_of}
use Rattle.wopi_text.specs.declared.lock_field.LockField.{LockField}
use Rattle.wopi_text.specs.declared.lock_field.LockField.TheVariants as field
use Rattle.wopi_model.specs.declared.calls.Act.{Act}
use Rattle.wopi_model.specs.declared.calls.Act.TheVariants as act
use Rattle.wopi_model.specs.Shard.{Opening}
use Rattle.host_core.specs.Entries.{Made, brought_by, kept_act}
use Rattle.host_core.specs.Opening.{MayKeep}
use Rattle.host_core.specs.Value.{Left}
use Rattle.host_table.specs.Bounds.{AreOpenings, IsBounded, KeepsBounds, MayBeBytes, MayTellLock}
use Rattle.host_table.specs.Journal.{JournalView, openings}
use Rattle.journal_text.specs.declared.text.Format.TheVariants.{Second}
use Rattle.journal_text.specs.declared.text.Line.{Line}
use Rattle.journal_text.specs.Journals.{AreFiles, AreTimed, IsAfter, IsWithin}
use Rattle.journal_text.specs.Lines.{AreSized, IsLine, MayBeLock, size_of}
use Rattle.journal_text.specs.Told.{line_of, lock_of, told_by}

-- ---- opening files

-- a name of a shard before, or none
abbrev IsBelow : ℕ → Option (List ℕ) → Type 0
IsBelow shard None = Unit {0}
IsBelow shard (Some last) = shard_of last < shard

after_below : (shard : ℕ) (last : Option (List ℕ)) (name : List ℕ) → IsBelow shard last → shard_of name ≡ shard → IsAfter last name
after_below shard None name below home = tt
after_below shard (Some last) name below home =
    let differ : shard_of last == shard_of name ≡ false = grind (arith, nat_tests) in
    let less : nat_lt (shard_of last) (shard_of name) ≡ true = grind (arith, nat_tests) in
    ap (λ (b : Bool). if b then is_lt (slice_cmp nat_cmp last name) else nat_lt (shard_of last) (shard_of name)) differ ∙ less

after_within : (shard : ℕ) (last name : List ℕ) → shard_of last ≡ shard → shard_of name ≡ shard → slice_cmp nat_cmp last name ≡ Less → IsAfter (Some last) name
after_within shard last name here there less =
    let same : shard_of last == shard_of name ≡ true = grind (arith, nat_tests) in
    ap (λ (b : Bool). if b then is_lt (slice_cmp nat_cmp last name) else nat_lt (shard_of last) (shard_of name)) same ∙ ap is_lt less

-- the files of a shard behind one of them, and then more
more_files : (shard : ℕ) (last : List ℕ) (opening more : Opening) → shard_of last ≡ shard → IsStrictlySortedBy (slice_cmp nat_cmp) (last ∷ map (λ file. file.0) opening)
    → AllByRecursion (λ file. MayKeep (Some shard) file.0) opening → AllByRecursion (λ file. IsBytes file.1) (opening ++ more)
    → ((last : Option (List ℕ)) → IsBelow (shard + 1) last → AreFiles last more) → AreFiles (Some last) (opening ++ more)
unfolding IsStrictlySortedBy
more_files shard last [] more home sorted own bytes rest = let below : shard_of last < shard + 1 = omega (arith, home) in rest (Some last) below
more_files shard last (file ∷ opening) more home sorted own bytes rest = (
  record { name = own.0.0; contents = bytes.0 },
  after_within shard last file.0 home own.0.1 sorted.0.0,
  more_files shard file.0 opening more own.0.1 sorted.1 own.1 bytes.1 rest,
)

shard_files : (shard : ℕ) (last : Option (List ℕ)) (opening more : Opening) → IsBelow shard last → IsStrictlySortedBy (slice_cmp nat_cmp) (map (λ file. file.0) opening)
    → AllByRecursion (λ file. MayKeep (Some shard) file.0) opening → AllByRecursion (λ file. IsBytes file.1) (opening ++ more)
    → ((last : Option (List ℕ)) → IsBelow (shard + 1) last → AreFiles last more) → AreFiles last (opening ++ more)
shard_files shard None [] more below sorted own bytes rest = rest None tt
shard_files shard (Some last) [] more below sorted own bytes rest = let less : shard_of last < shard + 1 = omega (arith, below) in rest (Some last) less
shard_files shard last (file ∷ opening) more below sorted own bytes rest = (
  record { name = own.0.0; contents = bytes.0 },
  after_below shard last file.0 below own.0.1,
  more_files shard file.0 opening more own.0.1 sorted own.1 bytes.1 rest,
)

behind : (P : List ℕ × List ℕ → Type 0) (opening more : Opening) → AllByRecursion P (opening ++ more) → AllByRecursion P more
behind P [] more all = all
behind P (file ∷ opening) more all = behind P opening more all.1

files : {F : Type 0} (shard : ℕ) (parts : List (Left F)) → AreOpenings shard parts → AllByRecursion (λ file. IsBytes file.1) (openings parts)
    → (last : Option (List ℕ)) → IsBelow shard last → AreFiles last (openings parts)
files shard [] are bytes last below = tt
files shard (part ∷ parts) are bytes last below =
    shard_files shard last part.opening (openings parts) below are.0.0 are.0.1 bytes (files (shard + 1) parts are.1 (behind (λ file. IsBytes file.1) part.opening (openings parts) bytes))

-- ---- entries

told_lock : (lock : LockField) → MayTellLock lock → MayBeLock (lock_of lock)
told_lock field.Absent tells = tt
told_lock field.Empty tells = tt
told_lock (field.Held id) tells = tells

sized : (asked : Act) → MayBeBytes (brought_by asked) → AreSized (size_of (kept_act asked)) (brought_by asked)
sized act.Info bytes = tt
sized (act.Get most) bytes = tt
sized (act.Put lock contents) bytes = (bytes, refl)
sized (act.Lock id) bytes = tt
sized act.GetLock bytes = tt
sized (act.Refresh id) bytes = tt
sized (act.Unlock id) bytes = tt
sized (act.Relock old id) bytes = tt
sized act.Look bytes = tt
sized (act.Create overwrite contents) bytes = (bytes, refl)
sized act.Delete bytes = tt

told : (asked : Act) (accepted : Bool) → MayBeBytes (if accepted then brought_by asked else None)
    → AreSized (if accepted then size_of (kept_act asked) else None) (if accepted then brought_by asked else None)
told asked true bytes = sized asked bytes
told asked false bytes = tt

line : (one : Made) → IsBounded one → IsLine Second (line_of one)
line one bounded = record {
  stamp = bounded.stamp;
  shard = omega arith;
  pass = bounded.pass;
  moment = bounded.moment;
  now = bounded.now;
  name = bounded.name;
  asked = bounded.asked;
  token = bounded.token;
  status = bounded.status;
  lock = told_lock one.step.ruling.lock bounded.lock;
  ids = tt;
  version = bounded.version;
  contents = told one.step.call.act (one.step.ruling.status == 200) bounded.contents;
}

lines : (merge : List Made) → AllByRecursion IsBounded merge → AllByRecursion (IsLine Second) (map line_of merge)
lines [] bounded = tt
lines (one ∷ merge) bounded = (line one bounded.0, lines merge bounded.1)

timed : (opened : ℕ) (before lines : List Line) → AreTimed Second opened before lines
timed opened before [] = tt
timed opened before (line ∷ lines) = (tt, timed opened (before ++ line ∷ []) lines)

pub host_within : {F : Type 0} (journal : JournalView F) → KeepsBounds journal → IsWithin Second (told_by journal)
host_within journal keeps =
    let few = keeps.few in let long = length-map journal.merge line_of in
    record {
      opening = (keeps.head.opened_is, keeps.head.first_is);
      files = files 0 journal.parts keeps.head.openings_are keeps.files None tt;
      lines = lines journal.merge keeps.entries;
      few = omega (arith, few, long);
      timed = timed journal.opened [] (map line_of journal.merge);
    }
