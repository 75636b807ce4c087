-- A folder that is made to hold what is told.
use Rattle.std.proofs.Common.{◌≡◌, ◌≢◌, ◌<◌, ◌≤◌, ◌+◌, ℕ, zero, suc, Bool, true, false, ◌&&◌, ◌||◌, if◌then◌else◌, List, [], ◌∷◌, ◌++◌, length, map, take, get_or, Option, None, Some, option_map, unwrap_or, refl, sym, ap, subst, ◌∙◌, arith}
use Rattle.std.proofs.lemmas.List.{take_more}
use Rattle.std.proofs.lemmas.Slice.Eq.{bytes_eq-Decides}
use Rattle.std.specs.Str.{bytes_eq}
use Rattle.std.specs.List.{AllByRecursion, list_any}
use Rattle.outside.specs.Folder.{Files, Times, Keeps, OpensOnly}
use Rattle.wopi_text.proofs.Disjunctions.{or_none}
use Rattle.host_core.specs.declared.life.LifeFile.{LifeFile}
use Rattle.std.specs.Ordering.{nat_cmp}
use Rattle.std.specs.declared.cmp.Ordering.TheVariants.{Less}
use Rattle.std.specs.Cmp.Lexicographic.{slice_cmp}
use Rattle.host_core.specs.declared.file.KeptFile.{KeptFile}
use Rattle.host_core.specs.declared.life.ReopenFault.{ReopenFault}
use Rattle.host_core.specs.declared.life.ReopenFault.TheVariants as fault
use Rattle.host_core.specs.declared.opening.StartFault.{StartFault}
use Rattle.host_core.specs.declared.opening.StartFault.TheVariants as start
use Rattle.host_core.specs.Notes.{opening_listed}
use Rattle.host_core.specs.Facts.{Dates, dates_of}
use Rattle.host_core.specs.Life.{AreDatesBeside, as_reopening, IfLarge, IsFolderOrMemory, IsOfLife, Mends, OpensDoubt, is_changed, is_in_doubt, mended, mended_by, mended_with}
use Rattle.host_core.specs.Opening.{AreDatesOf, IsDateOf, HasAll, IfTooLarge, IsOpening, IsTooLarge, MayKeep, PassesLimit}
use Rattle.host_core.specs.Store.{Holds}
use Rattle.wopi_model.specs.Shard.{Opening}

-- ---- one file

pub keeps_mended : (file : LifeFile) (old new : Option Files) → ((held : Option (List ℕ)) → mended_with file.contents held ≡ held) → Keeps old new → Keeps (option_map (mended_by file) old) new
keeps_mended file None None same keeps = tt
keeps_mended file None (Some new) same keeps = absurd keeps
keeps_mended file (Some old) None same keeps = absurd keeps
keeps_mended file (Some old) (Some new) same keeps = λ name. keeps name ∙ sym (go name (bytes_eq file.name name)) where
  go : (name : List ℕ) (b : Bool) → (if b then mended_with file.contents (old name) else old name) ≡ old name
  go name true = same (old name)
  go name false = refl

pub put_mended : (file : LifeFile) (old new : Option Files) (x : Option (List ℕ)) → ((held : Option (List ℕ)) → mended_with file.contents held ≡ x) → OpensOnly old new file.name → Holds new file.name x
    → Keeps (option_map (mended_by file) old) new
put_mended file None None x is others here = tt
put_mended file None (Some new) x is others here = absurd others
put_mended file (Some old) None x is others here = absurd others
put_mended file (Some old) (Some new) x is others here = λ name. go name (bytes_eq file.name name) refl where
  differ : true ≡ false → ⊥
  differ e = cc

  go : (name : List ℕ) (b : Bool) → bytes_eq file.name name ≡ b → new name ≡ (if b then mended_with file.contents (old name) else old name)
  go name true at = ap new (sym ((bytes_eq-Decides file.name name).0 at)) ∙ here ∙ sym (is (old name))
  go name false at = others name (λ e. differ (sym ((bytes_eq-Decides file.name name).1 (sym e)) ∙ at))

pub doubt_kept : {A : Type 0} (life : List LifeFile) (old new : Option (List ℕ → A)) → Keeps old new → OpensDoubt life old new
doubt_kept life None None keeps = tt
doubt_kept life None (Some new) keeps = absurd keeps
doubt_kept life (Some old) None keeps = absurd keeps
doubt_kept life (Some old) (Some new) keeps = λ name none. keeps name

pub doubt_only : {A : Type 0} (file : LifeFile) (old new : Option (List ℕ → A)) → is_changed file.contents ≡ true → OpensOnly old new file.name → OpensDoubt (file ∷ []) old new
doubt_only file None None changed others = tt
doubt_only file None (Some new) changed others = absurd others
doubt_only file (Some old) None changed others = absurd others
doubt_only file (Some old) (Some new) changed others = λ name none. others name (λ e. differ name none e) where
  differ : (name : List ℕ) → is_in_doubt (file ∷ []) name ≡ false → name ≡ file.name → ⊥
  differ name none e =
      let same : bytes_eq file.name name ≡ true = (bytes_eq-Decides file.name name).1 (sym e) in
      go (bytes_eq file.name name) (is_changed file.contents) same changed none
    where
      go : (a b : Bool) → a ≡ true → b ≡ true → ((a && b) || false) ≡ false → ⊥
      go true true h k e = cc
      go true false h k e = cc
      go false b h k e = cc

-- ---- one after another

pub mended_push : (front : List LifeFile) (file : LifeFile) (files : Files) → mended (front ++ file ∷ []) files ≡ mended_by file (mended front files)
mended_push [] file files = refl
mended_push (one ∷ front) file files = mended_push front file (mended_by one files)

pub mends_none : (old now : Option Files) → Keeps old now → Mends [] old now
mends_none None None keeps = tt
mends_none None (Some now) keeps = keeps
mends_none (Some old) None keeps = keeps
mends_none (Some old) (Some now) keeps = keeps

mends_more : (front : List LifeFile) (file : LifeFile) (start now later : Option Files) → Mends front start now → Keeps (option_map (mended_by file) now) later → Mends (front ++ file ∷ []) start later
mends_more front file None None None m k = tt
mends_more front file None None (Some later) m k = absurd k
mends_more front file None (Some now) later m k = absurd m
mends_more front file (Some start) None later m k = absurd m
mends_more front file (Some start) (Some now) None m k = absurd k
mends_more front file (Some start) (Some now) (Some later) m k = λ name.
    k name ∙ ap (λ (o : Option (List ℕ)). if bytes_eq file.name name then mended_with file.contents o else o) (m name)
    ∙ sym (ap (λ (f : Files). f name) (mended_push front file start))

pub mends_step : (files : List LifeFile) (i : ℕ) (file : LifeFile) (start now later : Option Files) → i < length files → file ≡ get_or files i file
    → Mends (take i files) start now → Keeps (option_map (mended_by file) now) later → Mends (take (i + 1) files) start later
mends_step files i file start now later lt is m k =
    subst (λ (front : List LifeFile). Mends front start later) (sym (take_more files i file lt ∙ ap (λ (y : LifeFile). take i files ++ y ∷ []) (sym is)))
    (mends_more (take i files) file start now later m k)

doubt_part : (files : List LifeFile) (i : ℕ) (file : LifeFile) (name : List ℕ) → i < length files → file ≡ get_or files i file → is_in_doubt files name ≡ false → is_in_doubt (file ∷ []) name ≡ false
doubt_part [] i file name lt is none = absurd (omega (arith, lt))
doubt_part (one ∷ files) zero file name lt is none =
    let parts = or_none (bytes_eq one.name name && is_changed one.contents) (is_in_doubt files name) none in
    ap (λ (f : LifeFile). (bytes_eq f.name name && is_changed f.contents) || false) is ∙ ap (λ (b : Bool). b || false) parts.0
doubt_part (one ∷ files) (suc i) file name lt is none =
    let parts = or_none (bytes_eq one.name name && is_changed one.contents) (is_in_doubt files name) none in
    doubt_part files i file name (omega (arith, lt)) is parts.1

pub doubt_step : {A : Type 0} (files : List LifeFile) (i : ℕ) (file : LifeFile) (start now later : Option (List ℕ → A)) → i < length files → file ≡ get_or files i file
    → OpensDoubt files start now → OpensDoubt (file ∷ []) now later → OpensDoubt files start later
doubt_step files i file None None None lt is m k = tt
doubt_step files i file None None (Some later) lt is m k = absurd k
doubt_step files i file None (Some now) later lt is m k = absurd m
doubt_step files i file (Some start) None later lt is m k = absurd m
doubt_step files i file (Some start) (Some now) None lt is m k = absurd k
doubt_step files i file (Some start) (Some now) (Some later) lt is m k = λ name none. k name (doubt_part files i file name lt is none) ∙ m name none

pub doubt_then : {A : Type 0} (files : List LifeFile) (start now later : Option (List ℕ → A)) → OpensDoubt files start now → Keeps now later → OpensDoubt files start later
doubt_then files None None None m k = tt
doubt_then files None None (Some later) m k = absurd k
doubt_then files None (Some now) later m k = absurd m
doubt_then files (Some start) None later m k = absurd m
doubt_then files (Some start) (Some now) None m k = absurd k
doubt_then files (Some start) (Some now) (Some later) m k = λ name none. k name ∙ m name none

pub mends_then : (files : List LifeFile) (start now later : Option Files) → Mends files start now → Keeps now later → Mends files start later
mends_then files None None None m k = tt
mends_then files None None (Some later) m k = absurd k
mends_then files None (Some now) later m k = absurd m
mends_then files (Some start) None later m k = absurd m
mends_then files (Some start) (Some now) None m k = absurd k
mends_then files (Some start) (Some now) (Some later) m k = λ name. k name ∙ m name

-- ---- what is read of a folder that was mended

pub all_from : (files now : Option Files) (P : List ℕ → Type 0) (opening : Opening) → Keeps files now → HasAll now P opening → HasAll files P opening
all_from None None P opening keeps has = tt
all_from None (Some now) P opening keeps has = absurd keeps
all_from (Some files) None P opening keeps has = absurd keeps
all_from (Some files) (Some now) P opening keeps has = λ name own. has name own ∙ keeps name

pub opening_from : (only : Option ℕ) (files now : Option Files) (opening : Opening) → Keeps files now → IsOpening only now opening → IsOpening only files opening
opening_from only files now opening keeps is = record { ordered = is.ordered; taken = is.taken; whole = all_from files now (MayKeep only) opening keeps is.whole }

date_beside : (life : List LifeFile) (start now : Option Times) (name : List ℕ) (saved : ℕ) → OpensDoubt life start now → IsDateOf now name saved → is_in_doubt life name ≡ false → IsDateOf start name saved
date_beside life None None name saved opens date none = tt
date_beside life None (Some now) name saved opens date none = tt
date_beside life (Some start) None name saved opens date none = absurd opens
date_beside life (Some start) (Some now) name saved opens date none = date ∙ ap (λ (o : Option ℕ). unwrap_or o 0) (opens name none)

pub dates_beside : (life : List LifeFile) (start now : Option Times) (dates : Dates) → OpensDoubt life start now → AreDatesOf now dates → AreDatesBeside life start dates
dates_beside life start now [] opens all = tt
dates_beside life start now (one ∷ dates) opens all = (λ none. date_beside life start now one.0 one.1 opens all.0 none, dates_beside life start now dates opens all.1)

-- names that aren't of the shard stay
pub mended_foreign : (only : Option ℕ) (life : List LifeFile) (files : Files) (name : List ℕ) → AllByRecursion (λ file. MayKeep only file.name) life → (MayKeep only name → ⊥) → mended life files name ≡ files name
mended_foreign only [] files name own foreign = refl
mended_foreign only (file ∷ life) files name own foreign =
    mended_foreign only life (mended_by file files) name own.1 foreign ∙ go (bytes_eq file.name name) refl where
      go : (b : Bool) → bytes_eq file.name name ≡ b → (if b then mended_with file.contents (files name) else files name) ≡ files name
      go true at = absurd (foreign (subst (MayKeep only) ((bytes_eq-Decides file.name name).0 at) own.0))
      go false at = refl

limit_from : (files now : Option Files) (before : Opening) (name : List ℕ) → Keeps files now → PassesLimit now before name → PassesLimit files before name
limit_from None None before name keeps passes = tt
limit_from None (Some now) before name keeps passes = absurd keeps
limit_from (Some files) None before name keeps passes = absurd keeps
limit_from (Some files) (Some now) before name keeps (contents, at, limit) = (contents, sym (keeps name) ∙ at, limit)

pub large_from : (only : Option ℕ) (files now : Option Files) (name : List ℕ) → Keeps files now → IsTooLarge only now name → IsTooLarge only files name
large_from only files now name keeps large = record {
  before = large.before;
  taken = large.taken;
  own = large.own;
  ordered = large.ordered;
  whole = all_from files now (λ other. MayKeep only other × (slice_cmp nat_cmp other name ≡ Less)) large.before keeps large.whole;
  smaller = large.smaller;
  fits = large.fits;
  passes = limit_from files now large.before name keeps large.passes;
}

-- ---- faults

pub large_why : (why : ReopenFault) (P : List ℕ → Type 0) → IsFolderOrMemory why → IfLarge why P
large_why fault.FolderFault P is = tt
large_why fault.Memory P is = tt
large_why (fault.TooLarge name) P is = absurd is
large_why fault.BadLife P is = absurd is
large_why fault.TooManyIds P is = absurd is

pub life_why : (why : ReopenFault) → IsFolderOrMemory why → IsOfLife why → ⊥
life_why fault.FolderFault is of = of
life_why fault.Memory is of = of
life_why (fault.TooLarge name) is of = is
life_why fault.BadLife is of = is
life_why fault.TooManyIds is of = is

pub bad_why : (why : ReopenFault) → IsFolderOrMemory why → why ≡ fault.BadLife → ⊥
bad_why why is e = subst IsFolderOrMemory e is

pub many_why : (why : ReopenFault) → IsFolderOrMemory why → why ≡ fault.TooManyIds → ⊥
many_why why is e = subst IsFolderOrMemory e is

pub bad_none : (why : ReopenFault) → (IsOfLife why → ⊥) → why ≡ fault.BadLife → ⊥
bad_none why none e = none (subst IsOfLife (sym e) tt)

pub many_none : (why : ReopenFault) → (IsOfLife why → ⊥) → why ≡ fault.TooManyIds → ⊥
many_none why none e = none (subst IsOfLife (sym e) tt)

pub names_of_dates : (files : List KeptFile) → map (λ (one : List ℕ × ℕ). one.0) (dates_of files) ≡ map (λ (one : List ℕ × List ℕ). one.0) (opening_listed files)
names_of_dates [] = refl
names_of_dates (k ∷ files) = ap (λ (names : List (List ℕ)). k.name ∷ names) (names_of_dates files)

pub large_as : (why : StartFault) (P : List ℕ → Type 0) → IfTooLarge why P → IfLarge (as_reopening why) P
large_as start.FolderFault P is = tt
large_as (start.TooLarge name) P is = is
large_as start.Memory P is = tt

pub folder_as : (why : StartFault) → as_reopening why ≡ fault.FolderFault → why ≡ start.FolderFault
folder_as start.FolderFault e = refl
folder_as (start.TooLarge name) e = absurd (cc (e))
folder_as start.Memory e = absurd (cc (e))

pub life_as : (why : StartFault) → IsOfLife (as_reopening why) → ⊥
life_as start.FolderFault of = of
life_as (start.TooLarge name) of = of
life_as start.Memory of = of

pub keeps_self : {A : Type 0} (old : Option (List ℕ → A)) → Keeps old old
keeps_self None = tt
keeps_self (Some old) = λ name. refl
