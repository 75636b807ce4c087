-- Shards that go on, one after another.
use Rattle.std.proofs.Common.{◌≡◌, ◌⊎◌, inl, inr, ℕ, ◌+◌, ◌<◌, ◌≤◌, Bool, true, false, ◌&&◌, ◌||◌, if◌then◌else◌, max, Option, Some, None, option_map, List, [], ◌∷◌, ◌++◌, map, length, take, get_or, refl, ap, sym, subst, ◌∙◌, append_assoc, arith}
use Rattle.std.specs.List.{AllByRecursion}
use Rattle.std.specs.Str.{bytes_eq}
use Rattle.outside.specs.Folder.{Files, Times, Keeps}
use Rattle.wopi_text.proofs.Disjunctions.{or_none}
use Rattle.host_core.specs.declared.life.Life.{Life}
use Rattle.host_core.specs.declared.life.LifeFile.{LifeFile}
use Rattle.host_core.specs.declared.life.LifeContents.{LifeContents}
use Rattle.host_core.specs.declared.life.LifeContents.TheVariants as contents
use Rattle.host_core.specs.declared.life.ReopenFault.{ReopenFault}
use Rattle.host_core.specs.declared.life.ReopenFault.TheVariants as fault
use Rattle.host_core.specs.Life.{Mends, OpensDoubt, is_changed, is_in_doubt, mended, mended_by, mended_with}
use Rattle.host_core.specs.Notes.{Notes}
use Rattle.host_core.specs.Value.{Book}
use Rattle.host_core.proofs.Mends.{doubt_then, keeps_self}
use Rattle.host_table.specs.Histories.{last_stamp}
use Rattle.host_table.specs.Start.{start_of, log_in, AreNew, IsHanded, AreHanded}
use Rattle.host_table.specs.Reopen.{AllGoOn, AreHandedOn, GoesOn, IsBlamedOnShard, IsFaultOf, IsFaultOfOne, IsHandedOn, greatest_last}

-- ---- a folder that was mended

same_with : (told : LifeContents) (held : Option (List ℕ)) → is_changed told ≡ false → mended_with told held ≡ held
same_with contents.Absent held same = refl
same_with (contents.Left size) held same = refl
same_with contents.Removed held same = absurd (cc same)
same_with (contents.Told bytes) held same = absurd (cc same)

same_by : (file : LifeFile) (files : Files) (name : List ℕ) → (bytes_eq file.name name && is_changed file.contents) ≡ false → mended_by file files name ≡ files name
same_by file files name none = go (bytes_eq file.name name) none
  where
    go : (b : Bool) → (b && is_changed file.contents) ≡ false → (if b then mended_with file.contents (files name) else files name) ≡ files name
    go true same = same_with file.contents (files name) same
    go false same = refl

mended_same : (life : List LifeFile) (files : Files) (name : List ℕ) → is_in_doubt life name ≡ false → mended life files name ≡ files name
mended_same [] files name none = refl
mended_same (file ∷ life) files name none =
    let parts = or_none (bytes_eq file.name name && is_changed file.contents) (is_in_doubt life name) none in
    mended_same life (mended_by file files) name parts.1 ∙ same_by file files name parts.0

-- only names in doubt are other ones then
pub mends_doubt : (life : List LifeFile) (old new : Option Files) → Mends life old new → OpensDoubt life old new
mends_doubt life None None mends = tt
mends_doubt life None (Some new) mends = absurd mends
mends_doubt life (Some old) None mends = absurd mends
mends_doubt life (Some old) (Some new) mends = λ name none. mends name ∙ mended_same life old name none

pub doubt_self : (life : List LifeFile) (files : Option Files) → OpensDoubt life files files
doubt_self life None = tt
doubt_self life (Some files) = λ name none. refl

-- ---- the greatest stamp

pub greatest_push : {F : Type 0} (books : List (Book F)) (book : Book F) → greatest_last (books ++ book ∷ []) ≡ max (last_stamp book.begin.last book.made) (greatest_last books)
greatest_push [] book = refl
greatest_push (one ∷ books) book = let rest = greatest_push books book in omega (arith, rest)

-- ---- shards, one after another

module _ {F : Type 0} (files : F → Option Files) (times : F → Option Times) (faults : F → ℕ) (notes : F → Notes) (ids : ℕ) where
  pub going_push : (number n : ℕ) (lives : List Life) (folders : List F) (bases : List (Book F)) (one : Life) (over : F) (book : Book F) → n ≡ number + length folders → AllGoOn files times faults notes ids number lives folders bases
      → GoesOn files times faults notes ids n one over book → AllGoOn files times faults notes ids number (lives ++ one ∷ []) (folders ++ over ∷ []) (bases ++ book ∷ [])
  going_push number n [] [] [] one over book at going goes = (subst (λ (z : ℕ). GoesOn files times faults notes ids z one over book) (omega (arith, at)) goes, tt)
  going_push number n [] [] (base ∷ bases) one over book at going goes = absurd going
  going_push number n [] (folder ∷ folders) [] one over book at going goes = absurd going
  going_push number n [] (folder ∷ folders) (base ∷ bases) one over book at going goes = absurd going
  going_push number n (life ∷ lives) [] [] one over book at going goes = absurd going
  going_push number n (life ∷ lives) [] (base ∷ bases) one over book at going goes = absurd going
  going_push number n (life ∷ lives) (folder ∷ folders) [] one over book at going goes = absurd going
  going_push number n (life ∷ lives) (folder ∷ folders) (base ∷ bases) one over book at going goes = (going.0, going_push (number + 1) n lives folders bases one over book (omega (arith, at)) going.1 goes)

  pub going_new : (number : ℕ) (lives : List Life) (folders : List F) (bases : List (Book F)) → AllGoOn files times faults notes ids number lives folders bases → AreNew bases
  going_new number [] [] [] going = tt
  going_new number [] [] (base ∷ bases) going = absurd going
  going_new number [] (folder ∷ folders) [] going = absurd going
  going_new number [] (folder ∷ folders) (base ∷ bases) going = absurd going
  going_new number (life ∷ lives) [] [] going = absurd going
  going_new number (life ∷ lives) [] (base ∷ bases) going = absurd going
  going_new number (life ∷ lives) (folder ∷ folders) [] going = absurd going
  going_new number (life ∷ lives) (folder ∷ folders) (base ∷ bases) going = (ap (λ (z : Book F). z.made) going.0.book, going_new (number + 1) lives folders bases going.1)

  pub going_long : (number : ℕ) (lives : List Life) (folders : List F) (bases : List (Book F)) → AllGoOn files times faults notes ids number lives folders bases → (length bases ≡ length folders) × (length lives ≡ length folders)
  going_long number [] [] [] going = (refl, refl)
  going_long number [] [] (base ∷ bases) going = absurd going
  going_long number [] (folder ∷ folders) [] going = absurd going
  going_long number [] (folder ∷ folders) (base ∷ bases) going = absurd going
  going_long number (life ∷ lives) [] [] going = absurd going
  going_long number (life ∷ lives) [] (base ∷ bases) going = absurd going
  going_long number (life ∷ lives) (folder ∷ folders) [] going = absurd going
  going_long number (life ∷ lives) (folder ∷ folders) (base ∷ bases) going = let rest = going_long (number + 1) lives folders bases going.1 in let first = rest.0 in let second = rest.1 in (omega (arith, first), omega (arith, second))

  -- a store that is handed back behind a shard that went on
  handed_one : (number : ℕ) (life : Life) (folder : F) (base : Book F) (new : F) → GoesOn files times faults notes ids number life folder base → IsHanded files faults base.start new → (notes new).log ≡ (notes base.start).log
      → IsHandedOn files faults notes life folder new
  handed_one number life folder base new goes handed log =
      let more = goes.counts in let later = handed.counts in
      record {
        doubt = doubt_then life.files.items (files folder) (files base.start) (files new) (mends_doubt life.files.items (files folder) (files base.start) goes.mends) handed.same;
        counts = omega (arith, more, later);
        log = log ∙ goes.log;
      }

  pub handed_back : (number : ℕ) (lives : List Life) (folders : List F) (bases : List (Book F)) (handed : List F) → AllGoOn files times faults notes ids number lives folders bases → AreHanded files faults (map start_of bases) handed
      → map (log_in notes) handed ≡ map (log_in notes) (map start_of bases) → AreHandedOn files faults notes lives folders handed
  handed_back number [] [] [] [] going handed logs = tt
  handed_back number [] [] [] (new ∷ news) going handed logs = absurd handed
  handed_back number [] [] (base ∷ bases) handed' going handed logs = absurd going
  handed_back number [] (folder ∷ folders) [] handed' going handed logs = absurd going
  handed_back number [] (folder ∷ folders) (base ∷ bases) handed' going handed logs = absurd going
  handed_back number (life ∷ lives) [] [] handed' going handed logs = absurd going
  handed_back number (life ∷ lives) [] (base ∷ bases) handed' going handed logs = absurd going
  handed_back number (life ∷ lives) (folder ∷ folders) [] handed' going handed logs = absurd going
  handed_back number (life ∷ lives) (folder ∷ folders) (base ∷ bases) [] going handed logs = absurd handed
  handed_back number (life ∷ lives) (folder ∷ folders) (base ∷ bases) (new ∷ news) going handed logs =
      (handed_one number life folder base new going.0 handed.0 (cc logs), handed_back (number + 1) lives folders bases news going.1 handed.1 (cc logs))

module _ {F : Type 0} (files : F → Option Files) (faults : F → ℕ) (notes : F → Notes) where
  pub on_self : (lives : List Life) (folders : List F) → length lives ≡ length folders → AreHandedOn files faults notes lives folders folders
  on_self [] [] e = tt
  on_self [] (folder ∷ folders) e = absurd (omega (arith, e))
  on_self (life ∷ lives) [] e = absurd (omega (arith, e))
  on_self (life ∷ lives) (folder ∷ folders) e =
      (record { doubt = doubt_self life.files.items (files folder); counts = omega arith; log = refl }, on_self lives folders (omega (arith, e)))

  pub on_append : (lives : List Life) (olds news : List F) (lives' : List Life) (olds' news' : List F) → AreHandedOn files faults notes lives olds news → AreHandedOn files faults notes lives' olds' news'
      → AreHandedOn files faults notes (lives ++ lives') (olds ++ olds') (news ++ news')
  on_append [] [] [] lives' olds' news' here there = there
  on_append [] [] (new ∷ news) lives' olds' news' here there = absurd here
  on_append [] (old ∷ olds) [] lives' olds' news' here there = absurd here
  on_append [] (old ∷ olds) (new ∷ news) lives' olds' news' here there = absurd here
  on_append (life ∷ lives) [] [] lives' olds' news' here there = absurd here
  on_append (life ∷ lives) [] (new ∷ news) lives' olds' news' here there = absurd here
  on_append (life ∷ lives) (old ∷ olds) [] lives' olds' news' here there = absurd here
  on_append (life ∷ lives) (old ∷ olds) (new ∷ news) lives' olds' news' here there = (here.0, on_append lives olds news lives' olds' news' here.1 there)

  pub on_long : (lives : List Life) (olds news : List F) → AreHandedOn files faults notes lives olds news → length news ≡ length olds
  on_long [] [] [] handed = refl
  on_long [] [] (new ∷ news) handed = absurd handed
  on_long [] (old ∷ olds) [] handed = absurd handed
  on_long [] (old ∷ olds) (new ∷ news) handed = absurd handed
  on_long (life ∷ lives) [] [] handed = absurd handed
  on_long (life ∷ lives) [] (new ∷ news) handed = absurd handed
  on_long (life ∷ lives) (old ∷ olds) [] handed = absurd handed
  on_long (life ∷ lives) (old ∷ olds) (new ∷ news) handed = let rest = on_long lives olds news handed.1 in omega (arith, rest)

module _ {F : Type 0} (files : F → Option Files) (times : F → Option Times) (faults : F → ℕ) (ids : ℕ) where
  -- the fault of a shard behind others
  pub fault_behind : (number n : ℕ) (lives : List Life) (olds news : List F) (life : Life) (old new : F) (lives' : List Life) (olds' news' : List F) (why : ReopenFault) → length lives ≡ length olds → length news ≡ length olds → n ≡ number + length olds
      → IsFaultOf files times faults ids n life old new why → IsFaultOfOne files times faults ids number (lives ++ life ∷ lives') (olds ++ old ∷ olds') (news ++ new ∷ news') why
  fault_behind number n [] [] [] life old new lives' olds' news' why e k at is = inl (subst (λ (z : ℕ). IsFaultOf files times faults ids z life old new why) (omega (arith, at)) is)
  fault_behind number n [] [] (w ∷ news) life old new lives' olds' news' why e k at is = absurd (omega (arith, e, k))
  fault_behind number n [] (o ∷ olds) [] life old new lives' olds' news' why e k at is = absurd (omega (arith, e, k))
  fault_behind number n [] (o ∷ olds) (w ∷ news) life old new lives' olds' news' why e k at is = absurd (omega (arith, e, k))
  fault_behind number n (l ∷ lives) [] [] life old new lives' olds' news' why e k at is = absurd (omega (arith, e, k))
  fault_behind number n (l ∷ lives) [] (w ∷ news) life old new lives' olds' news' why e k at is = absurd (omega (arith, e, k))
  fault_behind number n (l ∷ lives) (o ∷ olds) [] life old new lives' olds' news' why e k at is = absurd (omega (arith, e, k))
  fault_behind number n (l ∷ lives) (o ∷ olds) (w ∷ news) life old new lives' olds' news' why e k at is = inr (fault_behind (number + 1) n lives olds news life old new lives' olds' news' why (omega (arith, e)) (omega (arith, k)) (omega (arith, at)) is)

  pub blamed_on : (lives : List Life) (olds news : List F) (why : ReopenFault) → IsFaultOfOne files times faults ids 0 lives olds news why → IsBlamedOnShard files times faults ids lives olds news why
  blamed_on lives olds news fault.Memory is = tt
  blamed_on lives olds news fault.BadLife is = is
  blamed_on lives olds news fault.TooManyIds is = is
  blamed_on lives olds news fault.FolderFault is = is
  blamed_on lives olds news (fault.TooLarge name) is = is
