-- Each file's chain as its spent list.
use Rattle.std.proofs.Common.{◌≡◌, ℕ, zero, suc, Bool, true, false, if◌then◌else◌, List, [], ◌∷◌, map, Option, None, Some, option_map, unwrap_or, refl, sym, ap, ◌∙◌}
use Rattle.std.proofs.lemmas.Option.{none-some}
use Rattle.std.specs.Str.{bytes_eq}
use Rattle.outside.specs.Folder.{Files}
use Rattle.host_core.specs.Places.{first_of}
use Rattle.wopi_model.specs.File.{File, never_met}
use Rattle.wopi_model.specs.Settle.{standing, expired, is_over, still_spent, with_spent, settled}
use Rattle.wopi_model.specs.declared.locks.Lock.{Lock}
use Rattle.wopi_model.specs.declared.locks.Spent.{Spent}
use Rattle.kept_locks.specs.Locks.{Standing, unlocked}
use Rattle.host_core.specs.declared.file.KeptFile.{KeptFile}
use Rattle.host_core.specs.declared.ledger.Ledger.{Ledger}
use Rattle.host_core.specs.Names.{place_in}
use Rattle.host_core.specs.Chains.{KeepsChains, chain_at}
use Rattle.wopi_model.specs.Host.{kept_from}
use Rattle.host_core.specs.Entries.{items_of}
use Rattle.host_core.specs.Files.{file_of, files_of, is_named}
use Rattle.host_core.specs.Ledger.{files_in, IsTied}
use Rattle.host_core.specs.Notes.{Notes}
use Rattle.host_core.specs.Numbers.{named}
use Rattle.host_core.specs.Value.{Book, Reflects, Stands}
use Rattle.host_core.specs.Whole.{whole, standing_at, joined}
use Rattle.host_core.proofs.History.{shown-file}

abbrev first_list : List (List Spent) → List Spent
first_list [] = []
first_list (l ∷ ls) = l

abbrev other_lists : List (List Spent) → List (List Spent)
other_lists [] = []
other_lists (l ∷ ls) = ls

chain_still : (chains : List (List Spent)) (ss : List Standing) (now number : ℕ) → map (λ chain. still_spent chain now) chains ≡ map (λ file. still_spent file.spent now) ss
    → still_spent (chain_at chains number) now ≡ still_spent (standing_at ss number).spent now
chain_still [] [] now number e = refl
chain_still [] (s ∷ ss) now number e = absurd (cc)
chain_still (chain ∷ chains) [] now number e = absurd (cc)
chain_still (chain ∷ chains) (s ∷ ss) now zero e = ap first_list e
chain_still (chain ∷ chains) (s ∷ ss) now (suc number) e = chain_still chains ss now number (ap other_lists e)

-- a lock that stands leaves no id
unexpired : (lock : Option Lock) (now : ℕ) → standing lock now ≡ lock → expired lock now ≡ None
unexpired None now stands = refl
unexpired (Some lock) now stands = by_test (is_over lock now) refl
  where
    by_test : (b : Bool) → is_over lock now ≡ b → expired (Some lock) now ≡ None
    by_test true is = absurd (none-some lock (sym (ap (λ b. if b then None else Some lock) is) ∙ stands))
    by_test false is = ap (λ b. if b then Some (record { id = lock.id; until = lock.until }) else None) is

further : (o : Option ℕ) (number : ℕ) → option_map suc o ≡ Some number → (m : ℕ) × (o ≡ Some m) × (number ≡ suc m)
further None number e = absurd (cc)
further (Some m) number e = (m, refl, cc)

-- the first file has the name, or one of the others has
module _ (first : ℕ) (k : KeptFile) (s : Standing) (files : List KeptFile) (ss : List Standing) (name : List ℕ) where
  abbrev found : Bool → File
  found b = unwrap_or (option_map file_of (if b then Some (whole k s) else first_of (is_named name) (joined files ss))) (never_met first)

  found_one : (number : ℕ) → ((m : ℕ) → place_in (named files) name ≡ Some m → (j : KeptFile) × (files_of first (joined files ss) name ≡ file_of (whole j (standing_at ss m))))
      → (b : Bool) → bytes_eq k.name name ≡ b → (if b then Some 0 else option_map suc (place_in (named files) name)) ≡ Some number
      → (j : KeptFile) × (found (bytes_eq k.name name) ≡ file_of (whole j (standing_at (s ∷ ss) number)))
  found_one number more true is e =
      let none : 0 ≡ number = cc in
      (k, ap found is ∙ ap (λ n. file_of (whole k (standing_at (s ∷ ss) n))) none)
  found_one number more false is e =
      let (m, at, next) = further (place_in (named files) name) number e in
      let (j, same) = more m at in
      (j, ap found is ∙ same ∙ ap (λ n. file_of (whole j (standing_at (s ∷ ss) n))) (sym next))

bare_at : (number : ℕ) → standing_at (unlocked ∷ []) number ≡ unlocked
bare_at zero = refl
bare_at (suc number) = refl

-- what stands under the number of a name's place is the name's
found_at : (first : ℕ) (files : List KeptFile) (ss : List Standing) (name : List ℕ) (number : ℕ) → place_in (named files) name ≡ Some number
    → (k : KeptFile) × (files_of first (joined files ss) name ≡ file_of (whole k (standing_at ss number)))
found_at first [] ss name number at = absurd (cc)
found_at first (k ∷ files) [] name number at =
    let (j, same) = found_one first k unlocked files [] name number (λ m e. found_at first files [] name m e) (bytes_eq k.name name) refl at in
    (j, same ∙ ap (λ s. file_of (whole j s)) (bare_at number))
found_at first (k ∷ files) (s ∷ ss) name number at = found_one first k s files ss name number (λ m e. found_at first files ss name m e) (bytes_eq k.name name) refl at

-- what is kept has the chains of what has happened
chains_kept : {F : Type 0} (ledger : Ledger) (notes : Notes) (book : Book F) (all : ℕ) → book.time ≡ ledger.time → Reflects book.begin book.made book.time ledger.last all (files_in ledger) → IsTied ledger notes
    → KeepsChains ledger book
chains_kept ledger notes book all time keeps tied = λ name number at.
    let ss = ledger.rack.locks.files in
    let s = standing_at ss number in
    let (k, is) = found_at book.begin.first ledger.rack.files.items ss name number at in
    let shown = shown-file book.begin book.made book.time ledger.last all (files_in ledger) keeps name in
    let none : expired s.lock ledger.time ≡ None = unexpired s.lock ledger.time (tied.stand number) in
    ap (still_spent (chain_at ledger.rack.locks.chains number)) time
    ∙ chain_still ledger.rack.locks.chains ss ledger.time number (tied.locked.as_of.chains ledger.time tied.locked.as_of.stepped)
    ∙ sym (ap (λ (o : Option Spent). still_spent (with_spent o s.spent) ledger.time) none)
    ∙ sym (ap (λ (n : ℕ). still_spent (with_spent (expired s.lock n) s.spent) n) time)
    ∙ sym (ap (λ (f : File). (settled f book.time).spent) is)
    ∙ ap (λ (f : File). f.spent) shown

-- what holds of a shard's parts, with its chains
pub with_chains : {F : Type 0} (ledger : Ledger) (notes : Notes) (book : Book F) (start now : Option Files) (began count : ℕ) → book.time ≡ ledger.time
    → Stands book ledger.last (files_in ledger) ledger.bytes start now began count → IsTied ledger notes
    → Stands book ledger.last (files_in ledger) ledger.bytes start now began count × IsTied ledger notes × KeepsChains ledger book
with_chains ledger notes book start now began count time stands tied = (stands, tied, chains_kept ledger notes book (kept_from book.begin (items_of book.made)) time stands.keeps tied)
