-- The journal of a host and of all its passes.
use Rattle.std.specs.Prelude.{unwrap_or, IsSomeAnd, IfSome}
use Rattle.std.proofs.Common.{◌≡◌, ◌≢◌, ◌⊎◌, inl, inr, ℕ, zero, suc, ◌+◌, ◌*◌, ◌^◌, ◌≤◌, ◌<◌, ◌==◌, suc-mul, zero-mul, true, false, Bool, cond, Option, Some, List, [], ◌∷◌, ◌++◌, map, length, filter, slice_get, refl, ap, sym, subst, ◌∙◌, arith, IsPermutation}
use Rattle.std.proofs.lemmas.Bool.Decides.{nat_tests}
use Rattle.std.proofs.lemmas.List.{length-map, append-nil}
use Rattle.std.proofs.lemmas.List.Elements.{filter-append}
use Rattle.std.specs.List.{AllByRecursion}
use Rattle.std.specs.List.Sorted.{IsNonDecreasingBy}
use mathlib.Core.List.{IsPrefix}
use Rattle.turn_lock.specs.Places.{total, times}
use Rattle.outside.specs.Folder.{Files}
use Rattle.wopi_text.specs.FileName.{shard_of}
use Rattle.wopi_model.specs.Shard.{Opening, Entry, Item, Step, Legal, LegalFrom, RisesFrom, entries, stamps}
use Rattle.wopi_model.specs.File.{File}
use Rattle.wopi_model.specs.Begin.{Begin, new_life}
use Rattle.wopi_model.specs.Host.{Limits, kept_limits, shard_of_entry, opening_of, part_of, IsInOrder}
use Rattle.host_core.specs.Opening.{MayKeep}
use Rattle.host_core.specs.Entries.{Made, history_of, told_by, told_of}
use Rattle.host_core.specs.Value.{Book, InMemory, Left, IsLawful}
use Rattle.host_table.specs.declared.journal.Spot.{Spot}
use Rattle.host_core.specs.Times.{steps_of, untimed, last_time, IsTimely}
use Rattle.host_table.specs.Histories.{as_opened, AreNamed}
use Rattle.host_table.specs.Held.{IsTakenApart}
use Rattle.host_table.specs.Passes.{Place, PassView, HostView, Own, stamp_of, own_of, told_own, owned_from, lock_of, base_of, IsPassOf, AreBases, IsPass, IsHost, HasOwn}
use Rattle.host_table.specs.Rows.{CanClose, AreEnds}
use Rattle.host_table.specs.Journal.{order_of, all_spots, merge_of, AreFound, openings, AreParts}
use Rattle.host_table.specs.Close.{number_of, capacity_of, AreFree, IsWhole, IsBasedOn, IsJoinOf, AreSeen, AreTaken, IsEnded, AreEnded, Ends}
use Rattle.host_core.proofs.Timing.{entries-history}
use Rattle.host_table.proofs.Stamps.{prefix_get, get_inside}
use Rattle.host_table.proofs.Owned.{has_own}
use Rattle.host_table.proofs.Leaving.{life_is}
use Rattle.host_table.proofs.NewLives.{opening_kept}
use Rattle.host_table.proofs.Order.{Has, all_at, all_of, has_filter, filter_has, filter_none, has_map, map_has, filter_map_is, AreOrdered, ordered_filter, one_order, rises_ordered}
use Rattle.host_table.proofs.Sorting.{AreRising, ArePlaced, AreSorted, are_sorted, sorted_found, sorted_ordered, entry_has, has_entry}
use Rattle.host_table.proofs.Owners.{in_from, in_sorted, same_number, seat_at, owner_of, seen_begins, has_times}

module _ {A : Type 0} where
  -- a place inside a list
  pub got : (xs : List A) (k : ℕ) → k < length xs → (x : A) × (slice_get xs k ≡ Some x)
  got [] k h = absurd (omega arith)
  got (x ∷ xs) zero h = (x, refl)
  got (x ∷ xs) (suc k) h = got xs k (omega arith)

  -- what is one of a list stands at some place
  has_place : (xs : List A) (x : A) → Has xs x → (k : ℕ) × (slice_get xs k ≡ Some x)
  has_place [] x h = absurd h
  has_place (y ∷ xs) x h = elim h as (λ _. (k : ℕ) × (slice_get (y ∷ xs) k ≡ Some x)) [ inl e ↦ (0, ap Some e) | inr j ↦ let r = has_place xs x j in (suc r.0, r.1) ]

  place_has : (xs : List A) (k : ℕ) (x : A) → slice_get xs k ≡ Some x → Has xs x
  place_has [] k x e = absurd (cc e)
  place_has (y ∷ xs) zero x e = inl (cc e)
  place_has (y ∷ xs) (suc k) x e = inr (place_has xs k x e)

-- what each shard leaves has the entries that it made
abbrev pub HaveMade : {S F : Type 0} → List (Book S) → List (Left F) → Type 0
HaveMade [] [] = Unit {0}
HaveMade [] (part ∷ parts) = ⊥
HaveMade (book ∷ books) [] = ⊥
HaveMade (book ∷ books) (part ∷ parts) = (part.made ≡ book.made) × HaveMade books parts

module _ {S F : Type 0} where
  made_long : (books : List (Book S)) (parts : List (Left F)) → HaveMade books parts → length parts ≡ length books
  made_long [] [] a = refl
  made_long [] (p ∷ parts) a = absurd a
  made_long (b ∷ books) [] a = absurd a
  made_long (b ∷ books) (p ∷ parts) a = ap suc (made_long books parts a.1)

  made_at : (books : List (Book S)) (parts : List (Left F)) (i : ℕ) (part : Left F) → HaveMade books parts → slice_get parts i ≡ Some part → (h : Book S) × (slice_get books i ≡ Some h) × (part.made ≡ h.made)
  made_at [] [] i part a e = absurd (cc e)
  made_at [] (p ∷ parts) i part a e = absurd a
  made_at (b ∷ books) [] i part a e = absurd a
  made_at (b ∷ books) (p ∷ parts) zero part a e = let same : p ≡ part = cc e in (b, refl, ap (λ (z : Left F). z.made) (sym same) ∙ a.0)
  made_at (b ∷ books) (p ∷ parts) (suc i) part a e = made_at books parts i part a.1 e

module _ {F : Type 0} (files : F → Option Files) (faults : F → ℕ) where
  pub taken_at : (books : List (Book (InMemory F))) (parts : List (Left F)) (folders : List F) (i : ℕ) (part : Left F) → AreTaken files faults books parts folders → slice_get parts i ≡ Some part
      → (h : Book (InMemory F)) × (folder : F) × (slice_get books i ≡ Some h) × IsTakenApart files faults h part folder
  taken_at [] [] [] i part a e = absurd (cc e)
  taken_at [] [] (f ∷ folders) i part a e = absurd a
  taken_at [] (p ∷ parts) [] i part a e = absurd a
  taken_at [] (p ∷ parts) (f ∷ folders) i part a e = absurd a
  taken_at (b ∷ books) [] [] i part a e = absurd a
  taken_at (b ∷ books) [] (f ∷ folders) i part a e = absurd a
  taken_at (b ∷ books) (p ∷ parts) [] i part a e = absurd a
  taken_at (b ∷ books) (p ∷ parts) (f ∷ folders) zero part a e = let same : p ≡ part = cc e in (b, f, refl, subst (λ (z : Left F). IsTakenApart files faults b z f) same a.0)
  taken_at (b ∷ books) (p ∷ parts) (f ∷ folders) (suc i) part a e = taken_at books parts folders i part a.1 e

  taken_made : (books : List (Book (InMemory F))) (parts : List (Left F)) (folders : List F) → AreTaken files faults books parts folders → HaveMade books parts
  taken_made [] [] [] a = tt
  taken_made [] [] (f ∷ folders) a = absurd a
  taken_made [] (p ∷ parts) [] a = absurd a
  taken_made [] (p ∷ parts) (f ∷ folders) a = absurd a
  taken_made (b ∷ books) [] [] a = absurd a
  taken_made (b ∷ books) [] (f ∷ folders) a = absurd a
  taken_made (b ∷ books) (p ∷ parts) [] a = absurd a
  taken_made (b ∷ books) (p ∷ parts) (f ∷ folders) a = (ap (λ (z : Left F). z.made) a.0.left_is, taken_made books parts folders a.1)

  -- what a shard leaves is of the shard that was opened
  ended_one : (opened oldest : ℕ) (h : Book (InMemory F)) (part : Left F) (folder : F) → h.begin.opened ≡ opened → h.begin.first ≡ oldest → IsTakenApart files faults h part folder → IsEnded files faults opened oldest (as_opened h) part folder
  ended_one opened oldest h part folder at begins t =
      let goes = t.lawful.timely t.held.unticked in
      let now : h.begin.now ≡ opened = ap (λ (b : Begin). b.now) t.begin_is ∙ at in
      let time : last_time h.begin.now h.made ≡ h.time = sym goes.time_is in
      let P : Left F × F → Type 0 = λ z. IsEnded files faults opened oldest (as_opened h) z.0 z.1 in
      let both : (record { opening = h.folder.opening; dates = h.dates; made = h.made; start = h.start.folder }, h.folder.folder) ≡ (part, folder) = λ i. (sym t.left_is i, sym t.folder_is i) in
      let Q : ℕ → Type 0 = λ n. IsLawful (record { only = h.only; begin = h.begin; limits = h.limits; dates = h.dates; made = h.made; time = n; ticked = h.ticked; start = h.start.folder; folder = h.folder.folder }) (files h.start.folder) (files h.folder.folder) (faults h.start.folder) (faults h.folder.folder) in
      let was : Q h.time = record { legal = t.lawful.legal; folder = t.lawful.folder; faults = t.lawful.faults; timely = t.lawful.timely; alone = t.lawful.alone } in
      subst P both (record {
        begin = t.begin_is ∙ (λ i. new_life h.folder.opening (at i) (begins i));
        dates = refl;
        start = refl;
        timely = subst (λ (n : ℕ). IsTimely n h.made) now goes.timely;
        lawful = subst Q (sym time) was;
      })

  ended_all : (opened oldest : ℕ) (limits : Limits) (j : ℕ) (books : List (Book (InMemory F))) (parts : List (Left F)) (folders : List F) → AreTaken files faults books parts folders → AreBases opened oldest limits j (map as_opened books)
      → AreEnded files faults opened oldest (map as_opened books) parts folders
  ended_all opened oldest limits j [] [] [] a e = tt
  ended_all opened oldest limits j [] [] (f ∷ folders) a e = absurd a
  ended_all opened oldest limits j [] (p ∷ parts) [] a e = absurd a
  ended_all opened oldest limits j [] (p ∷ parts) (f ∷ folders) a e = absurd a
  ended_all opened oldest limits j (b ∷ books) [] [] a e = absurd a
  ended_all opened oldest limits j (b ∷ books) [] (f ∷ folders) a e = absurd a
  ended_all opened oldest limits j (b ∷ books) (p ∷ parts) [] a e = absurd a
  ended_all opened oldest limits j (b ∷ books) (p ∷ parts) (f ∷ folders) a e = (ended_one opened oldest b p f e.0.opened_is e.0.first_is a.0, ended_all opened oldest limits (j + 1) books parts folders a.1 e.1)

  -- each part's entries stand in their names' shard, and their stamps rise
  parts_placed : (opened oldest : ℕ) (limits : Limits) (j : ℕ) (books : List (Book (InMemory F))) (parts : List (Left F)) (folders : List F) → AreTaken files faults books parts folders → AreBases opened oldest limits j (map as_opened books) → ArePlaced j parts × AreRising parts
  parts_placed opened oldest limits j [] [] [] a b = (tt, tt)
  parts_placed opened oldest limits j [] [] (f ∷ folders) a b = absurd a
  parts_placed opened oldest limits j [] (p ∷ parts) [] a b = absurd a
  parts_placed opened oldest limits j [] (p ∷ parts) (f ∷ folders) a b = absurd a
  parts_placed opened oldest limits j (h ∷ books) [] [] a b = absurd a
  parts_placed opened oldest limits j (h ∷ books) [] (f ∷ folders) a b = absurd a
  parts_placed opened oldest limits j (h ∷ books) (p ∷ parts) [] a b = absurd a
  parts_placed opened oldest limits j (h ∷ books) (p ∷ parts) (f ∷ folders) a b =
      let t = a.0 in
      let made : h.made ≡ p.made = sym (ap (λ (z : Left F). z.made) t.left_is) in
      let P : Option ℕ × List Made → Type 0 = λ z. AreNamed z.0 z.1 in
      let both : (h.only, h.made) ≡ (Some j, p.made) = λ i. (b.0.only i, made i) in
      let named : AreNamed (Some j) p.made = subst P both t.held.named in
      let new : h.begin.last ≡ 0 = ap (λ (z : Begin). z.last) t.begin_is in
      let P' : ℕ × List Entry → Type 0 = λ z. RisesFrom z.0 (stamps z.1) in
      let all : (h.begin.last, entries (history_of h.made h.time)) ≡ (0, steps_of h.made) = λ i. (new i, entries-history h.made h.time i) in
      let rises : RisesFrom 0 (stamps (steps_of h.made)) = subst P' all t.lawful.legal.stamps in
      let rest = parts_placed opened oldest limits (j + 1) books parts folders a.1 b.1 in
      ((named, rest.0), (subst (λ (m : List Made). RisesFrom 0 (stamps (steps_of m))) made rises, rest.1))

-- the shards that lay under the locks are those that were opened
pub ended_bases : {F : Type 0} (seats : List (Place F)) (books bases : List (Book F)) → AreEnds seats books → map base_of seats ≡ map Some bases → map as_opened books ≡ bases
ended_bases [] [] [] a e = refl
ended_bases [] [] (b ∷ bases) a e = absurd (cc e)
ended_bases [] (h ∷ books) bases a e = absurd a
ended_bases (s ∷ seats) [] bases a e = absurd a
ended_bases (s ∷ seats) (h ∷ books) [] a e = absurd (cc e)
ended_bases (s ∷ seats) (h ∷ books) (b ∷ bases) a e =
    let first : s.base ≡ Some b = cc e in let rest : map base_of seats ≡ map Some bases = cc e in
    let same : as_opened h ≡ b = cc (a.0.based, first) in let more = ended_bases seats books bases a.1 rest in
    λ i. same i ∷ more i

pub based_on : {F : Type 0} (host : HostView F) (passes : List (PassView F)) (seats : List (Place F)) → AllByRecursion (IsPassOf host) passes → IsBasedOn passes seats → map base_of seats ≡ map Some host.bases
based_on host [] seats of b = absurd b
based_on host (p ∷ passes) seats of b = b ∙ of.0.bases

-- files of other shards, and of this one
others_out : (n i : ℕ) (opening : Opening) → n ≢ i → AllByRecursion (λ (file : List ℕ × List ℕ). shard_of file.0 ≡ i) opening → opening_of n opening ≡ []
others_out n i [] differ a = refl
others_out n i (file ∷ opening) differ a =
    let rest = others_out n i opening differ a.1 in let home = a.0 in
    let test : shard_of file.0 == n ≡ false = grind (arith, nat_tests) in
    ap (λ (b : Bool). cond b (file ∷ opening_of n opening) (opening_of n opening)) test ∙ rest

own_in : (n : ℕ) (opening : Opening) → AllByRecursion (λ (file : List ℕ × List ℕ). shard_of file.0 ≡ n) opening → opening_of n opening ≡ opening
own_in n [] a = refl
own_in n (file ∷ opening) a =
    let rest = own_in n opening a.1 in let home = a.0 in
    let test : shard_of file.0 == n ≡ true = grind (arith, nat_tests) in
    ap (λ (b : Bool). cond b (file ∷ opening_of n opening) (opening_of n opening)) test ∙ ap (λ (z : Opening). file ∷ z) rest

-- each part's opening files are of its shard
abbrev pub AreHomed : {F : Type 0} → ℕ → List (Left F) → Type 0
AreHomed j [] = Unit {0}
AreHomed j (part ∷ parts) = AllByRecursion (λ (file : List ℕ × List ℕ). shard_of file.0 ≡ j) part.opening × AreHomed (j + 1) parts

openings_out : {F : Type 0} (n j : ℕ) (parts : List (Left F)) → n < j → AreHomed j parts → opening_of n (openings parts) ≡ []
openings_out n j [] h a = refl
openings_out n j (part ∷ parts) h a =
    filter-append (λ (file : List ℕ × List ℕ). shard_of file.0 == n) part.opening (openings parts)
    ∙ (ap (λ (z : Opening). z ++ opening_of n (openings parts)) (others_out n j part.opening (λ e. omega (arith, e, h)) a.0) ∙ openings_out n (j + 1) parts (omega arith) a.1)

pub openings_at : {F : Type 0} (j : ℕ) (parts : List (Left F)) (i : ℕ) (part : Left F) (n : ℕ) → n ≡ j + i → AreHomed j parts → slice_get parts i ≡ Some part → opening_of n (openings parts) ≡ part.opening
openings_at j [] i part n e a at = absurd (cc at)
openings_at j (p ∷ parts) zero part n e a at =
    let same : p ≡ part = cc at in let here : n ≡ j = omega arith in
    let home : AllByRecursion (λ (file : List ℕ × List ℕ). shard_of file.0 ≡ n) p.opening = subst (λ (m : ℕ). AllByRecursion (λ (file : List ℕ × List ℕ). shard_of file.0 ≡ m) p.opening) (sym here) a.0 in
    filter-append (λ (file : List ℕ × List ℕ). shard_of file.0 == n) p.opening (openings parts)
    ∙ ((λ i. own_in n p.opening home i ++ openings_out n (j + 1) parts (omega arith) a.1 i) ∙ (append-nil p.opening ∙ ap (λ (z : Left _). z.opening) same))
openings_at j (p ∷ parts) (suc i) part n e a at =
    filter-append (λ (file : List ℕ × List ℕ). shard_of file.0 == n) p.opening (openings parts)
    ∙ (ap (λ (z : Opening). z ++ opening_of n (openings parts)) (others_out n j p.opening (λ d. omega (arith, d, e)) a.0) ∙ openings_at (j + 1) parts i part n (omega arith) a.1 at)

stamps-own : (own : List Own) → stamps (map (λ (one : Own). one.entry) own) ≡ map stamp_of own
stamps-own [] = refl
stamps-own (o ∷ own) = ap (λ (z : List ℕ). o.entry.stamp ∷ z) (stamps-own own)

-- some pass has that number, or none
numbered : {F : Type 0} (passes : List (PassView F)) (n : ℕ) → ((p : PassView F) × Has passes p × (p.number ≡ n)) ⊎ ((p : PassView F) → Has passes p → p.number ≡ n → ⊥)
numbered [] n = inr (λ p h e. h)
numbered (x ∷ passes) n = go (x.number == n) refl (numbered passes n) where
  same : x.number == n ≡ true → x.number ≡ n
  same e = grind (arith, nat_tests)

  other : x.number == n ≡ false → x.number ≡ n → ⊥
  other e f = grind (arith, nat_tests)

  go : (b : Bool) → x.number == n ≡ b → ((p : PassView _) × Has passes p × (p.number ≡ n)) ⊎ ((p : PassView _) → Has passes p → p.number ≡ n → ⊥)
      → ((p : PassView _) × Has (x ∷ passes) p × (p.number ≡ n)) ⊎ ((p : PassView _) → Has (x ∷ passes) p → p.number ≡ n → ⊥)
  go true e rest = inl (x, inl refl, same e)
  go false e rest = elim rest as (λ _. ((p : PassView _) × Has (x ∷ passes) p × (p.number ≡ n)) ⊎ ((p : PassView _) → Has (x ∷ passes) p → p.number ≡ n → ⊥)) [
    | inl some ↦ inl (some.0, inr some.1, some.2)
    | inr none ↦ inr (λ p h f. elim h as (λ _. ⊥) [ inl a ↦ other e (ap number_of a ∙ f) | inr k ↦ none p k f ])
  ]

rising_at : {F : Type 0} (parts : List (Left F)) (i : ℕ) (part : Left F) → AreRising parts → slice_get parts i ≡ Some part → RisesFrom 0 (stamps (steps_of part.made))
rising_at [] i part r e = absurd (cc e)
rising_at (p ∷ parts) zero part r e = let same : p ≡ part = cc e in subst (λ (z : Left _). RisesFrom 0 (stamps (steps_of z.made))) same r.0
rising_at (p ∷ parts) (suc i) part r e = rising_at parts i part r.1 e

named_one : (j : ℕ) (made : List Made) (k : ℕ) (one : Made) → AreNamed (Some j) made → slice_get made k ≡ Some one → shard_of_entry one.step ≡ j
named_one j [] k one n e = absurd (cc e)
named_one j (x ∷ made) zero one n e = let same : x ≡ one = cc e in ap (λ (z : Made). shard_of_entry z.step) (sym same) ∙ n.0
named_one j (x ∷ made) (suc k) one n e = named_one j made k one n.1 e

named_in : {F : Type 0} (j : ℕ) (parts : List (Left F)) (i : ℕ) (part : Left F) (k : ℕ) (one : Made) → ArePlaced j parts → slice_get parts i ≡ Some part → slice_get part.made k ≡ Some one → shard_of_entry one.step ≡ j + i
named_in j [] i part k one a e f = absurd (cc e)
named_in j (p ∷ parts) zero part k one a e f =
    let same : p ≡ part = cc e in let z : j ≡ j + 0 = omega arith in
    named_one j p.made k one a.0 (ap (λ (q : Left _). slice_get q.made k) same ∙ f) ∙ z
named_in j (p ∷ parts) (suc i) part k one a e f = let n : (j + 1) + i ≡ j + suc i = omega arith in named_in (j + 1) parts i part k one a.1 e f ∙ n

pub homed_files : (only : Option ℕ) (j : ℕ) (opening : Opening) → only ≡ Some j → AllByRecursion (λ (file : List ℕ × List ℕ). MayKeep only file.0) opening → AllByRecursion (λ (file : List ℕ × List ℕ). shard_of file.0 ≡ j) opening
homed_files only j [] e a = tt
homed_files only j (file ∷ opening) e a = let P : Option ℕ → Type 0 = λ o. MayKeep o file.0 in ((subst P e a.0).1, homed_files only j opening e a.1)

part_legal : {F : Type 0} (files : F → Option Files) (faults : F → ℕ) (h : Book (InMemory F)) (part : Left F) (folder : F) → IsTakenApart files faults h part folder → Legal part.opening h.begin.opened h.begin.first (untimed part.made)
part_legal files faults h part folder t =
    let P : Begin × List Made → Type 0 = λ z. LegalFrom z.0 (untimed z.1) in
    let life = life_is files faults h part folder t in
    let both : (h.begin, h.made) ≡ (new_life part.opening h.begin.opened h.begin.first, part.made) = λ i. (life i, (sym t.left_is i).made) in
    subst P both (t.lawful.alone t.held.unticked)

module _ {F : Type 0} where
  homed_all : (files : F → Option Files) (faults : F → ℕ) (opened oldest : ℕ) (limits : Limits) (j : ℕ) (books : List (Book (InMemory F))) (parts : List (Left F)) (folders : List F) → AreTaken files faults books parts folders → AreBases opened oldest limits j (map as_opened books) → AreHomed j parts
  homed_all files faults opened oldest limits j [] [] [] a b = tt
  homed_all files faults opened oldest limits j [] [] (f ∷ folders) a b = absurd a
  homed_all files faults opened oldest limits j [] (p ∷ parts) [] a b = absurd a
  homed_all files faults opened oldest limits j [] (p ∷ parts) (f ∷ folders) a b = absurd a
  homed_all files faults opened oldest limits j (h ∷ books) [] [] a b = absurd a
  homed_all files faults opened oldest limits j (h ∷ books) [] (f ∷ folders) a b = absurd a
  homed_all files faults opened oldest limits j (h ∷ books) (p ∷ parts) [] a b = absurd a
  homed_all files faults opened oldest limits j (h ∷ books) (p ∷ parts) (f ∷ folders) a b =
      let life = life_is files faults h p f a.0 in
      let kept : AllByRecursion (λ (file : List ℕ × List ℕ). MayKeep h.only file.0) p.opening =
      opening_kept h.only h.begin.first p.opening (subst (λ (z : Begin). AllByRecursion (λ (file : List ℕ × File). MayKeep h.only file.0) z.files) life b.0.names) in
      (homed_files h.only j p.opening b.0.only kept, homed_all files faults opened oldest limits (j + 1) books parts folders a.1 b.1)

  base_opened : (opened oldest : ℕ) (limits : Limits) (j : ℕ) (books : List (Book F)) (i : ℕ) (h : Book F) → AreBases opened oldest limits j (map as_opened books) → slice_get books i ≡ Some h → h.begin.opened ≡ opened
  base_opened opened oldest limits j [] i h a e = absurd (cc e)
  base_opened opened oldest limits j (b ∷ books) zero h a e = let same : b ≡ h = cc e in ap (λ (z : Book F). z.begin.opened) (sym same) ∙ a.0.opened_is
  base_opened opened oldest limits j (b ∷ books) (suc i) h a e = base_opened opened oldest limits (j + 1) books i h a.1 e

  base_first : (opened oldest : ℕ) (limits : Limits) (j : ℕ) (books : List (Book F)) (i : ℕ) (h : Book F) → AreBases opened oldest limits j (map as_opened books) → slice_get books i ≡ Some h → h.begin.first ≡ oldest
  base_first opened oldest limits j [] i h a e = absurd (cc e)
  base_first opened oldest limits j (b ∷ books) zero h a e = let same : b ≡ h = cc e in ap (λ (z : Book F). z.begin.first) (sym same) ∙ a.0.first_is
  base_first opened oldest limits j (b ∷ books) (suc i) h a e = base_first opened oldest limits (j + 1) books i h a.1 e

  parts_are : (merge : List Made) (j : ℕ) (parts : List (Left F)) → ((i : ℕ) (part : Left F) → slice_get parts i ≡ Some part → part.made ≡ filter (λ one. shard_of_entry one.step == j + i) merge) → AreParts merge j parts
  parts_are merge j [] f = tt
  parts_are merge j (part ∷ parts) f =
      let z : j + 0 ≡ j = omega arith in (
        f 0 part refl ∙ ap (λ (n : ℕ). filter (λ (one : Made). shard_of_entry one.step == n) merge) z,
        parts_are merge (j + 1) parts (λ i p e. let n : j + suc i ≡ (j + 1) + i = omega arith in f (suc i) p e ∙ ap (λ (m : ℕ). filter (λ (one : Made). shard_of_entry one.step == m) merge) n),
      )

  seen_are : {S : Type 0} (seats : List (Place S)) (parts : List (Left F)) → length seats ≡ length parts → ((i : ℕ) (s : Place S) (part : Left F) → slice_get seats i ≡ Some s → slice_get parts i ≡ Some part → IsPrefix s.seen part.made) → AreSeen seats parts
  seen_are [] [] e f = tt
  seen_are [] (p ∷ parts) e f = absurd (omega arith)
  seen_are (s ∷ seats) [] e f = absurd (omega arith)
  seen_are (s ∷ seats) (p ∷ parts) e f = (f 0 s p refl refl, seen_are seats parts (omega arith) (λ i t q a b. f (suc i) t q a b))

-- an entry as its caller knows it, and whether it may be told
abbrev Known : Type 0
Known = Entry × Bool

abbrev known : Made → Known
known one = (one.step, one.told)

abbrev known_own : Own → Known
known_own own = (own.entry, own.told)

known_steps : (made : List Made) → map (λ (z : Known). z.0) (map known made) ≡ steps_of made
known_steps [] = refl
known_steps (one ∷ made) = ap (λ (z : List Entry). one.step ∷ z) (known_steps made)

known_entries : (own : List Own) → map (λ (z : Known). z.0) (map known_own own) ≡ map (λ one. one.entry) own
known_entries [] = refl
known_entries (o ∷ own) = ap (λ (z : List Entry). o.entry ∷ z) (known_entries own)

abbrev told_known : List Known → List Entry
told_known [] = []
told_known (z ∷ zs) = told_by z.1 z.0 ++ told_known zs

made_told : (made : List Made) → told_known (map known made) ≡ told_of made
made_told [] = refl
made_told (one ∷ made) = ap (λ (z : List Entry). told_by one.told one.step ++ z) (made_told made)

own_told : (own : List Own) → told_known (map known_own own) ≡ told_own own
own_told [] = refl
own_told (o ∷ own) = ap (λ (z : List Entry). told_by o.told o.entry ++ z) (own_told own)

module _ {S F : Type 0} (made : ℕ) (passes : List (PassView S)) (seats : List (Place S)) (books : List (Book S)) (parts : List (Left F)) (sorted : List Spot)
    (whole : IsWhole made passes) (joined : IsJoinOf passes seats) (ends : AreEnds seats books) (have : HaveMade books parts) (long : length books ≡ 16) (placed : ArePlaced 0 parts) (rising : AreRising parts)
    (is_sorted : AreSorted parts sorted) where
  abbrev merge : List Made
  merge = merge_of parts sorted

  parts_long : length parts ≡ 16
  parts_long = made_long books parts have ∙ long

  pub ordered : AreOrdered (λ (one : Made). one.step) merge
  ordered = sorted_ordered parts sorted placed is_sorted

  has_one : (i : ℕ) (part : Left F) (k : ℕ) (one : Made) → slice_get parts i ≡ Some part → slice_get part.made k ≡ Some one → Has merge one
  has_one = entry_has parts sorted placed is_sorted

  where_is : (one : Made) → Has merge one → (i : ℕ) × (k : ℕ) × (part : Left F) × (slice_get parts i ≡ Some part) × (slice_get part.made k ≡ Some one) × (shard_of_entry one.step ≡ i)
  where_is = has_entry parts sorted placed is_sorted

  -- a shard's part of the merge
  pub part_is : (i : ℕ) (part : Left F) → slice_get parts i ≡ Some part → part.made ≡ filter (λ one. shard_of_entry one.step == i) merge
  part_is i part at =
      let mine : AreOrdered (λ (one : Made). one.step) part.made = rises_ordered 0 (steps_of part.made) (rising_at parts i part rising at) in
      one_order (λ (one : Made). one.step) part.made (filter (λ one. shard_of_entry one.step == i) merge) mine (ordered_filter (λ (one : Made). one.step) (λ one. shard_of_entry one.step == i) merge ordered)
      (λ one h. let k = has_place part.made one h in
      let there = has_one i part k.0 one at k.1 in let home = named_in 0 parts i part k.0 one placed at k.1 in
      let test : shard_of_entry one.step == i ≡ true = grind (arith, nat_tests) in
      filter_has (λ (z : Made). shard_of_entry z.step == i) merge one there test)
      (λ one h. let f = has_filter (λ (z : Made). shard_of_entry z.step == i) merge one h in let w = where_is one f.0 in let t = f.1 in let home = w.5 in
      let same : w.0 ≡ i = grind (arith, nat_tests) in
      let part_same : w.2 ≡ part = cc (w.3, ap (slice_get parts) same, at) in
      place_has part.made w.1 one (ap (λ (p : Left F). slice_get p.made w.1) (sym part_same) ∙ w.4))

  made_of : (i : ℕ) (part : Left F) → slice_get parts i ≡ Some part → (h : Book S) × (slice_get books i ≡ Some h) × (part.made ≡ h.made)
  made_of i part at = made_at books parts i part have at

  whose : (one : Made) → Has merge one → (q : PassView S) × (o : Own) × Has passes q × (one.step.pass ≡ q.number) × Has (own_of q) o × (known_own o ≡ known one)
  whose one h =
      let w = where_is one h in let t = made_of w.0 w.2 w.3 in
      let there : slice_get t.0.made w.1 ≡ Some one = ap (λ (z : List Made). slice_get z w.1) (sym t.2) ∙ w.4 in
      let own = owner_of passes seats books w.0 t.0 w.1 one joined ends t.1 there in
      (own.0, record { shard = w.0; place = w.1; entry = one.step; told = one.told }, own.1, own.2, own.3, refl)

  once : (n : ℕ) → times n (map number_of passes) ≤ 1
  once n = let is = whole.numbers n in grind (arith, nat_tests)

  there_in_merge : (p : PassView S) (o : Own) → Has passes p → Has (own_of p) o → (one : Made) × Has merge one × (one.step.pass ≡ p.number) × (known_own o ≡ known one)
  there_in_merge p o mine h =
      let at = in_from 0 p.seats o (in_sorted (owned_from 0 p.seats) o h) in
      let is = all_at IsPass passes p joined.passes_are mine in
      let seat = seat_at p.number p.weight p.opened p.first p.limits 0 p.seats at.shard at.seat is.seats at.there in
      let own = has_own p.number (slice_get at.seat.seen at.place) (all_at (λ place. HasOwn p.number (slice_get at.seat.seen place)) at.seat.own at.place seat.owns at.own) in
      let same : own.0 ≡ at.one = cc (own.1, at.seen) in
      let inside = get_inside p.seats at.shard at.seat at.there in let wide = is.wide in let n = parts_long in
      let part = got parts at.shard (omega arith) in
      let t = made_of at.shard part.0 part.1 in
      let begins = seen_begins passes seats books p at.shard at.seat t.0 joined ends mine at.there t.1 in
      let there : slice_get part.0.made at.place ≡ Some at.one = ap (λ (z : List Made). slice_get z at.place) t.2 ∙ prefix_get at.seat.seen t.0.made at.place at.one begins at.seen in
      (at.one, has_one at.shard part.0 at.place at.one part.1 there, ap (λ (z : Made). z.step.pass) (sym same) ∙ own.2, ap known_own at.is)

  -- the entries of a pass's number are its own
  own_known : (p : PassView S) → Has passes p → map known (filter (λ (one : Made). one.step.pass == p.number) merge) ≡ map known_own (own_of p)
  own_known p mine =
      let test : Made → Bool = λ one. one.step.pass == p.number in
      let is = all_at IsPass passes p joined.passes_are mine in
      let left : AreOrdered (λ (z : Known). z.0) (map known (filter test merge)) = subst IsInOrder (sym (known_steps (filter test merge))) (ordered_filter (λ (one : Made). one.step) test merge ordered) in
      let right : AreOrdered (λ (z : Known). z.0) (map known_own (own_of p)) = subst IsInOrder (sym (known_entries (own_of p)))
      (rises_ordered 0 (map (λ (one : Own). one.entry) (own_of p)) (subst (RisesFrom 0) (sym (stamps-own (own_of p))) is.rises)) in
      one_order (λ (z : Known). z.0) (map known (filter test merge)) (map known_own (own_of p)) left right
      (λ z h. let m = map_has known (filter test merge) z h in let f = has_filter test merge m.0 m.1 in let w = whose m.0 f.0 in
      let t = f.1 in let q = w.3 in
      let number : w.0.number ≡ p.number = grind (arith, nat_tests) in
      let same : w.0 ≡ p = same_number passes w.0 p once w.2 mine number in
      let there : Has (own_of p) w.1 = subst (λ (y : PassView S). Has (own_of y) w.1) same w.4 in
      subst (λ (y : Known). Has (map known_own (own_of p)) y) (w.5 ∙ m.2) (has_map known_own (own_of p) w.1 there))
      (λ z h. let m = map_has known_own (own_of p) z h in let w = there_in_merge p m.0 mine m.1 in
      let pass = w.2 in
      let yes : test w.0 ≡ true = grind (arith, nat_tests) in
      subst (λ (y : Known). Has (map known (filter test merge)) y) (sym w.3 ∙ m.2) (has_map known (filter test merge) w.0 (filter_has test merge w.0 w.1 yes)))

  own_is : (p : PassView S) → Has passes p → filter (λ (entry : Entry). entry.pass == p.number) (steps_of merge) ≡ map (λ one. one.entry) (own_of p)
  own_is p mine =
      filter_map_is (λ (z : Made). z.step) (λ (entry : Entry). entry.pass == p.number) merge
      ∙ (sym (known_steps (filter (λ (one : Made). one.step.pass == p.number) merge)) ∙ (ap (map (λ (z : Known). z.0)) (own_known p mine) ∙ known_entries (own_of p)))

  told_is : (p : PassView S) → Has passes p → told_of (filter (λ (one : Made). one.step.pass == p.number) merge) ≡ told_own (own_of p)
  told_is p mine = sym (made_told (filter (λ (one : Made). one.step.pass == p.number) merge)) ∙ (ap told_known (own_known p mine) ∙ own_told (own_of p))

  pub pass_rises : (n : ℕ) → RisesFrom 0 (stamps (filter (λ (entry : Entry). entry.pass == n) (steps_of merge)))
  pass_rises n = elim (numbered passes n) as (λ _. RisesFrom 0 (stamps (filter (λ (entry : Entry). entry.pass == n) (steps_of merge)))) [
    | inl some ↦
        let is = all_at IsPass passes some.0 joined.passes_are some.1 in
        let P : ℕ → Type 0 = λ m. RisesFrom 0 (stamps (filter (λ (entry : Entry). entry.pass == m) (steps_of merge))) in
        let Q : List Entry → Type 0 = λ es. RisesFrom 0 (stamps es) in
        subst P some.2 (subst Q (sym (own_is some.0 some.1)) (subst (RisesFrom 0) (sym (stamps-own (own_of some.0))) is.rises))
    | inr none ↦
        let Q : List Entry → Type 0 = λ es. RisesFrom 0 (stamps es) in
        subst Q (sym (filter_none (λ (entry : Entry). entry.pass == n) (steps_of merge) (λ e h t.
        let m = map_has (λ (z : Made). z.step) merge e h in let w = whose m.0 m.1 in
        let pass : m.0.step.pass ≡ e.pass = ap (λ (z : Entry). z.pass) m.2 in let q = w.3 in
        let number : w.0.number ≡ n = grind (arith, nat_tests) in none w.0 w.2 number))) tt
  ]

  pub all_parts : AreParts merge 0 parts
  all_parts = parts_are merge 0 parts (λ i part at. let z : i ≡ 0 + i = omega arith in part_is i part at ∙ ap (λ (n : ℕ). filter (λ (one : Made). shard_of_entry one.step == n) merge) z)

  pub all_seen : AllByRecursion (λ pass. AreSeen pass.seats parts) passes
  all_seen = all_of (λ (p : PassView S). AreSeen p.seats parts) passes (λ p mine.
      let is = all_at IsPass passes p joined.passes_are mine in
      seen_are p.seats parts (is.wide ∙ sym parts_long) (λ i s part at there.
      let t = made_of i part there in
      subst (λ (m : List Made). IsPrefix s.seen m) (sym t.2) (seen_begins passes seats books p i s t.0 joined ends mine at t.1)))

  pub all_own : AllByRecursion (λ pass. filter (λ (entry : Entry). entry.pass == pass.number) (steps_of merge) ≡ map (λ one. one.entry) (own_of pass)) passes
  all_own = all_of (λ (p : PassView S). filter (λ (entry : Entry). entry.pass == p.number) (steps_of merge) ≡ map (λ one. one.entry) (own_of p)) passes own_is

  pub all_told : AllByRecursion (λ pass. told_of (filter (λ one. one.step.pass == pass.number) merge) ≡ told_own (own_of pass)) passes
  all_told = all_of (λ (p : PassView S). told_of (filter (λ (one : Made). one.step.pass == p.number) merge) ≡ told_own (own_of p)) passes told_is

  number_below : (n : ℕ) → 1 ≤ times n (map number_of passes) → n < made
  number_below n some = let is = whole.numbers n in grind (arith, nat_tests)

  -- each entry is of a pass that was made
  pub all_made : AllByRecursion (λ (one : Made). one.step.pass < made) merge
  all_made = all_of (λ (one : Made). one.step.pass < made) merge (λ one h.
      let w = whose one h in let same = w.3 in
      let below = number_below w.0.number (has_times (map number_of passes) w.0.number (has_map number_of passes w.0 w.2)) in
      omega (arith, same, below))

-- what the shards leave is legal, by its openings
module _ {F : Type 0} (files : F → Option Files) (faults : F → ℕ) (opened oldest : ℕ) (limits : Limits) (books : List (Book (InMemory F))) (parts : List (Left F)) (folders : List F) (merge : List Made)
    (bases : AreBases opened oldest limits 0 (map as_opened books)) (taken : AreTaken files faults books parts folders) (long : length books ≡ 16) (part_is : (i : ℕ) (part : Left F) → slice_get parts i ≡ Some part → part.made ≡ filter (λ one. shard_of_entry one.step == i) merge) where
  taken_long : length parts ≡ 16
  taken_long = made_long books parts (taken_made files faults books parts folders taken) ∙ long

  pub shard_legal : (shard : ℕ) → shard < 16 → Legal (opening_of shard (openings parts)) opened oldest (part_of shard (steps_of merge))
  shard_legal shard h =
      let n = taken_long in
      let part = got parts shard (omega arith) in
      let t = taken_at files faults books parts folders shard part.0 taken part.1 in
      let opening : opening_of shard (openings parts) ≡ part.0.opening = openings_at 0 parts shard part.0 shard (omega arith) (homed_all files faults opened oldest limits 0 books parts folders taken bases) part.1 in
      let history : part_of shard (steps_of merge) ≡ untimed part.0.made =
      ap (map Step) (filter_map_is (λ (z : Made). z.step) (λ (e : Entry). shard_of_entry e == shard) merge) ∙ ap untimed (sym (part_is shard part.0 part.1)) in
      let when : t.0.begin.opened ≡ opened = base_opened opened oldest limits 0 books shard t.0 bases t.2 in
      let begins : t.0.begin.first ≡ oldest = base_first opened oldest limits 0 books shard t.0 bases t.2 in
      let P : Opening × (ℕ × (ℕ × List Item)) → Type 0 = λ z. Legal z.0 z.1.0 z.1.1.0 z.1.1.1 in
      let all : (part.0.opening, (t.0.begin.opened, (t.0.begin.first, untimed part.0.made))) ≡ (opening_of shard (openings parts), (opened, (oldest, part_of shard (steps_of merge)))) =
      λ i. (sym opening i, (when i, (begins i, sym history i))) in
      subst P all (part_legal files faults t.0 part.0 t.1 t.3)

pub ends_all : {F : Type 0} (files : F → Option Files) (faults : F → ℕ) (host : HostView (InMemory F)) (passes : List (PassView (InMemory F))) (seats : List (Place (InMemory F))) (books : List (Book (InMemory F))) (parts : List (Left F)) (folders : List F) (sorted : List Spot)
    → AreBases host.opened host.first host.limits 0 host.bases → length books ≡ 16 → AllByRecursion (IsPassOf host) passes → IsWhole host.made passes → IsJoinOf passes seats → AreEnds seats books → AreTaken files faults books parts folders
    → IsPermutation (all_spots 0 parts) sorted → IsNonDecreasingBy order_of sorted
    → AreFound parts sorted × Ends files faults host passes (record { opened = host.opened; first = host.first; parts = parts; merge = merge_of parts sorted }) folders
ends_all files faults host passes seats books parts folders sorted bases long of whole joined ends taken moved up =
    let same : map as_opened books ≡ host.bases = ended_bases seats books host.bases ends (based_on host passes seats of joined.based) in
    let mine : AreBases host.opened host.first host.limits 0 (map as_opened books) = subst (λ (bs : List (Book _)). AreBases host.opened host.first host.limits 0 bs) (sym same) bases in
    let have = taken_made files faults books parts folders taken in
    let stand = parts_placed files faults host.opened host.first host.limits 0 books parts folders taken mine in
    let many : length parts ≡ 16 = made_long books parts have ∙ long in
    let is = are_sorted parts sorted (omega arith) stand.1 moved up in (
      sorted_found parts sorted stand.0 is,
      record {
        opened_is = refl;
        first_is = refl;
        legal = record {
          ordered = ordered host.made passes seats books parts sorted whole joined ends have long stand.0 stand.1 is;
          shards = shard_legal files faults host.opened host.first host.limits books parts folders (merge_of parts sorted) mine taken long (part_is host.made passes seats books parts sorted whole joined ends have long stand.0 stand.1 is);
          passes = pass_rises host.made passes seats books parts sorted whole joined ends have long stand.0 stand.1 is;
        };
        parts = all_parts host.made passes seats books parts sorted whole joined ends have long stand.0 stand.1 is;
        ended = subst (λ (bs : List (Book _)). AreEnded files faults host.opened host.first bs parts folders) same (ended_all files faults host.opened host.first host.limits 0 books parts folders taken mine);
        seen = all_seen host.made passes seats books parts sorted whole joined ends have long stand.0 stand.1 is;
        passes_are = all_made host.made passes seats books parts sorted whole joined ends have long stand.0 stand.1 is;
        own = all_own host.made passes seats books parts sorted whole joined ends have long stand.0 stand.1 is;
      },
    )

module _ {F : Type 0} where
  pub can_close : (seats : List (Place F)) (w : ℕ) → AreFree seats → AllByRecursion (λ seat. seat.weight ≡ w) seats → w ≡ 2 ^ 62 → CanClose seats
  can_close [] w f h e = tt
  can_close (s ∷ seats) w f h e = ((f.0, h.0 ∙ e), can_close seats w f.1 h.1 e)

  ends_long : (seats : List (Place F)) (books : List (Book F)) → AreEnds seats books → length books ≡ length seats
  ends_long [] [] a = refl
  ends_long [] (h ∷ books) a = absurd a
  ends_long (s ∷ seats) [] a = absurd a
  ends_long (s ∷ seats) (h ∷ books) a = ap suc (ends_long seats books a.1)

  capacity_sum : (opened oldest calls j : ℕ) (books : List (Book F)) → AreBases opened oldest (kept_limits calls) j (map as_opened books) → total capacity_of books ≡ length books * calls
  capacity_sum opened oldest calls j [] a = sym (zero-mul calls)
  capacity_sum opened oldest calls j (h ∷ books) a =
      let rest = capacity_sum opened oldest calls (j + 1) books a.1 in let here : capacity_of h ≡ calls = ap (λ (l : Limits). unwrap_or l.calls 0) a.0.limits_is in let more = suc-mul (length books) calls in
      omega (arith, rest, here, more)

  capacity_fits : (opened oldest calls j : ℕ) (books : List (Book F)) → calls < 4294967296 → AreBases opened oldest (kept_limits calls) j (map as_opened books) → AllByRecursion (λ book. IsSomeAnd book.limits.calls (λ n. n < 4294967296)) books
  capacity_fits opened oldest calls j [] h a = tt
  capacity_fits opened oldest calls j (b ∷ books) h a =
      (subst (λ (l : Limits). IsSomeAnd l.calls (λ n. n < 4294967296)) (sym a.0.limits_is) h, capacity_fits opened oldest calls (j + 1) books h a.1)

  -- the shards that lay under the locks, by what each pass is based on
  module _ (host : HostView F) (passes : List (PassView F)) (seats : List (Place F)) (shards old books : List (Book F)) (is : IsHost host) (of : AllByRecursion (IsPassOf host) passes) (joined : IsJoinOf passes seats)
      (locks : map lock_of seats ≡ host.locks) (ends : AreEnds seats books) (empty : old ≡ []) (gave : shards ≡ old ++ books) where
    shards_are : shards ≡ books
    shards_are = gave ∙ ap (λ (z : List (Book F)). z ++ books) empty

    pub shards_ends : AreEnds seats shards
    shards_ends = subst (λ (z : List (Book F)). AreEnds seats z) (sym shards_are) ends

    pub shards_long : length shards ≡ 16
    shards_long = ends_long seats shards shards_ends ∙ (sym (length-map seats lock_of) ∙ (ap length locks ∙ is.wide))

    pub shards_bases : AreBases host.opened host.first host.limits 0 (map as_opened shards)
    shards_bases = subst (λ (bs : List (Book F)). AreBases host.opened host.first host.limits 0 bs) (sym (ended_bases seats shards host.bases shards_ends (based_on host passes seats of joined.based))) is.bases

    module _ (calls : ℕ) (limits : host.limits ≡ kept_limits calls) where
      shards_limits : AreBases host.opened host.first (kept_limits calls) 0 (map as_opened shards)
      shards_limits = subst (λ (l : Limits). AreBases host.opened host.first l 0 (map as_opened shards)) limits shards_bases

      pub shards_sum : total capacity_of shards ≡ 16 * calls
      shards_sum = capacity_sum host.opened host.first calls 0 shards shards_limits ∙ ap (λ (n : ℕ). n * calls) shards_long

      pub shards_fit : AllByRecursion (λ book. IsSomeAnd book.limits.calls (λ n. n < 4294967296)) shards
      shards_fit =
          let small : calls ≤ 32768 = subst (λ (l : Limits). IfSome l.calls (λ n. n ≤ 32768)) limits is.small in
          capacity_fits host.opened host.first calls 0 shards (omega (arith, small)) shards_limits
