-- What is told, joined to the files of a folder.
use Rattle.std.proofs.Common.{◌≡◌, ◌<◌, ◌≤◌, ◌+◌, ◌-◌, ◌^◌, ℕ, zero, suc, Bool, true, false, if◌then◌else◌, List, [], ◌∷◌, ◌++◌, length, map, filter, take, drop, get_or, sum_by, is_none, nat_lt, Option, None, Some, option_map, unwrap_or, refl, sym, ap, subst, ◌∙◌, arith, slice_get}
use Rattle.std.proofs.lemmas.List.{append-nil, append_assoc, length-append, length-map, length-take-le, map-append, take_more}
use Rattle.std.proofs.lemmas.List.Elements.{filter-append}
use Rattle.std.proofs.lemmas.List.Sums.{sum_by-cons}
use Rattle.std.proofs.lemmas.Slice.Eq.{bytes_eq-Decides}
use Rattle.std.specs.Str.{bytes_eq}
use Rattle.std.specs.List.{AllByRecursion}
use Rattle.kept_locks.specs.Locks.{Standing, unlocked}
use Rattle.wopi_model.specs.declared.locks.Spent.{Spent}
use Rattle.wopi_model.specs.Begin.{at_name}
use Rattle.wopi_model.specs.File.{File, opened_with, never_met}
use Rattle.wopi_model.specs.Lives.{bytes_of, ids_of, live_bytes, live_ids}
use Rattle.wopi_model.specs.Moment.{IsMoment}
use Rattle.wopi_model.specs.declared.locks.Lock.{Lock}
use Rattle.wopi_model.specs.Settle.{expired, is_over, standing, still_spent, with_spent}
use Rattle.wopi_model.specs.Shard.{Opening, opening_file}
use Rattle.host_core.specs.declared.file.KeptFile.{KeptFile}
use Rattle.host_core.specs.declared.life.Life.{Life}
use Rattle.host_core.specs.declared.life.LifeFile.{LifeFile}
use Rattle.host_core.specs.declared.opening.Stock.{Stock}
use Rattle.host_core.specs.Facts.{AreDigested, IsDigested, Dates, date_in, dates_of}
use Rattle.host_core.specs.Files.{file_of, files_of, is_named, torn_in}
use Rattle.host_core.specs.Going.{AreLow, IsAsOf, IsGoing, NoneTorn, ids_told, is_unmet, kept_gone, kept_on, locks_found, locks_in, locks_on, uses_of, version_found}
use Rattle.host_core.specs.Life.{BeganBefore, IsGoodLife, MayGoOn, file_on, found_as, found_on, goes_on, gone_on, is_gone, life_names, listed_on, told_at, version_with, is_as_told}
use Rattle.host_core.specs.Names.{AreOnce, names_in, place_in}
use Rattle.host_core.specs.Notes.{opening_listed}
use Rattle.host_core.specs.Numbers.{IsNumbered, named}
use Rattle.host_core.specs.Opening.{opened_contents}
use Rattle.host_core.specs.Places.{first_of}
use Rattle.host_core.specs.Stock.{IsStock}
use Rattle.host_core.specs.Whole.{Whole, joined, standing_at, whole}
use Rattle.host_core.proofs.Goods.{all_at, all_join, all_map, all_take_more, all_through, told_none, told_some, place_either, place_neither}
use Rattle.host_core.proofs.Counts.{apart, once_push}
use Rattle.host_core.proofs.Numbering.{named_push}
use Rattle.host_core.proofs.Regains.{still_live}

-- ---- ids that are refused still

pub refused_push : (now : ℕ) (ended : Option Spent) (xs : List Spent) (x : Spent) → still_spent (with_spent ended (xs ++ x ∷ [])) now ≡ still_spent (with_spent ended xs) now ++ still_spent (x ∷ []) now
refused_push now None xs x = filter-append (λ (one : Spent). nat_lt now one.until) xs (x ∷ [])
refused_push now (Some first) xs x = filter-append (λ (one : Spent). nat_lt now one.until) (first ∷ xs) (x ∷ [])

-- ---- lists of files and of their locks

-- the files that were read, and those that weren't
pub listed_join : (fs gs : List KeptFile) (ts us : List Standing) → length ts ≡ length fs → listed_on (joined (fs ++ gs) (ts ++ us)) ≡ listed_on (joined fs ts) ++ listed_on (joined gs us)
listed_join [] gs [] us e = refl
listed_join [] gs (t ∷ ts) us e = absurd (omega (arith, e))
listed_join (f ∷ fs) gs [] us e = absurd (omega (arith, e))
listed_join (f ∷ fs) gs (t ∷ ts) us e = ap (λ (rest : List (List ℕ × File)). (f.name, file_of (whole f t)) ∷ rest) (listed_join fs gs ts us (omega (arith, e)))

-- each file that was read has its contents
pub record IsRead (first : ℕ) (kept : KeptFile) : Type 0 where
  pub whole_is : kept.contents ≡ Some (unwrap_or kept.contents [])
  pub version_is : kept.version ≡ first
  pub untorn : kept.torn ≡ false

abbrev Reads : ℕ → List KeptFile → Type 0
Reads first files = (name : List ℕ) → files_of first (joined files []) name ≡ opening_file first (opening_listed files) name

first_other : (names : List (List ℕ)) (a b : List ℕ) → place_in names a ≡ None → bytes_eq a b ≡ true → place_in names b ≡ None
first_other names a b e h = subst (λ (n : List ℕ). place_in names n ≡ None) ((bytes_eq-Decides a b).0 h) e

unmet_kept : (first : ℕ) (files : List KeptFile) (name : List ℕ) → place_in (named files) name ≡ None → files_of first (joined files []) name ≡ never_met first
unmet_kept first [] name e = refl
unmet_kept first (k ∷ files) name e = go (bytes_eq k.name name) (place_in (named files) name) (unmet_kept first files name) e where
  go : (b : Bool) (p : Option ℕ) → (p ≡ None → files_of first (joined files []) name ≡ never_met first) → (if b then Some 0 else option_map suc p) ≡ None
      → unwrap_or (option_map file_of (if b then Some (whole k unlocked) else first_of (is_named name) (joined files []))) (never_met first) ≡ never_met first
  go true p more e = cc
  go false None more e = more refl
  go false (Some n) more e = cc

unmet_torn : (files : List KeptFile) (name : List ℕ) → place_in (named files) name ≡ None → torn_in (joined files []) name ≡ false
unmet_torn [] name e = refl
unmet_torn (k ∷ files) name e = go (bytes_eq k.name name) (place_in (named files) name) (unmet_torn files name) e where
  go : (b : Bool) (p : Option ℕ) → (p ≡ None → torn_in (joined files []) name ≡ false) → (if b then Some 0 else option_map suc p) ≡ None
      → unwrap_or (option_map (λ (w : Whole). w.torn) (if b then Some (whole k unlocked) else first_of (is_named name) (joined files []))) false ≡ false
  go true p more e = cc
  go false None more e = more refl
  go false (Some n) more e = cc

unmet_opening : (first : ℕ) (files : List KeptFile) (name : List ℕ) → place_in (named files) name ≡ None → opening_file first (opening_listed files) name ≡ never_met first
unmet_opening first [] name e = refl
unmet_opening first (k ∷ files) name e = go (bytes_eq k.name name) (place_in (named files) name) (unmet_opening first files name) e where
  go : (b : Bool) (p : Option ℕ) → (p ≡ None → opening_file first (opening_listed files) name ≡ never_met first) → (if b then Some 0 else option_map suc p) ≡ None
      → (if b then opened_with first (unwrap_or k.contents []) else opening_file first (opening_listed files) name) ≡ never_met first
  go true p more e = cc
  go false None more e = more refl
  go false (Some n) more e = cc

pub all_read : (first : ℕ) (files : List KeptFile) → AreOnce (named files) → Reads first files → ((name : List ℕ) → torn_in (joined files []) name ≡ false) → AllByRecursion (IsRead first) files
all_read first [] once reads torn = tt
all_read first (k ∷ files) once reads torn = (here, all_read first files once.1 rest rest_torn) where
  self : bytes_eq k.name k.name ≡ true
  self = (bytes_eq-Decides k.name k.name).1 refl

  own : file_of (whole k unlocked) ≡ opened_with first (unwrap_or k.contents [])
  own =
      sym (ap (λ (b : Bool). unwrap_or (option_map file_of (if b then Some (whole k unlocked) else first_of (is_named k.name) (joined files []))) (never_met first)) self)
      ∙ reads k.name
      ∙ ap (λ (b : Bool). if b then opened_with first (unwrap_or k.contents []) else opening_file first (opening_listed files) k.name) self

  untorn : k.torn ≡ false
  untorn = sym (ap (λ (b : Bool). unwrap_or (option_map (λ (w : Whole). w.torn) (if b then Some (whole k unlocked) else first_of (is_named k.name) (joined files []))) false) self) ∙ torn k.name

  here : IsRead first k
  here = record { whole_is = ap (λ (f : File). f.contents) own; version_is = ap (λ (f : File). f.version) own; untorn = untorn }

  rest : Reads first files
  rest name = go (bytes_eq k.name name) refl (reads name) where
    go : (b : Bool) → bytes_eq k.name name ≡ b
        → unwrap_or (option_map file_of (if b then Some (whole k unlocked) else first_of (is_named name) (joined files []))) (never_met first)
        ≡ (if b then opened_with first (unwrap_or k.contents []) else opening_file first (opening_listed files) name)
        → files_of first (joined files []) name ≡ opening_file first (opening_listed files) name
    go true at e = let none = first_other (named files) k.name name once.0 at in unmet_kept first files name none ∙ sym (unmet_opening first files name none)
    go false at e = e

  rest_torn : (name : List ℕ) → torn_in (joined files []) name ≡ false
  rest_torn name = go (bytes_eq k.name name) refl (torn name) where
    go : (b : Bool) → bytes_eq k.name name ≡ b
        → unwrap_or (option_map (λ (w : Whole). w.torn) (if b then Some (whole k unlocked) else first_of (is_named name) (joined files []))) false ≡ false
        → torn_in (joined files []) name ≡ false
    go true at e = unmet_torn files name (first_other (named files) k.name name once.0 at)
    go false at e = e

-- so each goes on as what is told of its name
pub listed_found : (life : Life) (files : List KeptFile) → AllByRecursion (IsRead life.first) files
    → listed_on (joined (map (kept_on life) files) (map (locks_in life) files)) ≡ map (found_on life) (opening_listed files)
listed_found life [] all = refl
listed_found life (k ∷ files) all =
    ap (λ (rest : List (List ℕ × File)). (k.name, file_of (whole (kept_on life k) (locks_in life k))) ∷ rest) (listed_found life files all.1)
    ∙ ap (λ (f : File). (k.name, f) ∷ map (found_on life) (opening_listed files)) (go (told_at life.files.items k.name))
  where
    go : (told : Option LifeFile) → file_of (whole (record k { version = version_found life.first told k.contents }) (locks_found life.now told)) ≡ found_as life.first life.now told (unwrap_or k.contents [])
    go None = ap (λ (c : Option (List ℕ)). record { contents = c; version = life.first; lock = None; spent = [] }) all.0.whole_is
    go (Some file) = ap (λ (c : Option (List ℕ)). file_on life.now file c) all.0.whole_is

pub listed_gone : (life : Life) (files : List LifeFile) → listed_on (joined (map kept_gone files) (map (locks_on life.now) files)) ≡ map (gone_on life) files
listed_gone life [] = refl
listed_gone life (file ∷ files) = ap (λ (rest : List (List ℕ × File)). (file.name, file_on life.now file None) ∷ rest) (listed_gone life files)

-- the names that the folder hasn't
gone_none : (files : List KeptFile) (name : List ℕ) → is_none (place_in (named files) name) ≡ is_none (opened_contents (opening_listed files) name)
gone_none [] name = refl
gone_none (k ∷ files) name = go (bytes_eq k.name name) (place_in (named files) name) (gone_none files name) where
  go : (b : Bool) (p : Option ℕ) → is_none p ≡ is_none (opened_contents (opening_listed files) name)
      → is_none (if b then Some 0 else option_map suc p) ≡ is_none (if b then Some (unwrap_or k.contents []) else opened_contents (opening_listed files) name)
  go true p e = refl
  go false None e = e
  go false (Some n) e = e

pub filter_same : {A : Type 0} (p q : A → Bool) (xs : List A) → ((x : A) → p x ≡ q x) → filter p xs ≡ filter q xs
filter_same p q [] same = refl
filter_same p q (x ∷ xs) same = ap (λ (b : Bool). if b then x ∷ filter p xs else filter p xs) (same x) ∙ ap (λ (rest : List _). if q x then x ∷ rest else rest) (filter_same p q xs same)

pub gone_same : (files : List KeptFile) (life : List LifeFile) → filter (is_unmet (named files)) life ≡ filter (is_gone (opening_listed files)) life
gone_same files life = filter_same (is_unmet (named files)) (is_gone (opening_listed files)) life (λ file. gone_none files file.name)

-- ---- names

pub names_on : (life : Life) (files : List KeptFile) → named (map (kept_on life) files) ≡ named files
names_on life [] = refl
names_on life (k ∷ files) = ap (λ (rest : List (List ℕ)). k.name ∷ rest) (names_on life files)

pub names_gone : (files : List LifeFile) → named (map kept_gone files) ≡ life_names files
names_gone [] = refl
names_gone (file ∷ files) = ap (λ (rest : List (List ℕ)). file.name ∷ rest) (names_gone files)

-- fewer names have no name more
pub place_fewer : (p : LifeFile → Bool) (files : List LifeFile) (name : List ℕ) → place_in (life_names files) name ≡ None → place_in (life_names (filter p files)) name ≡ None
place_fewer p [] name e = refl
place_fewer p (file ∷ files) name e = go (p file) (bytes_eq file.name name) refl (place_in (life_names files) name) (place_fewer p files name) e where
  go : (keep b : Bool) → bytes_eq file.name name ≡ b → (all : Option ℕ) → (all ≡ None → place_in (life_names (filter p files)) name ≡ None) → (if b then Some 0 else option_map suc all) ≡ None
      → place_in (life_names (if keep then file ∷ filter p files else filter p files)) name ≡ None
  go keep true at all more e = cc
  go keep false at (Some n) more e = cc
  go false false at None more e = more refl
  go true false at None more e =
      ap (λ (c : Bool). if c then Some 0 else option_map suc (place_in (life_names (filter p files)) name)) at ∙ ap (option_map suc) (more refl)

-- one more of a list is filtered
pub filter_step : {A : Type 0} (p : A → Bool) (xs : List A) (i : ℕ) (x : A) → i < length xs → x ≡ get_or xs i x → filter p (take (i + 1) xs) ≡ filter p (take i xs) ++ (if p x then x ∷ [] else [])
filter_step p xs i x lt is =
    ap (filter p) (take_more xs i x lt ∙ ap (λ (y : _). take i xs ++ y ∷ []) (sym is)) ∙ filter-append p (take i xs) (x ∷ [])

pub names_front : (files : List LifeFile) (i : ℕ) (file : LifeFile) → i < length files → file ≡ get_or files i file → AreOnce (life_names files) → place_in (life_names (take i files)) file.name ≡ None
names_front [] i file lt is once = absurd (omega (arith, lt))
names_front (one ∷ files) zero file lt is once = refl
names_front (one ∷ files) (suc i) file lt is once = go (bytes_eq one.name file.name) refl (names_front files i file (omega (arith, lt)) is once.1) where
  later : (rest : List LifeFile) (j : ℕ) → j < length rest → file ≡ get_or rest j file → place_in (life_names rest) one.name ≡ None → bytes_eq one.name file.name ≡ false
  later [] j below at none = absurd (omega (arith, below))
  later (r ∷ rest) zero below at none = part (bytes_eq r.name one.name) refl none where
    part : (b : Bool) → bytes_eq r.name one.name ≡ b → (if b then Some 0 else option_map suc (place_in (life_names rest) one.name)) ≡ None → bytes_eq one.name file.name ≡ false
    part true h e = absurd (cc (e))
    part false h e = apart file.name one.name (ap (λ (f : LifeFile). bytes_eq f.name one.name) at ∙ h)
  later (r ∷ rest) (suc j) below at none = part (bytes_eq r.name one.name) (place_in (life_names rest) one.name) (later rest j (omega (arith, below)) at) none where
    part : (b : Bool) (o : Option ℕ) → (o ≡ None → bytes_eq one.name file.name ≡ false) → (if b then Some 0 else option_map suc o) ≡ None → bytes_eq one.name file.name ≡ false
    part true o more e = absurd (cc (e))
    part false None more e = more refl
    part false (Some n) more e = absurd (cc (e))

  go : (b : Bool) → bytes_eq one.name file.name ≡ b → place_in (life_names (take i files)) file.name ≡ None → (if b then Some 0 else option_map suc (place_in (life_names (take i files)) file.name)) ≡ None
  go true at rest = absurd (cc (sym at ∙ later files i (omega (arith, lt)) is once.0))
  go false at rest = ap (option_map suc) rest

-- ---- one file more that isn't there

-- the files and their locks, when so many of the life were looked at
pub record GoneSoFar (now : ℕ) (life : List LifeFile) (place : ℕ) (files0 files : List KeptFile) (told0 told : List Standing) : Type 0 where
  pub files_are : files ≡ files0 ++ map kept_gone (filter (is_unmet (named files0)) (take place life))
  pub told_are : told ≡ told0 ++ map (locks_on now) (filter (is_unmet (named files0)) (take place life))
  pub once : AreOnce (named files)

named_so_far : (files0 : List KeptFile) (gone : List LifeFile) → named (files0 ++ map kept_gone gone) ≡ named files0 ++ life_names gone
named_so_far files0 gone = map-append (λ (k : KeptFile). k.name) files0 (map kept_gone gone) ∙ ap (λ (l : List (List ℕ)). named files0 ++ l) (names_gone gone)

pub gone_skip : (now : ℕ) (life : List LifeFile) (place : ℕ) (files0 files : List KeptFile) (told0 told : List Standing) (file : LifeFile) (n : ℕ) → place < length life → file ≡ get_or life place file
    → AreOnce (life_names life) → place_in (named files) file.name ≡ Some n → GoneSoFar now life place files0 files told0 told → GoneSoFar now life (place + 1) files0 files told0 told
gone_skip now life place files0 files told0 told file n lt is once found so =
    let names = named files0 in
    let front = take place life in
    let met : is_unmet names file ≡ false = go (place_in names file.name) refl in
    let same : filter (is_unmet names) (take (place + 1) life) ≡ filter (is_unmet names) front =
    filter_step (is_unmet names) life place file lt is ∙ ap (λ (b : Bool). filter (is_unmet names) front ++ (if b then file ∷ [] else [])) met ∙ end (filter (is_unmet names) front) in
    record {
      files_are = so.files_are ∙ ap (λ (l : List LifeFile). files0 ++ map kept_gone l) (sym same);
      told_are = so.told_are ∙ ap (λ (l : List LifeFile). told0 ++ map (locks_on now) l) (sym same);
      once = so.once;
    }
  where
    end : {A : Type 0} (xs : List A) → xs ++ [] ≡ xs
    end [] = refl
    end (x ∷ xs) = ap (λ (l : List _). x ∷ l) (end xs)

    go : (o : Option ℕ) → place_in (named files0) file.name ≡ o → is_none o ≡ false
    go (Some m) e = refl
    go None e =
        let front = filter (is_unmet (named files0)) (take place life) in
        let none = place_neither (named files0) (life_names front) file.name e (place_fewer (is_unmet (named files0)) (take place life) file.name (names_front life place file lt is once)) in
        absurd (cc (sym found ∙ ap (λ (l : List KeptFile). place_in (named l) file.name) so.files_are ∙ ap (λ (l : List (List ℕ)). place_in l file.name) (named_so_far files0 front) ∙ none))

pub gone_add : (now : ℕ) (life : List LifeFile) (place : ℕ) (files0 files files' : List KeptFile) (told0 told told' : List Standing) (file : LifeFile) → place < length life → file ≡ get_or life place file
    → place_in (named files) file.name ≡ None → files' ≡ files ++ kept_gone file ∷ [] → told' ≡ told ++ locks_on now file ∷ []
    → GoneSoFar now life place files0 files told0 told → GoneSoFar now life (place + 1) files0 files' told0 told'
gone_add now life place files0 files files' told0 told told' file lt is fresh files_is told_is so =
    let names = named files0 in
    let front = filter (is_unmet names) (take place life) in
    let none : place_in names file.name ≡ None =
    (place_either names (life_names front) file.name (sym (ap (λ (l : List KeptFile). place_in (named l) file.name) so.files_are ∙ ap (λ (l : List (List ℕ)). place_in l file.name) (named_so_far files0 front)) ∙ fresh)).0 in
    let more : filter (is_unmet names) (take (place + 1) life) ≡ front ++ file ∷ [] =
    filter_step (is_unmet names) life place file lt is ∙ ap (λ (o : Option ℕ). front ++ (if is_none o then file ∷ [] else [])) none in
    record {
      files_are =
          files_is ∙ ap (λ (l : List KeptFile). l ++ kept_gone file ∷ []) so.files_are ∙ append_assoc files0 (map kept_gone front) (kept_gone file ∷ [])
          ∙ ap (λ (l : List KeptFile). files0 ++ l) (sym (ap (map kept_gone) more ∙ map-append kept_gone front (file ∷ [])));
      told_are =
          told_is ∙ ap (λ (l : List Standing). l ++ locks_on now file ∷ []) so.told_are ∙ append_assoc told0 (map (locks_on now) front) (locks_on now file ∷ [])
          ∙ ap (λ (l : List Standing). told0 ++ l) (sym (ap (map (locks_on now)) more ∙ map-append (locks_on now) front (file ∷ [])));
      once = subst (λ (l : List KeptFile). AreOnce (named l)) (sym files_is) (subst AreOnce (sym (named_push files (kept_gone file))) (once_push (named files) file.name fresh so.once));
    }

pub gone_next : (now : ℕ) (life : List LifeFile) (place : ℕ) (files0 files files' : List KeptFile) (told0 told told' : List Standing) (file : LifeFile) → place < length life → file ≡ get_or life place file
    → AreOnce (life_names life) → files' ≡ files ++ (if is_unmet (named files) file then kept_gone file ∷ [] else []) → told' ≡ told ++ (if is_unmet (named files) file then locks_on now file ∷ [] else [])
    → GoneSoFar now life place files0 files told0 told → GoneSoFar now life (place + 1) files0 files' told0 told'
gone_next now life place files0 files files' told0 told told' file lt is once files_is told_is so = go (place_in (named files) file.name) refl files_is told_is where
  go : (o : Option ℕ) → place_in (named files) file.name ≡ o → files' ≡ files ++ (if is_none o then kept_gone file ∷ [] else []) → told' ≡ told ++ (if is_none o then locks_on now file ∷ [] else [])
      → GoneSoFar now life (place + 1) files0 files' told0 told'
  go (Some n) e f t =
      let next = gone_skip now life place files0 files told0 told file n lt is once e so in
      let same : files' ≡ files = f ∙ append-nil files in
      record {
        files_are = same ∙ next.files_are;
        told_are = t ∙ append-nil told ∙ next.told_are;
        once = subst (λ (l : List KeptFile). AreOnce (named l)) (sym same) next.once;
      }
  go None e f t = gone_add now life place files0 files files' told0 told told' file lt is e f t so

-- ---- all together

low_found : (first now last : ℕ) (told : Option LifeFile) (held : Option (List ℕ)) → first ≤ 10 ^ 18 → ((file : LifeFile) → told ≡ Some file → MayGoOn now last file) → version_found first told held ≤ last + (2 ^ 63 - 1)
low_found first now last None held low goes = omega (arith, low)
low_found first now last (Some file) held low goes = go (is_as_told file.contents held) (goes file refl).low where
  go : (b : Bool) → file.version ≤ last + (2 ^ 63 - 2) → (if b then file.version else file.version + 1) ≤ last + (2 ^ 63 - 1)
  go true le = omega (arith, le)
  go false le = omega (arith, le)

told_own : (P : LifeFile → Type 0) (files : List LifeFile) (name : List ℕ) (file : LifeFile) → AllByRecursion P files → told_at files name ≡ Some file → P file
told_own P [] name file all e = absurd (cc (e))
told_own P (one ∷ files) name file all e = go (bytes_eq one.name name) (λ h. told_own P files name file all.1 h) e where
  go : (b : Bool) → (told_at files name ≡ Some file → P file) → (if b then Some one else told_at files name) ≡ Some file → P file
  go true rest h = subst P (inner one file h) all.0 where
    inner : (x y : LifeFile) → Some x ≡ Some y → x ≡ y
    inner x y h = ap (λ (o : Option LifeFile). unwrap_or o x) h
  go false rest h = rest h

low_on : (life : Life) (files : List KeptFile) → life.first ≤ 10 ^ 18 → AllByRecursion (MayGoOn life.now life.last) life.files.items → AreLow life.last (map (kept_on life) files)
low_on life [] low goes = tt
low_on life (k ∷ files) low goes =
    (low_found life.first life.now life.last (told_at life.files.items k.name) k.contents low (λ file e. told_own (MayGoOn life.now life.last) life.files.items k.name file goes e), low_on life files low goes)

all_filter : {A : Type 0} (P : A → Type 0) (p : A → Bool) (xs : List A) → AllByRecursion P xs → AllByRecursion P (filter p xs)
all_filter P p [] all = tt
all_filter P p (x ∷ xs) all = go (p x) (all_filter P p xs all.1) where
  go : (b : Bool) → AllByRecursion P (filter p xs) → AllByRecursion P (if b then x ∷ filter p xs else filter p xs)
  go true rest = (all.0, rest)
  go false rest = rest

low_gone : (now last : ℕ) (files : List LifeFile) → AllByRecursion (MayGoOn now last) files → AreLow last (map kept_gone files)
low_gone now last [] goes = tt
low_gone now last (file ∷ files) goes = (let low = goes.0.low in omega (arith, low), low_gone now last files goes.1)

dates_on : (life : Life) (files : List KeptFile) → dates_of (map (kept_on life) files) ≡ dates_of files
dates_on life [] = refl
dates_on life (k ∷ files) = ap (λ (rest : Dates). (k.name, k.saved) ∷ rest) (dates_on life files)

dates_gone : (files : List LifeFile) → dates_of (map kept_gone files) ≡ map (λ file. (file.name, 0)) files
dates_gone [] = refl
dates_gone (file ∷ files) = ap (λ (rest : Dates). (file.name, 0) ∷ rest) (dates_gone files)

at_either : (P : ℕ → Type 0) (xs ys : Dates) (name : List ℕ) → P (at_name 0 xs name) → P (at_name 0 ys name) → P (at_name 0 (xs ++ ys) name)
at_either P [] ys name p q = q
at_either P (x ∷ xs) ys name p q = go (bytes_eq x.0 name) (λ h. at_either P xs ys name h q) p where
  go : (b : Bool) → (P (at_name 0 xs name) → P (at_name 0 (xs ++ ys) name)) → P (if b then x.1 else at_name 0 xs name) → P (if b then x.1 else at_name 0 (xs ++ ys) name)
  go true rest h = h
  go false rest h = rest h

abbrev zeros : List LifeFile → Dates
zeros files = map (λ file. (file.name, 0)) files

at_none : (files : List LifeFile) (name : List ℕ) → ◌≡◌ {A = ℕ} (at_name 0 (zeros files) name) 0
at_none [] name = refl
at_none (file ∷ files) name = go (bytes_eq file.name name) (at_none files name) where
  go : (b : Bool) → ◌≡◌ {A = ℕ} (at_name 0 (zeros files) name) 0 → ◌≡◌ {A = ℕ} (if b then 0 else at_name 0 (zeros files) name) 0
  go true rest = refl
  go false rest = rest

digested_on : (life : Life) (files : List KeptFile) → AreDigested files → AreDigested (map (kept_on life) files)
digested_on life [] all = tt
digested_on life (k ∷ files) all = (all.0, digested_on life files all.1)

digested_gone : (files : List LifeFile) → AreDigested (map kept_gone files)
digested_gone [] = tt
digested_gone (file ∷ files) = (tt, digested_gone files)

torn_on : (life : Life) (files : List KeptFile) → AllByRecursion (IsRead life.first) files → NoneTorn (map (kept_on life) files)
torn_on life [] all = tt
torn_on life (k ∷ files) all = (all.0.untorn, torn_on life files all.1)

torn_gone : (files : List LifeFile) → NoneTorn (map kept_gone files)
torn_gone [] = tt
torn_gone (file ∷ files) = (refl, torn_gone files)

-- locks as of a moment
standing_again : (lock : Option Lock) (now : ℕ) → standing (standing lock now) now ≡ standing lock now
standing_again None now = refl
standing_again (Some lock) now = go (is_over lock now) refl where
  go : (b : Bool) → is_over lock now ≡ b → standing (if b then None else Some lock) now ≡ (if b then None else Some lock)
  go true at = refl
  go false at = ap (λ (c : Bool). if c then None else Some lock) at

began_still : (now : ℕ) (lock : Option Lock) → BeganBefore now lock → BeganBefore now (standing lock now)
began_still now None began = tt
began_still now (Some lock) began = go (is_over lock now) where
  go : (b : Bool) → BeganBefore now (if b then None else Some lock)
  go true = tt
  go false = began

as_of : (now last : ℕ) (file : LifeFile) → MayGoOn now last file → IsAsOf now (locks_on now file)
as_of now last file goes = record {
  stands = standing_again file.lock now;
  live = still_live (with_spent (expired file.lock now) file.spent.items) now;
  began = began_still now file.lock goes.began;
}

as_of_found : (now last : ℕ) (told : Option LifeFile) → ((file : LifeFile) → told ≡ Some file → MayGoOn now last file) → IsAsOf now (locks_found now told)
as_of_found now last None goes = record { stands = refl; live = tt; began = tt }
as_of_found now last (Some file) goes = as_of now last file (goes file refl)

settled_on : (life : Life) (files : List KeptFile) → AllByRecursion (MayGoOn life.now life.last) life.files.items → AllByRecursion (IsAsOf life.now) (map (locks_in life) files)
settled_on life [] goes = tt
settled_on life (k ∷ files) goes =
    (as_of_found life.now life.last (told_at life.files.items k.name) (λ file e. told_own (MayGoOn life.now life.last) life.files.items k.name file goes e), settled_on life files goes)

settled_gone : (now last : ℕ) (files : List LifeFile) → AllByRecursion (MayGoOn now last) files → AllByRecursion (IsAsOf now) (map (locks_on now) files)
settled_gone now last [] goes = tt
settled_gone now last (file ∷ files) goes = (as_of now last file goes.0, settled_gone now last files goes.1)

-- what holds of the files that were read, joined to what is told
pub going : (only : Option ℕ) (life : Life) (old new : Stock) (told : List Standing) → IsGoodLife only life → IsStock life.first old → AreOnce (named old.files.items)
    → new.files.items ≡ map (kept_on life) old.files.items ++ map kept_gone (filter (is_unmet (named (map (kept_on life) old.files.items))) life.files.items)
    → told ≡ map (locks_in life) old.files.items ++ map (locks_on life.now) (filter (is_unmet (named (map (kept_on life) old.files.items))) life.files.items)
    → IsNumbered new.index (named new.files.items) → AreOnce (named new.files.items) → new.bytes ≡ old.bytes → length new.files.items ≤ 4000000000
    → IsGoing life (opening_listed old.files.items) (dates_of old.files.items) new.files.items told new.index new.bytes
going only life old new told good stock once files_is told_is numbered once' bytes few =
    let fs = old.files.items in
    let opening = opening_listed fs in
    let gone = filter (is_gone opening) life.files.items in
    let read = all_read life.first fs once stock.files stock.torn in
    let gone_is : filter (is_unmet (named (map (kept_on life) fs))) life.files.items ≡ gone =
    ap (λ (names : List (List ℕ)). filter (is_unmet names) life.files.items) (names_on life fs) ∙ gone_same fs life.files.items in
    let files : new.files.items ≡ map (kept_on life) fs ++ map kept_gone gone = files_is ∙ ap (λ (l : List LifeFile). map (kept_on life) fs ++ map kept_gone l) gone_is in
    let locks : told ≡ map (locks_in life) fs ++ map (locks_on life.now) gone = told_is ∙ ap (λ (l : List LifeFile). map (locks_in life) fs ++ map (locks_on life.now) l) gone_is in
    let front : length (map (locks_in life) fs) ≡ length (map (kept_on life) fs) = length-map fs (locks_in life) ∙ sym (length-map fs (kept_on life)) in
    let back : length (map (locks_on life.now) gone) ≡ length (map kept_gone gone) = length-map gone (locks_on life.now) ∙ sym (length-map gone kept_gone) in
    let dates : dates_of (map (kept_on life) fs ++ map kept_gone gone) ≡ dates_of fs ++ map (λ file. (file.name, 0)) gone =
    map-append (λ (k : KeptFile). (k.name, k.saved)) (map (kept_on life) fs) (map kept_gone gone)
    ∙ ap (λ (l : Dates). l ++ dates_of (map kept_gone gone)) (dates_on life fs) ∙ ap (λ (l : Dates). dates_of fs ++ l) (dates_gone gone) in
    record {
      listed =
          ap (λ (l : List KeptFile). listed_on (joined l told)) files ∙ ap (λ (t : List Standing). listed_on (joined (map (kept_on life) fs ++ map kept_gone gone) t)) locks
          ∙ listed_join (map (kept_on life) fs) (map kept_gone gone) (map (locks_in life) fs) (map (locks_on life.now) gone) front
          ∙ ap (λ (l : List (List ℕ × File)). l ++ listed_on (joined (map kept_gone gone) (map (locks_on life.now) gone))) (listed_found life fs read)
          ∙ ap (λ (l : List (List ℕ × File)). map (found_on life) opening ++ l) (listed_gone life gone);
      long =
          ap (λ (t : List Standing). length t) locks ∙ length-append (map (locks_in life) fs) (map (locks_on life.now) gone) ∙ ap (λ (n : ℕ). n + length (map (locks_on life.now) gone)) front
          ∙ ap (λ (n : ℕ). length (map (kept_on life) fs) + n) back ∙ sym (ap (λ (l : List KeptFile). length l) files ∙ length-append (map (kept_on life) fs) (map kept_gone gone));
      settled = subst (AllByRecursion (IsAsOf life.now)) (sym locks) (all_join (IsAsOf life.now) (map (locks_in life) fs) (map (locks_on life.now) gone)
          (settled_on life fs good.files) (settled_gone life.now life.last gone (all_filter (MayGoOn life.now life.last) (is_gone opening) life.files.items good.files)));
      numbered = numbered;
      once = once';
      kept = bytes ∙ stock.kept;
      torn = subst NoneTorn (sym files) (all_join (λ (k : KeptFile). k.torn ≡ false) (map (kept_on life) fs) (map kept_gone gone) (torn_on life fs read) (torn_gone gone));
      low = subst (AreLow life.last) (sym files) (all_join (λ (k : KeptFile). k.version ≤ life.last + (2 ^ 63 - 1)) (map (kept_on life) fs) (map kept_gone gone)
          (low_on life fs good.first.1 good.files) (low_gone life.now life.last gone (all_filter (MayGoOn life.now life.last) (is_gone opening) life.files.items good.files)));
      moments = λ name. subst (λ (l : List KeptFile). IsMoment (date_in l name)) (sym files) (subst (λ (d : Dates). IsMoment (at_name 0 d name)) (sym dates)
          (at_either IsMoment (dates_of fs) (map (λ file. (file.name, 0)) gone) name (stock.moments name) (subst IsMoment (sym (at_none gone name)) (omega arith))));
      digests = subst AreDigested (sym files) (all_join IsDigested (map (kept_on life) fs) (map kept_gone gone) (digested_on life fs stock.digests) (digested_gone gone));
      few = few;
      dates_are = ap dates_of files ∙ dates;
    }

pub names_more : (files : List LifeFile) (i : ℕ) (file : LifeFile) → i < length files → file ≡ get_or files i file → life_names (take (i + 1) files) ≡ life_names (take i files) ++ file.name ∷ []
names_more files i file lt is =
    ap life_names (take_more files i file lt ∙ ap (λ (f : LifeFile). take i files ++ f ∷ []) (sym is)) ∙ map-append (λ (f : LifeFile). f.name) (take i files) (file ∷ [])

pub names_long : (files : List LifeFile) (i : ℕ) → i ≤ length files → length (life_names (take i files)) ≡ i
names_long files i le = length-map (take i files) (λ (f : LifeFile). f.name) ∙ length-take-le i files le
