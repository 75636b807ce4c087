-- How many places the locks of all files take, counted by number and by name.
use Rattle.std.proofs.Common.{◌≡◌, ◌≤◌, ℕ, suc, ◌+◌, max, Bool, true, false, if◌then◌else◌, List, [], ◌∷◌, ◌++◌, map, length, sum_by, Option, None, Some, option_map, unwrap_or, refl, sym, ap, subst, ◌∙◌, arith}
use Rattle.std.proofs.lemmas.List.Sums.{sum_by-cons}
use Rattle.std.proofs.lemmas.Slice.Eq.{bytes_eq-Decides}
use Rattle.std.specs.Str.{bytes_eq}
use Rattle.wopi_model.specs.declared.locks.Lock.{Lock}
use Rattle.wopi_model.specs.File.{File, never_met}
use Rattle.wopi_model.specs.Settle.{settled, standing}
use Rattle.wopi_model.specs.Begin.{Begin, at_name, put_name}
use Rattle.wopi_model.specs.Lives.{begin_after, begin_at, begin_happens, ids_of, left_of, live_ids, lock_places}
use Rattle.wopi_model.specs.Shard as model
use Rattle.wopi_model.specs.Shard.{Item, Tick, Step, at_moment, begun}
use Rattle.wopi_model.specs.Host.{found_at}
use Rattle.wopi_model.proofs.Fullness.{begun-found, sum-put}
use Rattle.wopi_model.proofs.Keeping.{shown-at_moment}
use Rattle.wopi_model.proofs.Living.{at-put}
use Rattle.kept_locks.specs.Locks.{Standing, one_lock, places_at, unlocked, uses_at}
use Rattle.kept_locks.specs.Whole.{standing_of_file}
use Rattle.host_core.specs.declared.file.KeptFile.{KeptFile}
use Rattle.host_core.specs.Entries.{Made, history_of}
use Rattle.host_core.specs.Files.{file_of, files_of, is_named}
use Rattle.host_core.specs.Names.{AreOnce, names_in, names_of, place_in}
use Rattle.host_core.specs.Numbers.{named}
use Rattle.host_core.specs.Places.{first_of}
use Rattle.host_core.specs.Value.{Reflects, state_of}
use Rattle.host_core.specs.Whole.{Whole, joined, standing_at, whole}
use Rattle.host_core.proofs.Joining.{joined_cons, later, names_joined, stands_later}

-- ---- by number

places_of : (lock : Option Lock) → one_lock lock ≡ lock_places lock
places_of None = refl
places_of (Some lock) = refl

-- the places of what stands, as those of a settled file
uses_of : (file : File) (now : ℕ) → uses_at now (standing_of_file file) ≡ ids_of (settled file now)
uses_of file now = ap (λ (n : ℕ). n + length (settled file now).spent) (places_of (standing file.lock now))

-- numbers of no file take no place
pub places_same : (now : ℕ) (xs ys : List Standing) → ((n : ℕ) → uses_at now (standing_at xs n) ≡ uses_at now (standing_at ys n)) → places_at now xs ≡ places_at now ys
places_same now [] [] same = refl
places_same now [] (y ∷ ys) same =
    let here : 0 ≡ uses_at now y = same 0 in
    let rest = places_same now [] ys (λ n. same (suc n)) in
    omega (arith, here, rest)
places_same now (x ∷ xs) [] same =
    let here : uses_at now x ≡ 0 = same 0 in
    let rest = places_same now xs [] (λ n. same (suc n)) in
    omega (arith, here, rest)
places_same now (x ∷ xs) (y ∷ ys) same =
    let here : uses_at now x ≡ uses_at now y = same 0 in
    let rest = places_same now xs ys (λ n. same (suc n)) in
    omega (arith, here, rest)

-- ---- by name

at_none : {A : Type 0} (other : A) (files : List (List ℕ × A)) (name : List ℕ) → place_in (names_in files) name ≡ None → at_name other files name ≡ other
at_none other [] name e = refl
at_none other (one ∷ files) name e = go (bytes_eq one.0 name) (place_in (names_in files) name) (at_none other files name) e where
  go : (b : Bool) (o : Option ℕ) → (o ≡ None → at_name other files name ≡ other) → (if b then Some 0 else option_map suc o) ≡ None → (if b then one.1 else at_name other files name) ≡ other
  go true o rest e = absurd (cc e)
  go false None rest e = rest refl
  go false (Some n) rest e = absurd (cc e)

-- a name that isn't there still isn't, where another one is put
none_put : {A : Type 0} (name : List ℕ) (it : A) (files : List (List ℕ × A)) (other : List ℕ) → bytes_eq name other ≡ false → place_in (names_in files) other ≡ None → place_in (names_in (put_name name it files)) other ≡ None
none_put name it [] other differ e = ap (λ (b : Bool). if b then Some 0 else None) differ
none_put name it (one ∷ files) other differ e = by (none_put name it files other differ) (bytes_eq one.0 name) where
  kept : (b : Bool) (o p : Option ℕ) → (o ≡ None → p ≡ None) → (if b then Some 0 else option_map suc o) ≡ None → (if b then Some 0 else option_map suc p) ≡ None
  kept true o p rest h = absurd (cc h)
  kept false None p rest h = ap (option_map suc) (rest refl)
  kept false (Some n) p rest h = absurd (cc h)

  by : (place_in (names_in files) other ≡ None → place_in (names_in (put_name name it files)) other ≡ None) → (b : Bool) → place_in (names_in (if b then (one.0, it) ∷ files else one ∷ put_name name it files)) other ≡ None
  by rest true = e
  by rest false = kept (bytes_eq one.0 other) (place_in (names_in files) other) (place_in (names_in (put_name name it files)) other) rest e

pub apart : (a b : List ℕ) → bytes_eq a b ≡ false → bytes_eq b a ≡ false
apart a b ne = flip (bytes_eq b a) refl where
  flip : (t : Bool) → bytes_eq b a ≡ t → bytes_eq b a ≡ false
  flip false e = e
  flip true e = absurd (cc (ne, (bytes_eq-Decides a b).1 (sym ((bytes_eq-Decides b a).0 e))))

none_push : (names : List (List ℕ)) (name other : List ℕ) → bytes_eq name other ≡ false → place_in names other ≡ None → place_in (names ++ name ∷ []) other ≡ None
none_push [] name other differ e = ap (λ (b : Bool). if b then Some 0 else None) differ
none_push (one ∷ names) name other differ e = go (bytes_eq one other) (place_in names other) (place_in (names ++ name ∷ []) other) (none_push names name other differ) e where
  go : (b : Bool) (o p : Option ℕ) → (o ≡ None → p ≡ None) → (if b then Some 0 else option_map suc o) ≡ None → (if b then Some 0 else option_map suc p) ≡ None
  go true o p rest h = absurd (cc h)
  go false None p rest h = ap (option_map suc) (rest refl)
  go false (Some n) p rest h = absurd (cc h)

-- a name more that wasn't there
pub once_push : (names : List (List ℕ)) (name : List ℕ) → place_in names name ≡ None → AreOnce names → AreOnce (names ++ name ∷ [])
once_push [] name fresh once = (refl, tt)
once_push (one ∷ names) name fresh once = go (λ at. once_push names name at once.1) (bytes_eq one name) refl (place_in names name) refl fresh where
  go : (place_in names name ≡ None → AreOnce (names ++ name ∷ [])) → (b : Bool) → bytes_eq one name ≡ b → (o : Option ℕ) → place_in names name ≡ o → (if b then Some 0 else option_map suc o) ≡ None → AreOnce (one ∷ names ++ name ∷ [])
  go rest true e o at h = absurd (cc h)
  go rest false e None at h = (none_push names name one (apart one name e) once.0, rest at)
  go rest false e (Some n) at h = absurd (cc h)

once_put : {A : Type 0} (name : List ℕ) (it : A) (files : List (List ℕ × A)) → AreOnce (names_in files) → AreOnce (names_in (put_name name it files))
once_put name it [] once = (refl, tt)
once_put name it (one ∷ files) once = by (once_put name it files once.1) (bytes_eq one.0 name) refl where
  by : AreOnce (names_in (put_name name it files)) → (b : Bool) → bytes_eq one.0 name ≡ b → AreOnce (names_in (if b then (one.0, it) ∷ files else one ∷ put_name name it files))
  by rest true e = once
  by rest false e = (none_put name it files one.0 (apart one.0 name e) once.0, rest)

once_map : {A : Type 0} (f : A → A) (files : List (List ℕ × A)) → names_in (map (λ (one : List ℕ × A). (one.0, f one.1)) files) ≡ names_in files
once_map f [] = refl
once_map f (one ∷ files) = ap (λ (rest : List (List ℕ)). one.0 ∷ rest) (once_map f files)

once_at : (begin : Begin) (moment : ℕ) → AreOnce (names_in begin.files) → AreOnce (names_in (begin_at begin moment).files)
once_at begin moment once = subst AreOnce (sym (once_map (λ (f : File). settled f (max begin.now moment)) begin.files)) once

-- what a history leaves has each name once
pub once_left : (begin : Begin) (items : List Item) → AreOnce (names_in begin.files) → AreOnce (names_in (left_of begin items).files)
once_left begin [] once = once
once_left begin (Tick moment ∷ items) once = once_left (begin_at begin moment) items (once_at begin moment once)
once_left begin (Step entry ∷ items) once =
    let at = begin_at begin entry.moment in
    once_left (begin_after at entry) items (once_put entry.call.name _ at.files (once_at begin entry.moment once))

same_self : (name : List ℕ) → bytes_eq name name ≡ true
same_self name = (bytes_eq-Decides name name).1 refl

-- two lists that have the same under each name, and each name once, have the same sum
module _ (f : File → ℕ) (other : File) (none : f other ≡ 0) where
  sum_none : (ys : List (List ℕ × File)) → AreOnce (names_in ys) → ((n : List ℕ) → f (at_name other ys n) ≡ 0) → sum_by (λ one. f one.1) ys ≡ 0
  sum_none [] once each = refl
  sum_none (y ∷ ys) once each =
      let here : f y.1 ≡ 0 = sym (ap (λ (b : Bool). f (if b then y.1 else at_name other ys y.0)) (same_self y.0)) ∙ each y.0 in
      let rest = sum_none ys once.1 (λ n. behind n (bytes_eq y.0 n) refl (each n)) in
      let sum = sum_by-cons (λ (one : List ℕ × File). f one.1) y ys in
      omega (arith, here, rest, sum)
    where
      behind : (n : List ℕ) (b : Bool) → bytes_eq y.0 n ≡ b → f (if b then y.1 else at_name other ys n) ≡ 0 → f (at_name other ys n) ≡ 0
      behind n true e h = ap f (at_none other ys n (subst (λ (m : List ℕ). place_in (names_in ys) m ≡ None) ((bytes_eq-Decides y.0 n).0 e) once.0)) ∙ none
      behind n false e h = h

  pub sum_same : (xs ys : List (List ℕ × File)) → AreOnce (names_in xs) → AreOnce (names_in ys) → ((n : List ℕ) → f (at_name other xs n) ≡ f (at_name other ys n))
      → sum_by (λ one. f one.1) xs ≡ sum_by (λ one. f one.1) ys
  sum_same [] ys once twice each = sym (sum_none ys twice (λ n. sym (each n) ∙ none))
  sum_same (x ∷ xs) ys once twice each =
      let put = sum-put f other none x.0 other ys in
      let here : f x.1 ≡ f (at_name other ys x.0) = sym (ap (λ (b : Bool). f (if b then x.1 else at_name other xs x.0)) (same_self x.0)) ∙ each x.0 in
      let rest = sum_same xs (put_name x.0 other ys) once.1 (once_put x.0 other ys twice)
      (λ n. behind n (bytes_eq x.0 n) refl (each n) ∙ sym (ap f (at-put other x.0 other ys n))) in
      let sum = sum_by-cons (λ (one : List ℕ × File). f one.1) x xs in
      omega (arith, put, here, rest, sum, none)
    where
      behind : (n : List ℕ) (b : Bool) → bytes_eq x.0 n ≡ b → f (if b then x.1 else at_name other xs n) ≡ f (at_name other ys n) → f (at_name other xs n) ≡ f (if b then other else at_name other ys n)
      behind n true e h = ap f (at_none other xs n (subst (λ (m : List ℕ). place_in (names_in xs) m ≡ None) ((bytes_eq-Decides x.0 n).0 e) once.0))
      behind n false e h = h

-- ---- the files of the code, by name

abbrev listed_at : ℕ → List Whole → List (List ℕ × File)
listed_at now files = map (λ kept. (kept.name, settled (file_of kept) now)) files

listed_names : (now : ℕ) (files : List Whole) → names_in (listed_at now files) ≡ names_of files
listed_names now [] = refl
listed_names now (kept ∷ files) = ap (λ (rest : List (List ℕ)). kept.name ∷ rest) (listed_names now files)

listed_file : (first now : ℕ) (files : List Whole) (name : List ℕ) → at_name (never_met first) (listed_at now files) name ≡ settled (files_of first files name) now
listed_file first now [] name = refl
listed_file first now (kept ∷ files) name = go (bytes_eq kept.name name) (listed_file first now files name) where
  go : (b : Bool) → at_name (never_met first) (listed_at now files) name ≡ settled (files_of first files name) now
      → (if b then settled (file_of kept) now else at_name (never_met first) (listed_at now files) name) ≡ settled (unwrap_or (option_map file_of (if b then Some kept else first_of (is_named name) files)) (never_met first)) now
  go true rest = refl
  go false rest = rest

split_places : (now : ℕ) (ss : List Standing) → places_at now ss ≡ uses_at now (standing_at ss 0) + places_at now (later ss)
split_places now [] = refl
split_places now (s ∷ ss) = refl

no_places : (now : ℕ) (ss : List Standing) → ((n : ℕ) → standing_at ss n ≡ unlocked) → places_at now ss ≡ 0
no_places now ss bare = places_same now ss [] (λ n. ap (uses_at now) (bare n))

-- the places of all files are those of the files that are listed
listed_places : (now : ℕ) (files : List KeptFile) (ss : List Standing) → ((n : ℕ) → length files ≤ n → standing_at ss n ≡ unlocked)
    → sum_by (λ one. ids_of one.1) (listed_at now (joined files ss)) ≡ places_at now ss
listed_places now [] ss beyond = sym (no_places now ss (λ n. beyond n (omega arith)))
listed_places now (k ∷ files) ss beyond =
    let sum : List Whole → ℕ = λ l. sum_by (λ (one : List ℕ × File). ids_of one.1) (listed_at now l) in
    let first = whole k (standing_at ss 0) in
    let parts = sum_by-cons (λ (one : List ℕ × File). ids_of one.1) (first.name, settled (file_of first) now) (listed_at now (joined files (later ss))) in
    let rest = listed_places now files (later ss) (λ n le. sym (stands_later ss n) ∙ beyond (suc n) (omega (arith, le))) in
    let uses : uses_at now (standing_at ss 0) ≡ ids_of (settled (file_of first) now) = uses_of (file_of first) now in
    let split = split_places now ss in
    let whole_sum : sum (joined (k ∷ files) ss) ≡ sum (first ∷ joined files (later ss)) = ap sum (joined_cons k files ss) in
    omega (arith, parts, rest, uses, split, whole_sum)

-- so many places are taken at that moment as what the history leaves then has locks and ids
pub places_are : (begin : Begin) (made : List Made) (time last bytes : ℕ) (files : List KeptFile) (ss : List Standing) → Reflects begin made time last bytes (joined files ss)
    → AreOnce (names_in begin.files) → AreOnce (named files) → ((n : ℕ) → length files ≤ n → standing_at ss n ≡ unlocked) → (moment : ℕ)
    → places_at (max time moment) ss ≡ live_ids (found_at begin (history_of made time) moment).files
places_are begin made time last bytes files ss k once own beyond moment =
    let now = max time moment in
    let found = found_at begin (history_of made time) moment in
    let state = state_of begin made time in
    let wholes = joined files ss in
    let listed = listed_at now wholes in
    let there : AreOnce (names_in found.files) = once_at (left_of begin (history_of made time)) moment (once_left begin (history_of made time) once) in
    let mine : AreOnce (names_in listed) = subst AreOnce (sym (listed_names now wholes ∙ names_joined files ss)) own in
    let firsts : found.first ≡ begin.first = first_left begin (history_of made time) in
    let each : (name : List ℕ) → at_name (never_met begin.first) listed name ≡ at_name (never_met begin.first) found.files name =
    λ name. listed_file begin.first now wholes name
    ∙ ap (λ (n : ℕ). settled (files_of begin.first wholes name) (max n moment)) (sym k.time_is)
    ∙ sym (shown-at_moment (files_of begin.first wholes) state moment k.shows name)
    ∙ sym (ap (λ (s : model.Shard). s.files name) (begun-found begin (history_of made time) moment))
    ∙ ap (λ (n : ℕ). at_name (never_met n) found.files name) firsts in
    let sums = sum_same ids_of (never_met begin.first) refl listed found.files mine there (λ name. ap ids_of (each name)) in
    sym (listed_places now files ss beyond) ∙ sums
  where
    first_left : (begin : Begin) (items : List Item) → (left_of begin items).first ≡ begin.first
    first_left begin [] = refl
    first_left begin (Tick moment ∷ items) = first_left (begin_at begin moment) items
    first_left begin (Step entry ∷ items) = first_left (begin_happens begin (Step entry)) items
