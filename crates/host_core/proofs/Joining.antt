-- The files joined with what stands under their numbers.
use Rattle.std.proofs.Common.{◌≡◌, ◌≢◌, ◌<◌, ◌≤◌, ◌-◌, ℕ, zero, suc, Bool, true, false, if◌then◌else◌, List, [], ◌∷◌, ◌++◌, length, map, set, get_or, Option, None, Some, option_map, unwrap_or, refl, sym, ap, subst, ◌∙◌, arith, slice_get}
use Rattle.std.specs.Str.{bytes_eq}
use Rattle.wopi_model.specs.File.{File, never_met}
use Rattle.host_core.specs.Places.{first_of}
use Rattle.wopi_model.specs.Settle.{settled}
use Rattle.kept_locks.specs.Locks.{Standing, unlocked, all_ended, ended_at, purged_at}
use Rattle.kept_locks.specs.Whole.{ended_file, purged_file}
use Rattle.kept_locks.proofs.Ending.{ended_shows, purged_shows}
use Rattle.host_core.specs.Turns.{all_gone, gone_at}
use Rattle.host_core.specs.declared.file.KeptFile.{KeptFile}
use Rattle.host_core.specs.Names.{AreWithin, names_of}
use Rattle.host_core.specs.Files.{file_of, is_named, files_of, torn_in}
use Rattle.host_core.specs.Numbers.{named}
use Rattle.host_core.specs.Whole.{Whole, whole, standing_at, joined}

-- what stands under the numbers from 1 on
abbrev pub later : List Standing → List Standing
later [] = []
later (standing ∷ standings) = standings

pub stands_later : (ss : List Standing) (n : ℕ) → standing_at ss (suc n) ≡ standing_at (later ss) n
stands_later [] n = refl
stands_later (s ∷ ss) n = refl

pub joined_cons : (k : KeptFile) (files : List KeptFile) (ss : List Standing) → joined (k ∷ files) ss ≡ whole k (standing_at ss 0) ∷ joined files (later ss)
joined_cons k files [] = refl
joined_cons k files (s ∷ ss) = refl

-- what stands beyond the files isn't seen
pub joined_as : (files : List KeptFile) (ss ss' : List Standing) → ((n : ℕ) → n < length files → standing_at ss n ≡ standing_at ss' n) → joined files ss ≡ joined files ss'
joined_as [] ss ss' same = refl
joined_as (k ∷ files) ss ss' same =
    joined_cons k files ss
    ∙ ap (λ (s : Standing). whole k s ∷ joined files (later ss)) (same 0 (omega arith))
    ∙ ap (λ (rest : List Whole). whole k (standing_at ss' 0) ∷ rest) (joined_as files (later ss) (later ss') (λ n lt. sym (stands_later ss n) ∙ same (suc n) (omega (arith, lt)) ∙ stands_later ss' n))
    ∙ sym (joined_cons k files ss')

-- one file and what stands under its number change
pub joined_put : (files : List KeptFile) (place : ℕ) (k : KeptFile) (ss before : List Standing) → ((n : ℕ) → n ≢ place → standing_at ss n ≡ standing_at before n)
    → joined (set files place k) ss ≡ set (joined files before) place (whole k (standing_at ss place))
joined_put [] place k ss before same = refl
joined_put (first ∷ files) zero k ss before same =
    joined_cons k files ss
    ∙ ap (λ (rest : List Whole). whole k (standing_at ss 0) ∷ rest) (joined_as files (later ss) (later before) (λ n lt. sym (stands_later ss n) ∙ same (suc n) (λ e. absurd (omega (arith, e))) ∙ stands_later before n))
    ∙ sym (ap (λ (l : List Whole). set l 0 (whole k (standing_at ss 0))) (joined_cons first files before))
joined_put (first ∷ files) (suc place) k ss before same =
    joined_cons first (set files place k) ss
    ∙ ap (λ (s : Standing). whole first s ∷ joined (set files place k) (later ss)) (same 0 (λ e. absurd (omega (arith, e))))
    ∙ ap (λ (rest : List Whole). whole first (standing_at before 0) ∷ rest)
    (joined_put files place k (later ss) (later before) (λ n differ. sym (stands_later ss n) ∙ same (suc n) (λ e. differ (omega (arith, e))) ∙ stands_later before n)
    ∙ ap (λ (s : Standing). set (joined files (later before)) place (whole k s)) (sym (stands_later ss place)))
    ∙ sym (ap (λ (l : List Whole). set l (suc place) (whole k (standing_at ss (suc place)))) (joined_cons first files before))

-- a file more
pub joined_push : (files : List KeptFile) (k : KeptFile) (ss before : List Standing) → ((n : ℕ) → n < length files → standing_at ss n ≡ standing_at before n)
    → joined (files ++ k ∷ []) ss ≡ joined files before ++ whole k (standing_at ss (length files)) ∷ []
joined_push [] k ss before same = joined_cons k [] ss
joined_push (first ∷ files) k ss before same =
    joined_cons first (files ++ k ∷ []) ss
    ∙ ap (λ (s : Standing). whole first s ∷ joined (files ++ k ∷ []) (later ss)) (same 0 (omega arith))
    ∙ ap (λ (rest : List Whole). whole first (standing_at before 0) ∷ rest)
    (joined_push files k (later ss) (later before) (λ n lt. sym (stands_later ss n) ∙ same (suc n) (omega (arith, lt)) ∙ stands_later before n)
    ∙ ap (λ (s : Standing). joined files (later before) ++ whole k s ∷ []) (sym (stands_later ss (length files))))
    ∙ sym (ap (λ (l : List Whole). l ++ whole k (standing_at ss (suc (length files))) ∷ []) (joined_cons first files before))

pub names_joined : (files : List KeptFile) (ss : List Standing) → names_of (joined files ss) ≡ named files
names_joined [] ss = refl
names_joined (k ∷ files) ss = ap names_of (joined_cons k files ss) ∙ ap (λ (rest : List (List ℕ)). k.name ∷ rest) (names_joined files (later ss))

pub long_joined : (files : List KeptFile) (ss : List Standing) → length (joined files ss) ≡ length files
long_joined [] ss = refl
long_joined (k ∷ files) ss = ap (λ (l : List Whole). length l) (joined_cons k files ss) ∙ ap suc (long_joined files (later ss))

pub get_joined : (files : List KeptFile) (place : ℕ) (k : KeptFile) (ss : List Standing) → k ≡ get_or files place k
    → whole k (standing_at ss place) ≡ get_or (joined files ss) place (whole k (standing_at ss place))
get_joined [] place k ss e = refl
get_joined (first ∷ files) zero k ss e =
    ap (λ (x : KeptFile). whole x (standing_at ss 0)) e ∙ sym (ap (λ (l : List Whole). get_or l 0 (whole k (standing_at ss 0))) (joined_cons first files ss))
get_joined (first ∷ files) (suc place) k ss e =
    subst (λ (s : Standing). whole k s ≡ get_or (joined files (later ss)) place (whole k s)) (sym (stands_later ss place)) (get_joined files place k (later ss) e)
    ∙ sym (ap (λ (l : List Whole). get_or l (suc place) (whole k (standing_at ss (suc place)))) (joined_cons first files ss))

-- what stands under a number that there is
pub stands_at : (ss : List Standing) (n : ℕ) → n < length ss → slice_get ss n ≡ Some (standing_at ss n)
stands_at [] n lt = absurd (omega (arith, lt))
stands_at (s ∷ ss) zero lt = refl
stands_at (s ∷ ss) (suc n) lt = stands_at ss n (omega (arith, lt))

-- a change of what stands under each number, which leaves what was never locked
module _ (change : Standing → Standing) (bare : change unlocked ≡ unlocked) where
  stands_changed : (ss : List Standing) (n : ℕ) → standing_at (map change ss) n ≡ change (standing_at ss n)
  stands_changed [] n = sym bare
  stands_changed (s ∷ ss) zero = refl
  stands_changed (s ∷ ss) (suc n) = stands_changed ss n

  later_changed : (ss : List Standing) → later (map change ss) ≡ map change (later ss)
  later_changed [] = refl
  later_changed (s ∷ ss) = refl

  -- the files with what stands then
  files_changed : (becomes : File → File) → ((k : KeptFile) (s : Standing) → file_of (whole k (change s)) ≡ becomes (file_of (whole k s)))
      → (oldest : ℕ) → becomes (never_met oldest) ≡ never_met oldest → (files : List KeptFile) (ss : List Standing) (name : List ℕ)
      → files_of oldest (joined files (map change ss)) name ≡ becomes (files_of oldest (joined files ss) name)
  files_changed becomes same oldest none [] ss name = sym none
  files_changed becomes same oldest none (k ∷ files) ss name =
      ap (λ (l : List Whole). files_of oldest l name) (joined_cons k files (map change ss))
      ∙ go (ap (λ (l : List Standing). files_of oldest (joined files l) name) (later_changed ss) ∙ files_changed becomes same oldest none files (later ss) name) (bytes_eq k.name name)
      ∙ sym (ap (λ (l : List Whole). becomes (files_of oldest l name)) (joined_cons k files ss)) where
        go : files_of oldest (joined files (later (map change ss))) name ≡ becomes (files_of oldest (joined files (later ss)) name)
            → (b : Bool) → unwrap_or (option_map file_of (if b then Some (whole k (standing_at (map change ss) 0)) else first_of (is_named name) (joined files (later (map change ss))))) (never_met oldest)
            ≡ becomes (unwrap_or (option_map file_of (if b then Some (whole k (standing_at ss 0)) else first_of (is_named name) (joined files (later ss)))) (never_met oldest))
        go rest true = ap (λ (s : Standing). file_of (whole k s)) (stands_changed ss 0) ∙ same k (standing_at ss 0)
        go rest false = rest

pub stands_ended : (now : ℕ) (ss : List Standing) (n : ℕ) → standing_at (all_ended now ss) n ≡ ended_at now (standing_at ss n)
stands_ended now ss n = stands_changed (ended_at now) refl ss n

-- what stands once locks have ended, and ids have gone where that is so
pub stands_gone : (purged : Bool) (now : ℕ) (ss : List Standing) (n : ℕ) → standing_at (all_gone purged now ss) n ≡ gone_at purged now (standing_at ss n)
stands_gone false now ss n = stands_ended now ss n
stands_gone true now ss n = stands_changed (purged_at now) refl (all_ended now ss) n ∙ ap (purged_at now) (stands_ended now ss n)

abbrev pub gone_file : Bool → ℕ → File → File
gone_file purged now file = if purged then purged_file now (ended_file now file) else ended_file now file

-- the files then
pub files_gone : (oldest : ℕ) (files : List KeptFile) (ss : List Standing) (purged : Bool) (now : ℕ) (name : List ℕ) → files_of oldest (joined files (all_gone purged now ss)) name ≡ gone_file purged now (files_of oldest (joined files ss) name)
files_gone oldest files ss false now name = files_changed (ended_at now) refl (ended_file now) (λ k s. refl) oldest refl files ss name
files_gone oldest files ss true now name =
    files_changed (purged_at now) refl (purged_file now) (λ k s. refl) oldest refl files (all_ended now ss) name
    ∙ ap (purged_file now) (files_changed (ended_at now) refl (ended_file now) (λ k s. refl) oldest refl files ss name)

pub files_ended : (oldest : ℕ) (files : List KeptFile) (ss : List Standing) (now : ℕ) (name : List ℕ) → files_of oldest (joined files (all_ended now ss)) name ≡ ended_file now (files_of oldest (joined files ss) name)
files_ended oldest files ss now name = files_gone oldest files ss false now name

-- they show the same at each later moment
pub gone_shows : (purged : Bool) (file : File) (early late : ℕ) → early ≤ late → settled (gone_file purged early file) late ≡ settled file late
gone_shows false file early late le = ended_shows file early late le
gone_shows true file early late le = purged_shows (ended_file early file) early late le ∙ ended_shows file early late le

-- what doesn't come from the locks is the same whatever stands there
pub read_any : {A : Type 0} (read : Whole → A) (none : A) → ((k : KeptFile) (s s' : Standing) → read (whole k s) ≡ read (whole k s'))
    → (files : List KeptFile) (ss ss' : List Standing) (name : List ℕ)
    → unwrap_or (option_map read (first_of (is_named name) (joined files ss))) none ≡ unwrap_or (option_map read (first_of (is_named name) (joined files ss'))) none
read_any read none same [] ss ss' name = refl
read_any read none same (k ∷ files) ss ss' name =
    ap (λ (l : List Whole). unwrap_or (option_map read (first_of (is_named name) l)) none) (joined_cons k files ss)
    ∙ go (read_any read none same files (later ss) (later ss') name) (bytes_eq k.name name)
    ∙ sym (ap (λ (l : List Whole). unwrap_or (option_map read (first_of (is_named name) l)) none) (joined_cons k files ss')) where
      go : unwrap_or (option_map read (first_of (is_named name) (joined files (later ss)))) none ≡ unwrap_or (option_map read (first_of (is_named name) (joined files (later ss')))) none
          → (b : Bool) → unwrap_or (option_map read (if b then Some (whole k (standing_at ss 0)) else first_of (is_named name) (joined files (later ss)))) none
          ≡ unwrap_or (option_map read (if b then Some (whole k (standing_at ss' 0)) else first_of (is_named name) (joined files (later ss')))) none
      go rest true = same k (standing_at ss 0) (standing_at ss' 0)
      go rest false = rest

pub torn_any : (files : List KeptFile) (ss ss' : List Standing) (name : List ℕ) → torn_in (joined files ss) name ≡ torn_in (joined files ss') name
torn_any files ss ss' name = read_any (λ (w : Whole). w.torn) false (λ k s s'. refl) files ss ss' name

field : {A : Type 0} (oldest : ℕ) (read : File → A) (o : Option Whole) → read (unwrap_or (option_map file_of o) (never_met oldest)) ≡ unwrap_or (option_map (λ (w : Whole). read (file_of w)) o) (read (never_met oldest))
field oldest read None = refl
field oldest read (Some w) = refl

pub version_any : (oldest : ℕ) (files : List KeptFile) (ss ss' : List Standing) (name : List ℕ) → (files_of oldest (joined files ss) name).version ≡ (files_of oldest (joined files ss') name).version
version_any oldest files ss ss' name =
    field oldest (λ (f : File). f.version) (first_of (is_named name) (joined files ss))
    ∙ read_any (λ (w : Whole). w.version) (oldest - 1) (λ k s s'. refl) files ss ss' name
    ∙ sym (field oldest (λ (f : File). f.version) (first_of (is_named name) (joined files ss')))

pub contents_any : (oldest : ℕ) (files : List KeptFile) (ss ss' : List Standing) (name : List ℕ) → (files_of oldest (joined files ss) name).contents ≡ (files_of oldest (joined files ss') name).contents
contents_any oldest files ss ss' name =
    field oldest (λ (f : File). f.contents) (first_of (is_named name) (joined files ss))
    ∙ read_any (λ (w : Whole). w.contents) None (λ k s s'. refl) files ss ss' name
    ∙ sym (field oldest (λ (f : File). f.contents) (first_of (is_named name) (joined files ss')))

pub within_any : (most : ℕ) (files : List KeptFile) (ss ss' : List Standing) → AreWithin most (joined files ss) → AreWithin most (joined files ss')
within_any most [] ss ss' within = tt
within_any most (k ∷ files) ss ss' within =
    let parts = subst (AreWithin most) (joined_cons k files ss) within in
    subst (AreWithin most) (sym (joined_cons k files ss')) (parts.0, within_any most files (later ss) (later ss') parts.1)
