-- A shard as it goes on.
use Rattle.std.proofs.Common.{◌≡◌, ◌<◌, ◌≤◌, ◌+◌, ◌-◌, ◌^◌, ℕ, zero, suc, max, Bool, true, false, if◌then◌else◌, List, [], ◌∷◌, ◌++◌, length, map, filter, sum_by, Option, None, Some, option_map, unwrap_or, refl, sym, ap, subst, ◌∙◌, arith}
use Rattle.std.proofs.lemmas.List.Sums.{sum_by-cons}
use Rattle.std.specs.Str.{bytes_eq}
use Rattle.std.specs.List.{AllByRecursion}
use Rattle.outside.specs.Folder.{Files, Keeps}
use Rattle.kept_locks.specs.Locks.{Standing, Locks, unlocked}
use Rattle.kept_locks.specs.Ties.{BeganBy}
use Rattle.wopi_model.specs.declared.locks.Lock.{Lock}
use Rattle.wopi_model.specs.Begin.{Begin, at_name}
use Rattle.wopi_model.specs.File.{File, never_met}
use Rattle.wopi_model.specs.Lives.{bytes_of, ids_of, left_of, live_bytes, live_ids}
use Rattle.wopi_model.specs.Moment.{IsMoment}
use Rattle.wopi_model.specs.Settle.{settled}
use Rattle.wopi_model.specs.Shard.{Opening, begun, at_moment}
use Rattle.wopi_model.proofs.Fullness.{all-settled-ids}
use Rattle.host_core.specs.declared.file.KeptFile.{KeptFile}
use Rattle.host_core.specs.declared.life.Life.{Life}
use Rattle.host_core.specs.declared.life.LifeFile.{LifeFile}
use Rattle.host_core.specs.Files.{BeganAtMoment, file_of, files_of, is_named, torn_in}
use Rattle.host_core.specs.Going.{AreLow, NoneTorn, ids_told, uses_of}
use Rattle.host_core.specs.Life.{BeganBefore, Mends, file_on, found_as, found_on, goes_on, gone_on, is_gone, listed_on, mended, told_at}
use Rattle.host_core.specs.Names.{AreOnce, AreWithin, names_in, names_of}
use Rattle.host_core.specs.Opening.{IsOpening, MayKeep, opened_contents}
use Rattle.host_core.specs.Places.{first_of}
use Rattle.host_core.specs.Value.{Agrees, KeepsLive, Reflects}
use Rattle.host_core.specs.Whole.{Whole, joined, standing_at, whole}
use Rattle.wopi_model.proofs.Keeping.{shows-tick}
use Rattle.host_core.proofs.Joining.{joined_cons, later, stands_at, stands_later}
use Rattle.host_core.proofs.Mends.{mended_foreign}
use Rattle.host_core.proofs.Regains.{stands_beyond}

-- ---- files by their names

pub files_listed : (first : ℕ) (files : List Whole) (name : List ℕ) → files_of first files name ≡ at_name (never_met first) (listed_on files) name
files_listed first [] name = refl
files_listed first (k ∷ files) name = go (bytes_eq k.name name) (files_listed first files name) where
  go : (b : Bool) → files_of first files name ≡ at_name (never_met first) (listed_on files) name → unwrap_or (option_map file_of (if b then Some k else first_of (is_named name) files)) (never_met first) ≡ (if b then file_of k else at_name (never_met first) (listed_on files) name)
  go true rest = refl
  go false rest = rest

pub names_listed : (files : List Whole) → names_in (listed_on files) ≡ names_of files
names_listed [] = refl
names_listed (k ∷ files) = ap (λ (rest : List (List ℕ)). k.name ∷ rest) (names_listed files)

gone_empty : (other : File) → other.contents ≡ None → (life : Life) (gone : List LifeFile) (name : List ℕ) → (at_name other (map (gone_on life) gone) name).contents ≡ None
gone_empty other none life [] name = none
gone_empty other none life (file ∷ gone) name = go (bytes_eq file.name name) (gone_empty other none life gone name) where
  go : (b : Bool) → (at_name other (map (gone_on life) gone) name).contents ≡ None → (if b then file_on life.now file None else at_name other (map (gone_on life) gone) name).contents ≡ None
  go true rest = refl
  go false rest = rest

found_whole : (first now : ℕ) (told : Option LifeFile) (held : List ℕ) → (found_as first now told held).contents ≡ Some held
found_whole first now None held = refl
found_whole first now (Some file) held = refl

contents_joined : (life : Life) (gone : List LifeFile) (opening : Opening) (name : List ℕ)
    → (at_name (never_met life.first) (map (found_on life) opening ++ map (gone_on life) gone) name).contents ≡ opened_contents opening name
contents_joined life gone [] name = gone_empty (never_met life.first) refl life gone name
contents_joined life gone (one ∷ opening) name = go (bytes_eq one.0 name) (contents_joined life gone opening name) where
  go : (b : Bool) → (at_name (never_met life.first) (map (found_on life) opening ++ map (gone_on life) gone) name).contents ≡ opened_contents opening name → (if b then found_as life.first life.now (told_at life.files.items one.0) one.1 else at_name (never_met life.first) (map (found_on life) opening ++ map (gone_on life) gone) name).contents
      ≡ (if b then Some one.1 else opened_contents opening name)
  go true rest = found_whole life.first life.now (told_at life.files.items one.0) one.1
  go false rest = rest

pub contents_on : (life : Life) (opening : Opening) (name : List ℕ) → (at_name (never_met life.first) (goes_on life opening).files name).contents ≡ opened_contents opening name
contents_on life opening name = contents_joined life (filter (is_gone opening) life.files.items) opening name

-- ---- what they have

bytes_gone : (life : Life) (gone : List LifeFile) → live_bytes (map (gone_on life) gone) ≡ 0
bytes_gone life [] = refl
bytes_gone life (file ∷ gone) =
    let rest = bytes_gone life gone in
    let cons = sum_by-cons (λ (one : List ℕ × File). bytes_of one.1.contents) (gone_on life file) (map (gone_on life) gone) in
    omega (arith, rest, cons)

bytes_found : (first now : ℕ) (told : Option LifeFile) (held : List ℕ) → bytes_of (found_as first now told held).contents ≡ length held
bytes_found first now None held = refl
bytes_found first now (Some file) held = refl

bytes_joined : (life : Life) (gone : List LifeFile) (opening : Opening) → live_bytes (map (found_on life) opening ++ map (gone_on life) gone) ≡ sum_by (λ file. length file.1) opening
bytes_joined life gone [] = bytes_gone life gone
bytes_joined life gone (one ∷ opening) =
    let rest = bytes_joined life gone opening in
    let here = bytes_found life.first life.now (told_at life.files.items one.0) one.1 in
    let left = sum_by-cons (λ (o : List ℕ × File). bytes_of o.1.contents) (found_on life one) (map (found_on life) opening ++ map (gone_on life) gone) in
    let right = sum_by-cons (λ (o : List ℕ × List ℕ). length o.1) one opening in
    omega (arith, rest, here, left, right)

pub bytes_on : (life : Life) (opening : Opening) → live_bytes (goes_on life opening).files ≡ sum_by (λ file. length file.1) opening
bytes_on life opening = bytes_joined life (filter (is_gone opening) life.files.items) opening

pub ids_on : (files : List KeptFile) (told : List Standing) → length told ≡ length files → live_ids (listed_on (joined files told)) ≡ ids_told told
ids_on [] [] e = refl
ids_on [] (s ∷ told) e = absurd (omega (arith, e))
ids_on (k ∷ files) [] e = absurd (omega (arith, e))
ids_on (k ∷ files) (s ∷ told) e =
    let rest = ids_on files told (omega (arith, e)) in
    let left = sum_by-cons (λ (one : List ℕ × File). ids_of one.1) (k.name, file_of (whole k s)) (listed_on (joined files told)) in
    let right = sum_by-cons uses_of s told in
    omega (arith, rest, left, right)

-- ---- what is kept

pub none_torn : (files : List KeptFile) (ss : List Standing) → NoneTorn files → (name : List ℕ) → torn_in (joined files ss) name ≡ false
none_torn [] ss all name = refl
none_torn (k ∷ files) ss all name =
    ap (λ (l : List Whole). torn_in l name) (joined_cons k files ss) ∙ go (bytes_eq k.name name) (none_torn files (later ss) all.1 name) where
      go : (b : Bool) → torn_in (joined files (later ss)) name ≡ false → unwrap_or (option_map (λ (w : Whole). w.torn) (if b then Some (whole k (standing_at ss 0)) else first_of (is_named name) (joined files (later ss)))) false ≡ false
      go true rest = all.0
      go false rest = rest

pub low_within : (last : ℕ) (files : List KeptFile) (ss : List Standing) → AreLow last files → AreWithin (last + (2 ^ 63 - 1)) (joined files ss)
low_within last [] ss low = tt
low_within last (k ∷ files) ss low = subst (AreWithin (last + (2 ^ 63 - 1))) (sym (joined_cons k files ss)) (low.0, low_within last files (later ss) low.1)

began_under : (ss : List Standing) (now n : ℕ) → BeganBy now ss → BeganBefore now (standing_at ss n).lock
began_under ss now n began = go (standing_at ss n).lock refl where
  inside : (s : List Standing) (n : ℕ) (lock : Lock) → (standing_at s n).lock ≡ Some lock → n < length s
  inside [] n lock e = absurd (cc (e))
  inside (x ∷ s) zero lock e = omega arith
  inside (x ∷ s) (suc n) lock e = let rest = inside s n lock e in omega (arith, rest)

  go : (o : Option Lock) → (standing_at ss n).lock ≡ o → BeganBefore now o
  go None e = tt
  go (Some lock) e = began n (standing_at ss n) lock (stands_at ss n (inside ss n lock e)) e

pub moment_of : (now : ℕ) (lock : Option Lock) → IsMoment now → BeganBefore now lock → BeganAtMoment lock
moment_of now None m began = tt
moment_of now (Some lock) m began = omega (arith, m, began)

pub began_files : (first now : ℕ) (files : List KeptFile) (ss : List Standing) → IsMoment now → ((n : ℕ) → BeganBefore now (standing_at ss n).lock) → (name : List ℕ) → BeganAtMoment (files_of first (joined files ss) name).lock
began_files first now [] ss m began name = tt
began_files first now (k ∷ files) ss m began name =
    subst (λ (l : List Whole). BeganAtMoment (files_of first l name).lock) (sym (joined_cons k files ss))
    (go (bytes_eq k.name name) (began_files first now files (later ss) m (λ n. subst (λ (s : Standing). BeganBefore now s.lock) (stands_later ss n) (began (suc n))) name)) where
      go : (b : Bool) → BeganAtMoment (files_of first (joined files (later ss)) name).lock → BeganAtMoment (unwrap_or (option_map file_of (if b then Some (whole k (standing_at ss 0)) else first_of (is_named name) (joined files (later ss)))) (never_met first)).lock
      go true rest = moment_of now (standing_at ss 0).lock m (began 0)
      go false rest = rest

pub began_all : (ss : List Standing) (now : ℕ) → BeganBy now ss → (n : ℕ) → BeganBefore now (standing_at ss n).lock
began_all ss now began n = began_under ss now n began

-- what is kept shows a beginning
pub keeps_begin : (begin : Begin) (bytes : ℕ) (files : List Whole) → IsMoment begin.now → ((name : List ℕ) → files_of begin.first files name ≡ at_name (never_met begin.first) begin.files name)
    → ((name : List ℕ) → torn_in files name ≡ false) → bytes ≡ live_bytes begin.files → ((name : List ℕ) → BeganAtMoment (files_of begin.first files name).lock) → Reflects begin [] begin.now begin.last bytes files
keeps_begin begin bytes files m same torn is moments =
    let shard = begun begin in
    let now : (at_moment shard begin.now).now ≡ begin.now = omega arith in
    record {
      legal = record { allowed = tt; stamps = tt };
      shows = shows-tick (files_of begin.first files) shard begin.now (λ name. ap (λ (f : File). settled f begin.now) (same name));
      time_is = now;
      opened_is = refl;
      last_is = refl;
      bytes_are = omega (arith, is);
      torn = torn;
      moments = moments;
      moment = m;
    }

-- and the folder agrees
pub agrees_on : (only : Option ℕ) (start now : Option Files) (life : Life) (opening : Opening) (files : List Whole) → IsOpening only (option_map (mended life.files.items) start) opening
    → Mends life.files.items start now → AllByRecursion (λ file. MayKeep only file.name) life.files.items
    → ((name : List ℕ) → files_of life.first files name ≡ at_name (never_met life.first) (goes_on life opening).files name) → Agrees only start now (files_of life.first files) (torn_in files)
agrees_on only None None life opening files is mends own same = tt
agrees_on only None (Some now) life opening files is mends own same = absurd mends
agrees_on only (Some start) None life opening files is mends own same = absurd mends
agrees_on only (Some start) (Some now) life opening files is mends own same = (
  λ name taken torn. mends name ∙ sym (is.whole name taken) ∙ sym (contents_on life opening name) ∙ sym (ap (λ (f : File). f.contents) (same name)),
  λ name foreign. mends name ∙ mended_foreign only life.files.items start name own foreign,
)

-- so it does where it starts with what it is now
pub agrees_itself : (only : Option ℕ) (start now : Option Files) (files : List ℕ → File) (torn : List ℕ → Bool) → Agrees only start now files torn → Agrees only now now files torn
agrees_itself only None None files torn is = tt
agrees_itself only None (Some now) files torn is = absurd is
agrees_itself only (Some start) None files torn is = absurd is
agrees_itself only (Some start) (Some now) files torn is = (is.0, λ name foreign. refl)

pub keeps_live : (ids bytes : ℕ) (begin : Begin) → AreOnce (names_in begin.files) → live_ids begin.files ≤ ids → begin.last ≤ 2 ^ 63 - 1 → bytes ≡ live_bytes begin.files → KeepsLive ids begin [] begin.now begin.last bytes
keeps_live ids bytes begin once fits low is =
    let settles = all-settled-ids begin.files (max begin.now begin.now) in
    record {
      once = once;
      fits = omega (arith, settles, fits);
      low = low;
      bytes_are = is;
    }
