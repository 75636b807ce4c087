-- How far versions may rise, and what one file has of the bytes that are live.
use Rattle.std.proofs.Common.{◌≡◌, ◌≤◌, ◌-◌, ◌^◌, ℕ, ◌+◌, Bool, true, false, if◌then◌else◌, List, [], ◌∷◌, length, sum_by, Option, None, Some, refl, ap, ◌∙◌, arith}
use Rattle.std.proofs.lemmas.List.{length-map}
use Rattle.std.proofs.lemmas.List.Sums.{sum_by-cons}
use Rattle.std.specs.Str.{bytes_eq}
use Rattle.wopi_model.specs.File.{File, never_met}
use Rattle.wopi_model.specs.Begin.{Begin, at_name}
use Rattle.wopi_model.specs.Lives.{bytes_of, left_of, live_bytes}
use Rattle.wopi_model.specs.Shard as model
use Rattle.wopi_model.specs.Shard.{Tick, Entry, RisesFrom, after, begun, entries, last_from, stamps}
use Rattle.wopi_model.proofs.Histories.{after-append}
use Rattle.wopi_model.proofs.Living.{begun-left}
use Rattle.host_core.specs.Entries.{Made, items_of}
use Rattle.host_core.specs.Files.{files_of}
use Rattle.host_core.specs.Ledger.{IsWithinCalls}
use Rattle.host_core.specs.Value.{KeepsWithin, Reflects, most_version}
use Rattle.host_core.specs.Names.{AreWithin}
use Rattle.host_core.specs.Whole.{Whole}
use Rattle.host_core.proofs.History.{length_of}

-- stamps that rise are no more than how far they rose
rising_long : (low : ℕ) (xs : List ℕ) → RisesFrom low xs → low + length xs ≤ last_from low xs
rising_long low [] rises = omega arith
rising_long low (x ∷ xs) rises =
    let rest = rising_long x xs rises.1 in
    let here = rises.0 in
    omega (arith, rest, here)

-- so versions stay below 2^64
pub low_versions : (calls : Option ℕ) (ids : ℕ) (begin : Begin) (made : List Made) (time last all bytes : ℕ) (files : List Whole) → Reflects begin made time last all files
    → KeepsWithin calls ids begin made time last bytes → most_version begin (length made) ≤ 2 ^ 64 - 2
low_versions None ids begin made time last all bytes files k within =
    let long = length-map (entries (items_of made)) (λ (e : Entry). e.stamp) ∙ length_of made in
    let rose = rising_long begin.last (stamps (entries (items_of made))) k.legal.stamps in
    let is = k.last_is in
    let low = within.low in
    omega (arith, long, rose, is, low)
low_versions (Some calls) ids begin made time last all bytes files k within =
    let few = within.places in
    let bound = within.most in
    let anew = within.anew in
    omega (arith, few, bound, anew)

-- no file has a version above a greater one
pub within_up : (most more : ℕ) (files : List Whole) → most ≤ more → AreWithin most files → AreWithin more files
within_up most more [] up within = tt
within_up most more (kept ∷ files) up within = let here : kept.version ≤ most = within.0 in (omega (arith, up, here), within_up most more files up within.1)

pub within_calls : (calls : Option ℕ) (ids : ℕ) (begin : Begin) (made : List Made) (time last bytes : ℕ) → KeepsWithin calls ids begin made time last bytes → IsWithinCalls calls (length made)
within_calls None ids begin made time last bytes within = tt
within_calls (Some calls) ids begin made time last bytes within = within.places

-- one file has no more than all
at_most : (f : File → ℕ) (other : File) → f other ≡ 0 → (files : List (List ℕ × File)) (name : List ℕ) → f (at_name other files name) ≤ sum_by (λ one. f one.1) files
at_most f other none [] name = omega (arith, none)
at_most f other none (one ∷ files) name =
    let sum = sum_by-cons (λ (o : List ℕ × File). f o.1) one files in
    go sum (at_most f other none files name) (bytes_eq one.0 name)
  where
    go : sum_by (λ (o : List ℕ × File). f o.1) (one ∷ files) ≡ f one.1 + sum_by (λ (o : List ℕ × File). f o.1) files → f (at_name other files name) ≤ sum_by (λ (o : List ℕ × File). f o.1) files
        → (b : Bool) → f (if b then one.1 else at_name other files name) ≤ sum_by (λ (o : List ℕ × File). f o.1) (one ∷ files)
    go sum rest true = omega (arith, sum)
    go sum rest false = omega (arith, sum, rest)

pub live_of : (begin : Begin) (made : List Made) (time last all bytes : ℕ) (files : List Whole) → Reflects begin made time last all files → bytes ≡ live_bytes (left_of begin (items_of made)).files
    → (name : List ℕ) → bytes_of (files_of begin.first files name).contents ≤ bytes
live_of begin made time last all bytes files k count name =
    let left = left_of begin (items_of made) in
    let before = after (begun begin) (items_of made) in
    let shown = ap (λ (f : File). bytes_of f.contents) (k.shows name) in
    let ticked = ap (λ (s : model.Shard). bytes_of (s.files name).contents) (after-append (begun begin) (items_of made) (Tick time ∷ [])) in
    let is = ap (λ (s : model.Shard). bytes_of (s.files name).contents) (begun-left begin (items_of made)) in
    let most = at_most (λ (f : File). bytes_of f.contents) (never_met left.first) refl left.files name in
    omega (arith, shown, ticked, is, most, count)
