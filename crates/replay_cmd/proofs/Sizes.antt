-- The files of a shard have no more bytes than its opening and its entries brought.
use Rattle.std.proofs.Common.{◌≡◌, ◌==◌, ◌≤◌, ◌+◌, ℕ, Bool, true, false, cond, List, [], ◌∷◌, length, Option, Some, unwrap_or, sum_by, refl, sym, ap, ◌∙◌, subst, inl, inr, arith}
use Rattle.std.specs.Str.{bytes_eq}
use Rattle.std.specs.List.{AllByRecursion, IsDistinct}
use Rattle.std.proofs.lemmas.Bool.{cond_both, eq-eqb}
use Rattle.std.proofs.lemmas.List.Sums.{sum_by-cons}
use Rattle.std.proofs.lemmas.Slice.Eq.{bytes_eq-Decides}
use Rattle.wopi_model.specs.declared.calls.Act.{Act}
use Rattle.wopi_model.specs.declared.calls.Act.TheVariants as act
use Rattle.wopi_model.specs.declared.calls.Call.{Call}
use Rattle.wopi_model.specs.declared.calls.Ruling.{Ruling}
use Rattle.wopi_model.specs.File.{File, opened_with}
use Rattle.wopi_model.specs.Host.{new_bytes, kept}
use Rattle.wopi_model.specs.Step.{Decision, Refuse, Conflict, Accept, decision, contents_after, file_of, ruling_of, after_step, IsOutcome}
use Rattle.wopi_model.specs.Shard.{Shard, Opening, Item, Tick, Step, Entry, Along, IsAllowed, opening_file, opened_shard, at_moment, happens, after, entries}
use Rattle.wopi_model.proofs.Soundness.{same_bytes}
use Rattle.host_core.specs.Opening.{opened_contents}
use Rattle.replay_cmd.specs.Limits.{kept_by}
use Rattle.replay_cmd.proofs.Opened.{alone, names_in, OneFile}

abbrev size_of : Option (List ℕ) → ℕ
size_of contents = length (unwrap_or contents [])

abbrev bytes_in : OneFile → ℕ
bytes_in file = length file.1

-- ---- sums over names that differ

-- one name counts for so much more
abbrev with_one : List ℕ → ℕ → (List ℕ → ℕ) → List ℕ → ℕ
with_one one more g name = cond (bytes_eq one name) more 0 + g name

abbrev IsNoMore : (List ℕ → ℕ) → (List ℕ → ℕ) → Type 0
IsNoMore f g = (name : List ℕ) → f name ≤ g name

other_names : (one : List ℕ) (more : ℕ) (f g : List ℕ → ℕ) (names : List (List ℕ)) → AllByRecursion (λ name. bytes_eq one name ≡ false) names
    → IsNoMore f (with_one one more g) → sum_by f names ≤ sum_by g names
other_names one more f g [] apart le = omega arith
other_names one more f g (name ∷ names) apart le =
    let here : f name ≤ 0 + g name = subst (λ (b : Bool). f name ≤ cond b more 0 + g name) apart.0 (le name) in
    let rest = other_names one more f g names apart.1 le in
    let left = sum_by-cons f name names in
    let right = sum_by-cons g name names in
    omega (arith, here, rest, left, right)

one_name : (one : List ℕ) (more : ℕ) (f g : List ℕ → ℕ) (names : List (List ℕ)) → IsDistinct bytes_eq names → IsNoMore f (with_one one more g)
    → sum_by f names ≤ more + sum_by g names
unfolding IsDistinct
one_name one more f g [] differ le = omega arith
one_name one more f g (name ∷ names) differ le = by_test (bytes_eq one name) refl (one_name one more f g names differ.1 le)
  where
    by_test : (test : Bool) → bytes_eq one name ≡ test → sum_by f names ≤ more + sum_by g names → sum_by f (name ∷ names) ≤ more + sum_by g (name ∷ names)
    by_test true e later =
        let same : name ≡ one = sym (same_bytes one name e) in
        let here : f name ≤ more + g name = subst (λ (b : Bool). f name ≤ cond b more 0 + g name) e (le name) in
        let rest = other_names one more f g names (subst (λ (n : List ℕ). AllByRecursion (λ y. bytes_eq n y ≡ false) names) same differ.0) le in
        let left = sum_by-cons f name names in
        let right = sum_by-cons g name names in
        omega (arith, here, rest, left, right)
    by_test false e later =
        let here : f name ≤ 0 + g name = subst (λ (b : Bool). f name ≤ cond b more 0 + g name) e (le name) in
        let left = sum_by-cons f name names in
        let right = sum_by-cons g name names in
        omega (arith, here, later, left, right)

-- ---- a step

-- what an act brings, where it is accepted
accepted_size : (file : File) (asked : Act) → size_of (contents_after file asked) ≤ new_bytes asked + size_of file.contents
accepted_size file act.Info = omega arith
accepted_size file (act.Get most) = omega arith
accepted_size file (act.Put lock contents) = omega arith
accepted_size file (act.Lock id) = omega arith
accepted_size file act.GetLock = omega arith
accepted_size file (act.Refresh id) = omega arith
accepted_size file (act.Unlock id) = omega arith
accepted_size file (act.Relock old id) = omega arith
accepted_size file act.Look = omega arith
accepted_size file (act.Create overwrite contents) = omega arith
accepted_size file act.Delete = omega arith

accepted_status : (file : File) (call : Call) (now : ℕ) → (ruling_of Accept file call now).status ≡ 200
accepted_status file call now = by_act call.act refl
  where
    by_act : (asked : Act) → call.act ≡ asked → (ruling_of Accept file call now).status ≡ 200
    by_act act.Info e = ap (λ (a : Act). (ruling_of Accept file (record call { act = a }) now).status) e
    by_act (act.Get most) e = ap (λ (a : Act). (ruling_of Accept file (record call { act = a }) now).status) e
    by_act (act.Put lock contents) e = ap (λ (a : Act). (ruling_of Accept file (record call { act = a }) now).status) e
    by_act (act.Lock id) e = ap (λ (a : Act). (ruling_of Accept file (record call { act = a }) now).status) e
    by_act act.GetLock e = ap (λ (a : Act). (ruling_of Accept file (record call { act = a }) now).status) e
    by_act (act.Refresh id) e = ap (λ (a : Act). (ruling_of Accept file (record call { act = a }) now).status) e
    by_act (act.Unlock id) e = ap (λ (a : Act). (ruling_of Accept file (record call { act = a }) now).status) e
    by_act (act.Relock old id) e = ap (λ (a : Act). (ruling_of Accept file (record call { act = a }) now).status) e
    by_act act.Look e = ap (λ (a : Act). (ruling_of Accept file (record call { act = a }) now).status) e
    by_act (act.Create overwrite contents) e = ap (λ (a : Act). (ruling_of Accept file (record call { act = a }) now).status) e
    by_act act.Delete e = ap (λ (a : Act). (ruling_of Accept file (record call { act = a }) now).status) e

-- what an entry with that ruling keeps
abbrev kept_of : Ruling → Act → ℕ
kept_of ruling asked = cond (ruling.status == 200) (new_bytes asked) 0

decided_size : (d : Decision) (file : File) (call : Call) (now : ℕ) (ruling : Ruling) → ruling ≡ ruling_of d file call now
    → size_of (file_of d file call now).contents ≤ kept_of ruling call.act + size_of file.contents
decided_size (Refuse status) file call now ruling is = omega arith
decided_size (Conflict reason) file call now ruling is = omega arith
decided_size Accept file call now ruling is =
    let ok : (ruling.status == 200) ≡ true = eq-eqb ruling.status 200 (ap (λ (r : Ruling). r.status) is ∙ accepted_status file call now) in
    let whole : kept_of ruling call.act ≡ new_bytes call.act = ap (λ (b : Bool). cond b (new_bytes call.act) 0) ok in
    let most = accepted_size file call.act in
    omega (arith, whole, most)

stepped_size : (file : File) (call : Call) (opened now : ℕ) (ruling : Ruling) → IsOutcome file call opened now ruling
    → size_of (after_step file call opened now ruling).contents ≤ kept_of ruling call.act + size_of file.contents
stepped_size file call opened now ruling (inl same) =
    cond_both (ruling.status == 500) file (file_of (decision file call opened now) file call now) (λ (f : File). size_of f.contents ≤ kept_of ruling call.act + size_of file.contents)
    (λ e. omega arith) (λ e. decided_size (decision file call opened now) file call now ruling same)
stepped_size file call opened now ruling (inr fault) =
    let failed : (ruling.status == 500) ≡ true = eq-eqb ruling.status 500 (ap (λ (r : Ruling). r.status) fault.2) in
    subst (λ (b : Bool). size_of (cond b file (file_of (decision file call opened now) file call now)).contents ≤ kept_of ruling call.act + size_of file.contents) (sym failed) (omega arith)

-- ---- a history

abbrev pub size_in : Shard → List ℕ → ℕ
size_in shard name = size_of (shard.files name).contents

module _ (shard : Shard) (entry : Entry) where
  abbrev at : Shard
  at = at_moment shard entry.moment

  abbrev new : File
  new = after_step (at.files entry.call.name) entry.call at.opened at.now entry.ruling

  entry_size : IsAllowed shard (Step entry) → IsNoMore (size_in (happens shard (Step entry))) (with_one entry.call.name (kept_by entry) (size_in shard))
  entry_size allowed name =
      elim (bytes_eq entry.call.name name) as (λ b. bytes_eq entry.call.name name ≡ b → size_of (cond b new (at.files name)).contents ≤ cond b (kept_by entry) 0 + size_in shard name) [
        | true ↦ λ e. subst (λ (n : List ℕ). size_of new.contents ≤ kept_by entry + size_in shard n) (same_bytes entry.call.name name e)
            (stepped_size (at.files entry.call.name) entry.call at.opened at.now entry.ruling allowed)
        | false ↦ λ e. omega arith
      ] refl

history_size : (shard : Shard) (items : List Item) (names : List (List ℕ)) → IsDistinct bytes_eq names → Along IsAllowed shard items
    → sum_by (size_in (after shard items)) names ≤ sum_by kept_by (entries items) + sum_by (size_in shard) names
history_size shard [] names differ along = omega arith
history_size shard (Tick moment ∷ items) names differ along = history_size (at_moment shard moment) items names differ along.1
history_size shard (Step entry ∷ items) names differ along =
    let rest = history_size (happens shard (Step entry)) items names differ along.1 in
    let here = one_name entry.call.name (kept_by entry) (size_in (happens shard (Step entry))) (size_in shard) names differ (entry_size shard entry along.0) in
    let sum = sum_by-cons kept_by entry (entries items) in
    omega (arith, rest, here, sum)

no_sizes : (names : List (List ℕ)) → sum_by (λ (name : List ℕ). 0) names ≡ 0
no_sizes [] = refl
no_sizes (name ∷ names) = let rest = no_sizes names in let sum = sum_by-cons (λ (n : List ℕ). 0) name names in omega (arith, rest, sum)

opening_size : (first : ℕ) (opening : Opening) (names : List (List ℕ)) → IsDistinct bytes_eq names
    → sum_by (λ (name : List ℕ). size_of (opening_file first opening name).contents) names ≤ sum_by bytes_in opening
opening_size first [] names differ = let none = no_sizes names in omega (arith, none)
opening_size first (file ∷ opening) names differ =
    let here = one_name file.0 (bytes_in file) (λ (name : List ℕ). size_of (opening_file first (file ∷ opening) name).contents)
    (λ (name : List ℕ). size_of (opening_file first opening name).contents) names differ at in
    let rest = opening_size first opening names differ in
    let sum = sum_by-cons bytes_in file opening in
    omega (arith, here, rest, sum)
  where
    at : (name : List ℕ) → size_of (cond (bytes_eq file.0 name) (opened_with first file.1) (opening_file first opening name)).contents
        ≤ cond (bytes_eq file.0 name) (bytes_in file) 0 + size_of (opening_file first opening name).contents
    at name = by_test (bytes_eq file.0 name)
      where
        by_test : (test : Bool) → size_of (cond test (opened_with first file.1) (opening_file first opening name)).contents
            ≤ cond test (bytes_in file) 0 + size_of (opening_file first opening name).contents
        by_test true = omega arith
        by_test false = omega arith

-- the files of these names
pub names_size : (opening : Opening) (opened first : ℕ) (items : List Item) (names : List (List ℕ)) → IsDistinct bytes_eq names → Along IsAllowed (opened_shard opening opened first) items
    → sum_by (size_in (after (opened_shard opening opened first) items)) names ≤ kept opening items
names_size opening opened first items names differ along =
    let whole = history_size (opened_shard opening opened first) items names differ along in
    let begun = opening_size first opening names differ in
    omega (arith, whole, begun)

-- ---- the files of an opening

found_here : (file : OneFile) (opening : Opening) → opened_contents (file ∷ opening) file.0 ≡ Some file.1
found_here file opening = ap (λ (b : Bool). cond b (Some file.1) (opened_contents opening file.0)) ((bytes_eq-Decides file.0 file.0).1 refl)

-- an opening of names that differ has just the bytes that are found in it
pub bytes_found : (opening : Opening) (found : List ℕ → Option (List ℕ)) → IsDistinct bytes_eq (names_in opening)
    → ((name contents : List ℕ) → opened_contents opening name ≡ Some contents → found name ≡ Some contents)
    → sum_by bytes_in opening ≡ sum_by (λ (name : List ℕ). size_of (found name)) (names_in opening)
unfolding IsDistinct
bytes_found [] found differ whole = refl
bytes_found (file ∷ opening) found differ whole =
    let here : found file.0 ≡ Some file.1 = whole file.0 file.1 (found_here file opening) in
    let size : size_of (found file.0) ≡ bytes_in file = ap size_of here in
    let rest = bytes_found opening found differ.1 (λ name contents e. whole name contents (behind name contents e)) in
    let left = sum_by-cons bytes_in file opening in
    let right = sum_by-cons (λ (name : List ℕ). size_of (found name)) file.0 (names_in opening) in
    left ∙ omega (arith, size, rest) ∙ sym right
  where
    behind : (name contents : List ℕ) → opened_contents opening name ≡ Some contents → opened_contents (file ∷ opening) name ≡ Some contents
    behind name contents e = by_test (bytes_eq file.0 name) refl
      where
        by_test : (test : Bool) → bytes_eq file.0 name ≡ test → cond test (Some file.1) (opened_contents opening name) ≡ Some contents
        by_test true same = absurd (alone file.0 opening name contents differ.0 e same)
        by_test false same = e
