-- The shard of a schedule begins with no more bytes than its lines have.
use Rattle.std.proofs.Common.{◌≡◌, ◌≤◌, ◌*◌, ◌||◌, ℕ, Bool, true, false, cond, List, [], ◌∷◌, length, map, sum_by, None, Some, inl, inr, refl, sym, ap, ◌∙◌, subst, arith}
use Rattle.std.specs.Prelude.{IsSome}
use Rattle.std.specs.Str.{bytes_eq}
use Rattle.std.specs.List.{AllByRecursion, IsDistinct, list_any}
use Rattle.std.specs.Map.{lookup}
use Rattle.std.specs.Ordering.{nat_cmp}
use Rattle.std.specs.declared.cmp.Ordering.TheVariants.{Less}
use Rattle.std.specs.Cmp.Lexicographic.{slice_cmp, nat_list_eq_equiv}
use Rattle.std.proofs.lemmas.List.{length-map}
use Rattle.std.proofs.lemmas.List.Sums.{sum_by-cons}
use Rattle.std.proofs.lemmas.Map.Keys.{IsDistinct-from_sorted}
use Rattle.std.proofs.lemmas.Map.Steps.{length-le_from_keys}
use Rattle.std.proofs.lemmas.Map.Text.{is_eq-slice_cmp}
use Rattle.wopi_model.specs.Shard.{Opening}
use Rattle.host_core.specs.Opening.{IsByName, IsTooLarge, MayKeep, opened_contents}
use Rattle.host_core.specs.Value.{Book}
use Rattle.replay_cmd.specs.Begun.{opening_in}
use Rattle.schedule_text.specs.declared.schedule.FileLine.{FileLine}
use Rattle.schedule_text.specs.Schedules.{most_contents, most_lines}
use Rattle.replay_cmd.specs.Starts.{Opens}
use Rattle.replay_cmd.proofs.FirstWorld.{has_form}

abbrev pub OneFile : Type 0
OneFile = List ℕ × List ℕ

abbrev pub names_in : Opening → List (List ℕ)
names_in opening = map (λ (file : OneFile). file.0) opening

-- a file that is there
record Found (opening : Opening) (name : List ℕ) : Type 0 where
  pub contents : List ℕ
  pub is : opened_contents opening name ≡ Some contents

found : (opening : Opening) (name : List ℕ) → list_any (bytes_eq name) (names_in opening) ≡ true → Found opening name
found [] name h = cc
found (file ∷ opening) name h = by_test (bytes_eq file.0 name) refl (found opening name)
  where
    by_test : (test : Bool) → bytes_eq file.0 name ≡ test → (list_any (bytes_eq name) (names_in opening) ≡ true → Found opening name) → Found (file ∷ opening) name
    by_test true e go = record { contents = file.1; is = ap (λ (b : Bool). cond b (Some file.1) (opened_contents opening name)) e }
    by_test false e go =
        let other : bytes_eq name file.0 ≡ false = nat_list_eq_equiv.symm name file.0 ∙ e in
        let rest : list_any (bytes_eq name) (names_in opening) ≡ true =
        sym (ap (λ (b : Bool). b || list_any (bytes_eq name) (names_in opening)) other) ∙ h in
        let later : Found opening name = go rest in
        record { contents = later.contents; is = ap (λ (b : Bool). cond b (Some file.1) (opened_contents opening name)) e ∙ later.is }

looked_up : (opening : Opening) (name contents : List ℕ) → opened_contents opening name ≡ Some contents → IsSome (lookup (bytes_eq name) opening)
looked_up [] name contents h = cc
looked_up (file ∷ opening) name contents h = by_test (bytes_eq file.0 name) refl (looked_up opening name contents)
  where
    by_test : (test : Bool) → bytes_eq file.0 name ≡ test → (opened_contents opening name ≡ Some contents → IsSome (lookup (bytes_eq name) opening))
        → IsSome (lookup (bytes_eq name) (file ∷ opening))
    by_test true e go =
        let here : bytes_eq name file.0 ≡ true = nat_list_eq_equiv.symm name file.0 ∙ e in
        subst (λ (b : Bool). IsSome (cond b (Some file.1) (lookup (bytes_eq name) opening))) (sym here) refl
    by_test false e go =
        let other : bytes_eq name file.0 ≡ false = nat_list_eq_equiv.symm name file.0 ∙ e in
        let rest : opened_contents opening name ≡ Some contents = sym (ap (λ (b : Bool). cond b (Some file.1) (opened_contents opening name)) e) ∙ h in
        subst (λ (b : Bool). IsSome (cond b (Some file.1) (lookup (bytes_eq name) opening))) (sym other) (go rest)

pub distinct : (opening : Opening) → IsByName opening → IsDistinct bytes_eq (names_in opening)
distinct opening ordered =
    subst (λ (e : List ℕ → List ℕ → Bool). IsDistinct e (names_in opening)) (λ i x y. is_eq-slice_cmp x y i) (IsDistinct-from_sorted (slice_cmp nat_cmp) (names_in opening) ordered)

-- files of names that differ are no more than those among which each of them is found
few_files : (given opening : Opening) → IsByName opening → ((name contents : List ℕ) → opened_contents opening name ≡ Some contents → opened_contents given name ≡ Some contents)
    → length opening ≤ length given
few_files given opening ordered among =
    let short : length (names_in opening) ≤ length given =
    length-le_from_keys nat_list_eq_equiv (names_in opening) given (distinct opening ordered)
    (λ name h. let file = found opening name h in looked_up given name file.contents (among name file.contents file.is)) in
    let same : length (names_in opening) ≡ length opening = length-map opening (λ (file : OneFile). file.0) in
    omega (arith, short, same)

-- a name that stands behind another isn't that one
pub alone : (first : List ℕ) (others : Opening) (name contents : List ℕ) → AllByRecursion (λ y. bytes_eq first y ≡ false) (names_in others)
    → opened_contents others name ≡ Some contents → bytes_eq first name ≡ true → ⊥
alone first [] name contents all e here = cc
alone first (other ∷ others) name contents all e here = by_other (bytes_eq other.0 name) refl (λ rest. alone first others name contents all.1 rest here)
  where
    by_other : (test : Bool) → bytes_eq other.0 name ≡ test → (opened_contents others name ≡ Some contents → ⊥) → ⊥
    by_other true same go =
        let both : bytes_eq first other.0 ≡ true =
        nat_list_eq_equiv.symm first other.0 ∙ nat_list_eq_equiv.congr other.0 name first same ∙ nat_list_eq_equiv.symm name first ∙ here in
        let wrong : true ≡ false = sym both ∙ all.0 in cc
    by_other false apart go = go (sym (ap (λ (b : Bool). cond b (Some other.1) (opened_contents others name)) apart) ∙ e)

still_found : (file : OneFile) (opening : Opening) (name contents : List ℕ) → AllByRecursion (λ y. bytes_eq file.0 y ≡ false) (names_in opening)
    → opened_contents opening name ≡ Some contents → opened_contents (file ∷ opening) name ≡ Some contents
still_found file opening name contents all e = by_test (bytes_eq file.0 name) refl
  where
    by_test : (test : Bool) → bytes_eq file.0 name ≡ test → opened_contents (file ∷ opening) name ≡ Some contents
    by_test true same = absurd (alone file.0 opening name contents all e same)
    by_test false other = ap (λ (b : Bool). cond b (Some file.1) (opened_contents opening name)) other ∙ e

-- what holds of the contents under each name holds of each file
each_file : (P : List ℕ → Type 0) (opening : Opening) → IsDistinct bytes_eq (names_in opening)
    → ((name contents : List ℕ) → opened_contents opening name ≡ Some contents → P contents) → AllByRecursion (λ (file : OneFile). P file.1) opening
unfolding IsDistinct
each_file P [] apart h = tt
each_file P (file ∷ opening) apart h = (
  h file.0 file.1 (ap (λ (b : Bool). cond b (Some file.1) (opened_contents opening file.0)) (nat_list_eq_equiv.refl file.0)),
  each_file P opening apart.1 (λ name contents e. h name contents (still_found file opening name contents apart.0 e)),
)

short_found : (files : List FileLine) (name contents : List ℕ) → AllByRecursion (λ (f : FileLine). length f.contents ≤ most_contents) files
    → opened_contents (map (λ (f : FileLine). (f.name, f.contents)) files) name ≡ Some contents → length contents ≤ most_contents
short_found [] name contents h e = cc
short_found (file ∷ files) name contents h e = by_test (bytes_eq file.name name) refl (short_found files name contents h.1)
  where
    by_test : (test : Bool) → bytes_eq file.name name ≡ test
        → (opened_contents (map (λ (f : FileLine). (f.name, f.contents)) files) name ≡ Some contents → length contents ≤ most_contents) → length contents ≤ most_contents
    by_test true here go =
        let both : Some file.contents ≡ Some contents =
        sym (ap (λ (b : Bool). cond b (Some file.contents) (opened_contents (map (λ (f : FileLine). (f.name, f.contents)) files) name)) here) ∙ e in
        let same : file.contents ≡ contents = cc in
        subst (λ (c : List ℕ). length c ≤ most_contents) same h.0
    by_test false other go =
        go (sym (ap (λ (b : Bool). cond b (Some file.contents) (opened_contents (map (λ (f : FileLine). (f.name, f.contents)) files) name)) other) ∙ e)

sum_short : (opening : Opening) → AllByRecursion (λ (file : OneFile). length file.1 ≤ most_contents) opening
    → sum_by (λ (file : OneFile). length file.1) opening ≤ most_contents * length opening
sum_short [] h = omega arith
sum_short (file ∷ opening) h =
    let parts = sum_by-cons (λ (f : OneFile). length f.1) file opening in
    let rest = sum_short opening h.1 in
    let here : length file.1 ≤ most_contents = h.0 in
    omega (arith, parts, rest, here)

pub opening_small : {F : Type 0} (files : List FileLine) (book : Book F) → Opens (opened_contents (map (λ (f : FileLine). (f.name, f.contents)) files)) 0 1 book
    → AllByRecursion (λ (f : FileLine). length f.contents ≤ most_contents) files → length files ≤ most_lines
    → sum_by (λ (file : OneFile). length file.1) (opening_in book.begin) ≤ most_contents * most_lines
opening_small files book opens short few =
    let given : Opening = map (λ (f : FileLine). (f.name, f.contents)) files in
    let among : (name contents : List ℕ) → opened_contents (opening_in book.begin) name ≡ Some contents → opened_contents given name ≡ Some contents =
    λ name contents e. sym (opens.opening.whole name (has_form (MayKeep None) (opening_in book.begin) name contents opens.opening.taken e)) ∙ e in
    let count : length (opening_in book.begin) ≤ length given = few_files given (opening_in book.begin) opens.opening.ordered among in
    let same : length given ≡ length files = length-map files (λ (f : FileLine). (f.name, f.contents)) in
    let each = each_file (λ contents. length contents ≤ most_contents) (opening_in book.begin) (distinct (opening_in book.begin) opens.opening.ordered)
    (λ name contents e. short_found files name contents short (among name contents e)) in
    let sum = sum_short (opening_in book.begin) each in
    omega (arith, count, same, sum, few)

-- nor is any of them too large
pub opening_fits : (files : List FileLine) (name : List ℕ) → AllByRecursion (λ (f : FileLine). length f.contents ≤ most_contents) files → length files ≤ most_lines
    → IsTooLarge None (Some (opened_contents (map (λ (f : FileLine). (f.name, f.contents)) files))) name → ⊥
opening_fits files name short few large =
    let given : Opening = map (λ (f : FileLine). (f.name, f.contents)) files in
    let before : Opening = large.before in
    let among : (other contents : List ℕ) → opened_contents before other ≡ Some contents → opened_contents given other ≡ Some contents =
    λ other contents e. sym (large.whole other (has_form (MayKeep None) before other contents large.own e, has_form (λ (n : List ℕ). slice_cmp nat_cmp n name ≡ Less) before other contents large.smaller e)) ∙ e in
    let count : length before ≤ length given = few_files given before large.ordered among in
    let same : length given ≡ length files = length-map files (λ (f : FileLine). (f.name, f.contents)) in
    let each = each_file (λ contents. length contents ≤ most_contents) before (distinct before large.ordered)
    (λ other contents e. short_found files other contents short (among other contents e)) in
    let sum = sum_short before each in
    let passes = large.passes in
    let own : length passes.0 ≤ most_contents = short_found files name passes.0 short passes.1 in
    elim passes.2 [
      | inl long ↦ omega (arith, own, long)
      | inr many ↦ omega (arith, own, many, count, same, sum, few)
    ]
