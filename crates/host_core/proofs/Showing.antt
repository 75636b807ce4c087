-- The files that an index leads to, as a listing tells them.
use Rattle.std.proofs.Common.{◌≡◌, ◌↔◌, inl, inr, ℕ, zero, suc, ◌<◌, ◌-◌, Bool, true, false, if◌then◌else◌, List, [], ◌∷◌, ◌++◌, length, Option, None, Some, option_map, unwrap_or, get_or, slice_get, refl, sym, ap, subst, ◌∙◌, arith, append_assoc}
use Rattle.std.proofs.lemmas.Option.{slice_get_read}
use Rattle.std.proofs.lemmas.List.Elements.{Contains-append_left, Contains-append_right, Contains-append_cases}
use Rattle.std.proofs.lemmas.Slice.Eq.{bytes_eq-Decides}
use Rattle.std.specs.Str.{bytes_eq}
use Rattle.std.specs.List.{AllByRecursion, Contains}
use Rattle.std.specs.List.Sorted.{IsStrictlySortedBy}
use Rattle.std.specs.Ordering.{nat_cmp}
use Rattle.std.specs.declared.cmp.Ordering.TheVariants.{Less}
use Rattle.std.specs.Cmp.Lexicographic.{slice_cmp}
use Rattle.wopi_model.specs.File.{File, never_met}
use Rattle.host_core.specs.Places.{first_of}
use Rattle.kept_locks.specs.Locks.{Standing}
use Rattle.name_index.specs.Index.{number_of, names_of, IsInOrder}
use Rattle.host_core.specs.declared.children.Child.{Child}
use Rattle.host_core.specs.declared.file.KeptFile.{KeptFile}
use Rattle.host_core.specs.Names.{place_in}
use Rattle.host_core.specs.Children.{IsChild, AreChildren, child_names, child_in}
use Rattle.host_core.specs.Files.{file_of, is_named, files_of}
use Rattle.host_core.specs.Numbers.{named, IsNumbered}
use Rattle.host_core.specs.Whole.{Whole, whole, standing_at, joined}
use Rattle.host_core.proofs.Joining.{later, joined_cons}

-- files that exist alike are listed alike
pub same_children : (files other : List ℕ → File) (children : List Child) → ((name : List ℕ) → (files name).contents ≡ (other name).contents) → ((name : List ℕ) → (files name).version ≡ (other name).version)
    → AreChildren files children → AreChildren other children
same_children files other children contents version are = record {
  ordered = are.ordered;
  exact = λ child. (
    λ c. let (size, number) = (are.exact child).0 c in
        (ap (option_map (λ (b : List ℕ). length b)) (sym (contents child.name)) ∙ size, sym (version child.name) ∙ number),
    λ is. (are.exact child).1 (ap (option_map (λ (b : List ℕ). length b)) (contents child.name) ∙ is.0, version child.name ∙ is.1),
  );
}

-- the child, where there is one
abbrev pub shown : Option Child → List Child
shown None = []
shown (Some child) = child ∷ []

-- the child of a file that may be there
abbrev pub child_at : Option KeptFile → Option Child
child_at None = None
child_at (Some kept) = child_in kept

-- the children that the numbers of an index lead to
abbrev pub listed : List KeptFile → List (List ℕ × ℕ) → List Child
listed files [] = []
listed files (pair ∷ pairs) = shown (child_at (slice_get files pair.1)) ++ listed files pairs

-- the numbers are those of files
abbrev pub AreBelow : ℕ → List (List ℕ × ℕ) → Type 0
AreBelow count pairs = AllByRecursion (λ pair. pair.1 < count) pairs

-- the first file of a name
abbrev kept_at : List KeptFile → List ℕ → Option KeptFile
kept_at [] name = None
kept_at (kept ∷ files) name = if bytes_eq kept.name name then Some kept else kept_at files name

abbrev got : List KeptFile → Option ℕ → Option KeptFile
got files None = None
got files (Some number) = slice_get files number

got_later : (kept : KeptFile) (files : List KeptFile) (place : Option ℕ) → got (kept ∷ files) (option_map suc place) ≡ got files place
got_later kept files None = refl
got_later kept files (Some number) = refl

by_place : (files : List KeptFile) (name : List ℕ) → kept_at files name ≡ got files (place_in (named files) name)
by_place [] name = refl
by_place (kept ∷ files) name = go (by_place files name ∙ sym (got_later kept files (place_in (named files) name))) (bytes_eq kept.name name) where
  go : kept_at files name ≡ got (kept ∷ files) (option_map suc (place_in (named files) name))
      → (b : Bool) → (if b then Some kept else kept_at files name) ≡ got (kept ∷ files) (if b then Some 0 else option_map suc (place_in (named files) name))
  go rest true = refl
  go rest false = rest

abbrev contents_at : Option KeptFile → Option (List ℕ)
contents_at None = None
contents_at (Some kept) = kept.contents

abbrev version_at : ℕ → Option KeptFile → ℕ
version_at first None = first - 1
version_at first (Some kept) = kept.version

abbrev file_from : ℕ → Option Whole → File
file_from first found = unwrap_or (option_map file_of found) (never_met first)

found_contents : (first : ℕ) (files : List KeptFile) (ss : List Standing) (name : List ℕ) → (files_of first (joined files ss) name).contents ≡ contents_at (kept_at files name)
found_contents first [] ss name = refl
found_contents first (kept ∷ files) ss name =
    ap (λ (l : List Whole). (files_of first l name).contents) (joined_cons kept files ss)
    ∙ go (found_contents first files (later ss) name) (bytes_eq kept.name name) where
      go : (files_of first (joined files (later ss)) name).contents ≡ contents_at (kept_at files name)
          → (b : Bool) → (file_from first (if b then Some (whole kept (standing_at ss 0)) else first_of (is_named name) (joined files (later ss)))).contents ≡ contents_at (if b then Some kept else kept_at files name)
      go rest true = refl
      go rest false = rest

found_version : (first : ℕ) (files : List KeptFile) (ss : List Standing) (name : List ℕ) → (files_of first (joined files ss) name).version ≡ version_at first (kept_at files name)
found_version first [] ss name = refl
found_version first (kept ∷ files) ss name =
    ap (λ (l : List Whole). (files_of first l name).version) (joined_cons kept files ss)
    ∙ go (found_version first files (later ss) name) (bytes_eq kept.name name) where
      go : (files_of first (joined files (later ss)) name).version ≡ version_at first (kept_at files name)
          → (b : Bool) → (file_from first (if b then Some (whole kept (standing_at ss 0)) else first_of (is_named name) (joined files (later ss)))).version ≡ version_at first (if b then Some kept else kept_at files name)
      go rest true = refl
      go rest false = rest

named_at : (files : List KeptFile) (name : List ℕ) (kept : KeptFile) → kept_at files name ≡ Some kept → kept.name ≡ name
named_at [] name kept e = absurd (cc e)
named_at (first ∷ files) name kept e = go (named_at files name kept) (bytes_eq first.name name) refl e where
  go : (kept_at files name ≡ Some kept → kept.name ≡ name) → (b : Bool) → bytes_eq first.name name ≡ b → (if b then Some first else kept_at files name) ≡ Some kept → kept.name ≡ name
  go rest true h e = let same : first ≡ kept = ap (λ (o : Option KeptFile). unwrap_or o first) e in
      sym (ap (λ (k : KeptFile). k.name) same) ∙ (bytes_eq-Decides first.name name).0 h
  go rest false h e = rest e

-- what a file shows of its child
child_is : (kept : KeptFile) (child : Child) → child_in kept ≡ Some child
    → (kept.name ≡ child.name) × ((option_map (λ (b : List ℕ). length b) kept.contents ≡ Some child.size) × (kept.version ≡ child.version))
child_is kept child e = go kept.contents refl e where
  go : (contents : Option (List ℕ)) → kept.contents ≡ contents → option_map (λ (b : List ℕ). record { name = kept.name; version = kept.version; size = length b }) contents ≡ Some child
      → (kept.name ≡ child.name) × ((option_map (λ (b : List ℕ). length b) kept.contents ≡ Some child.size) × (kept.version ≡ child.version))
  go None h e = absurd (cc e)
  go (Some b) h e =
      let one : Child = record { name = kept.name; version = kept.version; size = length b } in
      let same : one ≡ child = ap (λ (o : Option Child). unwrap_or o one) e in (
        ap (λ (c : Child). c.name) same,
        (ap (option_map (λ (l : List ℕ). length l)) h ∙ ap (λ (c : Child). Some c.size) same, ap (λ (c : Child). c.version) same),
      )

is_child : (kept : KeptFile) (child : Child) → kept.name ≡ child.name → option_map (λ (b : List ℕ). length b) kept.contents ≡ Some child.size → kept.version ≡ child.version
    → child_in kept ≡ Some child
is_child kept child name size version = go kept.contents size where
  go : (contents : Option (List ℕ)) → option_map (λ (b : List ℕ). length b) contents ≡ Some child.size
      → option_map (λ (b : List ℕ). record { name = kept.name; version = kept.version; size = length b }) contents ≡ Some child
  go None e = absurd (cc e)
  go (Some b) e =
      let long : length b ≡ child.size = ap (λ (o : Option ℕ). unwrap_or o 0) e in
      λ i. Some (record { name = name i; version = version i; size = long i })

in_shown : (o : Option Child) (child : Child) → Contains (shown o) child → o ≡ Some child
in_shown None child (i, lt, e) = absurd (omega (arith, lt))
in_shown (Some one) child (zero, lt, e) = ap (λ (c : Child). Some c) e
in_shown (Some one) child (suc i, lt, e) = absurd (omega (arith, lt))

of_shown : (o : Option Child) (child : Child) → o ≡ Some child → Contains (shown o) child
of_shown o child e = subst (λ (p : Option Child). Contains (shown p) child) (sym e) (0, omega arith, refl)

-- a pair that leads to the child
pub record LeadsTo (files : List KeptFile) (pairs : List (List ℕ × ℕ)) (child : Child) : Type 0 where
  pub pair : List ℕ × ℕ
  pub there : Contains pairs pair
  pub leads : child_at (slice_get files pair.1) ≡ Some child

later_in : (pair other : List ℕ × ℕ) (pairs : List (List ℕ × ℕ)) → Contains pairs other → Contains (pair ∷ pairs) other
later_in pair other pairs (i, lt, e) = (suc i, omega (arith, lt), e)

led : (files : List KeptFile) (pairs : List (List ℕ × ℕ)) (child : Child) → Contains (listed files pairs) child → LeadsTo files pairs child
led files [] child (i, lt, e) = absurd (omega (arith, lt))
led files (pair ∷ pairs) child c = elim (Contains-append_cases (shown (child_at (slice_get files pair.1))) (listed files pairs) child c) [
  | inl here ↦ record { pair = pair; there = (0, omega arith, refl); leads = in_shown (child_at (slice_get files pair.1)) child here }
  | inr there ↦ let rest = led files pairs child there in record { pair = rest.pair; there = later_in pair rest.pair pairs rest.there; leads = rest.leads }
]

leads_in : (files : List KeptFile) (pairs : List (List ℕ × ℕ)) (pair : List ℕ × ℕ) (child : Child) → Contains pairs pair → child_at (slice_get files pair.1) ≡ Some child → Contains (listed files pairs) child
leads_in files [] pair child (i, lt, e) h = absurd (omega (arith, lt))
leads_in files (one ∷ pairs) pair child (zero, lt, e) h =
    Contains-append_left (shown (child_at (slice_get files one.1))) (listed files pairs) child
    (of_shown (child_at (slice_get files one.1)) child (ap (λ (p : List ℕ × ℕ). child_at (slice_get files p.1)) e ∙ h))
leads_in files (one ∷ pairs) pair child (suc i, lt, e) h =
    Contains-append_right (shown (child_at (slice_get files one.1))) (listed files pairs) child (leads_in files pairs pair child (i, omega (arith, lt), e) h)

-- a name that has a number stands in the index with it
has_pair : (pairs : List (List ℕ × ℕ)) (name : List ℕ) (number : ℕ) → number_of pairs name ≡ Some number → (one : List ℕ × ℕ) × Contains pairs one × (one.1 ≡ number)
has_pair [] name number e = absurd (cc e)
has_pair (pair ∷ pairs) name number e = go (has_pair pairs name number) (bytes_eq pair.0 name) e where
  go : (number_of pairs name ≡ Some number → (one : List ℕ × ℕ) × Contains pairs one × (one.1 ≡ number))
      → (b : Bool) → (if b then Some pair.1 else number_of pairs name) ≡ Some number → (one : List ℕ × ℕ) × Contains (pair ∷ pairs) one × (one.1 ≡ number)
  go rest true e = (pair, (0, omega arith, refl), ap (λ (o : Option ℕ). unwrap_or o number) e)
  go rest false e = let (one, there, is) = rest e in (one, later_in pair one pairs there, is)

all_in : {A : Type 0} (P : A → Type 0) (xs : List A) (x : A) → AllByRecursion P xs → Contains xs x → P x
all_in P [] x all (i, lt, e) = absurd (omega (arith, lt))
all_in P (y ∷ xs) x all (zero, lt, e) = subst P e all.0
all_in P (y ∷ xs) x all (suc i, lt, e) = all_in P xs x all.1 (i, omega (arith, lt), e)

-- each pair's number is the one of its name
abbrev AreOwnNumbers : List (List ℕ × ℕ) → List (List ℕ × ℕ) → Type 0
AreOwnNumbers index pairs = AllByRecursion (λ pair. number_of index pair.0 ≡ Some pair.1) pairs

place_below : (files : List KeptFile) (name : List ℕ) (number : ℕ) → place_in (named files) name ≡ Some number → number < length files
place_below [] name number e = absurd (cc e)
place_below (kept ∷ files) name number e = go (place_below files name) (bytes_eq kept.name name) (place_in (named files) name) refl e where
  go : ((n : ℕ) → place_in (named files) name ≡ Some n → n < length files) → (b : Bool) (o : Option ℕ) → place_in (named files) name ≡ o → (if b then Some 0 else option_map suc o) ≡ Some number → number < suc (length files)
  go rest true o h e = let zero_is : 0 ≡ number = ap (λ (p : Option ℕ). unwrap_or p number) e in omega (arith, zero_is)
  go rest false None h e = absurd (cc e)
  go rest false (Some place) h e =
      let lt = rest place h in
      let is : suc place ≡ number = ap (λ (p : Option ℕ). unwrap_or p number) e in
      omega (arith, lt, is)

module _ (index : List (List ℕ × ℕ)) (files : List KeptFile) (numbered : IsNumbered index (named files)) where
  -- a pair leads to the file of its name
  found_by : (pair : List ℕ × ℕ) → number_of index pair.0 ≡ Some pair.1 → kept_at files pair.0 ≡ slice_get files pair.1
  found_by pair own = by_place files pair.0 ∙ ap (got files) (sym (numbered pair.0) ∙ own)

  to_child : (first : ℕ) (ss : List Standing) (child : Child) (pair : List ℕ × ℕ) → number_of index pair.0 ≡ Some pair.1 → child_at (slice_get files pair.1) ≡ Some child → IsChild (files_of first (joined files ss)) child
  to_child first ss child pair own leads = go (slice_get files pair.1) refl leads (found_by pair own) where
    go : (o : Option KeptFile) → slice_get files pair.1 ≡ o → child_at o ≡ Some child → kept_at files pair.0 ≡ slice_get files pair.1 → IsChild (files_of first (joined files ss)) child
    go None h e by = absurd (cc e)
    go (Some kept) h e by =
        let parts = child_is kept child e in
        let name : pair.0 ≡ child.name = sym (named_at files pair.0 kept (by ∙ h)) ∙ parts.0 in
        let at : kept_at files child.name ≡ Some kept = ap (kept_at files) (sym name) ∙ (by ∙ h) in (
          ap (option_map (λ (b : List ℕ). length b)) (found_contents first files ss child.name ∙ ap contents_at at) ∙ parts.1.0,
          found_version first files ss child.name ∙ (ap (version_at first) at ∙ parts.1.1),
        )

  -- a file that has a place is led to
  led_to : (child : Child) (kept : KeptFile) → kept_at files child.name ≡ Some kept → child_in kept ≡ Some child → Contains (listed files index) child
  led_to child kept at e = go (place_in (named files) child.name) refl where
    go : (o : Option ℕ) → place_in (named files) child.name ≡ o → Contains (listed files index) child
    go None h = absurd (cc (sym at ∙ (by_place files child.name ∙ ap (got files) h)))
    go (Some number) h =
        let (pair, there, is) = has_pair index child.name number (numbered child.name ∙ h) in
        let found : slice_get files number ≡ Some kept = sym (ap (got files) h) ∙ (sym (by_place files child.name) ∙ at) in
        leads_in files index pair child there (ap (λ (n : ℕ). child_at (slice_get files n)) is ∙ (ap child_at found ∙ e))

  of_child : (first : ℕ) (child : Child) → option_map (λ (b : List ℕ). length b) (contents_at (kept_at files child.name)) ≡ Some child.size → version_at first (kept_at files child.name) ≡ child.version → Contains (listed files index) child
  of_child first child size version = go (kept_at files child.name) refl size version where
    go : (o : Option KeptFile) → kept_at files child.name ≡ o → option_map (λ (b : List ℕ). length b) (contents_at o) ≡ Some child.size → version_at first o ≡ child.version → Contains (listed files index) child
    go None h size version = absurd (cc size)
    go (Some kept) h size version = led_to child kept h (is_child kept child (named_at files child.name kept h) size version)

  exactly : (first : ℕ) (ss : List Standing) → AreOwnNumbers index index → (child : Child) → Contains (listed files index) child ↔ IsChild (files_of first (joined files ss)) child
  exactly first ss own child = (
    λ c. let leads = led files index child c in
        let pair = leads.pair in
        to_child first ss child pair (all_in (λ one. number_of index one.0 ≡ Some one.1) index pair own leads.there) leads.leads,
    λ is. of_child first child (ap (option_map (λ (b : List ℕ). length b)) (sym (found_contents first files ss child.name)) ∙ is.0) (sym (found_version first files ss child.name) ∙ is.1),
  )

  name_is : (pair : List ℕ × ℕ) → number_of index pair.0 ≡ Some pair.1 → (child : Child) → child_at (slice_get files pair.1) ≡ Some child → pair.0 ≡ child.name
  name_is pair own child e = go (slice_get files pair.1) refl e (found_by pair own) where
    go : (o : Option KeptFile) → slice_get files pair.1 ≡ o → child_at o ≡ Some child → kept_at files pair.0 ≡ slice_get files pair.1 → pair.0 ≡ child.name
    go None h e by = absurd (cc e)
    go (Some kept) h e by = let parts = child_is kept child e in sym (named_at files pair.0 kept (by ∙ h)) ∙ parts.0

  below_names : (name : List ℕ) (pairs : List (List ℕ × ℕ)) → AreOwnNumbers index pairs → AllByRecursion (λ other. slice_cmp nat_cmp name other ≡ Less) (names_of pairs)
      → AllByRecursion (λ other. slice_cmp nat_cmp name other ≡ Less) (child_names (listed files pairs))
  below_names name [] own all = tt
  below_names name (pair ∷ pairs) own all = go (below_names name pairs own.1 all.1) (child_at (slice_get files pair.1)) (name_is pair own.0) where
    go : AllByRecursion (λ other. slice_cmp nat_cmp name other ≡ Less) (child_names (listed files pairs)) → (o : Option Child) → ((child : Child) → o ≡ Some child → pair.0 ≡ child.name) → AllByRecursion (λ other. slice_cmp nat_cmp name other ≡ Less) (child_names (shown o ++ listed files pairs))
    go rest None same = rest
    go rest (Some child) same = (subst (λ (n : List ℕ). slice_cmp nat_cmp name n ≡ Less) (same child refl) all.0, rest)

  -- the children stand in the order of the index
  in_order : (pairs : List (List ℕ × ℕ)) → AreOwnNumbers index pairs → IsStrictlySortedBy (slice_cmp nat_cmp) (names_of pairs)
      → IsStrictlySortedBy (slice_cmp nat_cmp) (child_names (listed files pairs))
  unfolding IsStrictlySortedBy
  in_order [] own sorted = tt
  in_order (pair ∷ pairs) own sorted = go (in_order pairs own.1 sorted.1) (child_at (slice_get files pair.1)) (name_is pair own.0) where
    go : IsStrictlySortedBy (slice_cmp nat_cmp) (child_names (listed files pairs)) → (o : Option Child) → ((child : Child) → o ≡ Some child → pair.0 ≡ child.name) → IsStrictlySortedBy (slice_cmp nat_cmp) (child_names (shown o ++ listed files pairs))
    go rest None same = rest
    go rest (Some child) same = (
      subst (λ (n : List ℕ). AllByRecursion (λ other. slice_cmp nat_cmp n other ≡ Less) (child_names (listed files pairs))) (same child refl) (below_names pair.0 pairs own.1 sorted.0),
      rest,
    )

  pub are_children : IsInOrder index → (first : ℕ) (ss : List Standing) → AreChildren (files_of first (joined files ss)) (listed files index)
  are_children is first ss = record { ordered = in_order index is.own is.ordered; exact = exactly first ss is.own }

  below_all : (pairs : List (List ℕ × ℕ)) → AreOwnNumbers index pairs → AreBelow (length files) pairs
  below_all [] own = tt
  below_all (pair ∷ pairs) own = (place_below files pair.0 pair.1 (sym (numbered pair.0) ∙ own.0), below_all pairs own.1)

  -- each number of the index is that of a file
  pub are_below : IsInOrder index → AreBelow (length files) index
  are_below is = below_all index is.own

-- one pair more was looked at
pub turned : (files : List KeptFile) (items after all : List Child) (pairs rest : List (List ℕ × ℕ)) (pair : List ℕ × ℕ) (file : KeptFile) (o : Option Child)
    → pairs ≡ pair ∷ rest → file ≡ get_or files pair.1 file → o ≡ child_in file → after ≡ items ++ shown o
    → (items ++ listed files pairs ≡ all) × AreBelow (length files) pairs → (after ++ listed files rest ≡ all) × AreBelow (length files) rest
turned files items after all pairs rest pair file o first at is more before =
    let below : AreBelow (length files) (pair ∷ rest) = subst (AreBelow (length files)) first before.1 in
    let here : shown o ≡ shown (child_at (slice_get files pair.1)) = ap shown (is ∙ sym (ap child_at (slice_get_read files (length files) pair.1 file refl below.0 at))) in (
      ap (λ (l : List Child). l ++ listed files rest) more ∙ append_assoc items (shown o) (listed files rest)
          ∙ ap (λ (l : List Child). items ++ (l ++ listed files rest)) here ∙ ap (λ (l : List (List ℕ × ℕ)). items ++ listed files l) (sym first) ∙ before.0,
      below.1,
    )
