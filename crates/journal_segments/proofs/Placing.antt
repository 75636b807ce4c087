-- What stands under a name in a list, by its place.
use Rattle.std.proofs.Common.{◌≡◌, ℕ, zero, suc, Bool, true, false, cond, length, ◌<◌, ◌+◌, List, [], ◌∷◌, ◌++◌, get_or, Option, None, Some, refl, ap, sym, ◌∙◌, subst, arith}
use Rattle.std.specs.Prelude.{option_map, slice_set, unwrap_or}
use Rattle.std.specs.Str.{bytes_eq}
use Rattle.std.proofs.lemmas.Slice.Eq.{bytes_eq-Decides}
use Rattle.wopi_model.specs.Begin.{at_name, put_name}
use Rattle.name_index.specs.Index.{number_of}
use Rattle.journal_segments.specs.Places.{IsNumbered, place_in}

abbrev pub later : Option ℕ → Option ℕ
later found = option_map (λ place. suc place) found

later_some : (found : Option ℕ) (i : ℕ) → later found ≡ Some i → (k : ℕ) × (found ≡ Some k) × (i ≡ suc k)
later_some None i e = absurd (cc e)
later_some (Some k) i e = (k, refl, sym (ap (λ (o : Option ℕ). unwrap_or o i) e))

pub later_none : (found : Option ℕ) → later found ≡ None → found ≡ None
later_none None e = refl
later_none (Some k) e = absurd (cc e)

abbrev pub found_or : Option ℕ → Option ℕ → Option ℕ
found_or None other = other
found_or (Some place) other = Some place

later_or : (found other : Option ℕ) → later (found_or found other) ≡ found_or (later found) (later other)
later_or None other = refl
later_or (Some place) other = refl

later_cond : (b : Bool) (n : ℕ) → later (cond b (Some n) None) ≡ cond b (Some (suc n)) None
later_cond true n = refl
later_cond false n = refl

or_none : (found : Option ℕ) → found ≡ found_or found None
or_none None = refl
or_none (Some place) = refl

module _ {A : Type 0} where
  -- ---- a name that stands there

  pub at_there : (other : A) (files : List (List ℕ × A)) (name : List ℕ) (i : ℕ) (d : List ℕ × A) → place_in files name ≡ Some i → at_name other files name ≡ (get_or files i d).1
  at_there other [] name i d e = absurd (cc e)
  at_there other (one ∷ files) name i d e =
      elim (bytes_eq one.0 name) as (λ b. cond b (Some 0) (later (place_in files name)) ≡ Some i → cond b one.1 (at_name other files name) ≡ (get_or (one ∷ files) i d).1) [
        | true ↦ λ h. subst (λ (n : ℕ). one.1 ≡ (get_or (one ∷ files) n d).1) (ap (λ (o : Option ℕ). unwrap_or o 0) h) refl
        | false ↦ λ h.
            let (k, found, is) = later_some (place_in files name) i h in
            subst (λ (n : ℕ). at_name other files name ≡ (get_or (one ∷ files) n d).1) (sym is) (at_there other files name k d found)
      ] e

  pub put_there : (files : List (List ℕ × A)) (name : List ℕ) (it : A) (i : ℕ) (d : List ℕ × A) → place_in files name ≡ Some i → put_name name it files ≡ slice_set files i ((get_or files i d).0, it)
  put_there [] name it i d e = absurd (cc e)
  put_there (one ∷ files) name it i d e =
      elim (bytes_eq one.0 name) as (λ b. cond b (Some 0) (later (place_in files name)) ≡ Some i →
      cond b ((one.0, it) ∷ files) (one ∷ put_name name it files) ≡ slice_set (one ∷ files) i ((get_or (one ∷ files) i d).0, it)) [
        | true ↦ λ h.
            subst (λ (n : ℕ). (one.0, it) ∷ files ≡ slice_set (one ∷ files) n ((get_or (one ∷ files) n d).0, it)) (ap (λ (o : Option ℕ). unwrap_or o 0) h) refl
        | false ↦ λ h.
            let (k, found, is) = later_some (place_in files name) i h in
            subst (λ (n : ℕ). one ∷ put_name name it files ≡ slice_set (one ∷ files) n ((get_or (one ∷ files) n d).0, it)) (sym is)
            (ap (λ (rest : List (List ℕ × A)). one ∷ rest) (put_there files name it k d found))
      ] e

  pub within : (files : List (List ℕ × A)) (name : List ℕ) (i : ℕ) → place_in files name ≡ Some i → i < length files
  within [] name i e = absurd (cc e)
  within (one ∷ files) name i e =
      elim (bytes_eq one.0 name) as (λ b. cond b (Some 0) (later (place_in files name)) ≡ Some i → i < suc (length files)) [
        | true ↦ λ h. let is = ap (λ (o : Option ℕ). unwrap_or o 0) h in omega (arith, is)
        | false ↦ λ h. let (k, found, is) = later_some (place_in files name) i h in let below = within files name k found in omega (arith, is, below)
      ] e

  -- what stands under it may change
  pub place_put : (files : List (List ℕ × A)) (name : List ℕ) (it : A) (i : ℕ) → place_in files name ≡ Some i → (x : List ℕ) → place_in (put_name name it files) x ≡ place_in files x
  place_put [] name it i e x = absurd (cc e)
  place_put (one ∷ files) name it i e x =
      elim (bytes_eq one.0 name) as (λ b. cond b (Some 0) (later (place_in files name)) ≡ Some i →
      place_in (cond b ((one.0, it) ∷ files) (one ∷ put_name name it files)) x ≡ place_in (one ∷ files) x) [
        | true ↦ λ h. refl
        | false ↦ λ h.
            let (k, found, is) = later_some (place_in files name) i h in
            ap (λ (o : Option ℕ). cond (bytes_eq one.0 x) (Some 0) (later o)) (place_put files name it k found x)
      ] e

  -- ---- a name that doesn't

  pub at_none : (other : A) (files : List (List ℕ × A)) (name : List ℕ) → place_in files name ≡ None → at_name other files name ≡ other
  at_none other [] name e = refl
  at_none other (one ∷ files) name e =
      elim (bytes_eq one.0 name) as (λ b. cond b (Some 0) (later (place_in files name)) ≡ None → cond b one.1 (at_name other files name) ≡ other) [
        | true ↦ λ h. absurd (cc h)
        | false ↦ λ h. at_none other files name (later_none (place_in files name) h)
      ] e

  pub put_none : (files : List (List ℕ × A)) (name : List ℕ) (it : A) → place_in files name ≡ None → put_name name it files ≡ files ++ (name, it) ∷ []
  put_none [] name it e = refl
  put_none (one ∷ files) name it e =
      elim (bytes_eq one.0 name) as (λ b. cond b (Some 0) (later (place_in files name)) ≡ None →
      cond b ((one.0, it) ∷ files) (one ∷ put_name name it files) ≡ one ∷ (files ++ (name, it) ∷ [])) [
        | true ↦ λ h. absurd (cc h)
        | false ↦ λ h. ap (λ (rest : List (List ℕ × A)). one ∷ rest) (put_none files name it (later_none (place_in files name) h))
      ] e

  -- ---- one more

  pub place_push : (files : List (List ℕ × A)) (name : List ℕ) (it : A) (x : List ℕ) →
      place_in (files ++ (name, it) ∷ []) x ≡ found_or (place_in files x) (cond (bytes_eq name x) (Some (length files)) None)
  place_push [] name it x = refl
  place_push (one ∷ files) name it x =
      let rest = place_push files name it x in
      let there = place_in files x in
      let last = cond (bytes_eq name x) (Some (length files)) None in
      let end = cond (bytes_eq name x) (Some (suc (length files))) None in
      elim (bytes_eq one.0 x) as (λ b. cond b (Some 0) (later (place_in (files ++ (name, it) ∷ []) x)) ≡ found_or (cond b (Some 0) (later there)) end) [
        | true ↦ refl
        | false ↦ ap later rest ∙ later_or there last ∙ ap (found_or (later there)) (later_cond (bytes_eq name x) (length files))
      ]

  -- one of a name that stands there already
  pub numbered_known : (names : List (List ℕ × ℕ)) (files : List (List ℕ × A)) (name : List ℕ) (it : A) (i : ℕ) → IsNumbered names files → number_of names name ≡ Some i →
      IsNumbered names (files ++ (name, it) ∷ [])
  numbered_known names files name it i numbered found x =
      let there : place_in files name ≡ Some i = sym (numbered name) ∙ found in
      numbered x
      ∙ elim (bytes_eq name x) as (λ b. bytes_eq name x ≡ b → place_in files x ≡ found_or (place_in files x) (cond b (Some (length files)) None)) [
        | true ↦ λ e.
            let same : name ≡ x = (bytes_eq-Decides name x).0 e in
            let here : place_in files x ≡ Some i = subst (λ (n : List ℕ). place_in files n ≡ Some i) same there in
            here ∙ ap (λ (o : Option ℕ). found_or o (Some (length files))) (sym here)
        | false ↦ λ e. or_none (place_in files x)
      ] refl
      ∙ sym (place_push files name it x)

  -- one of a new name
  pub numbered_new : (names new : List (List ℕ × ℕ)) (files : List (List ℕ × A)) (name : List ℕ) (it : A) → IsNumbered names files → number_of names name ≡ None →
      ((x : List ℕ) → number_of new x ≡ cond (bytes_eq name x) (Some (length files)) (number_of names x)) → IsNumbered new (files ++ (name, it) ∷ [])
  numbered_new names new files name it numbered none is x =
      let there : place_in files name ≡ None = sym (numbered name) ∙ none in
      is x
      ∙ elim (bytes_eq name x) as (λ b. bytes_eq name x ≡ b → cond b (Some (length files)) (number_of names x) ≡ found_or (place_in files x) (cond b (Some (length files)) None)) [
        | true ↦ λ e.
            let same : name ≡ x = (bytes_eq-Decides name x).0 e in
            let here : place_in files x ≡ None = subst (λ (n : List ℕ). place_in files n ≡ None) same there in
            ap (λ (o : Option ℕ). found_or o (Some (length files))) (sym here)
        | false ↦ λ e. numbered x ∙ or_none (place_in files x)
      ] refl
      ∙ sym (place_push files name it x)

  -- what stands under a name has changed
  pub numbered_put : (names : List (List ℕ × ℕ)) (files : List (List ℕ × A)) (name : List ℕ) (it : A) (i : ℕ) (d : List ℕ × A) → IsNumbered names files → place_in files name ≡ Some i →
      IsNumbered names (slice_set files i ((get_or files i d).0, it))
  numbered_put names files name it i d numbered found x =
      numbered x ∙ sym (place_put files name it i found x) ∙ ap (λ (l : List (List ℕ × A)). place_in l x) (put_there files name it i d found)
