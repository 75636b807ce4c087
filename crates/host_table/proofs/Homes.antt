-- The files of a shard have names of that shard.
use Rattle.std.proofs.Common.{◌≡◌, inl, inr, ℕ, suc, max, Bool, true, false, if◌then◌else◌, Option, None, Some, option_map, List, [], ◌∷◌, length, refl, sym, ap, subst, ◌∙◌, arith}
use Rattle.std.proofs.lemmas.Bool.Decides.{eqb_tells}
use Rattle.std.proofs.lemmas.Slice.Eq.{bytes_eq-Decides}
use Rattle.std.specs.List.{AllByRecursion, Contains}
use Rattle.std.specs.Str.{bytes_eq}
use Rattle.wopi_text.specs.FileName.{shard_of}
use Rattle.wopi_model.specs.File.{File, never_met}
use Rattle.wopi_model.specs.Settle.{settled}
use Rattle.wopi_model.specs.Shard as model
use Rattle.wopi_model.specs.Begin.{at_name}
use Rattle.wopi_model.specs.Shard.{Step, begun, at_moment, happens, after}
use Rattle.host_core.specs.declared.children.Child.{Child}
use Rattle.host_core.specs.declared.listing.Listing.{Listing}
use Rattle.host_core.specs.Children.{AreChildren}
use Rattle.host_core.specs.Entries.{Made}
use Rattle.host_core.specs.Opening.{MayKeep}
use Rattle.host_core.specs.Times.{untimed}
use Rattle.host_core.specs.Value.{Book}
use Rattle.host_table.specs.Histories.{AreNamed}

each_of : {A : Type 0} (P : A → Type 0) (xs : List A) → ((x : A) → Contains xs x → P x) → AllByRecursion P xs
each_of P [] f = tt
each_of P (x ∷ xs) f = (f x (0, omega arith, refl), each_of P xs (λ y (i, lt, e). f y (suc i, omega (arith, lt), e)))

module _ (k : ℕ) (name : List ℕ) (apart : shard_of name ≡ k → ⊥) where
  -- a name of another shard
  other_name : (one : List ℕ) → shard_of one ≡ k → bytes_eq one name ≡ true → ⊥
  other_name one home e = apart (sym (ap shard_of ((bytes_eq-Decides one name).0 e)) ∙ home)

  if_other : {A : Type 0} (one : List ℕ) (x y : A) → shard_of one ≡ k → (if bytes_eq one name then x else y) ≡ y
  if_other one x y home = go (bytes_eq one name) refl where
    go : (b : Bool) → bytes_eq one name ≡ b → (if b then x else y) ≡ y
    go true e = absurd (other_name one home e)
    go false e = refl

  not_begun : (other : File) (files : List (List ℕ × File)) → other.contents ≡ None → AllByRecursion (λ file. MayKeep (Some k) file.0) files → (at_name other files name).contents ≡ None
  not_begun other [] none all = none
  not_begun other ((one, file) ∷ files) none all = ap (λ (f : File). f.contents) (if_other one file (at_name other files name) all.0.1) ∙ not_begun other files none all.1

  not_made : (shard : model.Shard) (made : List Made) → AreNamed (Some k) made → (shard.files name).contents ≡ None → ((after shard (untimed made)).files name).contents ≡ None
  not_made shard [] named none = none
  not_made shard (one ∷ made) named none =
      let now = max shard.now one.step.moment in
      not_made (happens shard (Step one.step)) made named.1
      (ap (λ (f : File). f.contents) (if_other one.step.call.name _ (settled (shard.files name) now) named.0) ∙ none)

nothing_there : (contents : Option (List ℕ)) (size : ℕ) → option_map (λ (b : List ℕ). length b) contents ≡ Some size → contents ≡ None → ⊥
nothing_there None size e h = cc e
nothing_there (Some b) size e h = cc h

-- the children of a shard that began like that have names of that shard
pub children_home : {F : Type 0} (k : ℕ) (base : Book F) (seen : List Made) (listing : Listing) → base.only ≡ Some k → AllByRecursion (λ file. MayKeep base.only file.0) base.begin.files → AreNamed base.only seen
    → AreChildren (after (begun base.begin) (untimed seen)).files listing.children → AllByRecursion (λ child. shard_of child.name ≡ k) listing.children
children_home k base seen listing only names named are = each_of (λ child. shard_of child.name ≡ k) listing.children (λ child there. home child ((are.exact child).0 there).0) where
  home : (child : Child) → option_map (λ (b : List ℕ). length b) ((after (begun base.begin) (untimed seen)).files child.name).contents ≡ Some child.size → shard_of child.name ≡ k
  home child size = elim (eqb_tells (shard_of child.name) k) [
    | inl same ↦ same.1
    | inr other ↦ absurd (nothing_there _ child.size size
        (not_made k child.name other.1 (begun base.begin) seen (subst (λ (o : Option ℕ). AreNamed o seen) only named)
        (not_begun k child.name other.1 (never_met base.begin.first) base.begin.files refl (subst (λ (o : Option ℕ). AllByRecursion (λ file. MayKeep o file.0) base.begin.files) only names))))
  ]
