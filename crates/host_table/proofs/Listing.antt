-- Where entries stand, one after another.
use Rattle.std.proofs.Common.{◌≡◌, ℕ, zero, suc, ◌+◌, Option, Some, List, [], ◌∷◌, ◌++◌, length, take, slice_get, refl, ap, sym, ◌∙◌, arith, append_assoc, add-one}
use Rattle.std.proofs.lemmas.List.{append-nil}
use Rattle.outside.specs.Folder.{Files}
use Rattle.host_core.specs.Entries.{Made}
use Rattle.host_core.specs.Value.{Book, InMemory, Left}
use Rattle.host_table.specs.declared.journal.Spot.{Spot}
use Rattle.host_table.specs.Held.{IsTakenApart}
use Rattle.host_table.specs.Close.{AreTaken}
use Rattle.host_table.specs.Journal.{spots_from, all_spots}

spots_push : (shard place : ℕ) (made : List Made) (one : Made) → spots_from shard place (made ++ one ∷ []) ≡ spots_from shard place made ++ record { stamp = one.step.stamp; shard = shard; place = place + length made } ∷ []
spots_push shard place [] one = let here : place ≡ place + 0 = omega arith in ap (λ (n : ℕ). record { stamp = one.step.stamp; shard = shard; place = n } ∷ []) here
spots_push shard place (first ∷ made) one =
    let next : (place + 1) + length made ≡ place + suc (length made) = omega arith in
    let head : Spot = record { stamp = first.step.stamp; shard = shard; place = place } in
    ap (λ (z : List Spot). head ∷ z) (spots_push shard (place + 1) made one ∙ ap (λ (n : ℕ). spots_from shard (place + 1) made ++ record { stamp = one.step.stamp; shard = shard; place = n } ∷ []) next)

take_suc : {A : Type 0} (xs : List A) (k : ℕ) (x : A) → slice_get xs k ≡ Some x → (take (suc k) xs ≡ take k xs ++ x ∷ []) × (length (take k xs) ≡ k)
take_suc [] k x e = absurd (cc e)
take_suc (y ∷ []) zero x e = let same : y ≡ x = cc e in (ap (λ (z : _). z ∷ []) same, refl)
take_suc (y ∷ z ∷ xs) zero x e = let same : y ≡ x = cc e in (ap (λ (w : _). w ∷ []) same, refl)
take_suc (y ∷ xs) (suc k) x e = let rest = take_suc xs k x e in (ap (λ (z : List _). y ∷ z) rest.0, ap suc rest.1)

-- one entry more was listed
pub spots_more : (shard k : ℕ) (made : List Made) (one : Made) → slice_get made k ≡ Some one → spots_from shard 0 (take k made) ++ record { stamp = one.step.stamp; shard = shard; place = k } ∷ [] ≡ spots_from shard 0 (take (k + 1) made)
spots_more shard k made one e =
    let t = take_suc made k one e in
    let place : k ≡ 0 + length (take k made) = omega (arith, t.1) in
    ap (λ (n : ℕ). spots_from shard 0 (take k made) ++ record { stamp = one.step.stamp; shard = shard; place = n } ∷ []) place
    ∙ (sym (spots_push shard 0 (take k made) one) ∙ (ap (spots_from shard 0) (sym t.0) ∙ ap (λ (n : ℕ). spots_from shard 0 (take n made)) (sym (add-one k))))

module _ {F : Type 0} where
  pub all_push : (j : ℕ) (parts : List (Left F)) (part : Left F) (n : ℕ) → n ≡ j + length parts → all_spots j (parts ++ part ∷ []) ≡ all_spots j parts ++ spots_from n 0 part.made
  all_push j [] part n e = let here : j ≡ n = omega arith in append-nil (spots_from j 0 part.made) ∙ ap (λ (m : ℕ). spots_from m 0 part.made) here
  all_push j (p ∷ parts) part n e =
      ap (λ (z : List Spot). spots_from j 0 p.made ++ z) (all_push (j + 1) parts part n (omega arith)) ∙ sym (append_assoc (spots_from j 0 p.made) (all_spots (j + 1) parts) (spots_from n 0 part.made))

  pub taken_push : (files : F → Option Files) (faults : F → ℕ) (books : List (Book (InMemory F))) (parts : List (Left F)) (folders : List F) (book : Book (InMemory F)) (part : Left F) (folder : F)
      → AreTaken files faults books parts folders → IsTakenApart files faults book part folder → AreTaken files faults (books ++ book ∷ []) (parts ++ part ∷ []) (folders ++ folder ∷ [])
  taken_push files faults [] [] [] book part folder a t = (t, tt)
  taken_push files faults [] [] (f ∷ folders) book part folder a t = absurd a
  taken_push files faults [] (p ∷ parts) [] book part folder a t = absurd a
  taken_push files faults [] (p ∷ parts) (f ∷ folders) book part folder a t = absurd a
  taken_push files faults (b ∷ books) [] [] book part folder a t = absurd a
  taken_push files faults (b ∷ books) [] (f ∷ folders) book part folder a t = absurd a
  taken_push files faults (b ∷ books) (p ∷ parts) [] book part folder a t = absurd a
  taken_push files faults (b ∷ books) (p ∷ parts) (f ∷ folders) book part folder a t = (a.0, taken_push files faults books parts folders book part folder a.1 t)
