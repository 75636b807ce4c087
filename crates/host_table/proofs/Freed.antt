-- What holds of stores in memory, said of their folders.
use Rattle.std.proofs.Common.{◌≡◌, ℕ, ◌+◌, Option, Some, List, [], ◌∷◌, map, length, ap, sym, subst, ◌∙◌}
use Rattle.std.proofs.lemmas.List.{length-map, map-append}
use Rattle.outside.specs.Folder.{Files}
use Rattle.host_core.specs.declared.opening.StartFault.{StartFault}
use Rattle.host_core.specs.declared.opening.StartFault.TheVariants as fault
use Rattle.host_core.specs.Opening.{IsTooLarge, IfTooLarge}
use Rattle.host_core.specs.Value.{InMemory}
use Rattle.host_table.specs.Start.{folder_in, AreHanded, HaveOpenings, Blames, IsBlamed}

module _ {F : Type 0} (files : F → Option Files) (faults : F → ℕ) where
  abbrev in_store : InMemory F → Option Files
  in_store store = files store.folder

  abbrev of_store : InMemory F → ℕ
  of_store store = faults store.folder

  pub handed_over : (olds news : List (InMemory F)) → AreHanded in_store of_store olds news → AreHanded files faults (map folder_in olds) (map folder_in news)
  handed_over [] [] a = tt
  handed_over [] (n ∷ news) a = absurd a
  handed_over (o ∷ olds) [] a = absurd a
  handed_over (o ∷ olds) (n ∷ news) a = (record { same = a.0.same; counts = a.0.counts }, handed_over olds news a.1)

  have_over : (number : ℕ) (stores : List (InMemory F)) → HaveOpenings in_store of_store number stores → HaveOpenings files faults number (map folder_in stores)
  have_over number [] a = tt
  have_over number (s ∷ stores) a = (a.0, have_over (number + 1) stores a.1)

  blames_over : (number : ℕ) (olds news : List (InMemory F)) (refusal : StartFault) → Blames in_store of_store number olds news refusal → Blames files faults number (map folder_in olds) (map folder_in news) refusal
  blames_over number olds news refusal b =
      let long : length (map folder_in b.before) ≡ length b.before = length-map b.before folder_in in
      record {
        before = map folder_in b.before;
        old = b.old.folder;
        after = map folder_in b.after;
        was = ap (map folder_in) b.was ∙ map-append folder_in b.before (b.old ∷ b.after);
        fine = have_over number b.before b.fine;
        handed = map folder_in b.handed;
        new = b.new.folder;
        others = map folder_in b.others;
        is = ap (map folder_in) b.is ∙ map-append folder_in b.handed (b.new ∷ b.others);
        there = length-map b.handed folder_in ∙ b.there ∙ sym long;
        too_large = subst (λ (n : ℕ). IfTooLarge refusal (IsTooLarge (Some (number + n)) (files b.old.folder))) (sym long) b.too_large;
        failed = b.failed;
      }

  pub blamed_over : (olds news : List (InMemory F)) (refusal : StartFault) → IsBlamed in_store of_store olds news refusal → IsBlamed files faults (map folder_in olds) (map folder_in news) refusal
  blamed_over olds news (fault.TooLarge name) b = blames_over 0 olds news (fault.TooLarge name) b
  blamed_over olds news fault.FolderFault b = blames_over 0 olds news fault.FolderFault b
  blamed_over olds news fault.Memory b = tt
