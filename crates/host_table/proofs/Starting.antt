-- Folders that are opened and handed back, one after another.
use Rattle.std.proofs.Common.{◌≡◌, ℕ, ◌+◌, Option, Some, List, [], ◌∷◌, ◌++◌, map, length, refl, ap, sym, subst, ◌∙◌, append_assoc, arith}
use Rattle.std.proofs.lemmas.List.{map-append}
use Rattle.outside.specs.Folder.{Files, Times}
use Rattle.outside.specs.Faults.{Rose}
use Rattle.wopi_model.specs.Host.{Limits}
use Rattle.host_core.specs.declared.opening.StartFault.{StartFault}
use Rattle.host_core.specs.declared.opening.StartFault.TheVariants as fault
use Rattle.host_core.specs.Opening.{IsTooLarge, IfTooLarge}
use Rattle.host_core.specs.Notes.{Notes, LogStart}
use Rattle.host_core.specs.Value.{Book}
use Rattle.host_core.proofs.Decisions.{keeps_self}
use Rattle.host_table.specs.Start.{start_of, log_in, AreNew, IsHanded, AreHanded, HaveOpenings, Blames, IsBlamed, IsBegun, AreBegun}

-- one more store has the log that it had
pub logs_push : {F : Type 0} (notes : F → Notes) (olds news : List F) (old new : F) → map (log_in notes) news ≡ map (log_in notes) olds → (notes new).log ≡ (notes old).log → map (log_in notes) (news ++ new ∷ []) ≡ map (log_in notes) (olds ++ old ∷ [])
logs_push notes olds news old new same one =
    let ends : map (log_in notes) news ++ (log_in notes new ∷ []) ≡ map (log_in notes) olds ++ (log_in notes old ∷ []) = λ i. same i ++ (one i ∷ []) in
    map-append (log_in notes) news (new ∷ []) ∙ (ends ∙ sym (map-append (log_in notes) olds (old ∷ [])))

module _ {F : Type 0} (files : F → Option Files) (faults : F → ℕ) where
  pub handed_push : (olds news : List F) (old new : F) → AreHanded files faults olds news → IsHanded files faults old new → AreHanded files faults (olds ++ old ∷ []) (news ++ new ∷ [])
  handed_push [] [] old new a h = (h, tt)
  handed_push [] (n ∷ news) old new a h = absurd a
  handed_push (o ∷ olds) [] old new a h = absurd a
  handed_push (o ∷ olds) (n ∷ news) old new a h = (a.0, handed_push olds news old new a.1 h)

  pub handed_append : (olds news olds' news' : List F) → AreHanded files faults olds news → AreHanded files faults olds' news' → AreHanded files faults (olds ++ olds') (news ++ news')
  handed_append [] [] olds' news' a b = b
  handed_append [] (n ∷ news) olds' news' a b = absurd a
  handed_append (o ∷ olds) [] olds' news' a b = absurd a
  handed_append (o ∷ olds) (n ∷ news) olds' news' a b = (a.0, handed_append olds news olds' news' a.1 b)

  pub handed_self : (folders : List F) → AreHanded files faults folders folders
  handed_self [] = tt
  handed_self (folder ∷ folders) = (record { same = keeps_self (files folder); counts = omega arith }, handed_self folders)

  pub handed_long : (olds news : List F) → AreHanded files faults olds news → length news ≡ length olds
  handed_long [] [] a = refl
  handed_long [] (n ∷ news) a = absurd a
  handed_long (o ∷ olds) [] a = absurd a
  handed_long (o ∷ olds) (n ∷ news) a = let rest = handed_long olds news a.1 in omega arith

module _ {F : Type 0} (files : F → Option Files) (times : F → Option Times) (faults : F → ℕ) where
  pub begun_push : (opened oldest : ℕ) (limits : Limits) (number n : ℕ) (folders : List F) (bases : List (Book F)) (folder : F) (base : Book F) → n ≡ number + length folders → AreBegun files times faults opened oldest limits number folders bases → IsBegun files times faults opened oldest limits n folder base
      → AreBegun files times faults opened oldest limits number (folders ++ folder ∷ []) (bases ++ base ∷ [])
  begun_push opened oldest limits number n [] [] folder base e a is = let here : n ≡ number = omega arith in
      let P : ℕ → Type 0 = λ z. IsBegun files times faults opened oldest limits z folder base in (subst P here is, tt)
  begun_push opened oldest limits number n [] (b ∷ bases) folder base e a is = absurd a
  begun_push opened oldest limits number n (f ∷ folders) [] folder base e a is = absurd a
  begun_push opened oldest limits number n (f ∷ folders) (b ∷ bases) folder base e a is = (a.0, begun_push opened oldest limits (number + 1) n folders bases folder base (omega arith) a.1 is)

  pub begun_starts : (opened oldest : ℕ) (limits : Limits) (number : ℕ) (folders : List F) (bases : List (Book F)) → AreBegun files times faults opened oldest limits number folders bases → map start_of bases ≡ folders
  begun_starts opened oldest limits number [] [] a = refl
  begun_starts opened oldest limits number [] (b ∷ bases) a = absurd a
  begun_starts opened oldest limits number (f ∷ folders) [] a = absurd a
  begun_starts opened oldest limits number (f ∷ folders) (b ∷ bases) a =
      let first : b.start ≡ f = ap start_of a.0.book in let rest = begun_starts opened oldest limits (number + 1) folders bases a.1 in λ i. first i ∷ rest i

  pub begun_new : (opened oldest : ℕ) (limits : Limits) (number : ℕ) (folders : List F) (bases : List (Book F)) → AreBegun files times faults opened oldest limits number folders bases → AreNew bases
  begun_new opened oldest limits number [] [] a = tt
  begun_new opened oldest limits number [] (b ∷ bases) a = absurd a
  begun_new opened oldest limits number (f ∷ folders) [] a = absurd a
  begun_new opened oldest limits number (f ∷ folders) (b ∷ bases) a = (ap (λ (z : Book F). z.made) a.0.book, begun_new opened oldest limits (number + 1) folders bases a.1)

  pub begun_long : (opened oldest : ℕ) (limits : Limits) (number : ℕ) (folders : List F) (bases : List (Book F)) → AreBegun files times faults opened oldest limits number folders bases → length bases ≡ length folders
  begun_long opened oldest limits number [] [] a = refl
  begun_long opened oldest limits number [] (b ∷ bases) a = absurd a
  begun_long opened oldest limits number (f ∷ folders) [] a = absurd a
  begun_long opened oldest limits number (f ∷ folders) (b ∷ bases) a = let rest = begun_long opened oldest limits (number + 1) folders bases a.1 in omega arith

  pub begun_fine : (opened oldest : ℕ) (limits : Limits) (number : ℕ) (folders : List F) (bases : List (Book F)) → AreBegun files times faults opened oldest limits number folders bases → HaveOpenings files faults number folders
  begun_fine opened oldest limits number [] [] a = tt
  begun_fine opened oldest limits number [] (b ∷ bases) a = absurd a
  begun_fine opened oldest limits number (f ∷ folders) [] a = absurd a
  begun_fine opened oldest limits number (f ∷ folders) (b ∷ bases) a = ((a.0.stood, a.0.opening, a.0.fits), begun_fine opened oldest limits (number + 1) folders bases a.1)

  module _ (opened oldest : ℕ) (limits : Limits) (n : ℕ) (folders done rest rest' : List F) (folder folder' : F) (shards : List (Book F)) (is : folders ≡ done ++ rest) (first : rest ≡ folder ∷ rest')
      (begun : AreBegun files times faults opened oldest limits 0 done shards) (back1 back2 back3 handed : List F) (back0 : List F) (was_empty : back0 ≡ [])
      (gave : back1 ≡ back0 ++ handed) (are : AreHanded files faults (map start_of shards) handed) (pushed : back2 ≡ back1 ++ folder' ∷ []) (moved : back3 ≡ back2 ++ rest') where
    all_is : folders ≡ done ++ folder ∷ rest'
    all_is = is ∙ ap (λ (z : List F). done ++ z) first

    back_is : back3 ≡ handed ++ folder' ∷ rest'
    back_is =
        moved ∙ (ap (λ (z : List F). z ++ rest') (pushed ∙ ap (λ (z : List F). z ++ folder' ∷ []) (gave ∙ ap (λ (z : List F). z ++ handed) was_empty)) ∙ append_assoc handed (folder' ∷ []) rest')

    done_handed : AreHanded files faults done handed
    done_handed = subst (λ (olds : List F). AreHanded files faults olds handed) (begun_starts opened oldest limits 0 done shards begun) are

    pub refused_handed : IsHanded files faults folder folder' → AreHanded files faults folders back3
    refused_handed one =
        let P : List F × List F → Type 0 = λ z. AreHanded files faults z.0 z.1 in
        let both : (done ++ folder ∷ rest', handed ++ folder' ∷ rest') ≡ (folders, back3) = λ i. (sym all_is i, sym back_is i) in
        subst P both (handed_append files faults done handed (folder ∷ rest') (folder' ∷ rest') done_handed (one, handed_self files faults rest'))

    pub refused_logs : (notes : F → Notes) → map (log_in notes) handed ≡ map (log_in notes) (map start_of shards) → (notes folder').log ≡ (notes folder).log → map (log_in notes) back3 ≡ map (log_in notes) folders
    refused_logs notes same one =
        let first : map (log_in notes) handed ≡ map (log_in notes) done = same ∙ ap (map (log_in notes)) (begun_starts opened oldest limits 0 done shards begun) in
        let all : map (log_in notes) handed ++ (log_in notes folder' ∷ map (log_in notes) rest') ≡ map (log_in notes) done ++ (log_in notes folder ∷ map (log_in notes) rest') = λ i. first i ++ (one i ∷ map (log_in notes) rest') in
        ap (map (log_in notes)) back_is ∙ (map-append (log_in notes) handed (folder' ∷ rest') ∙ (all ∙ (sym (map-append (log_in notes) done (folder ∷ rest')) ∙ ap (map (log_in notes)) (sym all_is))))

    pub refused_blames : (refusal : StartFault) → n ≡ length shards → IfTooLarge refusal (IsTooLarge (Some n) (files folder)) → (refusal ≡ fault.FolderFault → Rose (faults folder) (faults folder')) → IsBlamed files faults folders back3 refusal
    refused_blames refusal number large failed = go refusal large failed where
      count : n ≡ 0 + length done
      count = let long = begun_long opened oldest limits 0 done shards begun in omega arith

      blames : (r : StartFault) → IfTooLarge r (IsTooLarge (Some n) (files folder)) → (r ≡ fault.FolderFault → Rose (faults folder) (faults folder')) → Blames files faults 0 folders back3 r
      blames r l f = record {
        before = done;
        old = folder;
        after = rest';
        was = all_is;
        fine = begun_fine opened oldest limits 0 done shards begun;
        handed = handed;
        new = folder';
        others = rest';
        is = back_is;
        there = handed_long files faults done handed done_handed;
        too_large = subst (λ (k : ℕ). IfTooLarge r (IsTooLarge (Some k) (files folder))) count l;
        failed = f;
      }

      go : (r : StartFault) → IfTooLarge r (IsTooLarge (Some n) (files folder)) → (r ≡ fault.FolderFault → Rose (faults folder) (faults folder')) → IsBlamed files faults folders back3 r
      go (fault.TooLarge name) l f = blames (fault.TooLarge name) l f
      go fault.FolderFault l f = blames fault.FolderFault l f
      go fault.Memory l f = tt
