-- Stores over logs that are made from folders and logs, and taken apart to them, one after the other.
use Rattle.std.proofs.Common.{◌≡◌, ◌≤◌, ℕ, ◌+◌, Bool, true, false, refl, List, [], ◌∷◌, ◌++◌, length, length-append, slice_index_or, append-nil, append_assoc, sym, ap, ◌∙◌, subst, Option, arith}
use Rattle.std.specs.Prelude.{not, remove}
use Rattle.host_log.specs.Logs.{LogView, HasEnded}
use Rattle.wopi_program.specs.Paired.{AreAnew, AreParted, IsPaired}

pub not_twice : (b : Bool) → not (not b) ≡ b
not_twice true = refl
not_twice false = refl

-- a list by its first item and by what is left without it
pub first_removed : {X : Type 0} (xs rest : List X) (x : X) → 1 ≤ length xs → x ≡ slice_index_or xs 0 x → rest ≡ remove xs 0 → xs ≡ x ∷ rest
first_removed [] rest x some is left = absurd (omega (arith, some))
first_removed (y ∷ ys) rest x some is left = λ i. sym is i ∷ sym left i

pub none_there : {X : Type 0} (xs : List X) → length xs ≡ 0 → xs ≡ []
none_there [] none = λ i. []
none_there (x ∷ xs) none = absurd (omega (arith, none))

module _ {F G : Type 0} (held synced : G → Option (List ℕ)) (faults : G → ℕ) where
  -- those of these stores, behind these folders and logs, are all that there were
  abbrev pub PartsAll : List (LogView F) → List (LogView F) → List F → List G → Type 0
  PartsAll all stores folders logs =
      (fs : List F) (gs : List G) → AreParted held synced faults stores fs gs → AreParted held synced faults all (folders ++ fs) (logs ++ gs)

  pub parted_none : (stores : List (LogView F)) (folders : List F) (logs : List G) → folders ≡ [] → logs ≡ [] → PartsAll stores stores folders logs
  parted_none stores folders logs none none' fs gs are =
      let both : (fs, gs) ≡ (folders ++ fs, logs ++ gs) = λ i. (sym none i ++ fs, sym none' i ++ gs) in
      subst (λ (z : List F × List G). AreParted held synced faults stores z.0 z.1) both are

  pub parted_more : (all stores rest : List (LogView F)) (store : LogView F) (folders folders' : List F) (logs logs' : List G) (folder : F) (log : G) → stores ≡ store ∷ rest
      → folders' ≡ folders ++ folder ∷ [] → logs' ≡ logs ++ log ∷ [] → HasEnded store folder (held log) (synced log) (faults log) → PartsAll all stores folders logs
      → PartsAll all rest folders' logs'
  parted_more all stores rest store folders folders' logs logs' folder log is folders_are logs_are ended whole fs gs are =
      let here : AreParted held synced faults stores (folder ∷ fs) (log ∷ gs) =
      subst (λ (l : List (LogView F)). AreParted held synced faults l (folder ∷ fs) (log ∷ gs)) (sym is) (ended, are)
      in
      let there : folders' ++ fs ≡ folders ++ folder ∷ fs = ap (λ (l : List F). l ++ fs) folders_are ∙ append_assoc folders (folder ∷ []) fs in
      let there' : logs' ++ gs ≡ logs ++ log ∷ gs = ap (λ (l : List G). l ++ gs) logs_are ∙ append_assoc logs (log ∷ []) gs in
      let both : (folders ++ folder ∷ fs, logs ++ log ∷ gs) ≡ (folders' ++ fs, logs' ++ gs) = λ i. (sym there i, sym there' i) in
      subst (λ (z : List F × List G). AreParted held synced faults all z.0 z.1) both (whole (folder ∷ fs) (log ∷ gs) here)

  pub parted_all : (all stores : List (LogView F)) (folders : List F) (logs : List G) → length stores ≡ 0 → PartsAll all stores folders logs → AreParted held synced faults all folders logs
  parted_all all stores folders logs none whole =
      let here : AreParted held synced faults stores [] [] =
      subst (λ (l : List (LogView F)). AreParted held synced faults l [] []) (sym (none_there stores none)) tt
      in
      let both : (folders ++ [], logs ++ []) ≡ (folders, logs) = λ i. (append-nil folders i, append-nil logs i) in
      subst (λ (z : List F × List G). AreParted held synced faults all z.0 z.1) both (whole [] [] here)

module _ {F G : Type 0} (held : G → Option (List ℕ)) (faults : G → ℕ) (every : Bool) where
  -- with those for these folders and logs behind these stores there are all
  abbrev pub PairsAll : List F → List G → List F → List G → List (LogView F) → Type 0
  PairsAll all all' folders logs stores =
      (rest : List (LogView F)) → AreAnew held faults every (length stores) folders logs rest → AreAnew held faults every 0 all all' (stores ++ rest)

  pub anew_none : (folders : List F) (logs : List G) (stores : List (LogView F)) → stores ≡ [] → PairsAll folders logs folders logs stores
  anew_none folders logs stores none rest are =
      subst (λ (l : List (LogView F)). AreAnew held faults every 0 folders logs (l ++ rest)) (sym none)
      (subst (λ (l : List (LogView F)). AreAnew held faults every (length l) folders logs rest) none are)

  pub anew_more : (all : List F) (all' : List G) (folders folders' : List F) (logs logs' : List G) (folder : F) (log : G) (stores stores' : List (LogView F)) (store : LogView F)
      → folders ≡ folder ∷ folders' → logs ≡ log ∷ logs' → stores' ≡ stores ++ store ∷ [] → IsPaired held faults every (length stores) folder log store → PairsAll all all' folders logs stores
      → PairsAll all all' folders' logs' stores'
  anew_more all all' folders folders' logs logs' folder log stores stores' store folders_are logs_are stores_are paired whole rest are =
      let count : length stores' ≡ length stores + 1 = ap (λ (l : List (LogView F)). length l) stores_are ∙ length-append stores (store ∷ []) in
      let next : AreAnew held faults every (length stores + 1) folders' logs' rest = subst (λ n. AreAnew held faults every n folders' logs' rest) count are in
      let both : (folder ∷ folders', log ∷ logs') ≡ (folders, logs) = λ i. (sym folders_are i, sym logs_are i) in
      let here : AreAnew held faults every (length stores) folders logs (store ∷ rest) =
      subst (λ (z : List F × List G). AreAnew held faults every (length stores) z.0 z.1 (store ∷ rest)) both (paired, next)
      in
      subst (λ (l : List (LogView F)). AreAnew held faults every 0 all all' l) (sym (ap (λ (l : List (LogView F)). l ++ rest) stores_are ∙ append_assoc stores (store ∷ []) rest)) (whole (store ∷ rest) here)

  pub anew_all : (all : List F) (all' : List G) (folders : List F) (logs : List G) (stores : List (LogView F)) → length folders ≡ 0 → length logs ≡ 0 → PairsAll all all' folders logs stores
      → AreAnew held faults every 0 all all' stores
  anew_all all all' folders logs stores none none' whole =
      let both : ([], []) ≡ (folders, logs) = λ i. (sym (none_there folders none) i, sym (none_there logs none') i) in
      let here : AreAnew held faults every (length stores) folders logs [] = subst (λ (z : List F × List G). AreAnew held faults every (length stores) z.0 z.1 []) both tt in
      subst (λ (l : List (LogView F)). AreAnew held faults every 0 all all' l) (append-nil stores) (whole [] here)
