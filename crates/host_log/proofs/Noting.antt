-- Entries that are told, and those that are missing.
use Rattle.std.proofs.Common.{◌≡◌, ◌==◌, ℕ, Bool, true, false, if◌then◌else◌, List, [], ◌∷◌, ◌++◌, Option, None, Some, option_map, refl, sym, ap, ◌∙◌, append_assoc, append-nil}
use Rattle.wopi_model.specs.declared.calls.Act.{Act}
use Rattle.wopi_model.specs.declared.calls.Act.TheVariants as act
use Rattle.wopi_model.specs.Act.{is_stored}
use Rattle.host_core.specs.Entries.{Made, accepted_contents, brought_by}
use Rattle.host_core.specs.Notes.{Brought, saved_in}

-- where nothing was saved, no contents were accepted
pub nothing_accepted : (one : Made) → saved_in one ≡ None → accepted_contents one ≡ None
nothing_accepted one none = go (one.step.ruling.status == 200) (brought_by one.step.call.act) none where
  go : (b : Bool) (o : Option (List ℕ)) → (if b then option_map {U = Brought} (λ contents. (one.step.ruling.version, contents)) o else None) ≡ None → (if b then o else None) ≡ None
  go false o is = refl
  go true None is = refl
  go true (Some contents) is = absurd (cc (is))

-- nor by another ruling
pub none_accepted : (one : Made) → (one.step.ruling.status == 200) ≡ false → accepted_contents one ≡ None
none_accepted one is = ap (λ (b : Bool). if b then brought_by one.step.call.act else None) is

-- what brings contents is stored
pub brought_stored : (asked : Act) (contents : List ℕ) → brought_by asked ≡ Some contents → is_stored asked ≡ true
brought_stored (act.Put lock new) contents is = refl
brought_stored (act.Create overwrite new) contents is = refl
brought_stored act.Delete contents is = refl
brought_stored act.Info contents is = absurd (cc (is))
brought_stored (act.Get most) contents is = absurd (cc (is))
brought_stored (act.Lock id) contents is = absurd (cc (is))
brought_stored act.GetLock contents is = absurd (cc (is))
brought_stored (act.Refresh id) contents is = absurd (cc (is))
brought_stored (act.Unlock id) contents is = absurd (cc (is))
brought_stored (act.Relock old id) contents is = absurd (cc (is))
brought_stored act.Look contents is = absurd (cc (is))

-- one more was told, where none is missing
pub told_more : (told missing told' : List Made) (one : Made) → missing ≡ [] → told' ≡ told ++ one ∷ [] → told' ++ missing ≡ (told ++ missing) ++ one ∷ []
told_more told missing told' one none more =
    ap (λ (l : List Made). told' ++ l) none ∙ append-nil told' ∙ more
    ∙ ap (λ (l : List Made). l ++ one ∷ []) (sym (append-nil told) ∙ ap (λ (l : List Made). told ++ l) (sym none))

-- one more is missing
pub missing_more : (told missing told' missing' : List Made) (one : Made) → told' ≡ told → missing' ≡ missing ++ one ∷ [] → told' ++ missing' ≡ (told ++ missing) ++ one ∷ []
missing_more told missing told' missing' one same more =
    ap (λ (l : List Made). told' ++ l) more ∙ ap (λ (l : List Made). l ++ (missing ++ one ∷ [])) same ∙ sym (append_assoc told missing (one ∷ []))
