-- The statuses of `upgrade`.
use Rattle.std.proofs.Common.{◌≢◌, ℕ, List, Option, arith, inl, inr}
use Rattle.journal_text.specs.declared.text.JournalText.{JournalText}
use Rattle.wopi_program.specs.declared.outside_world.Outside.{Outside}
use Rattle.wopi_program.specs.Meanings.{Meanings}
use Rattle.wopi_program.specs.Upgrade.{IsRewritten, UpgradeEnds, Upgrades}
use Rattle.wopi_program.proofs.EditLemmas.{tells-not-2}

rewritten-not-2 : (text : JournalText) (status : ℕ) (held held' : Option (List ℕ)) → IsRewritten text status held held' → status ≢ 2
rewritten-not-2 text status held held' (inl (zero, whole)) two = absurd (omega (arith, zero, two))
rewritten-not-2 text status held held' (inr (four, front)) two = absurd (omega (arith, four, two))

module _ {S K F N D C G L : Type 0} (m : Meanings S K F N D C G L) where
  upgrades-not-2 : (status : ℕ) (old new : Outside S K F N D C G) → Upgrades m status old new → status ≢ 2
  upgrades-not-2 status old new (inl unrun) two = elim unrun.statuses [
    | inl three ↦ absurd (omega (arith, three, two))
    | inr six ↦ absurd (omega (arith, six, two))
  ]
  upgrades-not-2 status old new (inr (inl much)) two = let thirteen = much.status_is in absurd (omega (arith, thirteen, two))
  upgrades-not-2 status old new (inr (inr (inl bad))) two =
      tells-not-2 (m.held old.output) (m.held new.output) status 7 _ _ (λ is. absurd (omega (arith, is))) bad.told two
  upgrades-not-2 status old new (inr (inr (inr good))) two = rewritten-not-2 good.text status (m.held old.output) (m.held new.output) good.told two

  -- a run of `upgrade` doesn't end as words that are no command
  pub UpgradeEnds-known : (status : ℕ) (old new : Outside S K F N D C G) → UpgradeEnds m status old new → status ≢ 2
  UpgradeEnds-known status old new ends = upgrades-not-2 status old new ends.upgrades
