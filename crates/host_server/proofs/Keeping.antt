-- What may be told, over some calls.
use Rattle.std.proofs.Common.{◌≡◌, Bool, true, false, List, [], ◌∷◌, ◌++◌, ℕ, Option, refl, sym, ap, subst, ◌∙◌, append_assoc, true≢false}
use Rattle.std.proofs.lemmas.List.{append-nil}
use Rattle.wopi_model.specs.declared.calls.Call.{Call}
use Rattle.wopi_model.specs.Shard.{Entry}
use Rattle.host_core.specs.declared.caller.Receipt.{Receipt}
use Rattle.host_core.specs.declared.caller.CallFault.{CallFault}
use Rattle.host_core.specs.declared.caller.EditorReceipt.{EditorReceipt}
use Rattle.host_core.specs.Caller.{Sight, Extends, KeepsTelling, Makes, MakesForEditor, Refuses, entry_of}
use Rattle.host_core.specs.Entries.{told_by}
use Rattle.host_core.specs.Listing.{LooksOn}
use Rattle.host_server.specs.Keeping.{AreTold, KeepsTold}

-- nothing was made
pub keeps_none : (loses telling : Bool) (sight : Sight) → KeepsTold loses telling telling sight sight
keeps_none loses telling sight = record {
  extends = ([], sym (append-nil sight.told));
  all = λ _ told. told;
  falls = λ same. same;
  cause = λ told ended. absurd (true≢false (sym told ∙ ended));
}

-- one after another
pub keeps_both : (loses a b c : Bool) (one two three : Sight) → KeepsTold loses a b one two → KeepsTold loses b c two three → KeepsTold loses a c one three
keeps_both loses a b c one two three first second = record {
  extends = (first.extends.0 ++ second.extends.0, second.extends.1 ∙ ap (λ (l : List Entry). l ++ second.extends.0) first.extends.1 ∙ append_assoc one.told first.extends.0 second.extends.0);
  all = λ telling told. second.all telling (first.all (second.falls telling) told);
  falls = λ telling. first.falls (second.falls telling);
  cause = λ told ended. ceases b refl told ended;
} where
  ceases : (m : Bool) → b ≡ m → a ≡ true → c ≡ false → loses ≡ true
  ceases true is told ended = second.cause is ended
  ceases false is told ended = first.cause told is

module _ (loses before after lost : Bool) (old new : Sight) (tells : KeepsTelling before after lost) (is : lost ≡ true → loses ≡ true) where
  -- a call made an entry
  pub keeps_made : (call : Call) (moment : ℕ) (receipt : Receipt) → Makes old new call moment receipt → (after ≡ true → receipt.told ≡ true) → KeepsTold loses before after old new
  keeps_made call moment receipt makes told =
      let entry = entry_of old.pass call moment receipt in
      record {
        extends = (told_by receipt.told entry, makes.told);
        all = λ telling all.
            makes.told ∙ ap (λ (b : Bool). old.told ++ told_by b entry) (told telling) ∙ ap (λ (l : List Entry). l ++ entry ∷ []) all ∙ sym makes.own;
        falls = tells.0;
        cause = λ told ended. is (tells.1 told ended);
      }

  -- or none
  pub keeps_refused : (call : Call) (moment : ℕ) (refusal : CallFault) → Refuses old new call moment refusal → KeepsTold loses before after old new
  keeps_refused call moment refusal refuses = record {
    extends = ([], refuses.told ∙ sym (append-nil old.told));
    all = λ telling all. refuses.told ∙ all ∙ sym refuses.own;
    falls = tells.0;
    cause = λ told ended. is (tells.1 told ended);
  }

-- the shards were listed
pub keeps_listed : (loses before after : Bool) (old new : Sight) → KeepsTelling before after loses → LooksOn old new → KeepsTold loses before after old new
keeps_listed loses before after old new keeps looks = record {
  extends = ([], looks.told ∙ sym (append-nil old.told));
  all = λ telling all. looks.told ∙ all ∙ sym looks.own;
  falls = keeps.0;
  cause = keeps.1;
}
