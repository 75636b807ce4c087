-- Whether a save comes too late.
use Rattle.std.proofs.Common.{◌≡◌, ◌≢◌, ℕ, Bool, true, false, ◌&&◌, ◌==◌, not, if◌then◌else◌, List, get_or, Option, None, Some, refl, ap, ◌∙◌}
use Rattle.kept_locks.specs.Locks.{Standing}
use Rattle.name_index.specs.Index.{number_of}
use Rattle.wopi_model.specs.declared.calls.Act.{Act}
use Rattle.wopi_model.specs.declared.calls.Act.TheVariants as act
use Rattle.wopi_model.specs.declared.calls.Call.{Call}
use Rattle.wopi_model.specs.File.{never_met}
use Rattle.wopi_model.specs.Settle.{settled}
use Rattle.wopi_model.specs.Step.{Decision, Refuse, decision, is_missing, is_unauthorized}
use Rattle.host_core.specs.declared.decide.Decision as code
use Rattle.host_core.specs.declared.decide.Decision.TheVariants as decided
use Rattle.host_core.specs.Facts.{is_accept, is_put, late_if}
use Rattle.host_core.specs.declared.file.KeptFile.{KeptFile}
use Rattle.host_core.specs.Files.{decision_of, file_of, files_of}
use Rattle.host_core.specs.Numbers.{IsNumbered, named}
use Rattle.host_core.specs.Whole.{whole, standing_at, joined}
use Rattle.host_core.proofs.FileLists.{file_at}
use Rattle.host_core.proofs.Joining.{get_joined}
use Rattle.host_core.proofs.Meeting.{found_first}

-- the file of a name, by its number
pub file_found : (first : ℕ) (files : List KeptFile) (ss : List Standing) (index : List (List ℕ × ℕ)) (name : List ℕ) (number : ℕ) (k : KeptFile) → IsNumbered index (named files) → Some number ≡ number_of index name
    → k ≡ get_or files number k → files_of first (joined files ss) name ≡ file_of (whole k (standing_at ss number))
file_found first files ss index name number k numbered found e =
    file_at file_of (never_met first) (joined files ss) name number (whole k (standing_at ss number)) (found_first files ss index name number numbered found) (get_joined files number k ss e)

-- a call that isn't accepted is no late save
pub late_refused : (asked : Act) (known : Option ℕ) (accepted : Bool) (saved : ℕ) → accepted ≡ false → late_if asked known accepted saved ≡ false
late_refused asked None accepted saved e = refl
late_refused asked (Some known) accepted saved e = ap (λ (b : Bool). is_put asked && (b && not (saved == known))) e ∙ go (is_put asked) where
  go : (b : Bool) → (b && false) ≡ false
  go true = refl
  go false = refl

-- nor is another act
pub late_other : (asked : Act) (known : Option ℕ) (accepted : Bool) (saved : ℕ) → is_put asked ≡ false → late_if asked known accepted saved ≡ false
late_other asked None accepted saved e = refl
late_other asked (Some known) accepted saved e = ap (λ (b : Bool). b && (accepted && not (saved == known))) e

-- and a Put that is accepted is one exactly where the moments differ
pub late_accepted : (asked : Act) (known : ℕ) (accepted : Bool) (saved : ℕ) → is_put asked ≡ true → accepted ≡ true → late_if asked (Some known) accepted saved ≡ not (saved == known)
late_accepted asked known accepted saved put is =
    ap (λ (b : Bool). b && (accepted && not (saved == known))) put ∙ ap (λ (b : Bool). b && not (saved == known)) is

pub refuses : (d : code.Decision) → d ≢ decided.Accept → is_accept (decision_of d) ≡ false
refuses (decided.Refuse status) differ = refl
refuses (decided.Conflict reason) differ = refl
refuses decided.Accept differ = absurd (differ refl)

-- a Put of a name that wasn't met is refused
pub absent_put : (first : ℕ) (call : Call) (opened now : ℕ) → is_put call.act ≡ true → is_accept (decision (settled (never_met first) now) call opened now) ≡ false
absent_put first call opened now put = go (is_unauthorized call opened now) (is_missing (settled (never_met first) now) call.act) (missing call.act put) _ where
  missing : (asked : Act) → is_put asked ≡ true → is_missing (settled (never_met first) now) asked ≡ true
  missing (act.Put lock contents) e = refl
  missing _ e = absurd (cc)

  go : (dead gone : Bool) → gone ≡ true → (rest : Decision) → is_accept (if dead then Refuse 401 else if gone then Refuse 404 else rest) ≡ false
  go true gone e rest = refl
  go false true e rest = refl
  go false false e rest = absurd (cc)
