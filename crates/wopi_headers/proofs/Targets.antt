-- What the fields of a copy say, and what they don't.
use Rattle.std.proofs.Common.{◌≡◌, ℕ, ◌<◌, List, length, Bool, Option, Some, None, Result, Ok, Err, subst}
use Rattle.std.specs.Prelude.{IfOk, MatchOption}
use Rattle.wopi_text.specs.declared.faults.Memory.{Memory}
use Rattle.wopi_http.specs.declared.message.Field.{Field}
use Rattle.wopi_http.specs.Fields.{count_named}
use Rattle.utf7_text.specs.Readings.{IsReading}
use Rattle.wopi_headers.specs.declared.ask.Target.{Target}
use Rattle.wopi_headers.specs.declared.ask.Target.TheVariants.{Suggested, Relative}
use Rattle.wopi_headers.specs.Readings.{suggested_name, relative_name, IsOnce, IsText, IsOverwrite, IsTarget}
use Rattle.wopi_headers.proofs.OneReading.{one_value}

pub no_suggestion : (fields : List Field) → count_named relative_name fields ≡ 0 → ((text : List ℕ) → ¬ (IsText suggested_name fields text)) → (target : Target) → ¬ (IsTarget fields target)
no_suggestion fields none nothing (Suggested name) (alone, text) = nothing name text
no_suggestion fields none nothing (Relative name choice) (alone, text, chosen) = let once = text.once.once in absurd (cc)

pub no_relative : (fields : List Field) → count_named suggested_name fields ≡ 0 → ((text : List ℕ) → ¬ (IsText relative_name fields text)) → (target : Target) → ¬ (IsTarget fields target)
no_relative fields none nothing (Suggested name) (alone, text) = let once = text.once.once in absurd (cc)
no_relative fields none nothing (Relative name choice) (alone, text, chosen) = nothing name text

pub no_choice : (fields : List Field) → count_named suggested_name fields ≡ 0 → ((choice : Bool) → ¬ (IsOverwrite fields choice)) → (target : Target) → ¬ (IsTarget fields target)
no_choice fields none nothing (Suggested name) (alone, text) = let once = text.once.once in absurd (cc)
no_choice fields none nothing (Relative name choice) (alone, text, chosen) = nothing choice chosen

text_of : (name : List ℕ) (fields : List Field) (value : List ℕ) (found : Option (List ℕ)) → IsOnce name fields value → 0 < length value
    → MatchOption found ((text : List ℕ) → ¬ (IsReading value text)) (IsReading value) → MatchOption found ((text : List ℕ) → ¬ (IsText name fields text)) (IsText name fields)
text_of name fields value None once some none = λ text is. none text (subst (λ v. IsReading v text) (one_value name fields is.value value is.once once) is.reads)
text_of name fields value (Some text) once some reads = record { value = value; once = once; some = some; reads = reads }

-- the text of a value that isn't empty is the text of its field
pub text_found : (name : List ℕ) (fields : List Field) (value : List ℕ) (r : Result (Option (List ℕ)) Memory) → IsOnce name fields value → 0 < length value
    → IfOk r (λ found. MatchOption found ((text : List ℕ) → ¬ (IsReading value text)) (IsReading value))
    → IfOk r (λ found. MatchOption found ((text : List ℕ) → ¬ (IsText name fields text)) (IsText name fields))
text_found name fields value (Ok found) once some h = text_of name fields value found once some h
text_found name fields value (Err fault) once some h = tt
