-- What the header fields of a request say. Names are compared without regard to ASCII case.
use Rattle.std.specs.Prelude.{ℕ, ◌≡◌, ◌≤◌, ◌<◌, ◌⊎◌, Bool, true, false, List, [], Option, Some, None, codes, length}
use Rattle.std.specs.List.{list_all}
use Rattle.std.specs.Char.{is_ascii_digit}
use Rattle.std.specs.Str.{str_eq_ignore_ascii_case}
use Rattle.std.specs.Str.Parse.{digits_value}
use Rattle.std.specs.Option.{option_map}
use Rattle.wopi_http.specs.declared.message.Field.{Field}
use Rattle.wopi_headers.specs.declared.ask.Target.{Target}
use Rattle.wopi_headers.specs.declared.ask.Target.TheVariants.{Suggested, Relative}
use Rattle.wopi_http.specs.Fields.{count_named, first_named}
use Rattle.wopi_text.specs.LockId.{IsLockId}
use Rattle.utf7_text.specs.Readings.{IsReading}

abbrev pub override_name : List ℕ
override_name = codes "X-WOPI-Override"

abbrev pub lock_name : List ℕ
lock_name = codes "X-WOPI-Lock"

abbrev pub old_lock_name : List ℕ
old_lock_name = codes "X-WOPI-OldLock"

abbrev pub most_name : List ℕ
most_name = codes "X-WOPI-MaxExpectedSize"

abbrev pub suggested_name : List ℕ
suggested_name = codes "X-WOPI-SuggestedTarget"

abbrev pub relative_name : List ℕ
relative_name = codes "X-WOPI-RelativeTarget"

abbrev pub overwrite_name : List ℕ
overwrite_name = codes "X-WOPI-OverwriteRelativeTarget"

-- the value of the first field of the name
abbrev pub value_named : List ℕ → List Field → Option (List ℕ)
value_named name fields = option_map (λ f. f.value) (first_named name fields)

-- the one field of the name has this value
pub record IsOnce (name : List ℕ) (fields : List Field) (value : List ℕ) : Type 0 where
  pub once : count_named name fields ≡ 1
  pub value_is : value_named name fields ≡ Some value

-- there is no field of the name, or one that is empty
abbrev pub IsMissing : List ℕ → List Field → Type 0
IsMissing name fields = (count_named name fields ≡ 0) ⊎ IsOnce name fields []

-- the one field of the name has this lock id
abbrev pub IsLock : List ℕ → List Field → List ℕ → Type 0
IsLock name fields id = IsOnce name fields id × IsLockId id

-- a lock id, or none where the field is missing or empty
abbrev pub IsAnyLock : List ℕ → List Field → Option (List ℕ) → Type 0
IsAnyLock name fields None = IsMissing name fields
IsAnyLock name fields (Some id) = IsLock name fields id

-- 1 to 19 digits that are this number
pub record IsSize (digits : List ℕ) (n : ℕ) : Type 0 where
  pub some : 0 < length digits
  pub few : length digits ≤ 19
  pub digits_are : list_all is_ascii_digit digits ≡ true
  pub value_is : n ≡ digits_value 10 digits

-- the greatest size that is expected, where the field is there
abbrev pub IsMost : List Field → Option ℕ → Type 0
IsMost fields None = count_named most_name fields ≡ 0
IsMost fields (Some n) = (digits : List ℕ) × IsOnce most_name fields digits × IsSize digits n

-- the one field of the name isn't empty, and reads as this text
pub record IsText (name : List ℕ) (fields : List Field) (text : List ℕ) : Type 0 where
  pub value : List ℕ
  pub once : IsOnce name fields value
  pub some : 0 < length value
  pub reads : IsReading value text

-- the word for a choice
abbrev pub word_of : Bool → List ℕ
word_of true = codes "true"
word_of false = codes "false"

abbrev pub IsWordOf : List ℕ → Bool → Type 0
IsWordOf value choice = str_eq_ignore_ascii_case value (word_of choice) ≡ true

-- whether what stands under the name may be replaced: as the one field says, in any case, and not where nothing is said of it
abbrev pub IsOverwrite : List Field → Bool → Type 0
IsOverwrite fields choice =
    ((choice ≡ false) × (count_named overwrite_name fields ≡ 0)) ⊎ ((value : List ℕ) × IsOnce overwrite_name fields value × IsWordOf value choice)

-- the name that a new file is asked to have, in one of two fields
abbrev pub IsTarget : List Field → Target → Type 0
IsTarget fields (Suggested name) = (count_named relative_name fields ≡ 0) × IsText suggested_name fields name
IsTarget fields (Relative name overwrite) = (count_named suggested_name fields ≡ 0) × IsText relative_name fields name × IsOverwrite fields overwrite
