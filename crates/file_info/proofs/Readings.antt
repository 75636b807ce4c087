-- A body has one value at most, and a value tells one thing.
use Rattle.std.proofs.Common.{◌≡◌, ◌↔◌, ℕ, List, Bool, true, false, Option, Some, None, refl, sym, ◌∙◌, subst}
use Rattle.serde_json.specs.Data.{Data}
use Rattle.file_info.specs.declared.fault.Required.{Required}
use Rattle.file_info.specs.declared.fault.Required.TheVariants.{Name, Url}
use Rattle.file_info.specs.declared.fault.InfoFault.{InfoFault}
use Rattle.file_info.specs.declared.fault.InfoFault.TheVariants.{NotJson, Missing, Memory}
use Rattle.file_info.specs.declared.info.Info.{Info}
use Rattle.file_info.specs.Json.{IsJsonOf, IsFaultOf, first_missing, text_at, member_name}
use Rattle.file_info.specs.Info.{Tells, IsInfoOf, info_required}
use Rattle.file_info.specs.Relative.{IsRelativeOf, relative_required}

one : {T : Type 0} (o : Option T) (x y : T) → o ≡ Some x → o ≡ Some y → x ≡ y
one o x y h k = let e : Some x ≡ Some y = sym h ∙ k in cc

one_truth : {P : Type 0} (a b : Bool) → ((a ≡ true) ↔ P) → ((b ≡ true) ↔ P) → a ≡ b
one_truth true true h k = refl
one_truth true false h k = sym (k.1 (h.0 refl))
one_truth false true h k = h.1 (k.0 refl)
one_truth false false h k = refl

one_telling : (value : Data) (i j : Info) → Tells value i → Tells value j → i ≡ j
one_telling value i j h k =
    let name = one _ i.name j.name h.name k.name in
    let owner = one _ i.owner j.owner h.owner k.owner in
    let user = one _ i.user j.user h.user k.user in
    let version = one _ i.version j.version h.version k.version in
    let size = one _ i.size j.size h.size k.size in
    let can_write = one_truth i.can_write j.can_write h.can_write k.can_write in
    λ t. record { name = name t; owner = owner t; user = user t; version = version t; size = size t; can_write = can_write t }

abbrev NamesIn : Data → List ℕ → List ℕ → Type 0
NamesIn value name url = (text_at (member_name Name) value ≡ Some name) × (text_at (member_name Url) value ≡ Some url)

pub one_info : (bytes : List ℕ) (i j : Info) → IsInfoOf bytes i → IsInfoOf bytes j → i ≡ j
one_info bytes i j h k = one_telling k.0 i j (subst (λ v. Tells v i) (one _ h.0 k.0 h.1.1 k.1.1) h.2) k.2

-- a body whose value has all members is refused for want of memory alone
only_memory : (required : List Required) (bytes : List ℕ) (value : Data) (fault : InfoFault) → IsJsonOf bytes value → first_missing required value ≡ None → IsFaultOf required bytes fault → fault ≡ Memory
only_memory required bytes value NotJson h all refused = absurd (refused value h)
only_memory required bytes value (Missing field) h all refused =
    let same = one _ refused.0 value refused.1.1 h.1 in
    let lacks : first_missing required value ≡ Some field = subst (λ v. first_missing required v ≡ Some field) same refused.2 in
    let both : None ≡ Some field = sym all ∙ lacks in
    absurd cc
only_memory required bytes value Memory h all refused = refl

pub info_is_read : (bytes : List ℕ) (i : Info) (fault : InfoFault) → IsInfoOf bytes i → IsFaultOf info_required bytes fault → fault ≡ Memory
info_is_read bytes i fault h refused =
    only_memory info_required bytes h.0 fault h.1 (rw (h.2.name, h.2.owner, h.2.size, h.2.user, h.2.version) refl) refused

one_naming : (name url other place : List ℕ) (v w : Data) → v ≡ w → NamesIn v name url → NamesIn w other place → (name ≡ other) × (url ≡ place)
one_naming name url other place v w same h k =
    let moved = subst (λ value. NamesIn value name url) same h in
    (one _ name other moved.0 k.0, one _ url place moved.1 k.1)

pub one_relative : (bytes name url other place : List ℕ) → IsRelativeOf bytes name url → IsRelativeOf bytes other place → (name ≡ other) × (url ≡ place)
one_relative bytes name url other place h k =
    one_naming name url other place h.0 k.0 (one _ h.0 k.0 h.1.1 k.1.1) (h.2, h.3) (k.2, k.3)

pub relative_is_read : (bytes name url : List ℕ) (fault : InfoFault) → IsRelativeOf bytes name url → IsFaultOf relative_required bytes fault → fault ≡ Memory
relative_is_read bytes name url fault h refused =
    only_memory relative_required bytes h.0 fault h.1 (rw (h.2, h.3) refl) refused
