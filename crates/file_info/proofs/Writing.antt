-- What is written tells what it was written of.
use Rattle.std.proofs.Common.{◌≡◌, ◌≤◌, ◌↔◌, ℕ, List, Bool, true, Some, refl, ap, subst, lit≤}
use Rattle.std.specs.Str.{IsUtf8}
use Rattle.serde_json.specs.Data.{Data, boolean, depth}
use Rattle.serde_json.specs.Read.{read, max_depth}
use Rattle.file_info.specs.declared.info.Info.{Info}
use Rattle.file_info.specs.Json.{IsJsonOf}
use Rattle.file_info.specs.Info.{IsInfoOf, info_json}
use Rattle.file_info.specs.Relative.{IsRelativeOf, relative_json}

json_written : (text : List ℕ) (value json : Data) → value ≡ json → IsUtf8 text → (depth value ≤ max_depth → read text ≡ Some value) → depth json ≤ max_depth → IsJsonOf text json
json_written text value json same utf8 back shallow =
    let moved = subst (λ v. depth v ≤ max_depth → read text ≡ Some v) same back in
    (utf8, moved shallow)

same_right : (b : Bool) → (b ≡ true) ↔ (Some (boolean b) ≡ Some (boolean true))
same_right b = (λ e. ap (λ c. Some (boolean c)) e, λ e. cc)

pub info_tells : (text : List ℕ) (info : Info) (value : Data) → value ≡ info_json info → IsUtf8 text → (depth value ≤ max_depth → read text ≡ Some value) → IsInfoOf text info
info_tells text info value same utf8 back =
    (info_json info, json_written text value (info_json info) same utf8 back (lit≤ tt), record { name = refl; owner = refl; size = refl; user = refl; version = refl; can_write = same_right info.can_write })

pub relative_tells : (text name url : List ℕ) (value : Data) → value ≡ relative_json name url → IsUtf8 text → (depth value ≤ max_depth → read text ≡ Some value) → IsRelativeOf text name url
relative_tells text name url value same utf8 back =
    (relative_json name url, json_written text value (relative_json name url) same utf8 back (lit≤ tt), refl, refl)
