-- A session's request doesn't say when its file was last saved.
use Rattle.std.proofs.Common.{◌≡◌, ℕ, ◌||◌, nat_lt, List, Option, Some, None, if◌then◌else◌, refl, ap, ◌∙◌}
use Rattle.wopi_http.specs.declared.message.Field.{Field}
use Rattle.wopi_http.specs.Fields.{count_named}
use Rattle.wopi_http.specs.RequestTexts.{received}
use Rattle.wopi_headers.specs.Known.{cool_name, lool_name, joined, known_in}
use Rattle.wopi_headers.specs.Readings.{value_named}
use Rattle.wopi_headers.specs.Replies.{length_field, close_fields}
use Rattle.wopi_headers.specs.Requests.{request_of}
use Rattle.wopi_headers.proofs.Counts.{none_named}
use Rattle.wopi_client.specs.declared.desktop.Desktop.{Desktop}
use Rattle.wopi_world.specs.Requests.{Client, Sent, Info, TakeLock, Get, Put, Relock, RefreshLock, Unlock, body}
use Rattle.wopi_ends.specs.Messages.{ask_of}

-- where neither field is there nothing is said
says_nothing : (fields : List Field) → value_named cool_name fields ≡ None → value_named lool_name fields ≡ None → known_in fields ≡ Some None
unfolding known_in
says_nothing fields cool lool =
    ap (λ (n : ℕ). if nat_lt 1 n || nat_lt 1 (count_named lool_name fields) then None else joined (value_named cool_name fields) (value_named lool_name fields)) (none_named cool_name fields cool)
    ∙ ap (λ (n : ℕ). if nat_lt 1 0 || nat_lt 1 n then None else joined (value_named cool_name fields) (value_named lool_name fields)) (none_named lool_name fields lool)
    ∙ ap (λ (value : Option (List ℕ)). joined value (value_named lool_name fields)) cool
    ∙ ap (joined None) lool

abbrev fields_sent : Desktop → Client → Sent → List Field
fields_sent desktop client sent = (received (request_of (ask_of desktop client sent) desktop.authority (body sent))).fields

no_cool : (desktop : Desktop) (client : Client) (sent : Sent) → value_named cool_name (fields_sent desktop client sent) ≡ None
unfolding request_of length_field close_fields
no_cool desktop client Info = refl
no_cool desktop client TakeLock = refl
no_cool desktop client Get = refl
no_cool desktop client (Put number contents) = refl
no_cool desktop client (Relock number) = refl
no_cool desktop client (RefreshLock number) = refl
no_cool desktop client (Unlock number) = refl

no_lool : (desktop : Desktop) (client : Client) (sent : Sent) → value_named lool_name (fields_sent desktop client sent) ≡ None
unfolding request_of length_field close_fields
no_lool desktop client Info = refl
no_lool desktop client TakeLock = refl
no_lool desktop client Get = refl
no_lool desktop client (Put number contents) = refl
no_lool desktop client (Relock number) = refl
no_lool desktop client (RefreshLock number) = refl
no_lool desktop client (Unlock number) = refl

pub sent_says_nothing : (desktop : Desktop) (client : Client) (sent : Sent) → known_in (fields_sent desktop client sent) ≡ Some None
sent_says_nothing desktop client sent = says_nothing (fields_sent desktop client sent) (no_cool desktop client sent) (no_lool desktop client sent)
