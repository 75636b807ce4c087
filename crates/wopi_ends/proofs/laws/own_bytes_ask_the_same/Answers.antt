use Rattle.std.proofs.Common.{◌≡◌, ℕ, List, [], ◌++◌, sym, ap, subst, ◌∙◌}
use Rattle.wopi_http.specs.declared.message.Request.{Request}
use Rattle.wopi_http.specs.RequestTexts.{received}
use Rattle.wopi_headers.specs.Known.{known_in}
use Rattle.wopi_headers.specs.Operations.{AsksFor}
use Rattle.wopi_headers.specs.Requests.{IsReadable, request_of}
use Rattle.host_server.specs.declared.desk.Desk.{Desk}
use Rattle.host_server.specs.Turns.{Turn, IsTurn}
use Rattle.wopi_client.specs.declared.desktop.Desktop.{Desktop}
use Rattle.wopi_world.specs.Requests.{Client, Sent, body}
use Rattle.wopi_ends.specs.Messages.{ask_of, bytes_of}
use Rattle.wopi_ends.proofs.Unsaid.{sent_says_nothing}
use Rattle.wopi_ends.proofs.laws.own_bytes_ask_the_same.Goals as goal

pub returns : goal.returns
returns c =
    -- the message is the request as it is read
    let same : (desk : Desk) (desktop : Desktop) (client : Client) (sent : Sent) (t : Turn) → IsReadable (ask_of desktop client sent) desktop.authority (body sent) → IsTurn desk t →
    t.bytes ≡ bytes_of desktop client sent → t.request ≡ received (request_of (ask_of desktop client sent) desktop.authority (body sent)) =
    λ desk desktop client sent t readable turn bytes.
    let q = received (request_of (ask_of desktop client sent) desktop.authority (body sent)) in
    let message = c.what_is_asked_is_read.ensures.message (ask_of desktop client sent) desktop.authority (body sent) readable in
    (c.no_message_begins_another.ensures t.bytes (bytes_of desktop client sent) [] [] t.request q _ _ turn.message message (ap (λ (l : List ℕ). l ++ []) bytes)).1 in
    record {
      asks = λ desk desktop client sent t readable turn bytes.
          let ask = ask_of desktop client sent in
          let is = same desk desktop client sent t readable turn bytes in (
            subst (λ (r : Request). AsksFor r ask) (sym is) (c.what_is_asked_is_read.ensures.asks ask desktop.authority (body sent) readable),
            ap (λ (r : Request). r.body) is ∙ c.what_is_asked_is_read.ensures.body ask desktop.authority (body sent),
          );
      says_no_moment = λ desk desktop client sent t readable turn bytes.
          ap (λ (r : Request). known_in r.fields) (same desk desktop client sent t readable turn bytes) ∙ sent_says_nothing desktop client sent;
    }
