-- What a request is answered, and what is done for it (MS-WOPI; that an unreadable token is 401 and a full shard 500 is own).
use Rattle.std.specs.Prelude.{ℕ, ◌≡◌, ◌<◌, Bool, true, false, List, [], ◌∷◌, Option, None, Some}
use Rattle.wopi_model.specs.declared.token.Token.{Token}
use Rattle.wopi_model.specs.declared.calls.Act.{Act}
use Rattle.wopi_model.specs.declared.calls.Call.{Call}
use Rattle.wopi_model.specs.Shard.{Entry}
use Rattle.wopi_http.specs.declared.message.Field.{Field}
use Rattle.wopi_http.specs.declared.message.Request.{Request}
use Rattle.wopi_headers.specs.declared.answer.Answer.{Answer}
use Rattle.wopi_headers.specs.declared.ask.Ask.{Ask}
use Rattle.wopi_headers.specs.declared.ask.Op.TheVariants as op
use Rattle.wopi_headers.specs.declared.ask.Target.{Target}
use Rattle.wopi_headers.specs.declared.container.ContainerAsk.{ContainerAsk}
use Rattle.wopi_headers.specs.Containers.{AsksContainer, IsAtContainers, IsPlaceRefusal}
use Rattle.wopi_headers.specs.Operations.{AsksFor}
use Rattle.access_tokens.specs.TokenText.{IsSigned}
use Rattle.wopi_acts.specs.Acts.{act_of}
use Rattle.wopi_acts.specs.Answers.{status_only}
use Rattle.host_core.specs.Caller.{Sight}
use Rattle.host_core.specs.declared.listing.Listing.{Listing}
use Rattle.containers.specs.Answers.{ContainerAnswered}
use Rattle.host_server.specs.declared.desk.Desk.{Desk}
use Rattle.host_server.specs.declared.copying.Copying.{Copying}
use Rattle.host_server.specs.Deeds.{Deed, EditorCall, Made, MadeFor, Blocked, Listed, IsFor, IsFull, IsOf}
use Rattle.host_server.specs.Editing.{refused_status, token_taken}
use Rattle.host_server.specs.declared.knowing.LastSave.{LastSave}
use Rattle.host_server.specs.Known.{last_known, moment_known, suite_of}
use Rattle.host_server.specs.Telling.{journal_full, told, told_for}
use Rattle.host_server.specs.Copies.{Copied}

abbrev pub call_of : Ask → Token → Act → Call
call_of ask token asked = record { name = ask.file; token = token; act = asked }

abbrev pub copying_of : Ask → Token → Target → List ℕ → ℕ → Copying
copying_of ask token target body moment =
    record { source = ask.file; token = token; target = target; contents = body; moment = moment }

-- What an ask with this body is answered at this moment, and what is done for it, by whether the host serves editors, and which save the request knows of.
pub data RuledTo (editor : Bool) (last : Option LastSave) (desk : Desk) (ask : Ask) (body : List ℕ) (moment : ℕ) (deeds : List Deed) (a : Answer) : Type 0 where
  unauthorized : ((token : Token) → ¬ (IsSigned desk.keys ask.token token)) → deeds ≡ [] → a ≡ status_only 401 → RuledTo editor last desk ask body moment deeds a
  ruled : (token : Token) (asked : Act) (entry : Entry) → editor ≡ false → IsSigned desk.keys ask.token token → act_of ask.op body ≡ Some asked
      → IsOf (call_of ask token asked) moment entry → deeds ≡ Made entry ∷ [] → a ≡ told entry → RuledTo editor last desk ask body moment deeds a
  ruled_for : (token : Token) (asked : Act) (one : EditorCall) → editor ≡ true → IsSigned desk.keys ask.token token → act_of ask.op body ≡ Some asked
      → IsFor (call_of ask token asked) (moment_known last) moment one → deeds ≡ MadeFor one ∷ [] → a ≡ told_for desk.origin (suite_of last) one
      → RuledTo editor last desk ask body moment deeds a
  full : (token : Token) (asked : Act) (before after : Sight) → IsSigned desk.keys ask.token token → act_of ask.op body ≡ Some asked
      → IsFull (call_of ask token asked) moment before after
      → deeds ≡ Blocked (call_of ask token asked) moment before after ∷ [] → a ≡ journal_full → RuledTo editor last desk ask body moment deeds a
  copied : (token : Token) (target : Target) → IsSigned desk.keys ask.token token → ask.op ≡ op.PutRelative target
      → Copied desk (copying_of ask token target body moment) deeds a → RuledTo editor last desk ask body moment deeds a

-- the same of a host that serves no editors
abbrev pub Ruled : Desk → Ask → List ℕ → ℕ → List Deed → Answer → Type 0
Ruled = RuledTo false None

-- the deed of listing, where there are listings
abbrev pub listed_by : List Listing → List Deed
listed_by [] = []
listed_by (listing ∷ listings) = Listed (listing ∷ listings) ∷ []

-- What an ask of the container is answered at this moment, and what is done for it: the listings that the answer is made of, where there are any.
-- A host has one shard or more.
pub record Contained (desk : Desk) (ask : ContainerAsk) (moment : ℕ) (deeds : List Deed) (a : Answer) : Type 0 where
  pub shards : ℕ
  pub some : 0 < shards
  pub listings : List Listing
  pub answered : ContainerAnswered shards desk.keys desk.base desk.opened ask moment listings a
  pub deeds_are : deeds ≡ listed_by listings

-- what is asked by a request with these fields, under the token that it is judged by
abbrev pub asked_with : Bool → List Field → Ask → Ask
asked_with editor fields ask = record ask { token = token_taken editor fields ask.token }

abbrev pub container_asked_with : Bool → List Field → ContainerAsk → ContainerAsk
container_asked_with editor fields ask = record ask { token = token_taken editor fields ask.token }

-- What a request is answered at this moment, and what is done for it, by whether the host serves editors.
pub data AnsweredTo (editor : Bool) (desk : Desk) (q : Request) (moment : ℕ) (deeds : List Deed) (a : Answer) : Type 0 where
  refused : (s : ℕ) → IsPlaceRefusal q s → deeds ≡ [] → a ≡ status_only (refused_status editor q s) → AnsweredTo editor desk q moment deeds a
  asked : (ask : Ask) → AsksFor q ask → RuledTo editor (last_known editor q.fields) desk (asked_with editor q.fields ask) q.body moment deeds a → AnsweredTo editor desk q moment deeds a
  contained : (ask : ContainerAsk) → IsAtContainers q → AsksContainer q ask → Contained desk (container_asked_with editor q.fields ask) moment deeds a
      → AnsweredTo editor desk q moment deeds a

-- the same of a host that serves no editors
abbrev pub Answered : Desk → Request → ℕ → List Deed → Answer → Type 0
Answered = AnsweredTo false
