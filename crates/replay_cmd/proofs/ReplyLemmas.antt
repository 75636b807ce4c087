-- The replies that are kept, and what they tell.
use Rattle.std.proofs.Common.{◌≡◌, ◌==◌, ℕ, zero, suc, ◌-◌, ◌<◌, Bool, false, cond, List, [], ◌∷◌, ◌++◌, length, Option, None, Some, refl, ap, ◌∙◌, subst, arith}
use Rattle.std.proofs.lemmas.Bool.{cond_both}
use Rattle.std.proofs.lemmas.List.{append-nil, length-append}
use Rattle.std.specs.List.{slice_get}
use Rattle.wopi_model.specs.declared.token.Token.{Token}
use Rattle.wopi_model.specs.declared.calls.Ruling.{Ruling}
use Rattle.wopi_model.specs.Act.{is_create}
use Rattle.wopi_model.specs.Shard.{Step, Entry}
use Rattle.wopi_headers.specs.declared.answer.Answer.{Answer}
use Rattle.wopi_headers.specs.declared.answer.BodyKind.TheVariants.{Json}
use Rattle.wopi_acts.specs.Answers.{ruling_told}
use Rattle.file_info.specs.Relative.{relative_text}
use Rattle.host_server.specs.declared.desk.Desk.{Desk}
use Rattle.host_server.specs.Telling.{told_of}
use Rattle.host_server.specs.Copies.{file_told, address}
use Rattle.wopi_world.specs.History.{Item, Ran}
use Rattle.wopi_world.specs.World as in_world
use Rattle.wopi_world.proofs.Lists.{get_left, get_new}
use Rattle.replay_cmd.specs.declared.replies.Reply.{Reply}
use Rattle.replay_cmd.specs.Answers.{answer_told, IsLastOf, IsReply, AreReplies}
use Rattle.replay_cmd.proofs.Calling.{told_status, told_lock}

-- an answer has the ruling's status, lock and reason
abbrev pub SaysSame : Answer → Ruling → Type 0
SaysSame a ruling = (a.status ≡ ruling.status) × (a.lock ≡ ruling.lock) × (a.reason ≡ ruling.reason)

pub told_file : (desk : Desk) (name : List ℕ) (asking : Token) (moment : ℕ) (ruling : Ruling) → SaysSame (file_told desk name asking moment ruling) ruling
told_file desk name asking moment ruling =
    cond_both (ruling.status == 200) (record (ruling_told ruling) { version = None; kind = Json; body = relative_text name (address desk name asking moment) }) (ruling_told ruling)
    (λ (a : Answer). SaysSame a ruling) (λ e. (refl, refl, refl)) (λ e. (refl, refl, refl))

pub answer_status : (desk : Desk) (entry : Entry) (ruling : Ruling) → (answer_told desk entry ruling).status ≡ ruling.status
answer_status desk entry ruling =
    cond_both (is_create entry.call.act) (file_told desk entry.call.name entry.call.token entry.moment ruling) (told_of entry.call ruling)
    (λ (a : Answer). a.status ≡ ruling.status) (λ e. (told_file desk entry.call.name entry.call.token entry.moment ruling).0) (λ e. told_status entry.call ruling)

pub answer_lock : (desk : Desk) (entry : Entry) (ruling : Ruling) → (answer_told desk entry ruling).lock ≡ ruling.lock
answer_lock desk entry ruling =
    cond_both (is_create entry.call.act) (file_told desk entry.call.name entry.call.token entry.moment ruling) (told_of entry.call ruling)
    (λ (a : Answer). a.lock ≡ ruling.lock) (λ e. (told_file desk entry.call.name entry.call.token entry.moment ruling).1) (λ e. told_lock entry.call ruling)

-- what tells a call that makes no copy
pub plain_answer : (desk : Desk) (entry : Entry) (ruling : Ruling) → is_create entry.call.act ≡ false → answer_told desk entry ruling ≡ told_of entry.call ruling
plain_answer desk entry ruling plain =
    ap (λ (b : Bool). cond b (file_told desk entry.call.name entry.call.token entry.moment ruling) (told_of entry.call ruling)) plain

-- the entry at the end of a history
pub last_made : (history : List Item) (entry : Entry) (request : Option ℕ) (before : ℕ) (ruling : Ruling) → before < length (history ++ Ran (Step entry) ∷ []) →
    IsLastOf (history ++ Ran (Step entry) ∷ []) (record { request = request; before = before; after = length (history ++ Ran (Step entry) ∷ []); ruling = ruling }) entry
last_made history entry request before ruling some =
    let long = length-append history (Ran (Step entry) ∷ []) in
    let at : length (history ++ Ran (Step entry) ∷ []) - 1 ≡ length history = omega (arith, long) in
    record { some = some; there = ap (slice_get (history ++ Ran (Step entry) ∷ [])) at ∙ get_new history (Ran (Step entry)) }

pub AreReplies-push : (desk : Desk) (history : List Item) (requests : List in_world.Request) (kept : List Reply) (replies : List in_world.Reply) (one : Reply) (reply : in_world.Reply)
    → AreReplies desk history requests kept replies → IsReply desk history requests one reply → AreReplies desk history requests (kept ++ one ∷ []) (replies ++ reply ∷ [])
AreReplies-push desk history requests [] [] one reply h is = (is, tt)
AreReplies-push desk history requests [] (r ∷ replies) one reply h is = absurd h
AreReplies-push desk history requests (k ∷ kept) [] one reply h is = absurd h
AreReplies-push desk history requests (k ∷ kept) (r ∷ replies) one reply h is = (h.0, AreReplies-push desk history requests kept replies one reply h.1 is)

-- more items and more requests change no reply
AreReplies-more : (desk : Desk) (history later : List Item) (requests more : List in_world.Request) (kept : List Reply) (replies : List in_world.Reply)
    → AreReplies desk history requests kept replies → AreReplies desk (history ++ later) (requests ++ more) kept replies
AreReplies-more desk history later requests more [] [] h = tt
AreReplies-more desk history later requests more [] (r ∷ replies) h = absurd h
AreReplies-more desk history later requests more (k ∷ kept) [] h = absurd h
AreReplies-more desk history later requests more (k ∷ kept) (r ∷ replies) h =
    let one = h.0 in (
      record {
        request = one.request;
        before = one.before;
        after = one.after;
        entry = one.entry;
        last = record { some = one.last.some; there = get_left history later (r.after - 1) (Ran (Step one.entry)) one.last.there };
        answer = one.answer;
        looks = λ place e. let l = one.looks place e in (l.0, get_left requests more place l.0 l.1, l.2);
      },
      AreReplies-more desk history later requests more kept replies h.1,
    )

pub AreReplies-sent : (desk : Desk) (history : List Item) (requests more : List in_world.Request) (kept : List Reply) (replies : List in_world.Reply)
    → AreReplies desk history requests kept replies → AreReplies desk history (requests ++ more) kept replies
AreReplies-sent desk history requests more kept replies h =
    subst (λ (l : List Item). AreReplies desk l (requests ++ more) kept replies) (append-nil history) (AreReplies-more desk history [] requests more kept replies h)

pub AreReplies-later : (desk : Desk) (history later : List Item) (requests : List in_world.Request) (kept : List Reply) (replies : List in_world.Reply)
    → AreReplies desk history requests kept replies → AreReplies desk (history ++ later) requests kept replies
AreReplies-later desk history later requests kept replies h =
    subst (λ (l : List in_world.Request). AreReplies desk (history ++ later) l kept replies) (append-nil requests) (AreReplies-more desk history later requests [] kept replies h)

pub AreReplies-length : (desk : Desk) (history : List Item) (requests : List in_world.Request) (kept : List Reply) (replies : List in_world.Reply)
    → AreReplies desk history requests kept replies → length kept ≡ length replies
AreReplies-length desk history requests [] [] h = refl
AreReplies-length desk history requests [] (r ∷ replies) h = absurd h
AreReplies-length desk history requests (k ∷ kept) [] h = absurd h
AreReplies-length desk history requests (k ∷ kept) (r ∷ replies) h = ap suc (AreReplies-length desk history requests kept replies h.1)

-- the reply at a place
pub reply_at : (desk : Desk) (history : List Item) (requests : List in_world.Request) (kept : List Reply) (replies : List in_world.Reply) (place : ℕ) (one : Reply)
    → AreReplies desk history requests kept replies → slice_get kept place ≡ Some one
    → (reply : in_world.Reply) × (slice_get replies place ≡ Some reply) × IsReply desk history requests one reply
reply_at desk history requests [] [] place one h e = cc
reply_at desk history requests [] (r ∷ replies) place one h e = absurd h
reply_at desk history requests (k ∷ kept) [] place one h e = absurd h
reply_at desk history requests (k ∷ kept) (r ∷ replies) zero one h e =
    let same_one : k ≡ one = cc in (r, refl, subst (λ (x : Reply). IsReply desk history requests x r) same_one h.0)
reply_at desk history requests (k ∷ kept) (r ∷ replies) (suc place) one h e = reply_at desk history requests kept replies place one h.1 e

pub no_reply_at : (desk : Desk) (history : List Item) (requests : List in_world.Request) (kept : List Reply) (replies : List in_world.Reply) (place : ℕ)
    → AreReplies desk history requests kept replies → slice_get kept place ≡ None → slice_get replies place ≡ None
no_reply_at desk history requests [] [] place h e = refl
no_reply_at desk history requests [] (r ∷ replies) place h e = absurd h
no_reply_at desk history requests (k ∷ kept) [] place h e = absurd h
no_reply_at desk history requests (k ∷ kept) (r ∷ replies) zero h e = cc
no_reply_at desk history requests (k ∷ kept) (r ∷ replies) (suc place) h e = no_reply_at desk history requests kept replies place h.1 e
