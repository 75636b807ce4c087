-- What goes over the wire while a schedule runs.
use Rattle.std.proofs.Common.{◌≡◌, ◌+◌, ◌<◌, ◌≤◌, ℕ, zero, suc, length, take, slice_index_or, arith, true, false, List, [], ◌∷◌, ◌++◌, Option, None, Some, Result, Ok, Err, refl, sym, ap, ◌∙◌, subst, append_assoc, append-nil}
use Rattle.std.specs.List.{slice_get}
use Rattle.host_core.specs.Value.{Book}
use Rattle.host_core.specs.Single.{SeesItsOwn, sight_of}
use Rattle.host_server.specs.declared.desk.Desk.{Desk}
use Rattle.host_server.specs.Turns.{Answers}
use Rattle.wopi_http.specs.declared.message.Request as http
use Rattle.wopi_headers.specs.declared.answer.Answer.{Answer}
use Rattle.wopi_headers.specs.declared.ask.Ask.{Ask}
use Rattle.wopi_headers.specs.Operations.{AsksFor}
use Rattle.schedule_text.specs.declared.schedule.EventLine.{EventLine}
use Rattle.replay_cmd.specs.declared.stage.Stage.{Stage}
use Rattle.replay_cmd.specs.declared.wire.Carried.{Carried}
use Rattle.wopi_http.specs.Replies.{reply_text}
use Rattle.wopi_http.specs.RequestTexts.{request_text}
use Rattle.wopi_headers.specs.Replies.{reply_of}
use Rattle.wopi_headers.specs.Requests.{request_of}
use Rattle.save_session.specs.declared.input.Input.{Input}
use Rattle.wopi_world.specs.World.{is_asked}
use Rattle.replay_cmd.specs.declared.member.Member.{Member}
use Rattle.replay_cmd.specs.declared.member.Request.{Request}
use Rattle.replay_cmd.specs.declared.replies.Reply.{Reply}
use Rattle.replay_cmd.specs.Carryings.{AnswersWhatCame, CarriesLine, CarriesLines, CarriesOver, Delivers, HandsOver, IsAsked, IsAwaited, IsSent, TakesInput, ask_by, refused_as}
use Rattle.replay_cmd.specs.Exchanges.{Exchanges}
use Rattle.replay_cmd.specs.Members.{StepsIn}
use Rattle.replay_cmd.specs.Sessions.{given_as}
use Rattle.replay_cmd.specs.Wires.{AreRefused, BeginWith, GrewBy, IsAnswerIn, IsFoundIn, WentOver, localhost}

abbrev Found : Type 0
Found = Result http.Request ℕ

abbrev the_found : Found → Found
the_found found = found

same_request : (one other : http.Request) → the_found (Ok one) ≡ Ok other → one ≡ other
same_request one other e = cc e

module _ {F : Type 0} where
  -- the host answers the message that came
  pub answered : (old new : Option (List Carried)) (given : List ℕ) (desk : Desk) (moment : ℕ) (before after : Book F) (request : http.Request) (a : Answer)
      → WentOver old new given (λ got. IsFoundIn got (Ok request))
      → Answers desk request moment SeesItsOwn (sight_of before) (sight_of after) (Ok a)
      → ((ask : Ask) (body : List ℕ) → AsksFor request ask → request.body ≡ body → Exchanges desk ask body moment before after a)
      → WentOver old new given (λ got. AnswersWhatCame desk moment before after got a)
  answered old new given desk moment before after request a went answers told = record {
    got = went.got;
    grew = went.grew;
    says = record {
      answers = λ q begins.
          let is : request ≡ q = same_request request q (went.says.only q begins) in
          subst (λ (r : http.Request). Answers desk r moment SeesItsOwn (sight_of before) (sight_of after) (Ok a)) is answers;
      asked = λ q ask body begins asks same.
          let is : request ≡ q = same_request request q (went.says.only q begins) in
          told ask body (subst (λ (r : http.Request). AsksFor r ask) (sym is) asks) (ap (λ (r : http.Request). r.body) is ∙ same);
      none = λ no. absurd (no request went.says.there);
    };
  }

  -- and where none came it does nothing
  pub unanswered : (old new : Option (List Carried)) (given : List ℕ) (desk : Desk) (moment : ℕ) (before : Book F) (status : ℕ) (a : Answer)
      → WentOver old new given (λ got. IsFoundIn got (Err status)) → a ≡ refused_as status
      → WentOver old new given (λ got. AnswersWhatCame desk moment before before got a)
  unanswered old new given desk moment before status a went is = record {
    got = went.got;
    grew = went.grew;
    says = record {
      answers = λ q begins. let no = went.says.only q begins in absurd (cc no);
      asked = λ q ask body begins asks same. let no = went.says.only q begins in absurd (cc no);
      none = λ _. (
        refl,
        is ∙ ap (λ (s : ℕ). refused_as s) (ap (λ (b : Answer). b.status) (sym is)),
        subst (λ (s : ℕ). AreRefused went.got s) (ap (λ (b : Answer). b.status) (sym is)) went.says.refused,
      );
    };
  }

-- ---- what was carried, one after another

pub grew_none : (told : Option (List Carried)) → GrewBy told told []
grew_none None = tt
grew_none (Some past) = sym (append-nil past)

pub grew_more : (old mid new : Option (List Carried)) (front rest : List Carried) → GrewBy old mid front → GrewBy mid new rest → GrewBy old new (front ++ rest)
grew_more None None None front rest a b = tt
grew_more None None (Some new) front rest a b = absurd b
grew_more None (Some mid) new front rest a b = absurd a
grew_more (Some old) None new front rest a b = absurd a
grew_more (Some old) (Some mid) None front rest a b = absurd b
grew_more (Some old) (Some mid) (Some new) front rest a b = b ∙ ap (λ l. l ++ rest) a ∙ append_assoc old front rest

-- one line more
pub lines_more : (lines : List EventLine) (line : EventLine) (old mid new : Stage) (front rest : List Carried) → CarriesLines lines old mid front → CarriesLine line mid new rest
    → CarriesLines (lines ++ line ∷ []) old new (front ++ rest)
lines_more [] line old mid new front rest carried more =
    (new, rest, [], ap (λ l. l ++ rest) carried.1 ∙ sym (append-nil rest), subst (λ (s : Stage). CarriesLine line s new rest) carried.0 more, (refl, refl))
lines_more (one ∷ lines) line old mid new front rest carried more =
    let (next, first, later, is, here, there) = carried in
    (next, first, later ++ rest, ap (λ l. l ++ rest) is ∙ append_assoc first later rest, here, lines_more lines line next mid new later rest there more)

pub carries_as : (old new : Option (List Carried)) (P Q : List Carried → Type 0) → ((carried : List Carried) → P carried → Q carried) → CarriesOver old new P → CarriesOver old new Q
carries_as old new P Q on over = record { carried = over.carried; grew = over.grew; told = on over.carried over.told }

pub carries_nothing : (told : Option (List Carried)) (P : List Carried → Type 0) → P [] → CarriesOver told told P
carries_nothing told P says = record { carried = []; grew = grew_none told; told = says }

-- ---- requests

-- a request was written, carried and answered
pub asked_over : (told told' : Option (List Carried)) (old new : Stage) (moment : ℕ) (who : Option ℕ) (ask named : Ask) (body contents : List ℕ) (a : Answer) (reply : Reply)
    → ask ≡ named → body ≡ contents
    → WentOver told told' (request_text (request_of ask localhost body)) (λ got. AnswersWhatCame old.desk moment old.host.shard new.host.shard got a)
    → new.replies.items ≡ old.replies.items ++ reply ∷ [] → reply.request ≡ who → reply.answer ≡ a
    → new ≡ record old { host = new.host; history = new.history; replies = new.replies } → CarriesOver told told' (IsAsked named contents moment who old new)
asked_over told told' old new moment who ask named body contents a reply ask_is body_is went replies request_is answer_is others =
    let one : List ℕ → List Carried = λ given. record { given = given; got = went.got } ∷ [] in
    let text : Ask → List ℕ → List ℕ = λ k b. request_text (request_of k localhost b) in
    record {
      carried = one (text ask body);
      grew = went.grew;
      told = record {
        got = went.got;
        carried_is = ap (λ k. one (text k body)) ask_is ∙ ap (λ b. one (text named b)) body_is;
        answer = a;
        answers = went.says;
        adds = record { reply = reply; replies = replies; request_is = request_is; answer_is = answer_is };
        others = others;
      };
    }

same_sent : (stage : Stage) (place : ℕ) (request other : Request) (member another : Member) → IsSent stage place request member → IsSent stage place other another
    → (request ≡ other) × (member ≡ another)
same_sent stage place request other member another one two =
    let same : request ≡ other = let first = one.request_is in let second = two.request_is in cc (first, second) in
    let there : slice_get stage.members.items request.sender ≡ Some another =
    subst (λ (r : Request). slice_get stage.members.items r.sender ≡ Some another) (sym same) two.member_is in
    let whose : member ≡ another = let first = one.member_is in cc (first, there) in
    (same, whose)

-- a request that is there is delivered
pub delivered : (told told' : Option (List Carried)) (old new : Stage) (place moment : ℕ) (request : Request) (member : Member) → IsSent old place request member
    → CarriesOver told told' (IsAsked (ask_by member request) request.body moment (Some place) old new) → CarriesOver told told' (Delivers place moment old new)
delivered told told' old new place moment request member sent over =
    carries_as told told' _ _ (λ carried asked. record {
      sent = λ other another is.
          let same = same_sent old place request other member another sent is in
          subst (λ (m : Member). IsAsked (ask_by m other) other.body moment (Some place) old new carried) same.1
          (subst (λ (r : Request). IsAsked (ask_by member r) r.body moment (Some place) old new carried) same.0 asked);
      none = λ no. absurd (no request member sent);
    }) over

pub undelivered : (told : Option (List Carried)) (stage : Stage) (place moment : ℕ) → ((request : Request) (member : Member) → IsSent stage place request member → ⊥)
    → CarriesOver told told (Delivers place moment stage stage)
undelivered told stage place moment never =
    carries_nothing told (Delivers place moment stage stage) (record { sent = λ request member is. absurd (never request member is); none = λ _. (refl, refl) })

pub no_request : (stage : Stage) (place : ℕ) → slice_get stage.requests.items place ≡ None → (request : Request) (member : Member) → IsSent stage place request member → ⊥
no_request stage place none request member sent = let is = sent.request_is in cc (none, is)

pub no_sender : (stage : Stage) (place : ℕ) (request : Request) → slice_get stage.requests.items place ≡ Some request → slice_get stage.members.items request.sender ≡ None
    → (other : Request) (member : Member) → IsSent stage place other member → ⊥
no_sender stage place request there none other member sent =
    let is = sent.request_is in
    let same : other ≡ request = cc (there, is) in
    let gone : slice_get stage.members.items request.sender ≡ Some member = subst (λ (r : Request). slice_get stage.members.items r.sender ≡ Some member) same sent.member_is in
    cc (none, gone)

-- ---- sessions

pub took : (old new : Stage) (place : ℕ) (given : Input) (member : Member) (words : List (List ℕ)) → slice_get old.members.items place ≡ Some member
    → StepsIn old.members.items new.members.items old.requests.items new.requests.items place given words → new ≡ record old { requests = new.requests; members = new.members }
    → TakesInput place given old new
took old new place given member words there steps others = record { steps = λ _ _. (words, steps); none = λ none. absurd (cc (there, none)); others = others }

pub took_none : (stage : Stage) (place : ℕ) (given : Input) → slice_get stage.members.items place ≡ None → TakesInput place given stage stage
took_none stage place given none = record { steps = λ member there. absurd (cc (there, none)); none = λ _. refl; others = refl }

-- ---- replies

pub not_handed : (told : Option (List Carried)) (stage : Stage) (place : ℕ)
    → ((reply : Reply) (asked : ℕ) (request : Request) (member : Member) → IsAwaited stage place reply asked request member → ⊥) → CarriesOver told told (HandsOver place stage stage)
not_handed told stage place never =
    carries_nothing told (HandsOver place stage stage) (record { awaited = λ reply asked request member is. absurd (never reply asked request member is); none = λ _. (refl, refl) })

pub no_reply : (stage : Stage) (place : ℕ) → slice_get stage.replies.items place ≡ None
    → (reply : Reply) (asked : ℕ) (request : Request) (member : Member) → IsAwaited stage place reply asked request member → ⊥
no_reply stage place none reply asked request member waits = let is = waits.reply_is in cc (none, is)

same_reply : (stage : Stage) (place : ℕ) (one : Reply) → slice_get stage.replies.items place ≡ Some one
    → (reply : Reply) (asked : ℕ) (request : Request) (member : Member) → IsAwaited stage place reply asked request member → one ≡ reply
same_reply stage place one there reply asked request member waits = let is = waits.reply_is in cc (there, is)

-- nobody waits for it where somebody else asked
pub reply_of_nobody : (stage : Stage) (place : ℕ) (one : Reply) → slice_get stage.replies.items place ≡ Some one → one.request ≡ None
    → (reply : Reply) (asked : ℕ) (request : Request) (member : Member) → IsAwaited stage place reply asked request member → ⊥
reply_of_nobody stage place one there none reply asked request member waits =
    let same = same_reply stage place one there reply asked request member waits in
    let is : one.request ≡ Some asked = ap (λ (r : Reply). r.request) same ∙ waits.asked_is in
    cc (none, is)

same_asked : (stage : Stage) (place : ℕ) (one : Reply) (at : ℕ) → slice_get stage.replies.items place ≡ Some one → one.request ≡ Some at
    → (reply : Reply) (asked : ℕ) (request : Request) (member : Member) → IsAwaited stage place reply asked request member → at ≡ asked
same_asked stage place one at there some reply asked request member waits =
    let same = same_reply stage place one there reply asked request member waits in
    let is : one.request ≡ Some asked = ap (λ (r : Reply). r.request) same ∙ waits.asked_is in
    cc (some, is)

-- nor where no request, or no session, is there
pub reply_unsent : (stage : Stage) (place : ℕ) (one : Reply) (at : ℕ) → slice_get stage.replies.items place ≡ Some one → one.request ≡ Some at
    → ((request : Request) (member : Member) → IsSent stage at request member → ⊥)
    → (reply : Reply) (asked : ℕ) (request : Request) (member : Member) → IsAwaited stage place reply asked request member → ⊥
reply_unsent stage place one at there some never reply asked request member waits =
    let same = same_asked stage place one at there some reply asked request member waits in
    never request member (subst (λ (n : ℕ). IsSent stage n request member) (sym same) waits.sent)

-- nor where the session waits for another
pub reply_unawaited : (stage : Stage) (place : ℕ) (one : Reply) (at : ℕ) (sent : Request) (whose : Member) → slice_get stage.replies.items place ≡ Some one → one.request ≡ Some at
    → IsSent stage at sent whose → is_asked whose.asked at ≡ false
    → (reply : Reply) (asked : ℕ) (request : Request) (member : Member) → IsAwaited stage place reply asked request member → ⊥
reply_unawaited stage place one at sent whose there some is other reply asked request member waits =
    let same = same_asked stage place one at there some reply asked request member waits in
    let both = same_sent stage at sent request whose member is (subst (λ (n : ℕ). IsSent stage n request member) (sym same) waits.sent) in
    let still : is_asked whose.asked at ≡ true =
    subst (λ (n : ℕ). is_asked whose.asked n ≡ true) (sym same) (subst (λ (m : Member). is_asked m.asked asked ≡ true) (sym both.1) waits.waits) in
    cc (other, still)

-- a reply that is waited for is handed over
pub handed : (told told' : Option (List Carried)) (old new : Stage) (place : ℕ) (reply : Reply) (asked : ℕ) (request : Request) (member : Member) (found : Option Answer)
    → IsAwaited old place reply asked request member → WentOver told told' (reply_text (reply_of reply.answer true)) (λ got. IsAnswerIn got found)
    → TakesInput request.sender (given_as found) old new → CarriesOver told told' (HandsOver place old new)
handed told told' old new place reply asked request member found is went takes = record {
  carried = record { given = reply_text (reply_of reply.answer true); got = went.got } ∷ [];
  grew = went.grew;
  told = record {
    awaited = λ one at sent whose waits.
        let first = same_reply old place reply is.reply_is one at sent whose waits in
        let second = same_asked old place reply asked is.reply_is is.asked_is one at sent whose waits in
        let both = same_sent old asked request sent member whose is.sent (subst (λ (n : ℕ). IsSent old n sent whose) (sym second) waits.sent) in
        record {
          got = went.got;
          carried_is = ap (λ (r : Reply). record { given = reply_text (reply_of r.answer true); got = went.got } ∷ []) first;
          found = found;
          answers = went.says;
          takes = subst (λ (r : Request). TakesInput r.sender (given_as found) old new) both.0 takes;
        };
    none = λ no. absurd (no reply asked request member is);
  };
}

-- ---- one line after another

take_next : (lines : List EventLine) (n : ℕ) (line : EventLine) → n < length lines → line ≡ slice_index_or lines n line → take (n + 1) lines ≡ take n lines ++ line ∷ []
take_next [] n line within at = absurd (omega (arith, within))
take_next (one ∷ lines) zero line within at = ap (λ l. l ∷ []) (sym at)
take_next (one ∷ lines) (suc n) line within at =
    let next : suc n + 1 ≡ suc (n + 1) = omega arith in
    ap (λ m. take m (one ∷ lines)) next ∙ ap (λ l. one ∷ l) (take_next lines n line (omega (arith, within)) at)

pub over_more : (start mid end : Option (List Carried)) (lines : List EventLine) (n : ℕ) (line : EventLine) (first old new : Stage) → n < length lines → line ≡ slice_index_or lines n line
    → CarriesOver start mid (CarriesLines (take n lines) first old) → CarriesOver mid end (CarriesLine line old new) → CarriesOver start end (CarriesLines (take (n + 1) lines) first new)
over_more start mid end lines n line first old new within at so_far here = record {
  carried = so_far.carried ++ here.carried;
  grew = grew_more start mid end so_far.carried here.carried so_far.grew here.grew;
  told = subst (λ l. CarriesLines l first new (so_far.carried ++ here.carried)) (sym (take_next lines n line within at))
      (lines_more (take n lines) line first old new so_far.carried here.carried so_far.told here.told);
}

take_whole : (lines : List EventLine) (n : ℕ) → length lines ≤ n → take n lines ≡ lines
take_whole [] zero past = refl
take_whole [] (suc n) past = refl
take_whole (one ∷ lines) zero past = absurd (omega (arith, past))
take_whole (one ∷ lines) (suc n) past = ap (λ l. one ∷ l) (take_whole lines n (omega (arith, past)))

pub over_all : (start end : Option (List Carried)) (lines : List EventLine) (n : ℕ) (first new : Stage) → length lines ≤ n
    → CarriesOver start end (CarriesLines (take n lines) first new) → CarriesOver start end (CarriesLines lines first new)
over_all start end lines n first new past over = subst (λ l. CarriesOver start end (CarriesLines l first new)) (take_whole lines n past) over

-- ---- the arms of a line

pub at_line : (told told' end : Option (List Carried)) (old new after : Stage) (line kind : EventLine) → end ≡ told' → line ≡ kind → new ≡ after
    → CarriesOver told told' (CarriesLine kind old after) → CarriesOver told end (CarriesLine line old new)
at_line told told' end old new after line kind ends is same over =
    subst (λ (k : EventLine). CarriesOver told end (CarriesLine k old new)) (sym is)
    (subst (λ (s : Stage). CarriesOver told end (CarriesLine kind old s)) (sym same)
    (subst (λ (t : Option (List Carried)). CarriesOver told t (CarriesLine kind old after)) (sym ends) over))

pub nothing_at : (told : Option (List Carried)) (P : Type 0) → P → CarriesOver told told (λ carried. (carried ≡ []) × P)
nothing_at told P says = carries_nothing told (λ carried. (carried ≡ []) × P) (refl, says)
