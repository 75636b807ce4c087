-- What comes over a straight wire.
use Rattle.std.proofs.Common.{◌≡◌, ◌+◌, ℕ, inr, arith, false, true, List, [], ◌∷◌, ◌++◌, length, sym, ap, subst, ◌∙◌}
use Rattle.std.proofs.lemmas.List.{append-nil, length-append}
use Rattle.wopi_http.specs.declared.message.Request.{Request}
use Rattle.wopi_http.specs.declared.message.Reply.{Reply}
use Rattle.wopi_http.specs.declared.reading.Got.{Got}
use Rattle.wopi_http.specs.Messages.{Msg}
use Rattle.wopi_http.specs.declared.reading.Got.TheVariants.{Message, End, Refused}
use Rattle.wopi_http.specs.Answers.{Finds, FindsEach, Reads}
use Rattle.wopi_http.specs.Replies.{reply_text}
use Rattle.wopi_http.specs.ReplyReads.{ReadsReply}
use Rattle.wopi_headers.specs.declared.answer.Answer.{Answer}
use Rattle.wopi_headers.specs.Replies.{reply_of}
use Rattle.wopi_headers.specs.AnswerReads.{answer_of, told}
use Rattle.replay_cmd.specs.Sessions.{IsGivenBack}
use Rattle.std.specs.Prelude.{Option, None, Some, IfSome, All, Ok, Err}
use Rattle.std.specs.Io.KnownBytes.{Consumes, prepend_known}
use Rattle.std.proofs.lemmas.List.Elements.{All-from_recursion}
use Rattle.wopi_headers.specs.declared.ask.Ask.{Ask}
use Rattle.wopi_http.specs.RequestTexts.{head_text, request_text}
use Rattle.wopi_headers.specs.Requests.{request_of, IsVisible}
use Rattle.replay_cmd.specs.declared.wire.Carried.{Carried}
use Rattle.replay_cmd.specs.Wires.{AreRefused, BeginWith, GrewBy, IsFoundIn, WentOver, localhost}

-- a whole input that is a message is found to be it
pub found : (input text : List ℕ) (q : Request) (got : Got) → FindsEach input got → input ≡ text → Msg text q false → Finds q got
found input text q got each same msg = each text [] q false msg (same ∙ sym (append-nil text))

-- a reply that is told comes back
pub came_back : (input : List ℕ) (a : Answer) (r : Reply) → ((bytes : List ℕ) (one other : Reply) → ReadsReply bytes one → ReadsReply bytes other → one ≡ other)
    → answer_of (reply_of a true) ≡ told a → ReadsReply (reply_text (reply_of a true) ++ []) (reply_of a true) → input ≡ reply_text (reply_of a true) → ReadsReply input r
    → IsGivenBack a (Some (answer_of r))
came_back input a r one back reads same came =
    let input_is : input ≡ reply_text (reply_of a true) ++ [] = same ∙ sym (append-nil (reply_text (reply_of a true))) in
    let r_is : r ≡ reply_of a true = one input r (reply_of a true) came (subst (λ (bytes : List ℕ). ReadsReply bytes (reply_of a true)) (sym input_is) reads) in
    let told_is : answer_of r ≡ told a = ap answer_of r_is ∙ back in
    told_is ∙ ap (λ (b : Answer). record a { kind = b.kind }) (sym told_is)

-- and so it isn't bad
pub reads_whole : (input : List ℕ) (a : Answer) → ReadsReply (reply_text (reply_of a true) ++ []) (reply_of a true) → input ≡ reply_text (reply_of a true)
    → ReadsReply input (reply_of a true)
reads_whole input a reads same =
    subst (λ (bytes : List ℕ). ReadsReply bytes (reply_of a true)) (sym (same ∙ sym (append-nil (reply_text (reply_of a true))))) reads

-- whatever message the whole input begins with is found
pub finds_all : (buffer bytes left : List ℕ) (got : Got) → IfSome (prepend_known buffer (Some left)) (λ input. FindsEach input got) → buffer ≡ [] → left ≡ bytes → FindsEach bytes got
finds_all buffer bytes left got h none same =
    subst (λ (l : List ℕ). FindsEach l got) same (subst (λ (b : List ℕ). IfSome (prepend_known b (Some left)) (λ input. FindsEach input got)) none h)

-- a message that is taken is what the whole input begins with
begins_in : (bytes : List ℕ) (rest : Option (List ℕ)) (m : List ℕ) → Consumes (Some bytes) rest m → (more : List ℕ) × (bytes ≡ m ++ more)
begins_in bytes None m read = absurd read
begins_in bytes (Some rest) m read = (rest, read)

begun_by : (bytes : List ℕ) (rest held held' : Option (List ℕ)) (q : Request) → Reads (Some bytes) rest held held' (Message q) → BeginWith bytes q
begun_by bytes rest held held' q reads =
    let (m, msg, read) = reads.answer in
    let more = begins_in bytes rest m read in
    (m, more.0, reads.hundred, msg, more.1)

-- what was read over an empty buffer was read of the input alone
reads_alone : (buffer bytes left : List ℕ) (got other : Got) (rest held held' : Option (List ℕ)) → Reads (prepend_known buffer (Some left)) rest held held' got
    → buffer ≡ [] → left ≡ bytes → got ≡ other → Reads (Some bytes) rest held held' other
reads_alone buffer bytes left got other rest held held' reads none same is =
    subst (λ (g : Got). Reads (Some bytes) rest held held' g) is
    (subst (λ (l : List ℕ). Reads (Some l) rest held held' got) same
    (subst (λ (b : List ℕ). Reads (prepend_known b (Some left)) rest held held' got) none reads))

pub begins_there : (buffer bytes left : List ℕ) (got : Got) (q : Request) (rest held held' : Option (List ℕ)) → Reads (prepend_known buffer (Some left)) rest held held' got
    → buffer ≡ [] → left ≡ bytes → got ≡ Message q → BeginWith bytes q
begins_there buffer bytes left got q rest held held' reads none same is =
    begun_by bytes rest held held' q (reads_alone buffer bytes left got (Message q) rest held held' reads none same is)

pub ends_there : (buffer bytes left : List ℕ) (got : Got) (rest held held' : Option (List ℕ)) → Reads (prepend_known buffer (Some left)) rest held held' got
    → buffer ≡ [] → left ≡ bytes → got ≡ End → bytes ≡ []
ends_there buffer bytes left got rest held held' reads none same is = (reads_alone buffer bytes left got End rest held held' reads none same is).answer.0

pub refused_there : (buffer bytes left : List ℕ) (got : Got) (status at : ℕ) (rest held held' : Option (List ℕ)) → Reads (prepend_known buffer (Some left)) rest held held' got
    → buffer ≡ [] → left ≡ bytes → got ≡ Refused status at → AreRefused bytes status
refused_there buffer bytes left got status at rest held held' reads none same is =
    let alone = reads_alone buffer bytes left got (Refused status at) rest held held' reads none same is in
    inr (alone.hundred, at, alone.answer)

-- ---- what was found in what came over a wire

pub went_over : (old new : Option (List Carried)) (text given got : List ℕ) (P : List ℕ → Type 0) → text ≡ given → GrewBy old new (record { given = text; got = got } ∷ []) → P got
    → WentOver old new given P
went_over old new text given got P is grew says = record {
  got = got;
  grew = subst (λ (l : List ℕ). GrewBy old new (record { given = l; got = got } ∷ [])) is grew;
  says = says;
}

pub message_found : (bytes : List ℕ) (got : Got) (q : Request) → FindsEach bytes got → ((other : Request) → got ≡ Message other → BeginWith bytes other) → got ≡ Message q
    → IsFoundIn bytes (Ok q)
message_found bytes got q each there is = record {
  only = λ other begins.
      let (m, rest, hundred, msg, same) = begins in
      let finds = subst (λ (g : Got). Finds other g) is (each m rest other hundred msg same) in
      ap (λ (r : Request). Ok r) finds;
  there = there q is;
  refused = tt;
}

pub none_found : (bytes : List ℕ) (got : Got) (status : ℕ) → FindsEach bytes got → ((q : Request) → Finds q got → ⊥) → AreRefused bytes status
    → IsFoundIn bytes (Err status)
none_found bytes got status each never refused = record {
  only = λ q begins. let (m, rest, hundred, msg, same) = begins in absurd (never q (each m rest q hundred msg same));
  there = tt;
  refused = refused;
}

-- the head of a request's text is as long as what stands before the body
pub head_length : (a : Ask) (authority body text : List ℕ) → text ≡ request_text (request_of a authority body)
    → length text ≡ length (head_text (request_of a authority body)) + length body
unfolding request_of
head_length a authority body text same = ap length same ∙ length-append (head_text (request_of a authority body)) body

pub visible : All IsVisible localhost
visible = All-from_recursion IsVisible localhost (
  (omega arith, omega arith),
  (
    (omega arith, omega arith),
    (
      (omega arith, omega arith),
      (
        (omega arith, omega arith),
        (
          (omega arith, omega arith),
          ((omega arith, omega arith), ((omega arith, omega arith), ((omega arith, omega arith), ((omega arith, omega arith), tt)))),
        ),
      ),
    ),
  ),
)
