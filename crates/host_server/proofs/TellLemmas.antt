-- From a call to an answer.
use Rattle.std.proofs.Common.{◌≡◌, ℕ, Bool, true, false, List, [], ◌∷◌, ◌++◌, Result, Ok, Err, refl, sym, ap, ◌∙◌, subst, inl, inr, append-nil}
use Rattle.std.specs.Prelude.{IfOk, IfSome, IsSome, if◌then◌else◌, Option, None, Some}
use Rattle.wopi_text.specs.declared.faults.Memory.{Memory}
use Rattle.wopi_model.specs.declared.token.Token.{Token}
use Rattle.wopi_model.specs.declared.calls.Act.{Act}
use Rattle.wopi_model.specs.declared.calls.Call.{Call}
use Rattle.wopi_model.specs.declared.calls.Ruling.{Ruling}
use Rattle.wopi_http.specs.declared.message.Request.{Request}
use Rattle.wopi_headers.specs.declared.answer.Answer.{Answer}
use Rattle.wopi_headers.specs.declared.ask.Ask.{Ask}
use Rattle.wopi_headers.specs.declared.ask.Op.TheVariants as op
use Rattle.wopi_headers.specs.declared.ask.Target.{Target}
use Rattle.wopi_headers.specs.declared.container.ContainerAsk.{ContainerAsk}
use Rattle.wopi_headers.specs.Containers.{AsksContainer, IsAtContainers, IsPlaceIn, IsPlaceRefusal}
use Rattle.wopi_headers.specs.Operations.{AsksFor}
use Rattle.access_tokens.specs.TokenText.{IsSigned}
use Rattle.wopi_acts.specs.Acts.{act_of}
use Rattle.wopi_acts.specs.Answers.{status_only, ruling_told}
use Rattle.host_core.specs.Caller.{Sight}
use Rattle.host_server.specs.declared.desk.Desk.{Desk}
use Rattle.host_server.specs.declared.calling.Called.TheVariants.{Ruled as RuledCall, Full}
use Rattle.host_server.specs.Deeds.{Deed, EditorCall, Made, MadeFor, Blocked, IsFor, Does}
use Rattle.host_server.specs.Answering as answering
use Rattle.host_server.specs.Answering.{call_of, copying_of, asked_with, container_asked_with, RuledTo, Contained, AnsweredTo}
use Rattle.host_server.specs.Editing.{refused_status}
use Rattle.host_server.specs.Telling.{journal_full, is_info, info_told, told_of, told, told_by, told_for}
use Rattle.host_server.specs.declared.knowing.LastSave.{LastSave}
use Rattle.host_server.specs.Known.{last_known, moment_known, suite_of}
use Rattle.host_core.specs.Facts.{is_put}
use Rattle.wopi_headers.specs.declared.known.Suite.{Suite}
use Rattle.host_server.specs.Copies.{Copied}
use Rattle.host_server.specs.Calls as calls
use Rattle.host_server.specs.Calls.{Calls, TellsCall, IsBegun, Tells}
use Rattle.host_server.specs.Turns.{AnswersTo}
use Rattle.host_server.proofs.DeedLemmas.{Does-nil}

-- what is told of CheckFileInfo's ruling, and of another one
pub info_of_call : (call : Call) (ruling : Ruling) (name : List ℕ) (token : Token) → name ≡ call.name → token ≡ call.token → is_info call.act ≡ true
    → info_told name token ruling ≡ told_of call ruling
info_of_call call ruling name token named held is =
    ap (λ n. info_told n token ruling) named ∙ ap (λ t. info_told call.name t ruling) held
    ∙ sym (ap (λ info. if info then info_told call.name call.token ruling else ruling_told ruling) is)

pub ruling_of_call : (call : Call) (ruling : Ruling) → is_info call.act ≡ false → ruling_told ruling ≡ told_of call ruling
ruling_of_call call ruling is = sym (ap (λ info. if info then info_told call.name call.token ruling else ruling_told ruling) is)

-- what an editor is told of the call with these parts
pub told_of_parts : (origin : Option (List ℕ)) (suite goes_by : Suite) (one : EditorCall) (late info save : Bool) (name : List ℕ) (token : Token) → suite ≡ goes_by → late ≡ one.late → info ≡ is_info one.call.act
    → save ≡ is_put one.call.act → name ≡ one.call.name → token ≡ one.call.token
    → told_by origin suite late info save name token one.facts one.entry.ruling ≡ told_for origin goes_by one
told_of_parts origin suite goes_by one late info save name token suites lates infos saves named held =
    let ruling = one.entry.ruling in
    ap (λ (s : Suite). told_by origin s late info save name token one.facts ruling) suites
    ∙ ap (λ (b : Bool). told_by origin goes_by b info save name token one.facts ruling) lates
    ∙ ap (λ (b : Bool). told_by origin goes_by one.late b save name token one.facts ruling) infos
    ∙ ap (λ (b : Bool). told_by origin goes_by one.late (is_info one.call.act) b name token one.facts ruling) saves
    ∙ ap (λ (n : List ℕ). told_by origin goes_by one.late (is_info one.call.act) (is_put one.call.act) n token one.facts ruling) named
    ∙ ap (λ (t : Token). told_by origin goes_by one.late (is_info one.call.act) (is_put one.call.act) one.call.name t one.facts ruling) held

-- what is told in one relation is told in a wider one
begun_wider : (P Q : List Deed → Answer → Type 0) → ((deeds : List Deed) (a : Answer) → P deeds a → Q deeds a) → (deeds : List Deed) → IsBegun P deeds → IsBegun Q deeds
begun_wider P Q wider deeds (inl none) = inl none
begun_wider P Q wider deeds (inr (others, a, is)) = inr (others, a, wider (deeds ++ others) a is)

module _ (always : Sight → Type 0) (old new : Sight) where
  pub tells_wider : (P Q : List Deed → Answer → Type 0) → ((deeds : List Deed) (a : Answer) → P deeds a → Q deeds a) → (r : Result Answer Memory)
      → Tells P always old new r → Tells Q always old new r
  tells_wider P Q wider (Ok a) (deeds, does, is) = (deeds, does, wider deeds a is)
  tells_wider P Q wider (Err fault) (deeds, does, begun) = (deeds, does, begun_wider P Q wider deeds begun)

  -- what was done is whole, and is told, or memory for telling it ran out
  pub tells_whole : (P : List Deed → Answer → Type 0) (deeds : List Deed) (a : Answer) (r : Result Answer Memory) → Does always old new deeds → P deeds a
      → IfOk r (λ b. b ≡ a) → Tells P always old new r
  tells_whole P deeds a (Ok b) does is said = (deeds, does, subst (P deeds) (sym said) is)
  tells_whole P deeds a (Err fault) does is said = (deeds, does, inr ([], a, subst (λ ds. P ds a) (sym (append-nil deeds)) is))

  -- nothing was done
  pub tells_nothing : (P : List Deed → Answer → Type 0) (fault : Memory) → Does always old new [] → Tells P always old new (Err fault)
  tells_nothing P fault does = ([], does, inl refl)

  module _ (origin : Option (List ℕ)) (last : Option LastSave) (call : Call) (moment : ℕ) where
    pub ruled_tells : (ruling : Ruling) (back : Option (List ℕ)) (r : Result Answer Memory) → Calls always old new call moment (RuledCall ruling back) → IfOk r (λ a. a ≡ told_of call ruling)
        → Tells (TellsCall false origin last call moment) always old new r
    ruled_tells ruling back r (entry, of, is, returned, does) said =
        let same : told entry ≡ told_of call ruling = ap (λ c. told_of c entry.ruling) of.0 ∙ ap (told_of call) is in
        tells_whole (TellsCall false origin last call moment) (Made entry ∷ []) (told_of call ruling) r does (calls.ruled entry refl of refl (sym same)) said

    pub made_for_tells : (one : EditorCall) (r : Result Answer Memory) → IsFor call (moment_known last) moment one → Does always old new (MadeFor one ∷ [])
        → IfOk r (λ a. a ≡ told_for origin (suite_of last) one) → Tells (TellsCall true origin last call moment) always old new r
    made_for_tells one r is_for does said =
        tells_whole (TellsCall true origin last call moment) (MadeFor one ∷ []) (told_for origin (suite_of last) one) r does (calls.ruled_for one refl is_for refl refl) said

    pub full_tells : (editor : Bool) (r : Result Answer Memory) → Calls always old new call moment Full → IfOk r (λ a. a ≡ journal_full)
        → Tells (TellsCall editor origin last call moment) always old new r
    full_tells editor r (full, does) said =
        tells_whole (TellsCall editor origin last call moment) (Blocked call moment old new ∷ []) journal_full r does (calls.full old new full refl refl) said

module _ (editor : Bool) (last : Option LastSave) (desk : Desk) (ask : Ask) (body : List ℕ) (moment : ℕ) (always : Sight → Type 0) where
  pub dead_tells : (s : Sight) (a : Answer) → ((token : Token) → ¬ (IsSigned desk.keys ask.token token)) → a ≡ status_only 401
      → Tells (RuledTo editor last desk ask body moment) always s s (Ok a)
  dead_tells s a none said = ([], Does-nil always s, answering.unauthorized none refl said)

  pub call_tells : (token : Token) (asked : Act) → IsSigned desk.keys ask.token token → act_of ask.op body ≡ Some asked → (old new : Sight) (r : Result Answer Memory)
      → Tells (TellsCall editor desk.origin last (call_of ask token asked) moment) always old new r → Tells (RuledTo editor last desk ask body moment) always old new r
  call_tells token asked signed act old new r =
      tells_wider always old new (TellsCall editor desk.origin last (call_of ask token asked) moment) (RuledTo editor last desk ask body moment) is_ruled r
    where
      is_ruled : (deeds : List Deed) (a : Answer) → TellsCall editor desk.origin last (call_of ask token asked) moment deeds a → RuledTo editor last desk ask body moment deeds a
      is_ruled deeds a (calls.ruled entry plain of is said) = answering.ruled token asked entry plain signed act of is said
      is_ruled deeds a (calls.ruled_for one editors of is said) = answering.ruled_for token asked one editors signed act of is said
      is_ruled deeds a (calls.full before after full is said) = answering.full token asked before after signed act full is said

  pub copy_tells : (token : Token) (target : Target) → IsSigned desk.keys ask.token token → ask.op ≡ op.PutRelative target → (contents : List ℕ) → contents ≡ body
      → (old new : Sight) (r : Result Answer Memory) → Tells (Copied desk (copying_of ask token target contents moment)) always old new r
      → Tells (RuledTo editor last desk ask body moment) always old new r
  copy_tells token target signed is contents same old new r told =
      tells_wider always old new (Copied desk (copying_of ask token target body moment)) (RuledTo editor last desk ask body moment)
      (λ deeds a copied. answering.copied token target signed is copied) r
      (subst (λ (text : List ℕ). Tells (Copied desk (copying_of ask token target text moment)) always old new r) same told)

module _ (editor : Bool) (desk : Desk) (q : Request) (moment : ℕ) (always : Sight → Type 0) where
  begun_asked : (ask : Ask) → AsksFor q ask → (deeds : List Deed) → IsBegun (RuledTo editor (last_known editor q.fields) desk (asked_with editor q.fields ask) q.body moment) deeds → IsBegun (AnsweredTo editor desk q moment) deeds
  begun_asked ask asks deeds begun = begun_wider (RuledTo editor (last_known editor q.fields) desk (asked_with editor q.fields ask) q.body moment) (AnsweredTo editor desk q moment) (λ ds a is. answering.asked ask asks is) deeds begun

  pub asked_answers : (ask : Ask) → AsksFor q ask → (old new : Sight) (r : Result Answer Memory) → Tells (RuledTo editor (last_known editor q.fields) desk (asked_with editor q.fields ask) q.body moment) always old new r
      → AnswersTo editor desk q moment always old new r
  asked_answers ask asks old new (Ok a) (deeds, does, is) = (deeds, does, answering.asked ask asks is)
  asked_answers ask asks old new (Err fault) (deeds, does, begun) = (deeds, does, begun_asked ask asks deeds begun)

  begun_contained : (ask : ContainerAsk) → IsAtContainers q → AsksContainer q ask → (deeds : List Deed) → IsBegun (Contained desk (container_asked_with editor q.fields ask) moment) deeds → IsBegun (AnsweredTo editor desk q moment) deeds
  begun_contained ask at asks deeds begun = begun_wider (Contained desk (container_asked_with editor q.fields ask) moment) (AnsweredTo editor desk q moment) (λ ds a is. answering.contained ask at asks is) deeds begun

  pub contained_answers : (ask : ContainerAsk) → IsAtContainers q → AsksContainer q ask → (old new : Sight) (r : Result Answer Memory) → Tells (Contained desk (container_asked_with editor q.fields ask) moment) always old new r
      → AnswersTo editor desk q moment always old new r
  contained_answers ask at asks old new (Ok a) (deeds, does, is) = (deeds, does, answering.contained ask at asks is)
  contained_answers ask at asks old new (Err fault) (deeds, does, begun) = (deeds, does, begun_contained ask at asks deeds begun)

  -- by the ask that stands in its place
  pub kept_answers : (place : Option Ask) → IsPlaceIn q (Ok None) place → (old new : Sight) (r : Result Answer Memory)
      → IfSome place (λ ask. Tells (RuledTo editor (last_known editor q.fields) desk (asked_with editor q.fields ask) q.body moment) always old new r) → AnswersTo editor desk q moment always old new r
  kept_answers None asks old new r told = absurd asks
  kept_answers (Some ask) asks old new r told = asked_answers ask asks.1 old new r told

  pub refused_answers : (s : ℕ) (sight : Sight) (a : Answer) → IsPlaceRefusal q s → a ≡ status_only (refused_status editor q s)
      → (deeds : List Deed) × Does always sight sight deeds × AnsweredTo editor desk q moment deeds a
  refused_answers s sight a is said = ([], Does-nil always sight, answering.refused s is refl said)

-- what was asked stands in its place
pub is_kept : (q : Request) (place : Option Ask) → IsPlaceIn q (Ok None) place → IsSome place
is_kept q None asks = absurd asks
is_kept q (Some ask) asks = search
