-- A request answered by the calls that it makes.
use Rattle.std.proofs.Common.{◌≡◌, ℕ, List, [], ◌∷◌, ◌++◌, map, Ok, refl, sym, ap, ◌∙◌, subst, inl, inr}
use Rattle.std.specs.List.{AllByRecursion}
use Rattle.std.proofs.lemmas.List.{map-append, append_cancel_left}
use Rattle.wopi_model.specs.Shard.{Entry, LegalFrom, entries}
use Rattle.wopi_headers.specs.declared.answer.Answer.{Answer}
use Rattle.wopi_headers.specs.declared.ask.Ask.{Ask}
use Rattle.host_core.specs.Entries.{Made, items_of, history_of}
use Rattle.host_core.specs.Value.{Book, faults_in}
use Rattle.host_core.specs.Single.{sight_of, SeesItsOwn}
use Rattle.host_server.specs.declared.desk.Desk.{Desk}
use Rattle.host_server.specs.Deeds.{Deed, made, Does}
use Rattle.host_server.specs.Answering.{Ruled, Answered}
use Rattle.host_server.specs.Answering.AnsweredTo.{refused, asked, contained}
use Rattle.wopi_http.specs.declared.message.Request.{Request}
use Rattle.wopi_headers.specs.Containers.{IsAtContainers}
use Rattle.wopi_headers.specs.Operations.{AsksFor, IsRefusal}
use Rattle.host_server.specs.Calls.{Tells}
use Rattle.replay_cmd.specs.Hosts.{Grown, HasGrown}
use Rattle.replay_cmd.specs.Exchanges.{Exchanges, IsStored}
use Rattle.replay_cmd.proofs.Faults.{later_stored}

-- the entries of what was made
pub entries_made : (made : List Made) → entries (items_of made) ≡ map (λ one. one.step) made
entries_made [] = refl
entries_made (one ∷ made) = ap (λ (l : List Entry). one.step ∷ l) (entries_made made)

pub exchanged : {F : Type 0} (desk : Desk) (ask : Ask) (body : List ℕ) (moment : ℕ) (old start new : Book F) (a : Answer) → start ≡ old
    → Tells (Ruled desk ask body moment) SeesItsOwn (sight_of old) (sight_of new) (Ok a) → HasGrown start new
    → LegalFrom new.begin (history_of new.made new.time) → faults_in new.made ≡ 0 → Exchanges desk ask body moment old new a
exchanged {F} desk ask body moment old start new a same tells grown legal fine =
    let deeds : List Deed = tells.0 in
    let does : Does SeesItsOwn (sight_of old) (sight_of new) deeds = tells.1 in
    let since : HasGrown old new = subst (λ (b : Book F). HasGrown b new) same grown in
    let more : List Made = since.0 in
    let g : Grown old new more = since.1 in
    let step : Made → Entry = λ one. one.step in
    let own : entries (items_of new.made) ≡ entries (items_of old.made) ++ made deeds = does.own in
    let joined : map step old.made ++ map step more ≡ map step old.made ++ made deeds =
    sym (map-append step old.made more) ∙ sym (entries_made (old.made ++ more)) ∙ ap (λ (b : Book F). entries (items_of b.made)) (sym g.same) ∙ own
    ∙ ap (λ (l : List Entry). l ++ made deeds) (entries_made old.made) in
    let steps : map step more ≡ made deeds = append_cancel_left (map step old.made) (map step more) (made deeds) joined in
    let stored : AllByRecursion IsStored (map step more) =
    later_stored old.made more (ap (λ (b : Book F). faults_in b.made) (sym g.same) ∙ fine) in
    record {
      deeds = deeds;
      more = more;
      grown = g;
      does = does;
      steps = steps;
      ruled = tells.2;
      legal = legal;
      stored = subst (AllByRecursion IsStored) steps stored;
    }

-- a request that asks for just that is answered by that
pub asked_ruled : (desk : Desk) (q : Request) (ask : Ask) (body : List ℕ) (moment : ℕ) (deeds : List Deed) (a : Answer)
    → ((r : Request) (one other : Ask) → AsksFor r one → AsksFor r other → one ≡ other) → ((r : Request) (one : Ask) (s : ℕ) → AsksFor r one → IsRefusal r s → ⊥)
    → ((r : Request) (one : Ask) → AsksFor r one → IsAtContainers r → ⊥)
    → AsksFor q ask → q.body ≡ body → Answered desk q moment deeds a → Ruled desk ask body moment deeds a
asked_ruled desk q ask body moment deeds a one nothing away asks same (refused s (inl at) e f) = absurd (away q ask asks at.0)
asked_ruled desk q ask body moment deeds a one nothing away asks same (refused s (inr r) e f) = absurd (nothing q ask s asks r.1)
asked_ruled desk q ask body moment deeds a one nothing away asks same (contained other at o r) = absurd (away q ask asks at)
asked_ruled desk q ask body moment deeds a one nothing away asks same (asked other o r) =
    subst (λ (b : List ℕ). Ruled desk ask b moment deeds a) same (subst (λ (k : Ask). Ruled desk k q.body moment deeds a) (one q other ask o asks) r)
