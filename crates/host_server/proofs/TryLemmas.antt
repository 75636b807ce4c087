-- The calls of a PutRelativeFile, one by one.
use Rattle.std.proofs.Common.{◌≡◌, ◌<◌, ◌+◌, ℕ, Bool, List, [], ◌∷◌, ◌++◌, length, map, Option, None, Some, sym, ap, ◌∙◌, subst, append-nil, arith}
use Rattle.std.specs.Prelude.{if◌then◌else◌, ◌==◌}
use Rattle.std.proofs.lemmas.List.{length-append, map-append}
use Rattle.wopi_model.specs.declared.token.Token.{Token}
use Rattle.wopi_model.specs.declared.calls.Act.TheVariants as act
use Rattle.wopi_model.specs.declared.calls.Call.{Call}
use Rattle.wopi_model.specs.declared.calls.Ruling.{Ruling}
use Rattle.wopi_model.specs.Shard.{Entry}
use Rattle.host_core.specs.Caller.{Sight}
use Rattle.host_core.specs.Entries.{back_of}
use Rattle.host_server.specs.declared.calling.Called.TheVariants.{Ruled as RuledCall}
use Rattle.host_server.specs.declared.creating.Attempt.{Attempt}
use Rattle.host_server.specs.declared.creating.Attempt.TheVariants as attempt
use Rattle.host_server.specs.Deeds.{Made, Blocked, IsFull, IsOf, Does}
use Rattle.host_server.specs.Calls.{Calls}
use Rattle.put_relative.specs.CopyNames.{copy_name}
use Rattle.host_server.specs.Copies.{IsTaken, AreTaken, Decides, create_as}
use Rattle.host_server.specs.Tries.{Attempts, Judges, Going, Decided, Stopped}
use Rattle.host_server.proofs.DeedLemmas.{Does-join}

-- contents come back exactly where they weren't accepted
taken_comes_back : (overwrite : Bool) (contents : List ℕ) (ruling : Ruling) → IsTaken ruling → back_of (act.Create overwrite contents) ruling ≡ Some contents
taken_comes_back overwrite contents ruling taken = ap (λ s. if s == 200 then None else Some contents) taken.0

module _ (always : Sight → Type 0) (old new : Sight) (name : List ℕ) (token : Token) (overwrite : Bool) (contents : List ℕ) (moment : ℕ) where
  abbrev asked : Call
  asked = record { name = name; token = token; act = act.Create overwrite contents }

  pub ruled_attempts : (ruling : Ruling) (back : Option (List ℕ)) (made : Attempt) → Judges ruling back made → Calls always old new asked moment (RuledCall ruling back)
      → Attempts always old new asked contents moment made
  ruled_attempts ruling back (attempt.Taken told came) (same, taken, is) (entry, of, ruled, returned, does) =
      let back_is : Some came ≡ Some contents = sym is ∙ returned ∙ taken_comes_back overwrite contents ruling taken in
      let came_is : came ≡ contents = cc back_is in
      (entry, of, ruled ∙ sym same, subst IsTaken (sym same) taken, came_is, does)
  ruled_attempts ruling back (attempt.Ruled told) (same, untaken) (entry, of, ruled, returned, does) =
      (entry, of, ruled ∙ sym same, λ taken. not_taken (subst IsTaken same taken), does)
    where
      not_taken : ¬ IsTaken ruling
      not_taken taken =
          let both : None ≡ Some contents = sym (untaken taken) ∙ returned ∙ taken_comes_back overwrite contents ruling taken in absurd (cc both)
  ruled_attempts ruling back attempt.Full judged calls = absurd judged
  ruled_attempts ruling back attempt.Memory judged calls = absurd judged

  -- the same attempt, as one of the numbered calls
  pub attempt_of : (wanted : List ℕ) (holder : Token) (whole : List ℕ) (number : ℕ) → name ≡ copy_name wanted number → token ≡ holder → contents ≡ whole
      → (made : Attempt) → Attempts always old new asked contents moment made → Attempts always old new (create_as wanted holder overwrite whole number) whole moment made
  attempt_of wanted holder whole number named held same made attempts =
      let by_name : List ℕ → Call = λ n. record { name = n; token = token; act = act.Create overwrite contents } in
      let by_token : Token → Call = λ t. record { name = copy_name wanted number; token = t; act = act.Create overwrite contents } in
      let by_contents : List ℕ → Call = λ c. create_as wanted holder overwrite c number in
      let call_is : asked ≡ create_as wanted holder overwrite whole number = ap by_name named ∙ ap by_token held ∙ ap by_contents same in
      subst (λ (c : List ℕ). Attempts always old new (create_as wanted holder overwrite whole number) c moment made) same
      (subst (λ (x : Call). Attempts always old new x contents moment made) call_is attempts)

-- one more name was taken
AreTaken-one : (calls : ℕ → Call) (moment first : ℕ) (taken : List Entry) (entry : Entry) → AreTaken calls moment first taken
    → IsOf (calls (first + length taken)) moment entry → IsTaken entry.ruling → AreTaken calls moment first (taken ++ entry ∷ [])
AreTaken-one calls moment first [] entry all of taken =
    let place : first + length {A = Entry} [] ≡ first = omega arith in
    (subst (λ n. IsOf (calls n) moment entry) place of, taken, tt)
AreTaken-one calls moment first (x ∷ xs) entry all of taken =
    let place : first + length (x ∷ xs) ≡ (first + 1) + length xs = omega arith in
    (all.0, all.1, AreTaken-one calls moment (first + 1) xs entry all.2 (subst (λ n. IsOf (calls n) moment entry) place of) taken)

module _ (always : Sight → Type 0) (old mid new : Sight) (calls : ℕ → Call) (moment number : ℕ) where
  module _ (going : Going always old mid calls moment number) where
    behind : (entry : Entry) → Does always mid new (Made entry ∷ []) → Does always old new (map Made (going.taken ++ entry ∷ []))
    behind entry does =
        subst (Does always old new) (sym (map-append Made going.taken (entry ∷ [])))
        (Does-join always old mid new (map Made going.taken) (Made entry ∷ []) going.does does)

    pub goes_on : (entry : Entry) (ruling : Ruling) → IsOf (calls number) moment entry → entry.ruling ≡ ruling → IsTaken ruling
        → Does always mid new (Made entry ∷ []) → Going always old new calls moment (number + 1)
    goes_on entry ruling of ruled taken does =
        let place : number ≡ 0 + length going.taken = omega (arith, going.count) in
        record {
          taken = going.taken ++ entry ∷ [];
          count = length-append going.taken (entry ∷ []) ∙ ap (λ n. n + 1) going.count;
          all = AreTaken-one calls moment 0 going.taken entry going.all (subst (λ n. IsOf (calls n) moment entry) place of)
              (subst IsTaken (sym ruled) taken);
          does = behind entry does;
        }

    pub decides : (tries : ℕ) (entry : Entry) (name : List ℕ) (ruling : Ruling) → IsOf (calls number) moment entry → Decides tries number ruling
        → name ≡ (calls number).name → entry.ruling ≡ ruling → Does always mid new (Made entry ∷ []) → Decided always old new calls moment tries name ruling
    decides tries entry name ruling of last named ruled does = record {
      taken = going.taken;
      last = entry;
      all = going.all;
      is_last = subst (λ n. IsOf (calls n) moment entry) (sym going.count) of;
      decides = subst (λ n. Decides tries n entry.ruling) (sym going.count) (subst (Decides tries number) (sym ruled) last);
      name_is = named ∙ ap (λ c. c.name) (sym of.0);
      ruling_is = sym ruled;
      does = behind entry does;
    }

    pub stops : (tries : ℕ) → number < tries → IsFull (calls number) moment mid new → Does always mid new (Blocked (calls number) moment mid new ∷ [])
        → Stopped always old new calls moment tries
    stops tries few full does = record {
      taken = going.taken;
      before = mid;
      after = new;
      all = going.all;
      few = subst (λ n. n < tries) (sym going.count) few;
      full = subst (λ n. IsFull (calls n) moment mid new) (sym going.count) full;
      does = Does-join always old mid new (map Made going.taken) (Blocked (calls (length going.taken)) moment mid new ∷ []) going.does
          (subst (λ n. Does always mid new (Blocked (calls n) moment mid new ∷ [])) (sym going.count) does);
    }

    pub gives_up : Does always mid new [] → Going always old new calls moment number
    gives_up does = record {
      taken = going.taken;
      count = going.count;
      all = going.all;
      does = subst (Does always old new) (append-nil (map Made going.taken)) (Does-join always old mid new (map Made going.taken) [] going.does does);
    }
