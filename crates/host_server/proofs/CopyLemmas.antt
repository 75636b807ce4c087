-- From the calls of a PutRelativeFile to its answer.
use Rattle.std.proofs.Common.{◌≡◌, ◌≢◌, ◌<◌, ◌≤◌, ℕ, Bool, List, [], ◌∷◌, ◌++◌, length, map, Option, None, Some, Result, Ok, Err, refl, sym, ap, ◌∙◌, subst, inl, inr, arith}
use Rattle.std.specs.Prelude.{IfOk}
use Rattle.std.proofs.lemmas.List.{map-append}
use Rattle.wopi_text.specs.declared.faults.Memory.{Memory}
use Rattle.wopi_model.specs.declared.calls.Call.{Call}
use Rattle.wopi_model.specs.declared.calls.Ruling.{Ruling}
use Rattle.wopi_model.specs.Shard.{Entry}
use Rattle.wopi_model.specs.Step.{bare}
use Rattle.wopi_headers.specs.declared.answer.Answer.{Answer}
use Rattle.wopi_headers.specs.declared.ask.Target.{Target}
use Rattle.wopi_headers.specs.declared.ask.Target.TheVariants.{Suggested, Relative}
use Rattle.put_relative.specs.CopyNames.{IsTidy, copy_name}
use Rattle.wopi_acts.specs.Answers.{status_only, ruling_told}
use Rattle.host_core.specs.Caller.{Sight}
use Rattle.host_server.specs.declared.desk.Desk.{Desk}
use Rattle.host_server.specs.declared.copying.Copying.{Copying}
use Rattle.host_server.specs.declared.calling.Called.TheVariants.{Ruled, Full}
use Rattle.host_server.specs.declared.creating.Outcome.{Outcome}
use Rattle.host_server.specs.declared.creating.Outcome.TheVariants as outcome
use Rattle.host_server.specs.Deeds.{Deed, Made, Blocked, IsOf, Does}
use Rattle.host_server.specs.Telling.{journal_full}
use Rattle.host_server.specs.Copies as copies
use Rattle.host_server.specs.Copies.{CanBeHad, asked_name, create, create_as, file_told, decision_told, look, overwrites, tries, IsTaken, Tried, Copied}
use Rattle.host_server.specs.Calls.{Calls, Tells}
use Rattle.host_server.specs.Tries.{Creates, Decided, Stopped, Going, IsAsked}
use Rattle.host_server.proofs.DeedLemmas.{Does-nil, Does-join}
use Rattle.host_server.proofs.TellLemmas.{tells_whole}

-- a file can have every name that is tried, since a tidied name has every candidate
pub tries_fit : ((name : List ℕ) (n : ℕ) → IsTidy name → n < 100 → length (copy_name name n) ≤ 128) → (source : List ℕ) (target : Target) (name : List ℕ) → CanBeHad source target → name ≡ asked_name source target
    → (number : ℕ) → number < tries target → (number < 100) × (length (copy_name name number) ≤ 128)
tries_fit fit source (Relative asked overwrite) name good named number few =
    let first : number ≡ 0 = omega (arith, few) in
    (omega (arith, few), subst (λ n. length (copy_name name n) ≤ 128) (sym first) (subst (λ n. length n ≤ 128) (sym named) good.short))
tries_fit fit source (Suggested text) name good named number few =
    (few, subst (λ n. length (copy_name n number) ≤ 128) (sym named) (fit (asked_name source (Suggested text)) number good.1 few))

pub some_tries : (target : Target) → 0 < tries target
some_tries (Relative asked overwrite) = omega arith
some_tries (Suggested text) = omega arith

not_found_is_untaken : ¬ IsTaken (bare 404)
not_found_is_untaken taken = let wrong : 404 ≡ 409 = taken.0 in absurd (omega (arith, wrong))

module _ (always : Sight → Type 0) (desk : Desk) (copying : Copying) where
  -- the entry that some shard could have made
  abbrev some_entry : Call → Entry
  some_entry call = record { stamp = 0; pass = 0; moment = copying.moment; call = call; ruling = bare 404 }

  -- the calls as the code numbers them
  numbered : (name : List ℕ) (overwrite : Bool) → name ≡ asked_name copying.source copying.target → overwrite ≡ overwrites copying.target
      → create_as name copying.token overwrite copying.contents ≡ create copying
  numbered name overwrite named same =
      ap (λ n. create_as n copying.token overwrite copying.contents) named
      ∙ ap (λ o. create_as (asked_name copying.source copying.target) copying.token o copying.contents) same

  module _ (old new : Sight) (good : CanBeHad copying.source copying.target) where
    decided_tells : (name : List ℕ) (ruling : Ruling) (r : Result Answer Memory) → Decided always old new (create copying) copying.moment (tries copying.target) name ruling
        → IfOk r (λ a. a ≡ file_told desk name copying.token copying.moment ruling) → Tells (Tried desk copying) always old new r
    decided_tells name ruling r made said =
        let last = made.last in
        let told : decision_told desk last ≡ file_told desk name copying.token copying.moment ruling =
        ap (λ n. file_told desk n last.call.token last.moment last.ruling) (sym made.name_is)
        ∙ ap (λ (c : Call). file_told desk name c.token last.moment last.ruling) made.is_last.0
        ∙ ap (λ m. file_told desk name copying.token m last.ruling) made.is_last.1
        ∙ ap (file_told desk name copying.token copying.moment) (sym made.ruling_is) in
        tells_whole always old new (Tried desk copying) (map Made (made.taken ++ last ∷ [])) (file_told desk name copying.token copying.moment ruling) r made.does
        (copies.decided made.taken last good made.all made.is_last made.decides refl (sym told)) said

    stopped_tells : (r : Result Answer Memory) → Stopped always old new (create copying) copying.moment (tries copying.target)
        → IfOk r (λ a. a ≡ journal_full) → Tells (Tried desk copying) always old new r
    stopped_tells r made said =
        tells_whole always old new (Tried desk copying)
        (map Made made.taken ++ Blocked (create copying (length made.taken)) copying.moment made.before made.after ∷ []) journal_full r made.does
        (copies.full made.taken made.before made.after good made.all made.few made.full refl refl) said

    wanting_tells : (fault : Memory) (number : ℕ) → number < tries copying.target → Going always old new (create copying) copying.moment number
        → Tells (Tried desk copying) always old new (Err fault)
    wanting_tells fault number few going =
        let next = some_entry (create copying (length going.taken)) in
        let place : length going.taken < tries copying.target = subst (λ n. n < tries copying.target) (sym going.count) few in (
          map Made going.taken,
          going.does,
          inr (
            Made next ∷ [],
            decision_told desk next,
            copies.decided going.taken next good going.all (refl, refl) (place, inl not_found_is_untaken) (sym (map-append Made going.taken (next ∷ []))) refl,
          ),
        )

    -- what the code's calls do is what the numbered calls do
    creates_are : (name : List ℕ) (overwrite : Bool) (count : ℕ) → name ≡ asked_name copying.source copying.target → overwrite ≡ overwrites copying.target
        → count ≡ tries copying.target → (o : Outcome) → Creates always old new (create_as name copying.token overwrite copying.contents) copying.moment count o
        → Creates always old new (create copying) copying.moment (tries copying.target) o
    creates_are name overwrite count named same counted o made =
        subst (λ n. Creates always old new (create copying) copying.moment n o) counted
        (subst (λ (calls : ℕ → Call). Creates always old new calls copying.moment count o) (numbered name overwrite named same) made)

    pub made_tells : (name : List ℕ) (overwrite : Bool) (count : ℕ) → name ≡ asked_name copying.source copying.target → overwrite ≡ overwrites copying.target
        → count ≡ tries copying.target → (last : List ℕ) (ruling : Ruling) (r : Result Answer Memory)
        → Creates always old new (create_as name copying.token overwrite copying.contents) copying.moment count (outcome.Ruled last ruling)
        → IfOk r (λ a. a ≡ file_told desk last copying.token copying.moment ruling) → Tells (Tried desk copying) always old new r
    made_tells name overwrite count named same counted last ruling r made said =
        decided_tells last ruling r (creates_are name overwrite count named same counted (outcome.Ruled last ruling) made) said

    pub full_tells : (name : List ℕ) (overwrite : Bool) (count : ℕ) → name ≡ asked_name copying.source copying.target → overwrite ≡ overwrites copying.target
        → count ≡ tries copying.target → (r : Result Answer Memory)
        → Creates always old new (create_as name copying.token overwrite copying.contents) copying.moment count outcome.Full
        → IfOk r (λ a. a ≡ journal_full) → Tells (Tried desk copying) always old new r
    full_tells name overwrite count named same counted r made said =
        stopped_tells r (creates_are name overwrite count named same counted outcome.Full made) said

    pub begun_tells : (name : List ℕ) (overwrite : Bool) (count : ℕ) → name ≡ asked_name copying.source copying.target → overwrite ≡ overwrites copying.target
        → count ≡ tries copying.target → (fault : Memory)
        → Creates always old new (create_as name copying.token overwrite copying.contents) copying.moment count outcome.Memory
        → Tells (Tried desk copying) always old new (Err fault)
    begun_tells name overwrite count named same counted fault made =
        let (number, few, going) = creates_are name overwrite count named same counted outcome.Memory made in wanting_tells fault number few going

  pub bad_tells : (sight : Sight) (a : Answer) → (¬ CanBeHad copying.source copying.target) → a ≡ status_only 400
      → Tells (Tried desk copying) always sight sight (Ok a)
  bad_tells sight a bad said = ([], Does-nil always sight, copies.misnamed bad refl said)

  -- some answer is there, whether a file can have the name or not
  some_tried : (name : Option (List ℕ)) → IsAsked copying.source copying.target name → (others : List Deed) × (a : Answer) × Tried desk copying others a
  some_tried (Some name) (good, named) =
      let first = some_entry (create copying 0) in
      (Made first ∷ [], decision_told desk first, copies.decided [] first good tt (refl, refl) (some_tries copying.target, inl not_found_is_untaken) refl refl)
  some_tried None bad = ([], status_only 400, copies.misnamed bad refl refl)

  -- what is done once the source was looked at and may be copied
  module _ (old mid new : Sight) (name : Option (List ℕ)) (asked : IsAsked copying.source copying.target name) where
    behind : (looked : Entry) → IsOf (look copying) copying.moment looked → looked.ruling.status ≡ 200 → Does always old mid (Made looked ∷ [])
        → (r : Result Answer Memory) → Tells (Tried desk copying) always mid new r → Tells (Copied desk copying) always old new r
    behind looked of allowed does (Ok a) (deeds, more, is) =
        (Made looked ∷ deeds, Does-join always old mid new (Made looked ∷ []) deeds does more, copies.allowed looked deeds of allowed is refl)
    behind looked of allowed does (Err fault) (deeds, more, inr (others, a, is)) = (
      Made looked ∷ deeds,
      Does-join always old mid new (Made looked ∷ []) deeds does more,
      inr (others, a, copies.allowed looked (deeds ++ others) of allowed is refl),
    )
    behind looked of allowed does (Err fault) (deeds, more, inl none) =
        let (others, a, is) = some_tried name asked in (
          Made looked ∷ deeds,
          Does-join always old mid new (Made looked ∷ []) deeds does more,
          inr (others, a, copies.allowed looked others of allowed is (ap (λ ds. Made looked ∷ (ds ++ others)) none)),
        )

    pub allowed_tells : (ruling : Ruling) (back : Option (List ℕ)) (r : Result Answer Memory) → Calls always old mid (look copying) copying.moment (Ruled ruling back)
        → ruling.status ≡ 200 → Tells (Tried desk copying) always mid new r → Tells (Copied desk copying) always old new r
    allowed_tells ruling back r (looked, of, is, returned, does) allowed told =
        behind looked of (ap (λ (x : Ruling). x.status) is ∙ allowed) does r told

  module _ (old new : Sight) where
    pub refused_tells : (ruling : Ruling) (back : Option (List ℕ)) (r : Result Answer Memory) → Calls always old new (look copying) copying.moment (Ruled ruling back)
        → ruling.status ≢ 200 → IfOk r (λ a. a ≡ ruling_told ruling) → Tells (Copied desk copying) always old new r
    refused_tells ruling back r (looked, of, is, returned, does) refused said =
        tells_whole always old new (Copied desk copying) (Made looked ∷ []) (ruling_told ruling) r does
        (copies.refused looked of (λ same. refused (ap (λ (x : Ruling). x.status) (sym is) ∙ same)) refl (ap ruling_told (sym is))) said

    pub blocked_tells : (r : Result Answer Memory) → Calls always old new (look copying) copying.moment Full → IfOk r (λ a. a ≡ journal_full)
        → Tells (Copied desk copying) always old new r
    blocked_tells r (full, does) said =
        tells_whole always old new (Copied desk copying) (Blocked (look copying) copying.moment old new ∷ []) journal_full r does
        (copies.full old new full refl refl) said

  pub nothing_tells : (sight : Sight) (fault : Memory) → Tells (Copied desk copying) always sight sight (Err fault)
  nothing_tells sight fault = ([], Does-nil always sight, inl refl)
