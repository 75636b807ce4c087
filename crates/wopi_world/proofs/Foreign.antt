-- From what each item does: what holds of the saves under one id.
use Rattle.std.proofs.Common.{◌≡◌, ◌⊎◌, ℕ, ◌<◌, ◌≤◌, max, Bool, true, false, not, ◌&&◌, cond, List, [], ◌∷◌, ◌++◌, Option, None, Some, is_some, refl, sym, ap, subst, ◌∙◌, inl, inr, arith}
use Rattle.std.proofs.lemmas.Bool.{cases_lt, not-false}
use Rattle.std.proofs.lemmas.Slice.Eq.{bytes_eq-Decides}
use Rattle.std.specs.Str.{bytes_eq}
use Rattle.wopi_model.specs.declared.calls.Act.{Act}
use Rattle.wopi_model.specs.declared.calls.Act.TheVariants as act
use Rattle.wopi_model.specs.declared.calls.Call.{Call}
use Rattle.wopi_model.specs.declared.calls.Ruling.{Ruling}
use Rattle.wopi_model.specs.declared.locks.Lock.{Lock}
use Rattle.wopi_model.specs.declared.locks.Spent.{Spent}
use Rattle.wopi_model.specs.Act.{lock_act}
use Rattle.wopi_model.specs.File.{File, exists}
use Rattle.wopi_model.specs.Host.{LegalHost, part_of, opening_of}
use Rattle.wopi_model.specs.LockTable as table
use Rattle.wopi_model.specs.LockTable.{lock_after, spent_by}
use Rattle.wopi_model.specs.Safety.{IsSpentUntil, HasEnded}
use Rattle.wopi_model.specs.Settle.{is_over, standing, expired, with_spent, settled}
use Rattle.wopi_model.specs.Shard.{Shard, Opening, Item, Tick, Step, Entry, opened_shard, at_moment, after_entry, happens, after, IsAllowed, Along}
use Rattle.wopi_model.specs.Step.{Accept, decision, effect, contents_after, after_step, IsOutcome}
use Rattle.wopi_model.proofs.Ended.{stays-still, stays-with, ended-happens, refuses_ended}
use Rattle.wopi_model.proofs.Replacing.{acceptance-status}
use Rattle.wopi_model.proofs.Soundness.{passes, same_bytes}
use Rattle.wopi_world.specs.Foreign.{IsHeldOn, IsSaveUnder, LeavesHeld, SavesStand}
use Rattle.wopi_world.proofs.Moving.{stepped}

-- the file of an entry, and any other

module _ (name : List ℕ) (at : Shard) (entry : Entry) where
  abbrev file : File
  file = at.files name

  abbrev call : Call
  call = entry.call

  -- the entry leaves the file, or it is of this file and goes through
  data Touches : File → Type 0 where
    leaves : Touches file
    changes : call.name ≡ name → decision file call at.opened at.now ≡ Accept → entry.ruling.status ≡ 200 → Touches (effect file call at.now)

  touched_step : call.name ≡ name → IsOutcome file call at.opened at.now entry.ruling → Touches (after_step file call at.opened at.now entry.ruling)
  touched_step here outcome =
      elim (stepped file call at.opened at.now entry.ruling outcome) [
        | inl same ↦ subst Touches (sym same.0) leaves
        | inr went ↦ subst Touches (sym went.2) (changes here went.0 (ap (λ (r : Ruling). r.status) went.1 ∙ acceptance-status call.act (effect file call at.now)))
      ]

  touched : IsOutcome (at.files call.name) call at.opened at.now entry.ruling → Touches ((after_entry at entry).files name)
  touched outcome =
      let new_file = after_step (at.files call.name) call at.opened at.now entry.ruling in
      elim (bytes_eq call.name name) as (λ b. bytes_eq call.name name ≡ b → Touches (cond b new_file file)) [
        | true ↦ λ e.
            let same = same_bytes call.name name e in
            let here : IsOutcome file call at.opened at.now entry.ruling = subst (λ (n : List ℕ). IsOutcome (at.files n) call at.opened at.now entry.ruling) same outcome in
            subst (λ (n : List ℕ). Touches (after_step (at.files n) call at.opened at.now entry.ruling)) (sym same) (touched_step same here)
        | false ↦ λ e. leaves
      ] refl

-- what stands

not_creating : (there overwrite : Bool) → there ≡ true → (there && not overwrite) ≡ false → (there && overwrite) ≡ false → ⊥
not_creating false overwrite t a b = cc
not_creating true true t a b = cc
not_creating true false t a b = cc

-- under a lock an act that goes through leaves the contents, unless it is a Put under the lock's id
lock_keeps : (lock : Lock) (file : File) (asked : Act) → table.is_locked_out (Some lock) (lock_act file asked) ≡ false → exists file ≡ true →
    table.is_name_taken (lock_act file asked) ≡ false → (is_some (Some lock) && table.is_replacing (lock_act file asked)) ≡ false →
    ((contents : List ℕ) → asked ≡ act.Put (Some lock.id) contents → ⊥) → contents_after file asked ≡ file.contents
lock_keeps lock file act.Info let_in there free replaces other = refl
lock_keeps lock file (act.Get most) let_in there free replaces other = refl
lock_keeps lock file (act.Put None contents) let_in there free replaces other = cc
lock_keeps lock file (act.Put (Some id) contents) let_in there free replaces other =
    absurd (other contents (ap (λ (x : List ℕ). act.Put (Some x) contents) (same_bytes id lock.id (not-false (bytes_eq id lock.id) let_in))))
lock_keeps lock file (act.Lock id) let_in there free replaces other = refl
lock_keeps lock file act.GetLock let_in there free replaces other = refl
lock_keeps lock file (act.Refresh id) let_in there free replaces other = refl
lock_keeps lock file (act.Unlock id) let_in there free replaces other = refl
lock_keeps lock file (act.Relock old id) let_in there free replaces other = refl
lock_keeps lock file act.Look let_in there free replaces other = refl
lock_keeps lock file (act.Create overwrite contents) let_in there free replaces other = absurd (not_creating (exists file) overwrite there free replaces)
lock_keeps lock file act.Delete let_in there free replaces other = cc

-- where no lock stands, an act that changes the contents leaves none
free_keeps : (file : File) (asked : Act) (expires now : ℕ) (left : Lock) → lock_after None (lock_act file asked) expires now ≡ Some left → contents_after file asked ≡ file.contents
free_keeps file act.Info expires now left e = refl
free_keeps file (act.Get most) expires now left e = refl
free_keeps file (act.Put id contents) expires now left e = cc
free_keeps file (act.Lock id) expires now left e = refl
free_keeps file act.GetLock expires now left e = refl
free_keeps file (act.Refresh id) expires now left e = refl
free_keeps file (act.Unlock id) expires now left e = refl
free_keeps file (act.Relock old id) expires now left e = refl
free_keeps file act.Look expires now left e = refl
free_keeps file (act.Create overwrite contents) expires now left e = cc
free_keeps file act.Delete expires now left e = cc

there_is : (contents : Option (List ℕ)) (bytes : List ℕ) → contents ≡ Some bytes → is_some contents ≡ true
there_is None bytes e = cc
there_is (Some other) bytes e = refl

module _ (name id : List ℕ) where
  effect_keeps : (file : File) (call : Call) (opened now : ℕ) (contents : List ℕ) (lock : Option Lock) → file.lock ≡ lock → file.contents ≡ Some contents →
      decision file call opened now ≡ Accept → ((d : List ℕ) → call.act ≡ act.Put (Some id) d → ⊥) →
      (left : Lock) → (effect file call now).lock ≡ Some left → left.id ≡ id → (effect file call now).contents ≡ Some contents
  effect_keeps file call opened now contents None none there accept other left held own =
      free_keeps file call.act call.token.expires now left (subst (λ (l : Option Lock). lock_after l (lock_act file call.act) call.token.expires now ≡ Some left) none held) ∙ there
  effect_keeps file call opened now contents (Some lock) stands there accept other left held own =
      let p = passes file call opened now accept in
      lock_keeps lock file call.act (subst (λ (l : Option Lock). table.is_locked_out l (lock_act file call.act) ≡ false) stands p.let_in)
      (there_is file.contents contents there) p.free_name
      (subst (λ (l : Option Lock). (is_some l && table.is_replacing (lock_act file call.act)) ≡ false) stands p.replaces)
      (λ d e. other d (e ∙ ap (λ (x : List ℕ). act.Put (Some x) d) (lock_is d e))) ∙ there
    where
      -- a Put under the lock's id leaves that id
      lock_is : (d : List ℕ) → call.act ≡ act.Put (Some lock.id) d → lock.id ≡ id
      lock_is d e =
          let after_put : Some (record lock { until = max lock.until call.token.expires }) ≡ Some left =
          sym (ap (λ (a : Act). lock_after (Some lock) (lock_act file a) call.token.expires now) e)
          ∙ ap (λ (l : Option Lock). lock_after l (lock_act file call.act) call.token.expires now) (sym stands) ∙ held in
          let same : record lock { until = max lock.until call.token.expires } ≡ left = cc in
          ap (λ (l : Lock). l.id) same ∙ own

  entry_keeps : (shard : Shard) (entry : Entry) (contents : List ℕ) → (shard.files name).contents ≡ Some contents → LeavesHeld name id shard (Step entry) →
      (new : File) → Touches name (at_moment shard entry.moment) entry new → new ≡ (happens shard (Step entry)).files name → new.contents ≡ Some contents
  entry_keeps shard entry contents there held new leaves same = there
  entry_keeps shard entry contents there held new (changes here accept told) same =
      let at = at_moment shard entry.moment in
      let still = held.1 in
      effect_keeps (at.files name) entry.call at.opened at.now contents (at.files name).lock refl there accept
      (λ d e. held.0 d entry.call.token.expires (here, e, refl, told)) still.0 (ap (λ (f : File). f.lock) same ∙ still.1) still.2

  item_keeps : (shard : Shard) (item : Item) (contents : List ℕ) → IsAllowed shard item → (shard.files name).contents ≡ Some contents → LeavesHeld name id shard item →
      ((happens shard item).files name).contents ≡ Some contents
  item_keeps shard (Tick moment) contents allowed there held = there
  item_keeps shard (Step entry) contents allowed there held =
      entry_keeps shard entry contents there held ((happens shard (Step entry)).files name) (touched name (at_moment shard entry.moment) entry allowed) refl

  items_keep : (shard : Shard) (items : List Item) (contents : List ℕ) → Along IsAllowed shard items → (shard.files name).contents ≡ Some contents → Along (LeavesHeld name id) shard items →
      ((after shard items).files name).contents ≡ Some contents
  items_keep shard [] contents allowed there held = there
  items_keep shard (item ∷ items) contents allowed there held =
      items_keep (happens shard item) items contents allowed.1 (item_keeps shard item contents allowed.0 there held.0) held.1

  -- what a save leaves

  put_contents : (file : File) (asked : Call) (now : ℕ) (contents : List ℕ) → asked.act ≡ act.Put (Some id) contents → (effect file asked now).contents ≡ Some contents
  put_contents file asked now contents e = ap (contents_after file) e

  -- an accepted entry of the file changes it
  accepted_changes : (at : Shard) (entry : Entry) → entry.call.name ≡ name → entry.ruling.status ≡ 200 → IsOutcome (at.files entry.call.name) entry.call at.opened at.now entry.ruling →
      (decision (at.files name) entry.call at.opened at.now ≡ Accept) × ((after_entry at entry).files name ≡ effect (at.files name) entry.call at.now)
  accepted_changes at entry here told outcome =
      let call = entry.call in
      let file = at.files name in
      let own : IsOutcome file call at.opened at.now entry.ruling = subst (λ (n : List ℕ). IsOutcome (at.files n) call at.opened at.now entry.ruling) here outcome in
      elim (stepped file call at.opened at.now entry.ruling own) [
        | inl same ↦ absurd (same.1 told)
        | inr went ↦ (
          went.0,
          ap (λ (b : Bool). cond b (after_step (at.files call.name) call at.opened at.now entry.ruling) file) ((bytes_eq-Decides call.name name).1 here)
              ∙ ap (λ (n : List ℕ). after_step (at.files n) call at.opened at.now entry.ruling) here ∙ went.2,
        )
      ]

  saved_contents : (shard : Shard) (p : Item) (contents : List ℕ) (expires : ℕ) → IsAllowed shard p → IsSaveUnder name id contents expires p →
      ((happens shard p).files name).contents ≡ Some contents
  saved_contents shard (Tick moment) contents expires allowed save = absurd save
  saved_contents shard (Step entry) contents expires allowed (here, asked, expires_is, told) =
      let at = at_moment shard entry.moment in
      ap (λ (f : File). f.contents) (accepted_changes at entry here told allowed).1 ∙ put_contents (at.files name) entry.call at.now contents asked

  -- how long an id is refused

  -- the id is held by a lock that will leave it spent until that moment
  abbrev HoldsUntil : ℕ → Shard → Type 0
  HoldsUntil moment shard = (lock : Lock) × ((shard.files name).lock ≡ Some lock) × (lock.id ≡ id) × (moment ≤ lock.until)

  abbrev Lasts : ℕ → Shard → Type 0
  Lasts moment shard = HoldsUntil moment shard ⊎ HasEnded name id moment shard

  put_holds : (file : File) (call : Call) (opened now : ℕ) (contents : List ℕ) (lock : Option Lock) → file.lock ≡ lock → call.act ≡ act.Put (Some id) contents →
      (left : Lock) → (effect file call now).lock ≡ Some left → call.token.expires ≤ left.until
  put_holds file call opened now contents None none asked left held =
      let bad : None ≡ Some left =
      sym (ap (λ (a : Act). lock_after None (lock_act file a) call.token.expires now) asked) ∙ ap (λ (l : Option Lock). lock_after l (lock_act file call.act) call.token.expires now) (sym none) ∙ held in
      cc
  put_holds file call opened now contents (Some lock) stands asked left held =
      let after_put : Some (record lock { until = max lock.until call.token.expires }) ≡ Some left =
      sym (ap (λ (a : Act). lock_after (Some lock) (lock_act file a) call.token.expires now) asked)
      ∙ ap (λ (l : Option Lock). lock_after l (lock_act file call.act) call.token.expires now) (sym stands) ∙ held in
      let same : record lock { until = max lock.until call.token.expires } ≡ left = cc in
      subst (λ (l : Lock). call.token.expires ≤ l.until) same (omega arith)

  saved_lasts : (shard : Shard) (p : Item) (contents : List ℕ) (expires : ℕ) → IsAllowed shard p → IsSaveUnder name id contents expires p → IsHeldOn name id (happens shard p) →
      HoldsUntil expires (happens shard p)
  saved_lasts shard (Tick moment) contents expires allowed save held = absurd save
  saved_lasts shard (Step entry) contents expires allowed (here, asked, expires_is, told) (left, stands, own) =
      let at = at_moment shard entry.moment in
      let file = at.files name in
      let changed = accepted_changes at entry here told allowed in (
        left,
        stands,
        own,
        subst (λ (n : ℕ). n ≤ left.until) expires_is
            (put_holds file entry.call at.opened at.now contents file.lock refl asked left (ap (λ (f : File). f.lock) (sym changed.1) ∙ stands)),
      )

  -- an act under the lock leaves it, or spends its id
  abbrev EffectLasts : ℕ → Option Lock → Option Spent → Type 0
  EffectLasts moment lock spends = ((left : Lock) × (lock ≡ Some left) × (left.id ≡ id) × (moment ≤ left.until)) ⊎ ((one : Spent) × (spends ≡ Some one) × (one.id ≡ id) × (moment ≤ one.until))

  lock_lasts : (moment : ℕ) (lock : Lock) (file : File) (asked : Act) (expires now : ℕ) → lock.id ≡ id → moment ≤ lock.until →
      EffectLasts moment (lock_after (Some lock) (lock_act file asked) expires now) (spent_by (Some lock) (lock_act file asked) expires)
  lock_lasts moment lock file act.Info expires now own long = inl (lock, refl, own, long)
  lock_lasts moment lock file (act.Get most) expires now own long = inl (lock, refl, own, long)
  lock_lasts moment lock file (act.Put given contents) expires now own long = inl (record lock { until = max lock.until expires }, refl, own, omega (arith, long))
  lock_lasts moment lock file (act.Lock given) expires now own long = inl (table.refreshed lock expires now, refl, own, omega (arith, long))
  lock_lasts moment lock file act.GetLock expires now own long = inl (lock, refl, own, long)
  lock_lasts moment lock file (act.Refresh given) expires now own long = inl (table.refreshed lock expires now, refl, own, omega (arith, long))
  lock_lasts moment lock file (act.Unlock given) expires now own long = inr (record { id = lock.id; until = lock.until }, refl, own, long)
  lock_lasts moment lock file (act.Relock old given) expires now own long =
      elim (bytes_eq old given) as (λ b. EffectLasts moment (cond b (Some (table.refreshed lock expires now)) (Some (record { id = given; since = now; until = expires })))
      (cond b None (Some (record { id = lock.id; until = max lock.until expires })))) [
        | true ↦ inl (table.refreshed lock expires now, refl, own, omega (arith, long))
        | false ↦ inr (record { id = lock.id; until = max lock.until expires }, refl, own, omega (arith, long))
      ]
  lock_lasts moment lock file act.Look expires now own long = inl (lock, refl, own, long)
  lock_lasts moment lock file (act.Create overwrite contents) expires now own long = inl (lock, refl, own, long)
  lock_lasts moment lock file act.Delete expires now own long = inl (lock, refl, own, long)

  -- of one file: held so long, or spent so long
  abbrev FileLasts : ℕ → File → Type 0
  FileLasts moment file = ((lock : Lock) × (file.lock ≡ Some lock) × (lock.id ≡ id) × (moment ≤ lock.until)) ⊎ IsSpentUntil file.spent id moment

  effect_lasts : (moment : ℕ) (file : File) (call : Call) (now : ℕ) → FileLasts moment file → FileLasts moment (effect file call now)
  effect_lasts moment file call now (inr spent) = inr (stays-with (spent_by file.lock (lock_act file call.act) call.token.expires) file.spent id moment spent)
  effect_lasts moment file call now (inl (lock, stands, own, long)) =
      let l : EffectLasts moment (lock_after file.lock (lock_act file call.act) call.token.expires now) (spent_by file.lock (lock_act file call.act) call.token.expires) =
      subst (λ (x : Option Lock). EffectLasts moment (lock_after x (lock_act file call.act) call.token.expires now) (spent_by x (lock_act file call.act) call.token.expires)) (sym stands)
      (lock_lasts moment lock file call.act call.token.expires now own long) in
      elim l [
        | inl held ↦ inl held
        | inr ended ↦ inr (subst (λ (o : Option Spent). IsSpentUntil (with_spent o file.spent) id moment) (sym ended.1) (inl (ended.2, ended.3)))
      ]

  -- a file that lasts so long goes on so while time does, or the moment is past
  settled_lasts : (moment later : ℕ) (file : File) → FileLasts moment file → FileLasts moment (settled file later) ⊎ (moment ≤ later)
  settled_lasts moment later file (inr spent) =
      elim (cases_lt later moment) [
        | inl before ↦ inl (inr (stays-still (with_spent (expired file.lock later) file.spent) later id moment before (stays-with (expired file.lock later) file.spent id moment spent)))
        | inr past ↦ inr past
      ]
  settled_lasts moment later file (inl (lock, stands, own, long)) =
      elim (is_over lock later) as (λ b. is_over lock later ≡ b → FileLasts moment (settled file later) ⊎ (moment ≤ later)) [
        | false ↦ λ e. inl (inl (lock, ap (λ (l : Option Lock). standing l later) stands ∙ ap (λ (b : Bool). cond b None (Some lock)) e, own, long))
        | true ↦ λ e.
            let one : Spent = record { id = lock.id; until = lock.until } in
            let leaves_spent : expired file.lock later ≡ Some one = ap (λ (l : Option Lock). expired l later) stands ∙ ap (λ (b : Bool). cond b (Some one) None) e in
            let spent : IsSpentUntil (with_spent (expired file.lock later) file.spent) id moment =
            subst (λ (o : Option Spent). IsSpentUntil (with_spent o file.spent) id moment) (sym leaves_spent) (inl (own, long)) in
            elim (cases_lt later moment) [
              | inl before ↦ inl (inr (stays-still (with_spent (expired file.lock later) file.spent) later id moment before spent))
              | inr past ↦ inr past
            ]
      ] refl

  of_file : (moment : ℕ) (shard : Shard) → FileLasts moment (shard.files name) → Lasts moment shard
  of_file moment shard (inl held) = inl held
  of_file moment shard (inr spent) = inr (inr spent)

  entry_lasts : (moment : ℕ) (at : Shard) (entry : Entry) → FileLasts moment (at.files name) → (new : File) → Touches name at entry new → FileLasts moment new
  entry_lasts moment at entry l new leaves = l
  entry_lasts moment at entry l new (changes here accept told) = effect_lasts moment (at.files name) entry.call at.now l

  item_lasts : (moment : ℕ) (shard : Shard) (item : Item) → IsAllowed shard item → Lasts moment shard → Lasts moment (happens shard item)
  item_lasts moment shard item allowed (inr gone) = inr (ended-happens name id moment shard item gone)
  item_lasts moment shard (Tick other) allowed (inl held) =
      elim (settled_lasts moment (max shard.now other) (shard.files name) (inl held)) [
        | inl l ↦ of_file moment (happens shard (Tick other)) l
        | inr past ↦ inr (inl past)
      ]
  item_lasts moment shard (Step entry) allowed (inl held) =
      let at = at_moment shard entry.moment in
      elim (settled_lasts moment (max shard.now entry.moment) (shard.files name) (inl held)) [
        | inl l ↦ of_file moment (happens shard (Step entry)) (entry_lasts moment at entry l ((happens shard (Step entry)).files name) (touched name at entry allowed))
        | inr past ↦ inr (inl past)
      ]

  items_last : (moment : ℕ) (shard : Shard) (items : List Item) → Along IsAllowed shard items → Lasts moment shard → Lasts moment (after shard items)
  items_last moment shard [] allowed l = l
  items_last moment shard (item ∷ items) allowed l = items_last moment (happens shard item) items allowed.1 (item_lasts moment shard item allowed.0 l)

  -- the whole

  split : (shard : Shard) (first rest : List Item) → Along IsAllowed shard (first ++ rest) → Along IsAllowed (after shard first) rest
  split shard [] rest h = h
  split shard (item ∷ first) rest h = split (happens shard item) first rest h.1

  front : (shard : Shard) (first rest : List Item) → Along IsAllowed shard (first ++ rest) → Along IsAllowed shard first
  front shard [] rest h = tt
  front shard (item ∷ first) rest h = (h.0, front (happens shard item) first rest h.1)

  pub saves_stand : (start : Shard) (history : List Item) → Along IsAllowed start history → SavesStand name id start history
  saves_stand start history allowed =
      record {
        stands = λ first middle last p contents expires e save held leaves_held.
            let rest = behind first (p ∷ (middle ++ last)) e in
            items_keep (happens (after start first) p) middle contents (front (happens (after start first) p) middle last rest.1)
            (saved_contents (after start first) p contents expires rest.0 save) leaves_held;
        over = λ first middle last p contents expires e save held no_more.
            let rest = behind first (p ∷ (middle ++ last)) e in
            let saved_shard = happens (after start first) p in
            let l = items_last expires saved_shard middle (front saved_shard middle last rest.1) (inl (saved_lasts (after start first) p contents expires rest.0 save held)) in
            elim l [
              | inl still ↦ absurd (no_more (still.0, still.1, still.2))
              | inr gone ↦ refuses_ended (after saved_shard middle) last name id expires gone (split saved_shard middle last rest.1)
            ];
      }
    where
      behind : (first rest : List Item) → first ++ rest ≡ history → Along IsAllowed (after start first) rest
      behind first rest e = split start first rest (subst (Along IsAllowed start) (sym e) allowed)

pub journal_stands : (opening : Opening) (opened first : ℕ) (merge : List Entry) (shard : ℕ) (name id : List ℕ) → shard < 16 → LegalHost opening opened first merge →
    SavesStand name id (opened_shard (opening_of shard opening) opened first) (part_of shard merge)
journal_stands opening opened first merge shard name id within legal =
    saves_stand name id (opened_shard (opening_of shard opening) opened first) (part_of shard merge) (legal.shards shard within).allowed
