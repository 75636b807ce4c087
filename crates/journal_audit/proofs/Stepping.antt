-- What a line does to what is known of its file.
use Rattle.std.proofs.Common.{◌≡◌, ◌↔◌, ℕ, ◌≤◌, ◌==◌, Bool, true, false, cond, ◌&&◌, ◌||◌, List, Option, None, Some, refl, ap, sym, ◌∙◌, subst, true≢false}
use Rattle.std.specs.Prelude.{IsTrue, IfSome}
use Rattle.std.proofs.lemmas.Bool.{eq-eqb, ne_eqb}
use Rattle.wopi_model.specs.Moment.{IsMoment}
use Rattle.wopi_model.specs.declared.locks.LockAct.{LockAct}
use Rattle.wopi_model.specs.declared.locks.LockAct.TheVariants as asks
use Rattle.wopi_model.specs.declared.locks.Spent.{Spent}
use Rattle.host_core.specs.declared.entry.EntryAct.{EntryAct}
use Rattle.host_core.specs.declared.entry.EntryAct.TheVariants as act
use Rattle.wopi_model.specs.File.{File}
use Rattle.wopi_model.specs.LockTable.{lock_after, spent_by}
use Rattle.wopi_model.specs.Settle.{expired, settled}
use Rattle.wopi_model.specs.Step.{effect}
use Rattle.journal_text.specs.declared.text.Line.{Line}
use Rattle.journal_audit.specs.Calls.{call_of}
use Rattle.journal_audit.specs.Judging.{Placed, SaysOutcome, shows_spent, sized_ask}
use Rattle.journal_audit.specs.Known.{IsKnown, placed_after, settled_place, unmet}
use Rattle.journal_audit.specs.Lines.{IsRuledOn}
use Rattle.journal_audit.specs.Spent.{Ends, Spends, ends, refuses}
use Rattle.journal_audit.specs.Tracks.{IsSound, OthersStay, Steps, left_by}
use Rattle.journal_audit.proofs.Sizes.{outcome_of, says_outcome}
use Rattle.journal_audit.proofs.Knowing.{accepts, left-by, settles, stands}

-- ---- the table of spent ids

pub spends_here : (old new : Ends) (file : ℕ) (one : Option Spent) → Spends old new file one → (id : List ℕ) (now : ℕ) → refuses new file id now ≡ ends one id now || refuses old file id now
spends_here old new file one spends id now =
    spends file id now ∙ ap (λ (b : Bool). (b && ends one id now) || refuses old file id now) (eq-eqb file file refl)

pub spends_others : (old new : Ends) (file : ℕ) (one : Option Spent) → Spends old new file one → OthersStay old new file
spends_others old new file one spends other apart id now =
    spends other id now ∙ ap (λ (b : Bool). (b && ends one id now) || refuses old other id now) (ne_eqb file other (λ e. apart (sym e)))

pub stay_both : (old mid new : Ends) (file : ℕ) → OthersStay old mid file → OthersStay mid new file → OthersStay old new file
stay_both old mid new file f s other apart id now = s other apart id now ∙ f other apart id now

-- ---- one file

abbrev Settled : Placed → (List ℕ → ℕ → Bool) → ℕ → (List ℕ → ℕ → Bool) → Type 0
Settled old refused now mid = (id : List ℕ) (later : ℕ) → mid id later ≡ ends (expired old.lock now) id later || refused id later

known_settled : (old : Placed) (refused mid : List ℕ → ℕ → Bool) (file : File) (before now : ℕ) → before ≤ now → Settled old refused now mid → IsKnown old refused file before →
    IsKnown (settled_place old now) mid (settled file now) now
known_settled old refused mid file before now le is known = settles old refused mid file before now le known (λ id later late. is id later)

-- what is said is an outcome exactly where the settled file has one
ruled_both : (old : Placed) (refused mid : List ℕ → ℕ → Bool) (line : Line) (opened : ℕ) (file : File) (before : ℕ) → before ≤ line.now → Settled old refused line.now mid → IsKnown old refused file before →
    SaysOutcome (settled_place old line.now) (shows_spent (λ id. mid id line.now) line.act) line opened ↔ IsRuledOn (settled file line.now) line opened line.now
ruled_both old refused mid line opened file before le is known =
    let here = known_settled old refused mid file before line.now le is known in
    let stood = stands (settled_place old line.now) mid file line.now here in (
      outcome_of (settled_place old line.now) (λ id. mid id line.now) (settled file line.now) line opened stood,
      says_outcome (settled_place old line.now) (λ id. mid id line.now) (settled file line.now) line opened stood,
    )

pub steps_bad : (old new : Placed) (refused mid refused' : List ℕ → ℕ → Bool) (line : Line) (opened : ℕ) → Settled old refused line.now mid →
    (SaysOutcome (settled_place old line.now) (shows_spent (λ id. mid id line.now) line.act) line opened → ⊥) → Steps old refused line opened false new refused'
steps_bad old new refused mid refused' line opened is not_ file before le known =
    let both = ruled_both old refused mid line opened file before le is known in
    ((λ yes. absurd (true≢false (sym yes)), λ ruled. absurd (not_ (both.1 ruled))), λ yes. absurd (true≢false (sym yes)))

pub steps_on : (old : Placed) (refused mid : List ℕ → ℕ → Bool) (line : Line) (opened : ℕ) → Settled old refused line.now mid →
    SaysOutcome (settled_place old line.now) (shows_spent (λ id. mid id line.now) line.act) line opened → (line.status == 200) ≡ false →
    Steps old refused line opened true (settled_place old line.now) mid
steps_on old refused mid line opened is says not_ file before le known =
    let now = line.now in
    let both = ruled_both old refused mid line opened file before le is known in
    let ruled = both.0 says in
    let left : settled file now ≡ left_by file opened line =
    ap (λ (b : Bool). cond b (effect (settled file now) (call_of line) now) (settled file now)) (sym not_) ∙ left-by (settled file now) line opened now ruled in
    ((λ yes. ruled, λ r. refl), λ yes. subst (λ (f : File). IsKnown (settled_place old now) mid f now) left (known_settled old refused mid file before now le is known))

pub steps_accepted : (old : Placed) (refused mid refused' : List ℕ → ℕ → Bool) (line : Line) (opened : ℕ) → IsSound line → Settled old refused line.now mid →
    SaysOutcome (settled_place old line.now) (shows_spent (λ id. mid id line.now) line.act) line opened → (line.status == 200) ≡ true →
    ((id : List ℕ) (later : ℕ) → refused' id later ≡ ends (spent_by (settled_place old line.now).lock (sized_ask old.size line.act) line.token.expires) id later || mid id later) →
    IfSome (lock_after (settled_place old line.now).lock (sized_ask old.size line.act) line.token.expires line.now) (λ held. IsMoment held.since) →
    Steps old refused line opened true (placed_after (settled_place old line.now) line.act line.token.expires line.now line.version) refused'
steps_accepted old refused mid refused' line opened sound is says ok spends since file before le known =
    let now = line.now in
    let both = ruled_both old refused mid line opened file before le is known in
    let ruled = both.0 says in
    let left : effect (settled file now) (call_of line) now ≡ left_by file opened line =
    ap (λ (b : Bool). cond b (effect (settled file now) (call_of line) now) (settled file now)) (sym ok) ∙ left-by (settled file now) line opened now ruled in
    let it = accepts (settled_place old now) mid refused' (settled file now) line opened sound ok (known_settled old refused mid file before now le is known) ruled since (λ id later late. spends id later) in
    ((λ yes. ruled, λ r. refl), λ yes. subst (λ (f : File). IsKnown (placed_after (settled_place old now) line.act line.token.expires now line.version) refused' f now) left it)

-- ---- by what each call gave

module _ (old file : Placed) (spent mid : Ends) (number : ℕ) (ended : Option Spent) (shown said : Bool) (line : Line) (opened : ℕ)
    (settled-is : file ≡ settled_place old line.now) (ended-is : ended ≡ expired old.lock line.now) (spends : Spends spent mid number ended)
    (shown-is : shown ≡ shows_spent (λ id. refuses mid number id line.now) line.act) (says : IsTrue said ↔ SaysOutcome file shown line opened) where
  is_settled : Settled old (refuses spent number) line.now (refuses mid number)
  is_settled id later = spends_here spent mid number ended spends id later ∙ ap (λ (o : Option Spent). ends o id later || refuses spent number id later) ended-is

  abbrev Says : Placed × Bool → Type 0
  Says both = IsTrue said ↔ SaysOutcome both.0 both.1 line opened

  says_settled : IsTrue said ↔ SaysOutcome (settled_place old line.now) (shows_spent (λ id. refuses mid number id line.now) line.act) line opened
  says_settled = subst Says (λ i. (settled-is i, shown-is i)) says

  pub step_bad : (new : Placed) (after : Ends) → said ≡ false → Steps old (refuses spent number) line opened false new (refuses after number)
  step_bad new after not_ =
      steps_bad old new (refuses spent number) (refuses mid number) (refuses after number) line opened is_settled
      (λ h. absurd (true≢false (sym (says_settled.1 h) ∙ not_)))

  pub step_on : said ≡ true → (line.status == 200) ≡ false → Steps old (refuses spent number) line opened true file (refuses mid number)
  step_on said-so other =
      subst (λ (p : Placed). Steps old (refuses spent number) line opened true p (refuses mid number)) (sym settled-is)
      (steps_on old (refuses spent number) (refuses mid number) line opened is_settled (says_settled.0 said-so) other)

  pub step_accepted : (new : Placed) (after : Ends) (taken : Option Spent) → IsSound line → said ≡ true → (line.status == 200) ≡ true →
      new ≡ placed_after file line.act line.token.expires line.now line.version → taken ≡ spent_by file.lock (sized_ask file.size line.act) line.token.expires → Spends mid after number taken →
      IfSome new.lock (λ held. IsMoment held.since) → Steps old (refuses spent number) line opened true new (refuses after number)
  step_accepted new after taken sound said-so ok new-is taken-is spends' since =
      let is : new ≡ placed_after (settled_place old line.now) line.act line.token.expires line.now line.version =
      new-is ∙ ap (λ (p : Placed). placed_after p line.act line.token.expires line.now line.version) settled-is in
      let spent-is : taken ≡ spent_by (settled_place old line.now).lock (sized_ask old.size line.act) line.token.expires =
      taken-is ∙ ap (λ (p : Placed). spent_by p.lock (sized_ask p.size line.act) line.token.expires) settled-is in
      subst (λ (p : Placed). Steps old (refuses spent number) line opened true p (refuses after number)) (sym is)
      (steps_accepted old (refuses spent number) (refuses mid number) (refuses after number) line opened sound is_settled (says_settled.0 said-so) ok
      (λ id later. spends_here mid after number taken spends' id later ∙ ap (λ (o : Option Spent). ends o id later || refuses mid number id later) spent-is)
      (subst (λ (p : Placed). IfSome p.lock (λ held. IsMoment held.since)) is since))

-- ---- a name that was never met

none-shown : (one : EntryAct) → false ≡ shows_spent (λ id. false) one
none-shown act.Info = refl
none-shown (act.Get most) = refl
none-shown (act.Put None size) = refl
none-shown (act.Put (Some id) size) = refl
none-shown (act.Lock id) = refl
none-shown act.GetLock = refl
none-shown (act.Refresh id) = refl
none-shown (act.Unlock id) = refl
none-shown (act.Relock old id) = refl
none-shown act.Look = refl
none-shown (act.Create overwrite size) = refl
none-shown act.Delete = refl

none-spent : (ask : LockAct) (expires : ℕ) → spent_by None ask expires ≡ None
none-spent (asks.Lock id) expires = refl
none-spent asks.GetLock expires = refl
none-spent (asks.Refresh id) expires = refl
none-spent (asks.Unlock id) expires = refl
none-spent (asks.Relock old id) expires = refl
none-spent (asks.Put id empty) expires = refl
none-spent asks.Delete expires = refl
none-spent (asks.Create exists overwrite) expires = refl
none-spent asks.Look expires = refl

module _ (first : ℕ) (file : Placed) (said : Bool) (line : Line) (opened : ℕ) (file-is : file ≡ unmet first) (says : IsTrue said ↔ SaysOutcome file false line opened) where
  abbrev SaysOf : Placed × Bool → Type 0
  SaysOf both = IsTrue said ↔ SaysOutcome both.0 both.1 line opened

  says_unmet : IsTrue said ↔ SaysOutcome (unmet first) (shows_spent (λ id. false) line.act) line opened
  says_unmet = subst SaysOf (λ i. (file-is i, none-shown line.act i)) says

  pub unmet_bad : said ≡ false → Steps (unmet first) (λ id later. false) line opened false (unmet first) (λ id later. false)
  unmet_bad not_ =
      steps_bad (unmet first) (unmet first) (λ id later. false) (λ id later. false) (λ id later. false) line opened (λ id later. refl)
      (λ h. absurd (true≢false (sym (says_unmet.1 h) ∙ not_)))

  pub unmet_on : said ≡ true → (line.status == 200) ≡ false → Steps (unmet first) (λ id later. false) line opened true (unmet first) (λ id later. false)
  unmet_on said-so other = steps_on (unmet first) (λ id later. false) (λ id later. false) line opened (λ id later. refl) (says_unmet.0 said-so) other

  pub unmet_accepted : (new : Placed) (after : Ends) (number : ℕ) → IsSound line → said ≡ true → (line.status == 200) ≡ true →
      new ≡ placed_after file line.act line.token.expires line.now line.version → ((id : List ℕ) (now : ℕ) → refuses after number id now ≡ false) →
      IfSome new.lock (λ held. IsMoment held.since) → Steps (unmet first) (λ id later. false) line opened true new (refuses after number)
  unmet_accepted new after number sound said-so ok new-is none since =
      let is : new ≡ placed_after (unmet first) line.act line.token.expires line.now line.version =
      new-is ∙ ap (λ (p : Placed). placed_after p line.act line.token.expires line.now line.version) file-is in
      subst (λ (p : Placed). Steps (unmet first) (λ id later. false) line opened true p (refuses after number)) (sym is)
      (steps_accepted (unmet first) (λ id later. false) (λ id later. false) (refuses after number) line opened sound (λ id later. refl) (says_unmet.0 said-so) ok
      (λ id later. none id later ∙ ap (λ (o : Option Spent). ends o id later || false) (sym (none-spent (sized_ask None line.act) line.token.expires)))
      (subst (λ (p : Placed). IfSome p.lock (λ held. IsMoment held.since)) is since))
