-- Whatever comes, the history of a valid world is one that its shard may have over restarts.
use Rattle.std.proofs.Common.{◌≡◌, List, [], ◌∷◌, ◌++◌, refl, sym, ap, subst, ◌∙◌}
use Rattle.wopi_model.specs.Shard.{Shard, Tick, at_moment}
use Rattle.wopi_world.specs.History.{Item, Ran, Restarted, IsNextFirst, Legal, IsAllowed, Along, BeginsNext, happens, after, opening_names, names_after}
use Rattle.wopi_world.specs.World.{Setting, World, first_shard, first_world, Event, next_first, item_of, comes, run_from, run}
use Rattle.wopi_world.specs.Valid.{IsValidEvent, AreValid, IsValid}
use Rattle.wopi_world.proofs.Lengthening.{after-append, Along-append}
use Rattle.wopi_world.proofs.Versions.{AreKnown, known-push, known-first, next_first_is}
use Rattle.wopi_world.proofs.Stamps.{AreNumbered, IsNumbered, none_numbered, numbered-push}
use Rattle.wopi_world.proofs.OneRun.{IsAfter, AreSpaced, spaced-push}
use Rattle.wopi_world.proofs.Replying.{ruling_allowed}
use Rattle.wopi_world.proofs.Coming.{kept-comes}

-- The history leaves the shard, and has all names that were met. So it is in every world.
pub record IsLeft (setting : Setting) (shard : Shard) (history : List Item) : Type 0 where
  pub is_after : after (first_shard setting) history ≡ shard
  pub known : AreKnown shard (names_after (opening_names setting.opening) history)

left-item : (setting : Setting) (shard : Shard) (history : List Item) (item : Item) → IsLeft setting shard history → IsLeft setting (happens shard item) (history ++ item ∷ [])
left-item setting shard history item l =
    record {
      is_after = after-append (first_shard setting) history (item ∷ []) ∙ ap (λ (x : Shard). happens x item) l.is_after;
      known = known-push shard (opening_names setting.opening) history item l.known;
    }

pub left-comes : (setting : Setting) (world : World) (event : Event) → IsLeft setting world.shard world.history → IsLeft setting (comes setting world event).shard (comes setting world event).history
left-comes setting world event l =
    kept-comes setting (IsLeft setting) (λ at moment k. left-item setting at.shard at.history (Ran (Tick moment)) k)
    (λ at call moment k. left-item setting at.shard at.history (item_of at call moment) k) world event l
    (λ moment is. left-item setting world.shard world.history (Restarted moment (next_first setting world)) l)

pub left_first : (setting : Setting) → IsLeft setting (first_shard setting) []
left_first setting = record { is_after = refl; known = known-first setting.opening setting.opened setting.first }

left-run : (setting : Setting) (world : World) (events : List Event) → IsLeft setting world.shard world.history → IsLeft setting (run_from setting world events).shard (run_from setting world events).history
left-run setting world [] l = l
left-run setting world (event ∷ events) l = left-run setting (comes setting world event) events (left-comes setting world event l)

pub left_lem : (setting : Setting) (events : List Event) → IsLeft setting (run setting events).shard (run setting events).history
left_lem setting events = left-run setting (first_world setting) events (left_first setting)

pub next_is : (setting : Setting) (world : World) → IsLeft setting world.shard world.history → IsNextFirst world.shard (next_first setting world)
next_is setting world l = next_first_is world.shard (names_after (opening_names setting.opening) world.history) l.known

-- what holds of a shard and its history in a valid world
pub record IsFair (setting : Setting) (shard : Shard) (history : List Item) : Type 0 where
  pub left : IsLeft setting shard history
  pub allowed : Along IsAllowed (first_shard setting) history
  pub begins : Along BeginsNext (first_shard setting) history
  pub numbered : AreNumbered history
  pub spaced : AreSpaced [] history

abbrev pub Fair : Setting → World → Type 0
Fair setting world = IsFair setting world.shard world.history

fair-item : (setting : Setting) (shard : Shard) (history : List Item) (item : Item) → IsFair setting shard history → IsAllowed shard item → BeginsNext shard item → IsNumbered history item →
    IsAfter history item → IsFair setting (happens shard item) (history ++ item ∷ [])
fair-item setting shard history item f allowed begins numbered follows =
    record {
      left = left-item setting shard history item f.left;
      allowed = Along-append IsAllowed (first_shard setting) history (item ∷ []) f.allowed (subst (λ (x : Shard). IsAllowed x item) (sym f.left.is_after) allowed, tt);
      begins = Along-append BeginsNext (first_shard setting) history (item ∷ []) f.begins (subst (λ (x : Shard). BeginsNext x item) (sym f.left.is_after) begins, tt);
      numbered = numbered-push history item f.numbered numbered;
      spaced = spaced-push [] history item f.spaced follows;
    }

fair-comes : (setting : Setting) (world : World) (event : Event) → IsValidEvent setting world event → Fair setting world → Fair setting (comes setting world event)
fair-comes setting world event v f =
    kept-comes setting (IsFair setting) (λ at moment k. fair-item setting at.shard at.history (Ran (Tick moment)) k tt tt tt tt)
    (λ at call moment k. fair-item setting at.shard at.history (item_of at call moment) k (ruling_allowed at.faulty (at_moment at.shard moment) call) tt refl tt) world event f
    (λ moment is.
    let may = subst (IsValidEvent setting world) is v in
    fair-item setting world.shard world.history (Restarted moment (next_first setting world)) f may.0 (next_is setting world f.left) tt may.1)

fair-run : (setting : Setting) (world : World) (events : List Event) → AreValid setting world events → Fair setting world → Fair setting (run_from setting world events)
fair-run setting world [] v f = f
fair-run setting world (event ∷ events) v f = fair-run setting (comes setting world event) events v.1 (fair-comes setting world event v.0 f)

pub fair : (setting : Setting) (events : List Event) → IsValid setting events → Fair setting (run setting events)
fair setting events valid =
    fair-run setting (first_world setting) events valid.each
    (record { left = left_first setting; allowed = tt; begins = tt; numbered = none_numbered; spaced = tt })

pub legal_lem : (setting : Setting) (events : List Event) → IsValid setting events → Legal setting.opening setting.opened setting.first (run setting events).history
legal_lem setting events valid = let f = fair setting events valid in record { allowed = f.allowed; begins = f.begins; stamps = f.numbered.rises }

pub next_lem : (setting : Setting) (events : List Event) → IsNextFirst (run setting events).shard (next_first setting (run setting events))
next_lem setting events = next_is setting (run setting events) (left_lem setting events)
