use Rattle.std.proofs.Common.{inl, inr, not, Some, ◌≡◌, ◌⊎◌, ◌+◌, ◌<◌, ◌^◌, ◌==◌, ℕ, List, length, max, ◌∷◌, ◌++◌, [], refl, sym, ap, subst, ◌∙◌, arith}
use Rattle.std.proofs.lemmas.List.{length-append}
use Rattle.wopi_model.specs.Begin.{Begin}
use Rattle.host_core.specs.Names.{AreWithin}
use Rattle.wopi_model.specs.Moment.{IsMoment}
use Rattle.wopi_model.specs.Settle.{settled}
use Rattle.host_core.specs.Entries.{Made, asked_as, items_of, ruled_as, Asked}
use Rattle.host_core.specs.Facts.{dates_of}
use Rattle.wopi_model.specs.Act.{is_stored}
use Rattle.host_core.specs.Files.{files_of}
use Rattle.kept_locks.specs.Locks.{places_at}
use Rattle.wopi_model.specs.Host.{most_kept, new_bytes}
use Rattle.wopi_model.specs.Lives.{bytes_of}
use Rattle.host_core.specs.Ledger.{HasNoCallAt, HasNoPlaceFor, HasNoStampAt, bytes_beside, bytes_under, files_in, ended_in, made_by}
use Rattle.host_core.specs.Notes.{TakesCalls}
use Rattle.host_core.proofs.Limiting.{spare_more, spare_same, spare_step}
use Rattle.host_core.specs.Steps.{TakesStep, IsNoRoomFor}
use Rattle.host_core.specs.Whole.{joined}
use Rattle.host_core.proofs.Counting.{counted_fits, both_true, brings_stored, counted_as}
use Rattle.host_core.proofs.Dating.{dated_push, dated_same}
use Rattle.host_core.proofs.Decisions.{ruled_status}
use Rattle.host_core.proofs.Accepting.{told_ahead}
use Rattle.host_core.proofs.Ending.{made_saved}
use Rattle.host_core.proofs.History.{later_moment}
use Rattle.host_core.proofs.Turning.{stand_same}
use Rattle.host_core.proofs.ledger.take_step.Goals as goal

pub returns-in-Err-clause-tied : goal.returns-in-Err-clause-tied
returns-in-Err-clause-tied g c =
    let old = g.F.Store.notes c.args.folder.now in
    let same : (g.F.Store.notes c.give_up.new.self).made ≡ old.made = c.give_up.ensures.made ∙ c.step_files.ensures.noted.made ∙ c.begin.ensures.made in
    let long : length (g.F.Store.notes c.give_up.new.self).made ≡ length old.made = ap (λ (l : List Made). length l) same in
    let begin : (g.F.Store.notes c.give_up.new.self).begin ≡ old.begin = c.give_up.ensures.rest.begin ∙ c.step_files.ensures.noted.begin ∙ c.begin.ensures.rest.begin in
    let most : (g.F.Store.notes c.give_up.new.self).most ≡ old.most = c.give_up.ensures.rest.most ∙ c.step_files.ensures.noted.most ∙ c.begin.ensures.rest.most in
    let before = c.args.ledger.now in
    let locks = c.step_files.new.self.locks in
    record {
      numbered = c.step_files.ensures.numbered;
      locked = c.in-Err.ensures.err.locked c.args.ledger.now.time c.requires.tied.locked;
      stand = stand_same c.args.ledger.now.rack.locks.files c.step_files.new.self.locks.files c.args.ledger.now.time c.in-Err.ensures.err.stand c.requires.tied.stand;
      once = c.step_files.ensures.once c.requires.tied.once;
      spare = spare_same before.calls before.ids (length old.made) _ locks long
          (spare_more before.calls before.ids (length old.made) before.rack.locks locks c.in-Err.ensures.err.room c.in-Err.ensures.err.spare c.requires.tied.spare);
      slots = subst (TakesCalls before.calls) (sym most) c.requires.tied.slots;
      opened = c.requires.tied.opened ∙ sym (ap (λ (b : Begin). b.opened) begin);
      first = c.requires.tied.first ∙ sym (ap (λ (b : Begin). b.first) begin);
      ended = c.give_up.ensures.ended;
      dated = dated_same c.args.ledger.now.rack.files.items c.step_files.new.self.files.items (dates_of c.args.ledger.now.opening.value.items) old.begin (g.F.Store.notes c.give_up.new.self).begin (items_of old.made) (items_of (g.F.Store.notes c.give_up.new.self).made) c.args.ledger.now.time
          c.in-Err.ensures.unmarked begin (ap items_of same) c.requires.tied.dated;
    }

pub returns-in-Err-clause-light : goal.returns-in-Err-clause-light
returns-in-Err-clause-light g c = λ takes. absurd (cc (takes, c.in-Err.ensures.err.light))

pub end-requires-clause-status : goal.end-requires-clause-status
end-requires-clause-status g c =
    let before = c.args.ledger.now in
    ruled_status (settled (files_of before.first (ended_in before c.max-now.result) c.args.call.now.name) c.max-now.result) c.args.call.now before.opened c.max-now.result
    c.step_files.new.carried.ruling c.in-Ok.ensures.ok.steps.steps.outcome

pub counted-ledger-requires : goal.counted-ledger-requires
counted-ledger-requires g c = λ changed.
    let before = c.args.ledger.now in
    let ruling = c.step_files.new.carried.ruling in
    let beside = c.beside-beside.result in
    let below : beside < 2 ^ 64 = search in
    let fits = counted_fits beside (files_of before.first (ended_in before c.max-now.result) c.args.call.now.name) c.args.call.now before.opened c.max-now.result ruling below c.in-Ok.ensures.ok.steps.steps.outcome c.in-Ok.ensures.ok.steps.room
    (both_true (ruling.status == 200) c.is_stored-stored.result changed).0 in
    subst (λ (n : ℕ). beside + n < 2 ^ 64) (sym c.size_of-size.ensures) fits

pub returns-in-Ok-clause-takes : goal.returns-in-Ok-clause-takes
returns-in-Ok-clause-takes g c =
    let before = c.args.ledger.now in
    let old = g.F.Store.notes c.args.folder.now in
    let after = joined c.step_files.new.self.files.items c.step_files.new.self.locks.files in
    let ruling = c.step_files.new.carried.ruling in
    let ok = c.in-Ok.ensures.ok.steps in
    let stamp : c.max-stamp.result + 1 ≡ max before.last c.args.floor + 1 = omega (arith, c.max-stamp.ensures) in
    let now : c.max-now.result ≡ max before.time c.args.moment = c.max-now.ensures in
    let asked = asked_as (c.max-stamp.result + 1) c.args.pass c.args.moment c.max-now.result c.args.call.now in
    let told = not (g.F.Store.lost c.end.new.self) in
    let entry : ruled_as told ruling asked ≡ made_by told before c.args.call.now c.args.pass c.args.floor c.args.moment ruling =
    λ i. record { time = now i; step = record { stamp = stamp i; pass = c.args.pass; moment = c.args.moment; call = c.args.call.now; ruling = ruling }; told = told } in
    record {
      steps = subst (λ (t : ℕ). TakesStep before.first (ended_in before t) after c.args.call.now before.opened t ruling) now ok.steps;
      entries = c.end.ensures.made asked (c.step_files.ensures.noted.begun ∙ c.begin.ensures.begun)
          ∙ ap (λ (l : List Made). l ++ ruled_as told ruling asked ∷ []) (c.step_files.ensures.noted.made ∙ c.begin.ensures.made)
          ∙ ap (λ (m : Made). old.made ++ m ∷ []) entry;
      keeps = record {
        begin = c.end.ensures.rest.begin ∙ c.step_files.ensures.noted.begin ∙ c.begin.ensures.rest.begin;
        most = c.end.ensures.rest.most ∙ c.step_files.ensures.noted.most ∙ c.begin.ensures.rest.most;
        log = c.end.ensures.rest.log ∙ c.step_files.ensures.noted.log ∙ c.begin.ensures.rest.log;
      };
      last = stamp;
      time = now;
      opened = refl;
      calls = refl;
      ids = refl;
      dates = refl;
      first = refl;
      few = c.in-Ok.ensures.few;
      within = λ most above h. ok.within most above (subst (λ (t : ℕ). AreWithin most (ended_in before t)) (sym now) h);
      kept = c.counted-ledger.ensures
          ∙ counted_as (ruling.status == 200) c.is_stored-stored.result (is_stored c.args.call.now.act) c.beside-beside.result (bytes_beside before.calls before.bytes (bytes_under before c.args.call.now.name))
          c.size_of-size.result (new_bytes c.args.call.now.act) before.bytes c.is_stored-stored.ensures c.beside-beside.ensures c.size_of-size.ensures;
    }

pub returns-in-Ok-clause-tied : goal.returns-in-Ok-clause-tied
returns-in-Ok-clause-tied g c =
    let old = g.F.Store.notes c.args.folder.now in
    let new = g.F.Store.notes c.end.new.self in
    let one = ruled_as (not (g.F.Store.lost c.end.new.self)) c.step_files.new.carried.ruling (asked_as (c.max-stamp.result + 1) c.args.pass c.args.moment c.max-now.result c.args.call.now) in
    let ok = c.in-Ok.ensures.ok in
    let entries : new.made ≡ old.made ++ one ∷ [] =
    c.end.ensures.made _ (c.step_files.ensures.noted.begun ∙ c.begin.ensures.begun) ∙ ap (λ (l : List Made). l ++ one ∷ []) (c.step_files.ensures.noted.made ∙ c.begin.ensures.made) in
    let long : length new.made ≡ length old.made + 1 = ap (λ (l : List Made). length l) entries ∙ length-append old.made (one ∷ []) in
    let begin : new.begin ≡ old.begin = c.end.ensures.rest.begin ∙ c.step_files.ensures.noted.begin ∙ c.begin.ensures.rest.begin in
    let most : new.most ≡ old.most = c.end.ensures.rest.most ∙ c.step_files.ensures.noted.most ∙ c.begin.ensures.rest.most in
    let before = c.args.ledger.now in
    let locks = c.step_files.new.self.locks in
    record {
      numbered = c.step_files.ensures.numbered;
      locked = ok.locked;
      stand = ok.stand;
      once = c.step_files.ensures.once c.requires.tied.once;
      spare = spare_step before.calls before.ids (length old.made) (length new.made) before.rack.locks locks long ok.room ok.spare c.requires.tied.spare;
      slots = subst (TakesCalls before.calls) (sym most) c.requires.tied.slots;
      opened = c.requires.tied.opened ∙ sym (ap (λ (b : Begin). b.opened) begin);
      first = c.requires.tied.first ∙ sym (ap (λ (b : Begin). b.first) begin);
      ended = c.end.ensures.ended;
      dated =
          let files = c.args.ledger.now.rack.files.items in
          let files' = c.step_files.new.self.files.items in
          let dates = dates_of c.args.ledger.now.opening.value.items in
          let pushed = dated_push files files' dates old.begin old.made one c.args.ledger.now.time c.max-now.ensures (subst IsMoment (sym c.max-now.ensures) (later_moment c.args.ledger.now.time c.args.moment c.requires.time c.requires.moment)) c.requires.tied.dated c.in-Ok.ensures.marks in
          dated_same files' files' dates old.begin new.begin (items_of (old.made ++ one ∷ [])) (items_of new.made) c.max-now.result refl begin (ap items_of entries) pushed;
    }

pub returns-in-Ok-clause-room : goal.returns-in-Ok-clause-room
returns-in-Ok-clause-room g c = λ full.
    let before = c.args.ledger.now in
    let call = c.args.call.now in
    let file = files_of before.first (files_in before) call.name in
    let left = c.is_used_up.ensures.left c.if-is_used_up.false in
    let same : c.max-stamp.result ≡ max c.args.floor before.last = c.max-stamp.ensures in
    let now : c.max-now.result ≡ max before.time c.args.moment = c.max-now.ensures in
    elim full [
      | inl called ↦ left.0 (subst (HasNoCallAt before.calls) (sym c.count.ensures) called)
      | inr (inl spent) ↦ left.1 (subst (HasNoStampAt before.calls) (sym same) spent)
      | inr (inr (inl none)) ↦
          let (accepted, brings, over) = subst (λ (t : ℕ). IsNoRoomFor file (bytes_beside before.calls before.bytes (bytes_of file.contents)) call before.opened t) (sym now) none in
          let fits = c.in-Ok.ensures.room accepted brings in
          let beside = c.beside-beside.ensures (brings_stored call.act brings) in
          omega (arith, over, fits, beside)
      | inr (inr (inr place)) ↦
          let lacks = c.lacks_place.ensures.1 (subst (λ (t : ℕ). HasNoPlaceFor before.calls before.ids (places_at t before.rack.locks.files) file call before.opened t) (sym now) place) in
          cc (lacks, c.if-lacks_place.false)
    ]

pub returns-in-Err-clause-full : goal.returns-in-Err-clause-full
returns-in-Err-clause-full g c = λ full.
    let before = c.args.ledger.now in
    let call = c.args.call.now in
    let file = files_of before.first (files_in before) call.name in
    let (accepted, brings, over) = c.in-Err.ensures.err.stops.full full in
    let beside = c.beside-beside.ensures (brings_stored call.act brings) in
    let over' : most_kept < bytes_beside before.calls before.bytes (bytes_of file.contents) + new_bytes call.act = omega (arith, over, beside) in
    let now : c.max-now.result ≡ max before.time c.args.moment = c.max-now.ensures in
    inr (inr (inl (subst (λ (t : ℕ). IsNoRoomFor file (bytes_beside before.calls before.bytes (bytes_of file.contents)) call before.opened t) now (accepted, brings, over'))))

pub end-requires-clause-begun : goal.end-requires-clause-begun
end-requires-clause-begun g c =
    let ruling = c.step_files.new.carried.ruling in (
      asked_as (c.max-stamp.result + 1) c.args.pass c.args.moment c.max-now.result c.args.call.now,
      c.step_files.ensures.noted.begun ∙ c.begin.ensures.begun,
      made_saved c.args.call.now.act ruling _ _ c.begin.ensures.saved c.in-Ok.ensures.ok.steps.kept,
    )

pub end-requires-clause-ahead : goal.end-requires-clause-ahead
end-requires-clause-ahead g c = λ one begun stored status.
    let before = c.args.ledger.now in
    let asked = asked_as (c.max-stamp.result + 1) c.args.pass c.args.moment c.max-now.result c.args.call.now in
    let same : Some asked ≡ Some one = sym (c.step_files.ensures.noted.begun ∙ c.begin.ensures.begun) ∙ begun in
    let is : asked ≡ one = cc (same) in
    told_ahead (settled (files_of before.first (ended_in before c.max-now.result) c.args.call.now.name) c.max-now.result) c.args.call.now before.opened c.max-now.result
    c.step_files.new.carried.ruling _ _ c.in-Ok.ensures.ok.steps.steps.outcome c.begin.ensures.saved c.in-Ok.ensures.ok.steps.kept
    (ap (λ (a : Asked). is_stored a.call.act) is ∙ stored) status

pub step_files-requires-clause-noted : goal.step_files-requires-clause-noted
step_files-requires-clause-noted g c = (asked_as (c.max-stamp.result + 1) c.args.pass c.args.moment c.max-now.result c.args.call.now, c.begin.ensures.begun, c.begin.ensures.saved, refl)

pub returns-then-is_used_up-clause-full : goal.returns-then-is_used_up-clause-full
returns-then-is_used_up-clause-full g c = λ _.
    let before = c.args.ledger.now in
    let made = (g.F.Store.notes c.args.folder.now).made in
    let used = c.is_used_up.ensures.used c.if-is_used_up.true in
    let called = subst (λ (n : ℕ). HasNoCallAt before.calls n ⊎ HasNoStampAt before.calls c.max-stamp.result) c.count.ensures used in
    elim (subst (λ (n : ℕ). HasNoCallAt before.calls (length made) ⊎ HasNoStampAt before.calls n) c.max-stamp.ensures called) [
      | inl calls ↦ inl calls
      | inr stamps ↦ inr (inl stamps)
    ]

pub returns-then-lacks_place-clause-full : goal.returns-then-lacks_place-clause-full
returns-then-lacks_place-clause-full g c = λ _.
    let before = c.args.ledger.now in
    let call = c.args.call.now in
    let file = files_of before.first (files_in before) call.name in
    let lacks = c.lacks_place.ensures.0 c.if-lacks_place.true in
    inr (inr (inr (subst (λ (t : ℕ). HasNoPlaceFor before.calls before.ids (places_at t before.rack.locks.files) file call before.opened t) c.max-now.ensures lacks)))
