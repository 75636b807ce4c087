-- A pass after a call of one of its seats.
use Rattle.std.proofs.Common.{◌≡◌, ◌↔◌, ℕ, zero, suc, ◌+◌, ◌<◌, max, Bool, IsTrue, Option, Some, Result, IfOk, IfErr, OnErr, List, [], ◌∷◌, ◌++◌, map, length, set, get_or, slice_get, refl, ap, sym, ◌∙◌, subst, arith, length-set, append_assoc}
use mathlib.Core.List.{IsPrefix, append-nil, map-append}
use Rattle.std.specs.List.{AllByRecursion}
use Rattle.std.specs.Prelude as Prelude
use Rattle.wopi_text.specs.FileName.{shard_of}
use Rattle.wopi_text.specs.declared.faults.Memory.{Memory}
use Rattle.wopi_model.specs.declared.calls.Call.{Call}
use Rattle.wopi_model.specs.File.{File}
use Rattle.wopi_model.specs.Begin.{Begin}
use Rattle.wopi_model.specs.Shard.{Item, Step, Entry, LegalFrom, RisesFrom, entries, stamps, last_from}
use Rattle.wopi_model.specs.Host.{FullFrom, Limits}
use Rattle.host_core.specs.declared.caller.Receipt.{Receipt}
use Rattle.host_core.specs.declared.caller.CallFault.{CallFault}
use Rattle.host_core.specs.Entries.{Made, told_by}
use Rattle.host_core.specs.Notes.{Notes}
use Rattle.host_core.specs.declared.listing.Listing.{Listing}
use Rattle.host_core.specs.Opening.{MayKeep}
use Rattle.host_core.specs.Caller.{entry_of, next_stamp, Extends, Makes, Refuses, Frames, FramesAt, IsFullCall}
use Rattle.host_core.specs.Fullness.{IsNearlyFull, IsNearlyFullAt}
use Rattle.host_core.specs.Listing.{IsListing, Lists, LooksAt}
use Rattle.host_core.specs.Value.{Book}
use Rattle.host_core.specs.Times.{steps_of, untimed}
use Rattle.host_table.specs.Histories.{IsSeen}
use Rattle.host_table.specs.Passes.{Place, PassView, Own, told_own, stamp_of, own_of, lock_of, base_of, begin_seen, dates_seen, last_seen, top, seen_at, beginning_at, dates_at, sight_of, IsBase, Owns, HasOwn, IsSeat, IsPass, HasSeen, IsSamePass}
use Rattle.host_table.specs.Calls.{Calls, Glances, Looks, AreNotesOf, AreSeenAt}
use Rattle.host_table.specs.Sights.{seen_alone}
use Rattle.host_core.proofs.Timing.{entries-untimed}
use Rattle.host_table.proofs.Stamps.{steps-append, steps-long, get_last}
use Rattle.host_table.proofs.Owned.{AreOwn, owns-later, owns-push, own_after, own_stays, rises_after}
use Rattle.host_core.proofs.Results.{ifok_map}
use Rattle.host_table.proofs.Turning.{err_map, on_err, either_case}
use Rattle.host_table.proofs.Homes.{children_home}
use Rattle.host_table.proofs.Seats.{get_there, get_set, get_other, map_set, last_seen-later, seat_there, seats_set, own_seats, top_set, has_seen}

-- the pass, with a seat changed
abbrev pub with_seat : {F : Type 0} → PassView F → ℕ → Place F → ℕ → PassView F
with_seat p k w last = record { number = p.number; last = last; weight = p.weight; opened = p.opened; first = p.first; limits = p.limits; seats = set p.seats k w }

-- what may be told of the pass's own entries and of one more
told_own-push : (own : List Own) (one : Own) → told_own (own ++ one ∷ []) ≡ told_own own ++ told_by one.told one.entry
told_own-push [] one = append-nil (told_by one.told one.entry)
told_own-push (first ∷ own) one =
    ap (λ (l : List Entry). told_by first.told first.entry ++ l) (told_own-push own one)
    ∙ sym (append_assoc (told_by first.told first.entry) (told_own own) (told_by one.told one.entry))

some_same : {A : Type 0} (x y : A) (o : Option A) → o ≡ Some x → o ≡ Some y → x ≡ y
some_same x y o a b = cc (a, b)

module _ {F : Type 0} (p : PassView F) (k : ℕ) (v w : Place F) (inside : IsPass p) (below : k < 16) (at : v ≡ get_or p.seats k v) where
  here : k < length p.seats
  here = let wide = inside.wide in omega arith

  pub seat_is : IsSeat p.number p.weight p.opened p.first p.limits k v
  seat_is = seat_there p.number p.weight p.opened p.first p.limits 0 k p.seats k v (omega arith) inside.seats here at

  was : slice_get p.seats k ≡ Some v
  was = get_there p.seats k v here at

  pub own_are : AreOwn p.number p.seats
  own_are = own_seats p.number p.weight p.opened p.first p.limits 0 p.seats inside.seats

  -- the pass after the call keeps what each pass keeps
  pub pass_after : (last : ℕ) → IsSeat p.number p.weight p.opened p.first p.limits k w → w.base ≡ v.base → IsPrefix v.seen w.seen → last ≡ max p.last (last_seen w)
      → RisesFrom 0 (map stamp_of (own_of (with_seat p k w last))) → IsPass (with_seat p k w last)
  pass_after last is same later last_is rises =
      let least = last_seen-later is.base v w (sym same ∙ is.based) is.based is.seen later in
      record {
        seats = seats_set p.number p.weight p.opened p.first p.limits 0 k p.seats k w (omega arith) inside.seats is;
        last_is = last_is ∙ (ap (λ (n : ℕ). max n (last_seen w)) inside.last_is ∙ top_set p.seats k v w here at least);
        wide = length-set p.seats k w ∙ inside.wide;
        rises = rises;
      }

  -- what the seat keeps
  seat_after : (base : Book F) → v.base ≡ Some base → IsSeen base w.seen → w.base ≡ v.base → w.taken ≡ v.taken → w.weight ≡ v.weight → Owns p.number w.seen w.own → IsSeat p.number p.weight p.opened p.first p.limits k w
  seat_after base based seen same_base same_taken same_weight owns =
      let old = seat_is in
      let one : base ≡ old.base = some_same base old.base v.base based old.based in
      record {
        free = same_taken ∙ old.free;
        weight_is = same_weight ∙ old.weight_is;
        base = base;
        based = same_base ∙ based;
        is_base = subst (λ (b : Book F). IsBase p.opened p.first p.limits k b) (sym one) old.is_base;
        seen = seen;
        owns = owns;
      }

  same_pass : (last : ℕ) → w.lock ≡ v.lock → w.base ≡ v.base → IsSamePass p (with_seat p k w last)
  same_pass last lock base = record {
    number = refl;
    weight = refl;
    opened_is = refl;
    first_is = refl;
    limits_is = refl;
    locks = map_set lock_of p.seats k v w at lock;
    bases = map_set base_of p.seats k v w at base;
  }

  begin_same : w.base ≡ v.base → (shard : ℕ) → beginning_at (slice_get (set p.seats k w) shard) ≡ beginning_at (slice_get p.seats shard)
  begin_same base shard = go shard p.seats k v at here base where
    go : (j : ℕ) (ss : List (Place F)) (n : ℕ) (x : Place F) → x ≡ get_or ss n x → n < length ss → w.base ≡ x.base → beginning_at (slice_get (set ss n w) j) ≡ beginning_at (slice_get ss j)
    go j [] n x e h b = refl
    go zero (s ∷ ss) zero x e h b = ap begin_seen (b ∙ ap (λ (z : Place F). z.base) e)
    go zero (s ∷ ss) (suc n) x e h b = refl
    go (suc j) (s ∷ ss) zero x e h b = refl
    go (suc j) (s ∷ ss) (suc n) x e h b = go j ss n x e (omega arith) b

  dates_same : w.base ≡ v.base → (shard : ℕ) → dates_at (slice_get (set p.seats k w) shard) ≡ dates_at (slice_get p.seats shard)
  dates_same base shard = go shard p.seats k v at here base where
    go : (j : ℕ) (ss : List (Place F)) (n : ℕ) (x : Place F) → x ≡ get_or ss n x → n < length ss → w.base ≡ x.base → dates_at (slice_get (set ss n w) j) ≡ dates_at (slice_get ss j)
    go j [] n x e h b = refl
    go zero (s ∷ ss) zero x e h b = ap dates_seen (b ∙ ap (λ (z : Place F). z.base) e)
    go zero (s ∷ ss) (suc n) x e h b = refl
    go (suc j) (s ∷ ss) zero x e h b = refl
    go (suc j) (s ∷ ss) (suc n) x e h b = go j ss n x e (omega arith) b

  -- a seat's own shard is the only one of which more may have been seen
  frames_at : (last : ℕ) (base : Book F) → v.base ≡ Some base → w.base ≡ v.base → IsSeen base w.seen → FramesAt (sight_of p) (sight_of (with_seat p k w last)) k
  frames_at last base based same seen =
      let now : seen_at (slice_get (set p.seats k w) k) ≡ untimed w.seen = ap seen_at (get_set p.seats k w here) in
      let begin : beginning_at (slice_get p.seats k) ≡ base.begin = ap beginning_at was ∙ ap begin_seen based in
      let P : Begin × List Item → Type 0 = λ z. LegalFrom z.0 z.1 in
      let same_all : (base.begin, untimed w.seen) ≡ (beginning_at (slice_get p.seats k), seen_at (slice_get (set p.seats k w) k)) = λ i. (sym begin i, sym now i) in
      record {
        others = λ shard differ. ap seen_at (get_other p.seats k shard w differ);
        begins = begin_same same;
        dates = dates_same same;
        home = λ other. refl;
        pass = refl;
        limits = refl;
        ticked = refl;
        alone = λ _. seen_alone (slice_get (set p.seats k w) k);
        legal = subst P same_all seen.legal;
      }

  frames : (last : ℕ) (call : Call) → k ≡ shard_of call.name → (base : Book F) → v.base ≡ Some base → w.base ≡ v.base → IsSeen base w.seen → Frames (sight_of p) (sight_of (with_seat p k w last)) call.name
  frames last call home base based same seen =
      let P : ℕ → Type 0 = λ n. FramesAt (sight_of p) (sight_of (with_seat p k w last)) n in
      subst P home (frames_at last base based same seen)

  seen_by : (base : Book F) → v.base ≡ Some base → Prelude.IsSomeAnd v.base (λ b. IsSeen b w.seen) → IsSeen base w.seen
  seen_by base based seen = let P : Option (Book F) → Type 0 = λ o. Prelude.IsSomeAnd o (λ b. IsSeen b w.seen) in subst P based seen

  -- the history so far was seen, and no entry was made
  module _ (last : ℕ) (seen_all : Prelude.IsSomeAnd v.base (λ b. IsSeen b w.seen)) (last_is : last ≡ max p.last (last_seen w)) (glances : Glances v w) where
    abbrev after_glance : PassView F
    after_glance = with_seat p k w last

    base_stays : w.base ≡ v.base
    base_stays = ap (λ (z : Place F). z.base) glances.same

    pub own_glanced : own_of after_glance ≡ own_of p
    own_glanced = own_stays p.number p.seats k v w at glances.later (ap (λ (z : Place F). z.own) glances.same) (seat_is).owns

    owns_stays : Owns p.number w.seen w.own
    owns_stays = let P : List ℕ → Type 0 = λ places. Owns p.number w.seen places in
        subst P (sym (ap (λ (z : Place F). z.own) glances.same)) (owns-later p.number v.seen w.seen v.own glances.later (seat_is).owns)

    pub pass_glanced : IsPass after_glance
    pass_glanced = pass_after last (seat_after glances.base glances.based (seen_by glances.base glances.based seen_all) base_stays (ap (λ (z : Place F). z.taken) glances.same) (ap (λ (z : Place F). z.weight) glances.same) owns_stays) base_stays glances.later last_is
        (subst (λ (owns : List Own). RisesFrom 0 (map stamp_of owns)) (sym own_glanced) inside.rises)

    pub frames_glanced : FramesAt (sight_of p) (sight_of after_glance) k
    frames_glanced = frames_at last glances.base glances.based base_stays (seen_by glances.base glances.based seen_all)

    pub same_glanced : IsSamePass p after_glance
    same_glanced = same_pass last (ap (λ (z : Place F). z.lock) glances.same) base_stays

    pub seen_glanced : HasSeen after_glance
    seen_glanced = has_seen after_glance pass_glanced

    pub begins_glanced : Extends (entries (seen_at (slice_get p.seats k))) (entries (seen_at (slice_get (set p.seats k w) k)))
    begins_glanced =
        let now : seen_at (slice_get (set p.seats k w) k) ≡ untimed w.seen = ap seen_at (get_set p.seats k w here) in
        let old : entries (seen_at (slice_get p.seats k)) ≡ steps_of v.seen = ap (λ (o : Option (Place F)). entries (seen_at o)) was ∙ entries-untimed v.seen in (
          steps_of glances.later.0,
          ap (λ (items : List Item). entries items) now ∙ (entries-untimed w.seen ∙ (ap steps_of (sym glances.later.1) ∙ (steps-append v.seen glances.later.0 ∙ ap (λ (es : List Entry). es ++ steps_of glances.later.0) (sym old)))),
        )

    pub looks_glanced : LooksAt (sight_of p) (sight_of after_glance) k
    looks_glanced = record { own = ap (map (λ (one : Own). one.entry)) own_glanced; told = ap told_own own_glanced; begins = begins_glanced; rest = frames_glanced }

    -- what a listing shows after the history that the seat has seen, it shows after what the pass has seen
    pub lists_glanced : (listing : Listing) → Prelude.IsSomeAnd v.base (λ base. IsListing k base.begin (untimed w.seen) listing) → Lists (sight_of after_glance) k listing
    lists_glanced listing shows =
        let base = glances.base in
        let seat = seat_is in
        let one : base ≡ seat.base = some_same base seat.base v.base glances.based seat.based in
        let here_shows : IsListing k base.begin (untimed w.seen) listing =
        subst (λ (o : Option (Book F)). Prelude.IsSomeAnd o (λ b. IsListing k b.begin (untimed w.seen) listing)) glances.based shows in
        let begin : base.begin ≡ beginning_at (slice_get (set p.seats k w) k) = sym (ap beginning_at (get_set p.seats k w here) ∙ ap begin_seen (base_stays ∙ glances.based)) in
        let now : untimed w.seen ≡ seen_at (slice_get (set p.seats k w) k) = sym (ap seen_at (get_set p.seats k w here)) in
        let P : Begin × List Item → Type 0 = λ z. IsListing k z.0 z.1 listing in
        let all : (base.begin, untimed w.seen) ≡ (beginning_at (slice_get (set p.seats k w) k), seen_at (slice_get (set p.seats k w) k)) = λ i. (begin i, now i) in
        record {
          shows = subst P all here_shows;
          homes = children_home k base w.seen listing (ap (λ (b : Book F). b.only) one ∙ seat.is_base.only) (subst (λ (b : Book F). AllByRecursion (λ (file : List ℕ × File). MayKeep b.only file.0) b.begin.files) (sym one) seat.is_base.names)
              (seen_by glances.base glances.based seen_all).named here_shows.children_are;
        }

    -- what is told of the history that the seat has seen, is told of what the pass has seen
    pub weighed_glanced : (answer : Bool) → Prelude.IsSomeAnd v.base (λ base. IsTrue answer ↔ IsNearlyFull base.limits.calls base.begin (untimed w.seen)) → IsTrue answer ↔ IsNearlyFullAt (sight_of after_glance) k
    weighed_glanced answer tells =
        let base = glances.base in
        let seat = seat_is in
        let one : base ≡ seat.base = some_same base seat.base v.base glances.based seat.based in
        let here_tells : IsTrue answer ↔ IsNearlyFull base.limits.calls base.begin (untimed w.seen) =
        subst (λ (o : Option (Book F)). Prelude.IsSomeAnd o (λ b. IsTrue answer ↔ IsNearlyFull b.limits.calls b.begin (untimed w.seen))) glances.based tells in
        let begin : base.begin ≡ beginning_at (slice_get (set p.seats k w) k) = sym (ap beginning_at (get_set p.seats k w here) ∙ ap begin_seen (base_stays ∙ glances.based)) in
        let limits : base.limits ≡ p.limits = ap (λ (b : Book F). b.limits) one ∙ seat.is_base.limits_is in
        let now : untimed w.seen ≡ seen_at (slice_get (set p.seats k w) k) = sym (ap seen_at (get_set p.seats k w here)) in
        let P : Begin × (Limits × List Item) → Type 0 = λ z. IsTrue answer ↔ IsNearlyFull z.1.0.calls z.0 z.1.1 in
        let all : (base.begin, (base.limits, untimed w.seen)) ≡ (beginning_at (slice_get (set p.seats k w) k), (p.limits, seen_at (slice_get (set p.seats k w) k))) = λ i. (begin i, (limits i, now i)) in
        subst P all here_tells

    pub weighed_then : (shard : ℕ) → k ≡ shard → (answer : Bool) → Prelude.IsSomeAnd v.base (λ base. IsTrue answer ↔ IsNearlyFull base.limits.calls base.begin (untimed w.seen))
        → IsTrue answer ↔ IsNearlyFullAt (sight_of after_glance) shard
    weighed_then shard is answer tells = let P : ℕ → Type 0 = λ n. IsTrue answer ↔ IsNearlyFullAt (sight_of after_glance) n in subst P is (weighed_glanced answer tells)

    -- by the number that was asked for
    pub looks_then : (shard : ℕ) → k ≡ shard → LooksAt (sight_of p) (sight_of after_glance) shard
    looks_then shard is = let P : ℕ → Type 0 = λ n. LooksAt (sight_of p) (sight_of after_glance) n in subst P is looks_glanced

    -- what the store has noted, as the pass has seen it
    pub notes_then : (shard : ℕ) → k ≡ shard → (notes : Notes) → AreSeenAt notes w → AreNotesOf (sight_of after_glance) shard notes
    notes_then shard is notes are =
        let P : ℕ → Type 0 = λ n. AreNotesOf (sight_of after_glance) n notes in
        subst P is (record {
          begin = are.begin ∙ sym (ap beginning_at (get_set p.seats k w here));
          made = ap untimed are.made ∙ sym (ap seen_at (get_set p.seats k w here));
        })

    pub lists_then : (shard : ℕ) → k ≡ shard → (answer : Result Listing Memory) → IfOk answer (λ listing. Prelude.IsSomeAnd v.base (λ base. IsListing shard base.begin (untimed w.seen) listing))
        → IfOk answer (Lists (sight_of after_glance) shard)
    lists_then shard is answer =
        let P : ℕ → Type 0 = λ n. IfOk answer (λ listing. Prelude.IsSomeAnd v.base (λ base. IsListing n base.begin (untimed w.seen) listing)) → IfOk answer (Lists (sight_of after_glance) n) in
        subst P is (λ shows. ifok_map answer _ _ lists_glanced shows)

  module _ (last : ℕ) (call : Call) (moment : ℕ) (home : k ≡ shard_of call.name) (seen_all : Prelude.IsSomeAnd v.base (λ b. IsSeen b w.seen)) (last_is : last ≡ max p.last (last_seen w)) where
    abbrev q : PassView F
    q = with_seat p k w last

    module _ (receipt : Receipt) (calls : Calls v call p.number p.last moment receipt w) where
      abbrev made : List Made
      made = v.seen ++ calls.between

      abbrev one : Made
      one = record { time = calls.time; step = entry_of p.number call moment receipt; told = receipt.told }

      lock_same : w.lock ≡ v.lock
      lock_same = ap (λ (z : Place F). z.lock) calls.same

      base_same : w.base ≡ v.base
      base_same = ap (λ (z : Place F). z.base) calls.same

      own_more : w.own ≡ v.own ++ receipt.place ∷ []
      own_more = ap (λ (z : Place F). z.own) calls.same

      later : IsPrefix v.seen w.seen
      later = (calls.between ++ one ∷ [], sym (append_assoc v.seen calls.between (one ∷ [])) ∙ sym calls.seen)

      there : slice_get w.seen receipt.place ≡ Some one
      there = ap (λ (z : List Made). slice_get z receipt.place) calls.seen ∙ (ap (slice_get ((v.seen ++ calls.between) ++ one ∷ [])) calls.place ∙ get_last (v.seen ++ calls.between) one)

      owns_then : Owns p.number w.seen w.own
      owns_then = let P : List ℕ → Type 0 = λ places. Owns p.number w.seen places in
          subst P (sym own_more) (owns-push p.number w.seen v.own receipt.place (owns-later p.number v.seen w.seen v.own later (seat_is).owns) (subst (HasOwn p.number) (sym there) refl))

      shard_same : receipt.shard ≡ k
      shard_same =
          let old = seat_is in
          let same : calls.base ≡ old.base = some_same calls.base old.base v.base calls.based old.based in
          let only : calls.base.only ≡ Some k = ap (λ (b : Book F). b.only) same ∙ old.is_base.only in
          some_same receipt.shard k calls.base.only calls.shard only

      top_below : top p.seats < receipt.stamp
      top_below = let stamp : receipt.stamp ≡ max p.last (last_from calls.base.begin.last (stamps (entries (untimed (v.seen ++ calls.between))))) + 1 = calls.stamp in let last_was = inside.last_is in omega arith

      pub own_call : own_of q ≡ own_of p ++ record { shard = receipt.shard; place = receipt.place; entry = entry_of p.number call moment receipt; told = receipt.told } ∷ []
      own_call =
          own_after p.number p.seats k v w (v.seen ++ calls.between) one own_are here at (calls.between, refl) calls.seen (own_more ∙ ap (λ (n : ℕ). v.own ++ n ∷ []) calls.place) (seat_is).owns top_below
          ∙ (λ i. own_of p ++ record { shard = sym shard_same i; place = sym calls.place i; entry = entry_of p.number call moment receipt; told = receipt.told } ∷ [])

      rises_then : RisesFrom 0 (map stamp_of (own_of q))
      rises_then =
          let more : map stamp_of (own_of q) ≡ map stamp_of (own_of p) ++ receipt.stamp ∷ [] = ap (map stamp_of) own_call ∙ map-append stamp_of (own_of p) _ in
          subst (RisesFrom 0) (sym more) (rises_after p.number receipt.stamp p.seats own_are top_below inside.rises)

      pub pass_called : IsPass q
      pass_called = pass_after last (seat_after calls.base calls.based (seen_by calls.base calls.based seen_all) base_same (ap (λ (z : Place F). z.taken) calls.same) (ap (λ (z : Place F). z.weight) calls.same) owns_then) base_same later last_is rises_then

      pub frames_called : Frames (sight_of p) (sight_of q) call.name
      frames_called = frames last call home calls.base calls.based base_same (seen_by calls.base calls.based seen_all)

      pub same_called : IsSamePass p q
      same_called = same_pass last lock_same base_same

      pub makes : Makes (sight_of p) (sight_of q) call moment receipt
      makes =
          let entry : Entry = entry_of p.number call moment receipt in
          let now : entries (seen_at (slice_get (set p.seats k w) k)) ≡ steps_of made ++ entry ∷ [] =
          ap (λ (o : Option (Place F)). entries (seen_at o)) (get_set p.seats k w here) ∙ (entries-untimed w.seen ∙ (ap steps_of calls.seen ∙ steps-append made (one ∷ []))) in
          let old : entries (seen_at (slice_get p.seats k)) ≡ steps_of v.seen = ap (λ (o : Option (Place F)). entries (seen_at o)) was ∙ entries-untimed v.seen in
          let found : entries (untimed made) ≡ steps_of made = entries-untimed made in
          let seat = seat_is in
          let base : calls.base ≡ seat.base = some_same calls.base seat.base v.base calls.based seat.based in
          let begin : beginning_at (slice_get p.seats k) ≡ calls.base.begin = ap beginning_at was ∙ ap begin_seen calls.based in
          let limits : p.limits ≡ calls.base.limits = sym (ap (λ (b : Book F). b.limits) base ∙ seat.is_base.limits_is) in
          let P : Begin × Limits → Type 0 = λ z. FullFrom z.1 z.0 (untimed made) p.last call moment → ⊥ in
          let terms : (calls.base.begin, calls.base.limits) ≡ (beginning_at (slice_get p.seats k), p.limits) = λ i. (sym begin i, sym limits i) in
          let room : FullFrom p.limits (beginning_at (slice_get p.seats k)) (untimed made) p.last call moment → ⊥ = subst P terms calls.room in
          let end : untimed (made ++ one ∷ []) ≡ untimed made ++ Step entry ∷ [] = ap (map Step) (steps-append made (one ∷ [])) ∙ map-append Step (steps_of made) (entry ∷ []) in
          let seen : seen_at (slice_get (set p.seats k w) k) ≡ untimed made ++ Step entry ∷ [] = ap seen_at (get_set p.seats k w here) ∙ (ap untimed calls.seen ∙ end) in
          let Seen : ℕ → Type 0 = λ n. seen_at (slice_get (set p.seats k w) n) ≡ untimed made ++ Step entry ∷ [] in
          let Last : ℕ → Type 0 = λ n. entries (seen_at (slice_get (set p.seats k w) n)) ≡ entries (untimed made) ++ entry ∷ [] in
          let Begins : ℕ → Type 0 = λ n. Extends (entries (seen_at (slice_get p.seats n))) (entries (untimed made)) in
          let Room : ℕ → Type 0 = λ n. FullFrom p.limits (beginning_at (slice_get p.seats n)) (untimed made) p.last call moment → ⊥ in
          let Stamp : ℕ → Type 0 = λ n. receipt.stamp ≡ next_stamp (beginning_at (slice_get p.seats n)) p.last (untimed made) in
          let stamp : Stamp k = calls.stamp ∙ ap (λ (b : Begin). next_stamp b p.last (untimed made)) (sym begin) in
          record {
            found = untimed made;
            later = [];
            seen = subst Seen home seen;
            own = ap (map (λ (one : Own). one.entry)) own_call ∙ map-append (λ (one : Own). one.entry) (own_of p) _;
            told = ap told_own own_call ∙ told_own-push (own_of p) _;
            last = subst Last home (now ∙ ap (λ (es : List Entry). es ++ entry ∷ []) (sym found));
            shard = shard_same ∙ home;
            place = calls.place ∙ sym (ap (λ (es : List Entry). length es) found ∙ steps-long made);
            begins = subst Begins home (steps_of calls.between, found ∙ (steps-append v.seen calls.between ∙ ap (λ (es : List Entry). es ++ steps_of calls.between) (sym old)));
            stamp = subst Stamp home stamp;
            room = subst Room home room;
            back = calls.back;
          }

      -- the history that the call found
      pub makes_found : makes.found ≡ untimed made
      unfolding makes
      makes_found = refl

    module _ (refusal : CallFault) (looks : Looks v call p.last moment refusal w) where
      abbrev glance : Glances v w
      glance = looks.glances

      pub own_looked : own_of q ≡ own_of p
      own_looked = own_glanced last seen_all last_is glance

      pub pass_looked : IsPass q
      pass_looked = pass_glanced last seen_all last_is glance

      pub frames_looked : Frames (sight_of p) (sight_of q) call.name
      frames_looked = let P : ℕ → Type 0 = λ n. FramesAt (sight_of p) (sight_of q) n in subst P home (frames_glanced last seen_all last_is glance)

      pub same_looked : IsSamePass p q
      same_looked = same_glanced last seen_all last_is glance

      pub refuses : Refuses (sight_of p) (sight_of q) call moment refusal
      refuses =
          let now : seen_at (slice_get (set p.seats k w) k) ≡ untimed w.seen = ap seen_at (get_set p.seats k w here) in
          let seat = seat_is in
          let base : glance.base ≡ seat.base = some_same glance.base seat.base v.base glance.based seat.based in
          let begin : beginning_at (slice_get p.seats k) ≡ glance.base.begin = ap beginning_at was ∙ ap begin_seen glance.based in
          let limits : p.limits ≡ glance.base.limits = sym (ap (λ (b : Book F). b.limits) base ∙ seat.is_base.limits_is) in
          let P : Begin × (Limits × List Item) → Type 0 = λ z. IsFullCall refusal → FullFrom z.1.0 z.0 z.1.1 p.last call moment in
          let terms : (glance.base.begin, (glance.base.limits, untimed w.seen)) ≡ (beginning_at (slice_get p.seats k), (p.limits, seen_at (slice_get (set p.seats k w) k))) = λ i. (sym begin i, (sym limits i, sym now i)) in
          let Full : ℕ → Type 0 = λ n. IsFullCall refusal → FullFrom p.limits (beginning_at (slice_get p.seats n)) (seen_at (slice_get (set p.seats k w) n)) p.last call moment in
          let Begins : ℕ → Type 0 = λ n. Extends (entries (seen_at (slice_get p.seats n))) (entries (seen_at (slice_get (set p.seats k w) n))) in
          record {
            own = ap (map (λ (one : Own). one.entry)) own_looked;
            told = ap told_own own_looked;
            begins = subst Begins home (begins_glanced last seen_all last_is glance);
            full = subst Full home (subst P terms looks.full);
            handed = looks.handed;
            light = looks.light;
          }

    -- what the store has noted, as the pass has seen it
    pub noted_then : (notes : Notes) → AreSeenAt notes w → AreNotesOf (sight_of q) (shard_of call.name) notes
    noted_then notes are =
        let P : ℕ → Type 0 = λ n. AreNotesOf (sight_of q) n notes in
        subst P home (record {
          begin = are.begin ∙ sym (ap beginning_at (get_set p.seats k w here));
          made = ap untimed are.made ∙ sym (ap seen_at (get_set p.seats k w here));
        })

    -- whatever was answered
    module _ (answer : Result Receipt CallFault) (called : IfOk answer (λ receipt. Calls v call p.number p.last moment receipt w)) (looked : IfErr answer (λ refusal. Looks v call p.last moment refusal w)) where
      pub pass_then : IsPass q
      pass_then = either_case answer _ _ _ pass_called pass_looked called looked

      pub frames_then : Frames (sight_of p) (sight_of q) call.name
      frames_then = either_case answer _ _ _ frames_called frames_looked called looked

      pub same_then : IsSamePass p q
      same_then = either_case answer _ _ _ same_called same_looked called looked

      pub seen_all_then : HasSeen q
      seen_all_then = has_seen q pass_then

      pub makes_then : IfOk answer (Makes (sight_of p) (sight_of q) call moment)
      makes_then = ifok_map answer _ _ makes called

      pub refuses_then : IfErr answer (Refuses (sight_of p) (sight_of q) call moment)
      refuses_then = err_map answer _ _ refuses looked

      pub own_then : IfOk answer (λ receipt. own_of q ≡ own_of p ++ record { shard = receipt.shard; place = receipt.place; entry = entry_of p.number call moment receipt; told = receipt.told } ∷ [])
      own_then = ifok_map answer _ _ own_call called

      pub own_stays_then : OnErr answer (own_of q ≡ own_of p)
      own_stays_then = on_err answer _ _ own_looked looked

-- the seat of the call's shard has its turn there
pub based_call : {F : Type 0} (p : PassView F) (k : ℕ) (v : Place F) (name : List ℕ) → IsSeat p.number p.weight p.opened p.first p.limits k v → k ≡ shard_of name → Prelude.IsSomeAnd v.base (λ base. base.only ≡ Some (shard_of name))
based_call p k v name seat home =
    let P : Option (Book _) → Type 0 = λ o. Prelude.IsSomeAnd o (λ base. base.only ≡ Some (shard_of name)) in
    subst P (sym seat.based) (seat.is_base.only ∙ ap Some home)
