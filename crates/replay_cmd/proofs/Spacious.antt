-- A shard with space isn't full, so that no answer is 500.
use Rattle.std.proofs.Common.{◌≡◌, ◌≢◌, ◌≤◌, ◌<◌, ◌+◌, ◌-◌, ◌*◌, ◌^◌, ℕ, List, [], ◌∷◌, ◌++◌, length, map, replicate, sum_by, max, Some, refl, sym, ap, ◌∙◌, subst, inl, inr, arith}
use Rattle.std.specs.List.{AllByRecursion}
use Rattle.std.proofs.lemmas.List.{append-nil, map-append, length-append, length-map}
use Rattle.std.proofs.lemmas.List.Sums.{sum_by_push}
use Rattle.wopi_model.specs.declared.calls.Act.{Act}
use Rattle.wopi_model.specs.declared.calls.Act.TheVariants as act
use Rattle.wopi_model.specs.declared.calls.Call.{Call}
use Rattle.wopi_model.specs.Begin.{Begin, new_life}
use Rattle.wopi_model.specs.Host.{FullAt, FullFrom, Limits, kept_limits, new_bytes, most_kept}
use Rattle.wopi_model.specs.Shard.{Opening, Entry, LegalFrom, entries, stamps, last_from}
use Rattle.wopi_model.proofs.Fullness.{full_of_kept}
use Rattle.wopi_headers.specs.declared.answer.Answer.{Answer}
use Rattle.wopi_headers.specs.declared.ask.Ask.{Ask}
use Rattle.wopi_headers.specs.declared.ask.Op.{Op}
use Rattle.wopi_headers.specs.declared.ask.Op.TheVariants as op
use Rattle.wopi_headers.specs.declared.ask.Target.{Target}
use Rattle.wopi_headers.specs.declared.ask.Target.TheVariants.{Suggested, Relative}
use Rattle.wopi_acts.specs.Acts.{act_of}
use Rattle.wopi_world.specs.Journals.{AreCounted}
use Rattle.wopi_world.specs.History.{last_run}
use Rattle.wopi_world.specs.World.{World}
use Rattle.save_session.specs.declared.state.SessionOp.{SessionOp}
use Rattle.save_session.specs.declared.state.SessionOp.TheVariants as session_op
use Rattle.save_session.specs.Session.{op_of}
use Rattle.host_core.specs.Caller.{Sight}
use Rattle.host_core.specs.Entries.{Made, items_of}
use Rattle.host_core.specs.Single.{sight_of, SeesItsOwn}
use Rattle.host_core.specs.Value.{Book}
use Rattle.host_server.specs.declared.desk.Desk.{Desk}
use Rattle.host_server.specs.declared.copying.Copying.{Copying}
use Rattle.host_server.specs.Answering.{Ruled, unauthorized, ruled, ruled_for, full, copied, call_of, copying_of}
use Rattle.host_server.specs.Copies.{Copied, Tried, look, create, tries}
use Rattle.host_server.specs.Copies as copies
use Rattle.host_server.specs.Deeds.{Deed, Made as DeedMade, Blocked, made, IsFull, IsBetween, FindsRoom, AreMet}
use Rattle.replay_cmd.specs.Begun.{IsNew, opening_in}
use Rattle.replay_cmd.specs.declared.history.Item.{Item}
use Rattle.replay_cmd.specs.declared.history.Item.TheVariants as item
use Rattle.replay_cmd.specs.Exchanges.{Exchanges, IsStored}
use Rattle.replay_cmd.specs.Histories.{Asked}
use Rattle.replay_cmd.specs.Hosts.{IsSetUp, StandsFor}
use Rattle.replay_cmd.specs.Limits.{kept_by, kept_in, HasSpace}
use Rattle.schedule_text.specs.Schedules.{most_contents, most_lines}
use Rattle.replay_cmd.proofs.AskLemmas.{entries_made}
use Rattle.replay_cmd.proofs.Calling.{told_status}
use Rattle.replay_cmd.proofs.Faults.{last_stored, made_all}
use Rattle.replay_cmd.proofs.ReplyLemmas.{told_file}
use Rattle.replay_cmd.proofs.Within.{kept_most, last_pushed}

-- the host was asked, and the answer isn't 500
pub record AskedWell {F : Type 0} (desk : Desk) (ask : Ask) (body : List ℕ) (moment : ℕ) (old new : Book F) (history history' : List Item) (a : Answer) : Type 0 where
  pub exchanges : Exchanges desk ask body moment old new a
  pub fine : a.status ≢ 500
  pub noted : history' ≡ history ++ replicate (length new.made - length old.made) item.Entry

-- a caller that sees all of its shard finds it full only at a limit
no_block : (old new before after : Sight) (call : Call) (moment capacity : ℕ) → IsBetween SeesItsOwn old new [] before after → IsFull call moment before after
    → LegalFrom (before.begins (before.home call.name)) (after.seen (before.home call.name)) → old.limits ≡ kept_limits capacity → IsNew (old.begins 0)
    → length old.own < capacity → last_from 0 (stamps old.own) < 2 ^ 64 - 1
    → (sum_by (λ file. length file.1) (opening_in (old.begins 0)) + sum_by kept_by old.own) + new_bytes call.act ≤ most_kept → ⊥
no_block old new before after call moment capacity between is_full legal limits new_life_is few last small = by_cause full
  where
    home : before.home call.name ≡ 0
    home = between.always_before.home call.name

    seen : entries (after.seen 0) ≡ old.own
    seen = between.always_after.own ∙ between.own_after ∙ append-nil old.own

    opening : Opening
    opening = opening_in (old.begins 0)

    life : Begin
    life = new_life opening (old.begins 0).opened (old.begins 0).first

    begins : before.begins 0 ≡ life
    begins = between.first.begins 0 ∙ new_life_is

    legal_from : LegalFrom life (after.seen 0)
    legal_from = subst (λ (b : Begin). LegalFrom b (after.seen 0)) begins (subst (λ (n : ℕ). LegalFrom (before.begins n) (after.seen n)) home legal)

    count : length (entries (after.seen 0)) ≡ length old.own
    count = ap (λ (l : List Entry). length l) seen

    at : FullFrom (kept_limits capacity) life (after.seen 0) before.floor call moment
    at = subst (λ (l : Limits). FullFrom l life (after.seen 0) before.floor call moment) (between.first.limits ∙ limits)
        (subst (λ (b : Begin). FullFrom before.limits b (after.seen 0) before.floor call moment) begins
        (subst (λ (n : ℕ). FullFrom before.limits (before.begins n) (after.seen n) before.floor call moment) home is_full))

    full : FullAt opening (old.begins 0).opened (old.begins 0).first capacity (after.seen 0) before.floor call moment
    full = (full_of_kept opening (old.begins 0).opened (old.begins 0).first capacity (after.seen 0) before.floor call moment legal_from (omega (arith, count, few))).0 at

    by_cause : FullAt opening (old.begins 0).opened (old.begins 0).first capacity (after.seen 0) before.floor call moment → ⊥
    by_cause (inl place) =
        let whole : length (entries (after.seen 0)) ≡ capacity = place in
        omega (arith, count, whole, few)
    by_cause (inr (inl stamp)) =
        let floor : before.floor ≡ 0 = between.always_before.floor in
        let same : last_from 0 (stamps (entries (after.seen 0))) ≡ last_from 0 (stamps old.own) = ap (λ (l : List Entry). last_from 0 (stamps l)) seen in
        let greatest : max before.floor (last_from 0 (stamps (entries (after.seen 0)))) ≡ 2 ^ 64 - 1 = stamp in
        omega (arith, floor, same, greatest, last)
    by_cause (inr (inr room)) =
        let same : sum_by kept_by (entries (after.seen 0)) ≡ sum_by kept_by old.own = ap (λ (l : List Entry). sum_by kept_by l) seen in
        let much : most_kept < (sum_by (λ (file : List ℕ × List ℕ). length file.1) opening + sum_by kept_by (entries (after.seen 0))) + new_bytes call.act = room.2 in
        omega (arith, same, much, small)

-- the deeds behind one that made an entry
later_met : (always : Sight → Type 0) (old new : Sight) (entry : Entry) (deeds : List Deed) → (met : AreMet always old new (DeedMade entry ∷ deeds))
    → AreMet always met.0.after new deeds
later_met always old new entry deeds met = met.1

-- the act of an operation brings no more than its body
most_bytes : (o : Op) (body : List ℕ) (asked : Act) → act_of o body ≡ Some asked → new_bytes asked ≤ length body
most_bytes o body asked e = by_op o e
  where
    as_long : (first : Act) → Some first ≡ Some asked → new_bytes first ≤ length body → new_bytes asked ≤ length body
    as_long first e h = let same : first ≡ asked = cc in subst (λ (x : Act). new_bytes x ≤ length body) same h

    by_op : (o : Op) → act_of o body ≡ Some asked → new_bytes asked ≤ length body
    by_op op.Info e = as_long act.Info e (omega arith)
    by_op (op.Get most) e = as_long (act.Get most) e (omega arith)
    by_op (op.Put lock) e = as_long (act.Put lock body) e (omega arith)
    by_op (op.Lock id) e = as_long (act.Lock id) e (omega arith)
    by_op op.GetLock e = as_long act.GetLock e (omega arith)
    by_op (op.Refresh id) e = as_long (act.Refresh id) e (omega arith)
    by_op (op.Unlock id) e = as_long (act.Unlock id) e (omega arith)
    by_op (op.Relock old id) e = as_long (act.Relock old id) e (omega arith)
    by_op (op.PutRelative target) e = cc
    by_op op.Delete e = as_long act.Delete e (omega arith)

module _ {F : Type 0} (desk : Desk) (book book' : Book F) (world : World) (set : IsSetUp desk book) (stands : StandsFor book world) (space : HasSpace world) where
  abbrev own : List Entry
  own = entries (items_of book.made)

  abbrev opening_bytes : ℕ
  opening_bytes = sum_by (λ (file : List ℕ × List ℕ). length file.1) (opening_in book.begin)

  few : length own < 32000
  few =
      let count = space.fewer in
      let held : length (entries (last_run world.history)) ≤ 2 * space.count = space.within.held.few in
      let same : length (entries (last_run world.history)) ≡ length own = ap (λ (l : List Entry). length l) stands.entries in
      omega (arith, count, held, same)

  last : last_from 0 (stamps own) < 32000
  last =
      let count = space.fewer in
      let held : last_from 0 (stamps (entries (last_run world.history))) ≤ 2 * space.count = space.within.held.last in
      let same : last_from 0 (stamps (entries (last_run world.history))) ≡ last_from 0 (stamps own) = ap (λ (l : List Entry). last_from 0 (stamps l)) stands.entries in
      omega (arith, count, held, same)

  small : (bytes : ℕ) → bytes ≤ most_contents → (opening_bytes + sum_by kept_by own) + bytes ≤ most_kept
  small bytes short =
      let count = space.fewer in
      let held : kept_in world.history ≤ most_contents * space.count = space.within.held.small in
      let all : opening_bytes + sum_by kept_by own ≤ most_contents * most_lines + kept_in world.history = stands.small in
      omega (arith, count, held, all, short)

  -- the first call
  first_room : (call : Call) (moment : ℕ) (before after : Sight) (deeds : List Deed) → AreMet SeesItsOwn (sight_of book) (sight_of book') deeds
      → deeds ≡ Blocked call moment before after ∷ [] → IsFull call moment before after → new_bytes call.act ≤ most_contents → ⊥
  first_room call moment before after deeds met is is_full short =
      let found : AreMet SeesItsOwn (sight_of book) (sight_of book') (Blocked call moment before after ∷ []) = subst (AreMet SeesItsOwn (sight_of book) (sight_of book')) is met in
      let room : length own < 32768 = let known = few in omega (arith, known) in
      let low : last_from 0 (stamps own) < 2 ^ 64 - 1 = let known = last in omega (arith, known) in
      no_block (sight_of book) (sight_of book') before after call moment 32768 found.0.between is_full found.0.legal set.limits stands.new room low (small (new_bytes call.act) short)

  -- the one after an entry that keeps nothing
  second_room : (looked : Entry) (call : Call) (moment : ℕ) (before after : Sight) (deeds : List Deed) → AreMet SeesItsOwn (sight_of book) (sight_of book') deeds
      → deeds ≡ DeedMade looked ∷ Blocked call moment before after ∷ [] → IsFull call moment before after → looked.stamp ≤ 32000 → new_bytes looked.call.act ≤ 0
      → new_bytes call.act ≤ most_contents → ⊥
  second_room looked call moment before after deeds met is is_full stamped none short =
      let found : AreMet SeesItsOwn (sight_of book) (sight_of book') (DeedMade looked ∷ Blocked call moment before after ∷ []) =
      subst (AreMet SeesItsOwn (sight_of book) (sight_of book')) is met in
      let finds : FindsRoom SeesItsOwn (sight_of book) (sight_of book') looked = found.0 in
      let middle : Sight = finds.after in
      let grew : middle.own ≡ own ++ looked ∷ [] = finds.between.own_after in
      let limits : middle.limits ≡ kept_limits 32768 = finds.between.second.limits ∙ finds.between.first.limits ∙ set.limits in
      let begins : middle.begins 0 ≡ book.begin = finds.between.second.begins 0 ∙ finds.between.first.begins 0 in
      let anew : IsNew (middle.begins 0) = subst IsNew (sym begins) stands.new in
      let long : length middle.own ≡ length own + 1 = ap (λ (l : List Entry). length l) grew ∙ length-append own (looked ∷ []) in
      let top : last_from 0 (stamps middle.own) ≡ looked.stamp =
      ap (λ (l : List Entry). last_from 0 (stamps l)) grew ∙ ap (last_from 0) (map-append (λ (e : Entry). e.stamp) own (looked ∷ []))
      ∙ last_pushed 0 (stamps own) looked.stamp in
      let bytes : sum_by (λ (file : List ℕ × List ℕ). length file.1) (opening_in (middle.begins 0)) ≡ opening_bytes =
      ap (λ (b : Begin). sum_by (λ (file : List ℕ × List ℕ). length file.1) (opening_in b)) begins in
      let sum : sum_by kept_by middle.own ≡ sum_by kept_by own + kept_by looked = ap (λ (l : List Entry). sum_by kept_by l) grew ∙ sum_by_push kept_by own looked in
      let least : kept_by looked ≤ new_bytes looked.call.act = kept_most looked in
      let all = small (new_bytes call.act) short in
      let room : length middle.own < 32768 = let known = few in omega (arith, known, long) in
      let low : last_from 0 (stamps middle.own) < 2 ^ 64 - 1 = omega (arith, top, stamped) in
      let blocked = (later_met SeesItsOwn (sight_of book) (sight_of book') looked (Blocked call moment before after ∷ []) found).0 in
      no_block middle (sight_of book') before after call moment 32768 blocked.between is_full blocked.legal limits anew room low (omega (arith, bytes, sum, least, none, all))

  module _ (a : Answer) (fault : a.status ≡ 500) where
    not_tried : (copying : Copying) (looked : Entry) (deeds others : List Deed) → AreMet SeesItsOwn (sight_of book) (sight_of book') deeds → deeds ≡ DeedMade looked ∷ others
        → looked.call ≡ look copying → looked.stamp ≤ 32000 → tries copying.target ≡ 1 → length copying.contents ≤ most_contents
        → AllByRecursion IsStored (made others) → Tried desk copying others a → ⊥
    not_tried copying looked deeds others met is looks stamped once short stored (copies.misnamed bad none told) =
        let status : a.status ≡ 400 = ap (λ (x : Answer). x.status) told in omega (arith, status, fault)
    not_tried copying looked deeds others met is looks stamped once short stored (copies.decided taken final good all is_last decides others_are told) =
        let each : AllByRecursion IsStored (taken ++ final ∷ []) = subst (AllByRecursion IsStored) (ap made others_are ∙ made_all (taken ++ final ∷ [])) stored in
        let status : a.status ≡ final.ruling.status =
        ap (λ (x : Answer). x.status) told ∙ (told_file desk final.call.name final.call.token final.moment final.ruling).0 in
        last_stored taken final each (sym status ∙ fault)
    not_tried copying looked deeds others met is looks stamped once short stored (copies.Tried.full taken before after good all fewer is_full others_are told) =
        let count : length taken < tries copying.target = fewer in
        let none : taken ≡ [] = no_entries taken (omega (arith, count, once)) in
        let only : others ≡ Blocked (create copying (length taken)) copying.moment before after ∷ [] =
        others_are ∙ ap (λ (l : List Entry). map DeedMade l ++ Blocked (create copying (length taken)) copying.moment before after ∷ []) none in
        let nothing : new_bytes looked.call.act ≡ 0 = ap (λ (c : Call). new_bytes c.act) looks in
        second_room looked (create copying (length taken)) copying.moment before after deeds met (is ∙ ap (λ (l : List Deed). DeedMade looked ∷ l) only) is_full
        stamped (omega (arith, nothing)) short
      where
        no_entries : (taken : List Entry) → length taken ≤ 0 → taken ≡ []
        no_entries [] h = refl
        no_entries (entry ∷ taken) h = absurd (omega (arith, h))

    not_copied : (copying : Copying) (deeds : List Deed) (more : List Made) → AreMet SeesItsOwn (sight_of book) (sight_of book') deeds
        → map (λ one. one.step) more ≡ made deeds → AreCounted (length book.made) (map (λ one. one.step) more)
        → tries copying.target ≡ 1 → length copying.contents ≤ most_contents → AllByRecursion IsStored (made deeds) → Copied desk copying deeds a → ⊥
    not_copied copying deeds more met steps counted once short stored (copies.refused looked is_of not_ok deeds_are told) =
        let one : AllByRecursion IsStored (looked ∷ []) = subst (AllByRecursion IsStored) (ap made deeds_are) stored in
        let status : a.status ≡ looked.ruling.status = ap (λ (x : Answer). x.status) told in
        one.0 (sym status ∙ fault)
    not_copied copying deeds more met steps counted once short stored (copies.Copied.full before after is_full deeds_are told) =
        first_room (look copying) copying.moment before after deeds met deeds_are is_full (omega arith)
    not_copied copying deeds more met steps counted once short stored (copies.allowed looked others is_of ok tried deeds_are) =
        let all : AllByRecursion IsStored (looked ∷ made others) = subst (AllByRecursion IsStored) (ap made deeds_are) stored in
        let numbered : AreCounted (length book.made) (looked ∷ made others) = subst (AreCounted (length book.made)) (steps ∙ ap made deeds_are) counted in
        let stamp : looked.stamp ≡ length book.made + 1 = numbered.0 in
        let count : length own ≡ length book.made = ap (λ (l : List Entry). length l) (entries_made book.made) ∙ length-map book.made (λ (m : Made). m.step) in
        let known = few in
        not_tried copying looked deeds others met deeds_are is_of.0 (omega (arith, stamp, count, known)) once short all.1 tried

    no_fault : (ask : Ask) (body : List ℕ) (moment : ℕ) → Exchanges desk ask body moment book book' a
        → ((text : List ℕ) → ask.op ≡ op.PutRelative (Suggested text) → ⊥) → length body ≤ most_contents → ⊥
    no_fault ask body moment h named short = by_ruling h.ruled
      where
        once : (target : Target) → ask.op ≡ op.PutRelative target → tries target ≡ 1
        once (Relative name overwrite) e = refl
        once (Suggested text) e = absurd (named text e)

        by_ruling : Ruled desk ask body moment h.deeds a → ⊥
        by_ruling (unauthorized none deeds told) = let status : a.status ≡ 401 = ap (λ (x : Answer). x.status) told in omega (arith, status, fault)
        by_ruling (ruled_for token asked one editors reads acts is_for deeds_are told) = absurd (cc editors)
        by_ruling (ruled token asked entry plain reads acts is_of deeds_are told) =
            let one : AllByRecursion IsStored (entry ∷ []) = subst (AllByRecursion IsStored) (ap made deeds_are) h.stored in
            let status : a.status ≡ entry.ruling.status = ap (λ (x : Answer). x.status) told ∙ told_status entry.call entry.ruling in
            one.0 (sym status ∙ fault)
        by_ruling (full token asked before after reads acts is_full deeds_are told) =
            first_room (call_of ask token asked) moment before after h.deeds h.does.met deeds_are is_full (let bytes : new_bytes asked ≤ length body = most_bytes ask.op body asked acts in omega (arith, bytes, short))
        by_ruling (copied token target reads is_copy copied_it) =
            not_copied (copying_of ask token target body moment) h.deeds h.more h.does.met h.steps h.grown.counted (once target is_copy) short h.stored copied_it

-- a session suggests no name
pub no_suggestion : (nonce : List ℕ) (asked : SessionOp) (text : List ℕ) → op_of nonce asked ≡ op.PutRelative (Suggested text) → ⊥
no_suggestion nonce session_op.Info text e = cc
no_suggestion nonce session_op.TakeLock text e = cc
no_suggestion nonce session_op.Get text e = cc
no_suggestion nonce (session_op.Put number) text e = cc
no_suggestion nonce (session_op.Relock number) text e = cc
no_suggestion nonce (session_op.Refresh number) text e = cc
no_suggestion nonce (session_op.Unlock number) text e = cc

-- what the host was asked isn't answered 500
pub asked_well : {F : Type 0} (desk : Desk) (ask : Ask) (body : List ℕ) (moment : ℕ) (old new : Book F) (history history' : List Item) (a : Answer) (world : World)
    → Asked desk ask body moment old new history history' a → IsSetUp desk old → StandsFor old world → HasSpace world
    → ((text : List ℕ) → ask.op ≡ op.PutRelative (Suggested text) → ⊥) → length body ≤ most_contents → AskedWell desk ask body moment old new history history' a
asked_well desk ask body moment old new history history' a world asked set stands space named short =
    record {
      exchanges = asked.exchanges;
      fine = λ fault. no_fault desk old new world set stands space a fault ask body moment asked.exchanges named short;
      noted = asked.noted;
    }
