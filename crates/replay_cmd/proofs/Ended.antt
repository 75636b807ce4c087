-- What is read off a running world at its end is what the world's texts say.
use Rattle.std.proofs.Common.{◌≡◌, ◌==◌, ℕ, zero, suc, ◌+◌, ◌≤◌, Bool, true, false, cond, List, [], ◌∷◌, ◌++◌, length, map, filter, take, Some, codes, refl, sym, ap, ◌∙◌, subst, arith}
use Rattle.std.specs.Prelude.{sum_by}
use Rattle.std.specs.List.{Contains, slice_get, flat_map}
use Rattle.std.proofs.lemmas.List.{length-map, flat_map_more}
use Rattle.std.proofs.lemmas.Option.{get_or_from_slice_get, slice_get_within}
use Rattle.std.proofs.Math.Seq.{take-length}
use Rattle.std.proofs.lemmas.List.Sums.{sum_by-cons, sum_by-append}
use Rattle.wopi_model.specs.Shard as shard
use Rattle.wopi_model.specs.Shard.{Shard, AreNames, at_moment, begun, opened_shard}
use Rattle.wopi_headers.specs.declared.answer.Answer.{Answer}
use Rattle.wopi_world.specs.History as past
use Rattle.wopi_world.specs.Requests.{Client}
use Rattle.wopi_world.specs.World as in_world
use Rattle.wopi_world.specs.World.{World, Setting}
use Rattle.host_core.specs.Entries.{history_of}
use Rattle.host_core.specs.Value.{Book, state_of}
use Rattle.host_server.specs.declared.desk.Desk.{Desk}
use Rattle.replay_cmd.specs.declared.history.Item.{Item}
use Rattle.replay_cmd.specs.declared.replies.Reply.{Reply}
use Rattle.replay_cmd.specs.declared.member.Request.{Request}
use Rattle.replay_cmd.specs.declared.member.Told.{Told}
use Rattle.replay_cmd.specs.declared.member.Member.{Member}
use Rattle.schedule_text.specs.declared.schedule.SessionLine.{SessionLine}
use Rattle.replay_cmd.specs.declared.world.World.{World as KeptWorld}
use Rattle.schedule_text.specs.Schedules.{Lines}
use Rattle.replay_cmd.specs.Runs.{clients_from, setting_of, world_of}
use Rattle.replay_cmd.specs.Hosts.{StandsFor}
use Rattle.replay_cmd.specs.Replying.{file_in}
use Rattle.replay_cmd.specs.Answers.{AreReplies}
use Rattle.replay_cmd.specs.Members.{told_kept, ShowsSessions, request_kept}
use Rattle.replay_cmd.specs.Stages.{Shows}
use Rattle.replay_cmd.specs.Words.{line_text, file_shown}
use Rattle.replay_cmd.specs.Trace.{ends_text, is_saved, saved_by, counts_text, trace_text, summary_text}
use Rattle.replay_cmd.specs.Worlds.{IsRunOf, IsTextOf}
use Rattle.replay_cmd.specs.Ends.{ends_in, TellsEnds, count_text, conflicts_in, saved_by_one, counts_in}
use Rattle.replay_cmd.proofs.ReplyLemmas.{AreReplies-length, answer_status}
use Rattle.replay_cmd.proofs.Delivered.{get_within}
use Rattle.access_tokens.specs.declared.keys.Keys.{Keys}

-- the names and the files are those of the world
pub ends_shown : {F : Type 0} (book : Book F) (world : World) → StandsFor book world → (old new : List ℕ) → TellsEnds book old new
    → (names : List (List ℕ)) × AreNames world.shard names × (new ≡ old ++ ends_text names world)
ends_shown book world stands old new told =
    let names : List (List ℕ) = told.0 in
    let state : Shard = state_of book.begin book.made book.time in
    let at_time : AreNames (at_moment world.shard book.time) names = subst (λ (s : Shard). AreNames s names) (sym stands.shard) told.1 in
    let same : state ≡ at_moment world.shard world.shard.now = sym stands.shard ∙ ap (at_moment world.shard) (sym stands.time) in (
      names,
      record { ordered = at_time.ordered; exact = λ name. at_time.exact name },
      told.2 ∙ ap (λ (s : Shard). old ++ flat_map (λ name. line_text (file_shown name (s.files name))) names) same,
    )

-- a name that stands at a place is among them
pub found : (names : List (List ℕ)) (k : ℕ) (name : List ℕ) → Some name ≡ slice_get names k → Contains names name
found names k name at = (k, slice_get_within names k name (sym at), get_or_from_slice_get names k name name (sym at))

-- the names were met
pub met_names : {F : Type 0} (book : Book F) (names : List (List ℕ)) → AreNames (state_of book.begin book.made book.time) names
    → (name : List ℕ) → Contains names name → book.begin.first ≤ (file_in book name).version
met_names book names are name there =
    let met = (are.exact name).0 there in
    subst (λ (n : ℕ). n ≤ (file_in book name).version) (after_first (begun book.begin) (history_of book.made book.time)) met
  where
    after_first : (begun : Shard) (items : List shard.Item) → (shard.after begun items).first ≡ begun.first
    after_first begun [] = refl
    after_first begun (shard.Tick moment ∷ items) = after_first (at_moment begun moment) items
    after_first begun (shard.Step entry ∷ items) = after_first (shard.after_entry (at_moment begun entry.moment) entry) items

length_either : {A B : Type 0} (test test' : Bool) (x : A) (xs : List A) (y : B) (ys : List B) → test ≡ test' → length xs ≡ length ys
    → length (cond test (x ∷ xs) xs) ≡ length (cond test' (y ∷ ys) ys)
length_either true true x xs y ys e h = ap suc h
length_either false false x xs y ys e h = h
length_either true false x xs y ys e h = cc
length_either false true x xs y ys e h = cc

-- as many conflicts
same_conflicts : (desk : Desk) (history : List past.Item) (requests : List in_world.Request) (kept : List Reply) (replies : List in_world.Reply) → AreReplies desk history requests kept replies
    → conflicts_in kept ≡ length (filter (λ reply. reply.ruling.status == 409) replies)
same_conflicts desk history requests [] [] h = refl
same_conflicts desk history requests [] (r ∷ replies) h = absurd h
same_conflicts desk history requests (k ∷ kept) [] h = absurd h
same_conflicts desk history requests (k ∷ kept) (r ∷ replies) h =
    let status : k.answer.status ≡ r.ruling.status = ap (λ (a : Answer). a.status) h.0.answer ∙ answer_status desk h.0.entry r.ruling in
    length_either (k.answer.status == 409) (r.ruling.status == 409) k (filter (λ reply. reply.answer.status == 409) kept) r (filter (λ reply. reply.ruling.status == 409) replies)
    (ap (λ (n : ℕ). n == 409) status) (same_conflicts desk history requests kept replies h.1)

-- as many Saved
same_saved : (told : List in_world.Told) → length (filter (λ one. is_saved one.outcome) (map told_kept told)) ≡ length (filter (λ one. is_saved one.outcome) told)
same_saved [] = refl
same_saved (one ∷ told) =
    length_either (is_saved one.outcome) (is_saved one.outcome) (told_kept one) (filter (λ one. is_saved one.outcome) (map told_kept told)) one (filter (λ one. is_saved one.outcome) told)
    refl (same_saved told)

pub take_next : {T : Type 0} (xs : List T) (n : ℕ) (x : T) → slice_get xs n ≡ Some x → take (suc n) xs ≡ take n xs ++ x ∷ []
take_next [] n x e = cc
take_next (y ∷ xs) zero x e = let same : y ≡ x = cc in ap (λ z. z ∷ []) same
take_next (y ∷ xs) (suc n) x e = ap (λ l. y ∷ l) (take_next xs n x e)

-- a file more
pub ends_more : {F : Type 0} (book : Book F) (names : List (List ℕ)) (k : ℕ) (name : List ℕ) (old text text' : List ℕ) → Some name ≡ slice_get names k
    → text ≡ old ++ ends_in book (take k names) → text' ≡ text ++ line_text (file_shown name (file_in book name)) → text' ≡ old ++ ends_in book (take (k + 1) names)
ends_more book names k name old text text' at so_far grew =
    let next : k + 1 ≡ suc k = omega arith in
    let shown : List ℕ → List ℕ = λ one. line_text (file_shown one (file_in book one)) in
    grew
    ∙ ap (λ (t : List ℕ). t ++ shown name) so_far
    ∙ flat_map_more shown old (take k names) name
    ∙ ap (λ (l : List (List ℕ)). old ++ ends_in book l) (sym (take_next names k name (sym at)))
    ∙ ap (λ (n : ℕ). old ++ ends_in book (take n names)) (sym next)

saved_upto : (keys : Keys) (clients : List Client) (members : List Member) (requests : List Request) (world : World) → ShowsSessions keys clients members requests world
    → (n : ℕ) → n ≤ length clients → saved_by world n ≡ sum_by saved_by_one (take n members)
saved_upto keys clients members requests world shows zero few = refl
saved_upto keys clients members requests world shows (suc n) few =
    let client = get_within clients n (omega (arith, few)) in
    let place = shows.each n client.0 client.1 in
    let one : Member = place.0 in
    let own : saved_by_one one ≡ length (filter (λ told. is_saved told.outcome) (world.members n).told) =
    ap (λ (l : List Told). length (filter (λ told. is_saved told.outcome) l)) place.2.told ∙ same_saved (world.members n).told in
    let single : sum_by saved_by_one (one ∷ []) ≡ saved_by_one one = let e = sum_by-cons saved_by_one one [] in e ∙ omega arith in
    let rest = saved_upto keys clients members requests world shows n (omega (arith, few)) in
    ap (λ (m : ℕ). m + length (filter (λ told. is_saved told.outcome) (world.members n).told)) rest
    ∙ ap (λ (m : ℕ). sum_by saved_by_one (take n members) + m) (sym own ∙ sym single)
    ∙ sym (sum_by-append saved_by_one (take n members) (one ∷ []))
    ∙ ap (sum_by saved_by_one) (sym (take_next members n one place.1))

clients_length : (sessions : List SessionLine) (number : ℕ) → length (clients_from number sessions) ≡ length sessions
clients_length [] number = refl
clients_length (session ∷ sessions) number = ap suc (clients_length sessions (number + 1))

-- the counts are those of the world
pub counts_shown : {F : Type 0} (setting : Setting) (desk : Desk) (book : Book F) (history : List Item) (requests : List Request) (replies : List Reply) (members : List Member) (world : World)
    → Shows setting desk book history requests replies members world → (sessions : List SessionLine) → setting.clients ≡ clients_from 1 sessions
    → counts_in requests replies members ≡ counts_text world (length sessions)
counts_shown setting desk book history requests replies members world shows sessions clients_are =
    let sent : length requests ≡ length world.requests = ap length shows.sessions.sent ∙ length-map world.requests (request_kept setting.clients) in
    let made : length replies ≡ length world.replies = AreReplies-length desk world.history world.requests replies world.replies shows.answers in
    let conflicts = same_conflicts desk world.history world.requests replies world.replies shows.answers in
    let clients : length setting.clients ≡ length sessions = ap length clients_are ∙ clients_length sessions 1 in
    let count : length members ≡ length sessions = shows.sessions.count ∙ clients in
    let saved : sum_by saved_by_one members ≡ saved_by world (length sessions) =
    ap (sum_by saved_by_one) (sym (take-length members)) ∙ ap (λ (n : ℕ). sum_by saved_by_one (take n members)) count
    ∙ sym (saved_upto desk.keys setting.clients members requests world shows.sessions (length sessions) (omega (arith, clients))) in
    let text : ℕ → ℕ → ℕ → ℕ → List ℕ = λ a b c d.
    count_text (codes "requests") a ++ count_text (codes "replies") b ++ count_text (codes "conflicts") c ++ count_text (codes "saved") d in
    ap (λ (n : ℕ). text n (length replies) (conflicts_in replies) (sum_by saved_by_one members)) sent
    ∙ ap (λ (n : ℕ). text (length world.requests) n (conflicts_in replies) (sum_by saved_by_one members)) made
    ∙ ap (λ (n : ℕ). text (length world.requests) (length world.replies) n (sum_by saved_by_one members)) conflicts
    ∙ ap (text (length world.requests) (length world.replies) (length (filter (λ reply. reply.ruling.status == 409) world.replies))) saved

-- the trace of a run, once the files are told behind what its events showed
pub trace_told : (lines : Lines) (kept : KeptWorld) → IsRunOf lines kept → (old new : List ℕ) → old ≡ kept.trace → TellsEnds kept.stage.host.shard old new → IsTextOf trace_text lines new
trace_told lines kept run old new is told =
    let ends = ends_shown kept.stage.host.shard (world_of lines) run.stage.shows.host old new told in
    (ends.0, ends.1, ends.2 ∙ ap (λ (t : List ℕ). t ++ ends_text ends.0 (world_of lines)) (is ∙ run.trace))

-- and its summary, once they are told behind the counts
pub summary_told : (lines : Lines) (kept : KeptWorld) → IsRunOf lines kept → (old new : List ℕ)
    → old ≡ counts_in kept.stage.requests.items kept.stage.replies.items kept.stage.members.items
    → TellsEnds kept.stage.host.shard old new → IsTextOf summary_text lines new
summary_told lines kept run old new is told =
    let stage = kept.stage in
    let ends = ends_shown stage.host.shard (world_of lines) run.stage.shows.host old new told in
    let counts = counts_shown (setting_of lines) stage.desk stage.host.shard stage.history.items stage.requests.items stage.replies.items stage.members.items (world_of lines) run.stage.shows lines.sessions refl in
    (ends.0, ends.1, ends.2 ∙ ap (λ (t : List ℕ). t ++ ends_text ends.0 (world_of lines)) (is ∙ counts))
