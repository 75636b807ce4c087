-- A restart of the host, in a world and in the running one.
use Rattle.std.proofs.Common.{◌≡◌, ◌≤◌, ◌+◌, ◌*◌, ◌==◌, ℕ, Bool, true, false, cond, ◌<◌, List, [], ◌∷◌, ◌++◌, length, map, sum_by, Option, None, Some, unwrap_or, codes, inl, inr, refl, sym, ap, ◌∙◌, subst, arith}
use Rattle.std.specs.List.{AllByRecursion, IsDistinct}
use Rattle.std.specs.Ordering.{is_eq, nat_cmp}
use Rattle.std.specs.declared.cmp.Ordering.TheVariants.{Less}
use Rattle.std.specs.Cmp.Lexicographic.{slice_cmp, nat_list_eq_equiv}
use Rattle.std.specs.Str.{bytes_eq}
use Rattle.std.proofs.lemmas.Bool.{cond_both, ne_eqb}
use Rattle.std.proofs.lemmas.List.{map-append, append-nil}
use Rattle.std.proofs.lemmas.List.Sums.{sum_by-cons}
use Rattle.std.proofs.lemmas.Map.Text.{is_eq-slice_cmp}
use Rattle.outside.specs.Folder.{Files}
use Rattle.wopi_text.specs.FileName.{IsFileName}
use Rattle.wopi_model.specs.File.{File}
use Rattle.wopi_model.specs.Host.{kept}
use Rattle.wopi_model.specs.Step.{after_step}
use Rattle.wopi_model.specs.Shard.{Shard, Opening, Entry, LegalFrom, Along, IsAllowed, Tick, opening_file, begun, opened_shard, at_moment, after_entry, after, entries}
use Rattle.wopi_model.specs.Shard as run
use Rattle.wopi_model.proofs.Histories.{after-append, entries-append}
use Rattle.wopi_model.proofs.Soundness.{same_bytes}
use Rattle.wopi_model.specs.Begin.{Begin}
use Rattle.host_core.specs.Entries.{Made, items_of, history_of}
use Rattle.host_core.specs.Opening.{IsOpening, IsTooLarge, MayKeep, opened_contents}
use Rattle.host_core.specs.Opening as host
use Rattle.host_core.specs.Store.{is_store_call}
use Rattle.host_core.specs.Value.{Book, Agrees, state_of, is_torn, torn_from, faults_in}
use Rattle.access_tokens.specs.Addresses.{address_with}
use Rattle.access_tokens.specs.Keys.{IsWordOf}
use Rattle.access_tokens.specs.declared.keys.Keys.{Keys}
use Rattle.host_server.specs.declared.desk.Desk.{Desk}
use Rattle.host_server.specs.Copies.{address, token_for}
use Rattle.host_server.specs.Telling.{told_of}
use Rattle.wopi_headers.specs.declared.answer.Answer.{Answer}
use Rattle.wopi_headers.specs.declared.answer.BodyKind.TheVariants.{Json}
use Rattle.wopi_acts.specs.Answers.{ruling_told}
use Rattle.wopi_model.specs.Act.{is_create}
use Rattle.wopi_model.specs.declared.calls.Ruling.{Ruling}
use Rattle.wopi_model.specs.declared.token.Token.{Token}
use Rattle.file_info.specs.Relative.{relative_text}
use Rattle.wopi_world.specs.History.{Item, Restarted, restarted, IsNextFirst}
use Rattle.wopi_world.specs.World as in_world
use Rattle.wopi_world.specs.World.{Setting, World, Restarts, comes, next_first}
use Rattle.wopi_world.proofs.Versions.{next_first_one}
use Rattle.replay_cmd.specs.Begun.{opening_in}
use Rattle.replay_cmd.specs.declared.history.Item.{Item as Kept}
use Rattle.replay_cmd.specs.declared.history.Item.TheVariants as item
use Rattle.replay_cmd.specs.declared.replies.Reply.{Reply}
use Rattle.replay_cmd.specs.declared.member.Request.{Request}
use Rattle.replay_cmd.specs.declared.member.Member.{Member}
use Rattle.replay_cmd.specs.Answers.{IsReply, AreReplies, answer_told}
use Rattle.replay_cmd.specs.Exchanges.{IsStored}
use Rattle.replay_cmd.specs.Histories.{item_kept}
use Rattle.replay_cmd.specs.Hosts.{HasFileNames, IsSetUp, StandsFor}
use Rattle.replay_cmd.specs.Limits.{kept_by, kept_in}
use Rattle.replay_cmd.specs.Replying.{file_in}
use Rattle.schedule_text.specs.Schedules.{most_contents, most_lines}
use Rattle.replay_cmd.specs.Members.{ShowsSessions}
use Rattle.replay_cmd.specs.Stages.{Shows}
use Rattle.replay_cmd.specs.Starts.{HasOpened, LeavesTooMuch, Reopens}
use Rattle.replay_cmd.proofs.Faults.{all_stored}
use Rattle.replay_cmd.proofs.FirstWorld.{has_form, opening_contents}
use Rattle.replay_cmd.proofs.LastRun.{entries_restarted, kept_pushed}
use Rattle.replay_cmd.proofs.Opened.{distinct, names_in, OneFile}
use Rattle.replay_cmd.proofs.ReplyLemmas.{AreReplies-later}
use Rattle.replay_cmd.proofs.Sizes.{names_size, bytes_found, size_in}

-- ---- what a shard leaves

-- only file names have contents
abbrev AreNamed : Shard → Type 0
AreNamed shard = (name contents : List ℕ) → (shard.files name).contents ≡ Some contents → IsFileName name

named_entry : (at : Shard) (entry : Entry) → IsFileName entry.call.name → AreNamed at → AreNamed (after_entry at entry)
named_entry at entry form named name contents =
    elim (bytes_eq entry.call.name name) as (λ b. bytes_eq entry.call.name name ≡ b → (cond b new (at.files name)).contents ≡ Some contents → IsFileName name) [
      | true ↦ λ same e. subst IsFileName (same_bytes entry.call.name name same) form
      | false ↦ λ same e. named name contents e
    ] refl
  where
    new : File
    new = after_step (at.files entry.call.name) entry.call at.opened at.now entry.ruling

named_made : (shard : Shard) (made : List Made) → AllByRecursion (λ one. IsFileName one.step.call.name) made → AreNamed shard → AreNamed (after shard (items_of made))
named_made shard [] all named = named
named_made shard (one ∷ made) all named =
    named_made (after_entry (at_moment (at_moment shard one.time) one.step.moment) one.step) made all.1
    (named_entry (at_moment (at_moment shard one.time) one.step.moment) one.step all.0 (λ name contents e. named name contents e))

named_opening : (opening : Opening) (opened first : ℕ) → AllByRecursion (λ (file : OneFile). IsFileName file.0) opening → AreNamed (opened_shard opening opened first)
named_opening opening opened first all name contents e = has_form IsFileName opening name contents all (sym (opening_contents first opening name) ∙ e)

module _ {F : Type 0} (book : Book F) (names : HasFileNames book) where
  abbrev start_of : Shard
  start_of = begun book.begin

  abbrev state : Shard
  state = state_of book.begin book.made book.time

  state_is : state ≡ at_moment (after start_of (items_of book.made)) book.time
  state_is = after-append start_of (items_of book.made) (Tick book.time ∷ [])

  named_in : (name contents : List ℕ) → (file_in book name).contents ≡ Some contents → IsFileName name
  named_in name contents e =
      named_made start_of book.made names.made (subst (λ (b : Begin). AreNamed (begun b)) (sym names.new) (named_opening (opening_in book.begin) book.begin.opened book.begin.first names.opening)) name contents
      (ap (λ (s : Shard). (s.files name).contents) (sym state_is) ∙ e)

  -- the files of these names have no more bytes than the shard kept
  sizes_kept : (given : List (List ℕ)) → IsDistinct bytes_eq given → LegalFrom book.begin (history_of book.made book.time)
      → sum_by (size_in state) given ≤ kept (opening_in book.begin) (history_of book.made book.time)
  sizes_kept given apart legal =
      let history = history_of book.made book.time in
      subst (λ (b : Begin). sum_by (size_in (after (begun b) history)) given ≤ kept (opening_in book.begin) history) (sym names.new)
      (names_size (opening_in book.begin) book.begin.opened book.begin.first history given apart (subst (λ (b : Begin). Along IsAllowed (begun b) history) names.new legal.allowed))

  -- no name is torn where no store failed
  whole_from : (made : List Made) (name : List ℕ) → AllByRecursion IsStored (map (λ one. one.step) made) → torn_from false made name ≡ false
  whole_from [] name stored = refl
  whole_from (one ∷ made) name stored =
      let fine : (one.step.ruling.status == 500) ≡ false = ne_eqb one.step.ruling.status 500 stored.0 in
      let after : cond (is_store_call one.step.call.act one.step.ruling) (one.step.ruling.status == 500) false ≡ false =
      cond_both (is_store_call one.step.call.act one.step.ruling) (one.step.ruling.status == 500) false (λ (b : Bool). b ≡ false) (λ e. fine) (λ e. refl) in
      let next : cond (bytes_eq one.step.call.name name) (cond (is_store_call one.step.call.act one.step.ruling) (one.step.ruling.status == 500) false) false ≡ false =
      cond_both (bytes_eq one.step.call.name name) (cond (is_store_call one.step.call.act one.step.ruling) (one.step.ruling.status == 500) false) false
      (λ (b : Bool). b ≡ false) (λ e. after) (λ e. refl) in
      ap (λ (b : Bool). torn_from b made name) next ∙ whole_from made name stored.1

  module _ (start now : Files) (agrees : Agrees None (Some start) (Some now) state.files (is_torn book.made)) (stored : faults_in book.made ≡ 0)
      (opening : Opening) (is : IsOpening None (Some now) opening) where
    left_at : (name : List ℕ) → MayKeep None name → now name ≡ (file_in book name).contents
    left_at name may = agrees.0 name may (whole_from book.made name (all_stored book.made stored))

    pub left_contents : (name : List ℕ) → opened_contents opening name ≡ (file_in book name).contents
    left_contents name = by_opening (opened_contents opening name) refl
      where
        by_file : (contents : Option (List ℕ)) → (file_in book name).contents ≡ contents → opened_contents opening name ≡ None → None ≡ contents
        by_file None e none = refl
        by_file (Some contents) e none =
            let may : MayKeep None name = (named_in name contents e, tt) in
            sym none ∙ is.whole name may ∙ left_at name may ∙ e

        by_opening : (found : Option (List ℕ)) → opened_contents opening name ≡ found → opened_contents opening name ≡ (file_in book name).contents
        by_opening None e = e ∙ by_file (file_in book name).contents refl e
        by_opening (Some contents) e =
            let may : MayKeep None name = has_form (MayKeep None) opening name contents is.taken e in
            is.whole name may ∙ left_at name may

    pub left_small : LegalFrom book.begin (history_of book.made book.time)
        → sum_by (λ (file : OneFile). length file.1) opening ≤ kept (opening_in book.begin) (items_of book.made)
    left_small legal =
        let most = sizes_kept (names_in opening) (distinct opening is.ordered) legal in
        let bytes = bytes_found opening (λ (name : List ℕ). (file_in book name).contents) (distinct opening is.ordered) (λ name contents e. sym (left_contents name) ∙ e) in
        let same : entries (history_of book.made book.time) ≡ entries (items_of book.made) = entries-append (items_of book.made) (Tick book.time ∷ []) ∙ append-nil (entries (items_of book.made)) in
        let all : kept (opening_in book.begin) (history_of book.made book.time) ≡ kept (opening_in book.begin) (items_of book.made) =
        ap (λ (l : List Entry). sum_by (λ (file : OneFile). length file.1) (opening_in book.begin) + sum_by kept_by l) same in
        omega (arith, most, bytes, all)

    pub left_over : (moment first : ℕ) (new : Book F) → opening_in new.begin ≡ opening → HasOpened moment first new → LegalFrom book.begin (history_of book.made book.time)
        → Reopens book moment first new
    left_over moment first new same has legal =
        record {
          has = has;
          contents = λ name. ap (λ (l : Opening). opened_contents l name) same ∙ left_contents name;
          small = subst (λ (l : Opening). sum_by (λ (file : OneFile). length file.1) l ≤ kept (opening_in book.begin) (items_of book.made)) (sym same) (left_small legal);
        }

-- a name that comes before another isn't that one
apart_from : (name : List ℕ) (opening : Opening) → AllByRecursion (λ (file : OneFile). slice_cmp nat_cmp file.0 name ≡ Less) opening
    → AllByRecursion (λ y. bytes_eq name y ≡ false) (names_in opening)
apart_from name [] smaller = tt
apart_from name (file ∷ opening) smaller = (
  nat_list_eq_equiv.symm name file.0 ∙ sym (is_eq-slice_cmp file.0 name) ∙ ap is_eq smaller.0,
  apart_from name opening smaller.1,
)

module _ {F : Type 0} (book : Book F) (names : HasFileNames book) (start now : Files)
    (agrees : Agrees None (Some start) (Some now) (state book names).files (is_torn book.made)) (stored : faults_in book.made ≡ 0)
    (legal : LegalFrom book.begin (history_of book.made book.time)) (name : List ℕ) (large : IsTooLarge None (Some now) name) where
  abbrev before : Opening
  before = large.before

  abbrev contents : List ℕ
  contents = large.passes.0

  left_under : (other : List ℕ) → MayKeep None other → now other ≡ (file_in book other).contents
  left_under other may = agrees.0 other may (whole_from book names book.made other (all_stored book.made stored))

  own_contents : (file_in book name).contents ≡ Some contents
  own_contents = sym (left_under name large.taken) ∙ large.passes.1

  found_in : (other bytes : List ℕ) → opened_contents ((name, contents) ∷ before) other ≡ Some bytes → (file_in book other).contents ≡ Some bytes
  found_in other bytes = by_test (bytes_eq name other) refl
    where
      by_test : (test : Bool) → bytes_eq name other ≡ test → cond test (Some contents) (opened_contents before other) ≡ Some bytes → (file_in book other).contents ≡ Some bytes
      by_test true same e = ap (λ (n : List ℕ). (file_in book n).contents) (sym (same_bytes name other same)) ∙ own_contents ∙ e
      by_test false apart e =
          let may : MayKeep None other = has_form (MayKeep None) before other bytes large.own e in
          let less : slice_cmp nat_cmp other name ≡ Less = has_form (λ (n : List ℕ). slice_cmp nat_cmp n name ≡ Less) before other bytes large.smaller e in
          sym (left_under other may) ∙ sym (large.whole other (may, less)) ∙ e

  distinct_names : IsDistinct bytes_eq (names_in ((name, contents) ∷ before))
  unfolding IsDistinct
  distinct_names = (apart_from name before large.smaller, distinct before large.ordered)

  -- it has more than a shard takes, or all files have, and so all that the shard ever kept
  pub left_too_much : LeavesTooMuch book
  left_too_much = elim large.passes.2 [
    | inl long ↦ inl (name, subst (λ (c : Option (List ℕ)). host.most_contents < length (unwrap_or c [])) (sym own_contents) long)
    | inr many ↦ inr (
        let files : Opening = (name, contents) ∷ before in
        let most = sizes_kept book names (names_in files) distinct_names legal in
        let bytes = bytes_found files (λ (other : List ℕ). (file_in book other).contents) distinct_names found_in in
        let parts = sum_by-cons (λ (file : OneFile). length file.1) (name, contents) before in
        let same : entries (history_of book.made book.time) ≡ entries (items_of book.made) = entries-append (items_of book.made) (Tick book.time ∷ []) ∙ append-nil (entries (items_of book.made)) in
        let all : kept (opening_in book.begin) (history_of book.made book.time) ≡ kept (opening_in book.begin) (items_of book.made) =
        ap (λ (l : List Entry). sum_by (λ (file : OneFile). length file.1) (opening_in book.begin) + sum_by kept_by l) same in
        omega (arith, most, bytes, parts, all, many)
        )
  ]

-- ---- what the world shows then

-- replies tell nothing of when the desk opened
module _ (desk desk' : Desk) (same_keys : desk'.keys ≡ desk.keys) (same_base : desk'.base ≡ desk.base) where
  same_address : (name : List ℕ) (asking : Token) (moment : ℕ) → address desk name asking moment ≡ address desk' name asking moment
  same_address name asking moment = λ i. address_with (sym same_base i) (sym same_keys i) (token_for name asking moment)

  same_told : (entry : Entry) (ruling : Ruling) → answer_told desk entry ruling ≡ answer_told desk' entry ruling
  same_told entry ruling =
      let told : List ℕ → Answer =
      λ text. cond (is_create entry.call.act) (cond (ruling.status == 200) (record (ruling_told ruling) { version = None; kind = Json; body = relative_text entry.call.name text }) (ruling_told ruling)) (told_of entry.call ruling) in
      ap told (same_address entry.call.name entry.call.token entry.moment)

  replies_opened : (history : List Item) (requests : List in_world.Request) (kept : List Reply) (replies : List in_world.Reply)
      → AreReplies desk history requests kept replies → AreReplies desk' history requests kept replies
  replies_opened history requests [] [] h = tt
  replies_opened history requests [] (r ∷ replies) h = absurd h
  replies_opened history requests (k ∷ kept) [] h = absurd h
  replies_opened history requests (k ∷ kept) (r ∷ replies) h =
      let one : IsReply desk history requests k r = h.0 in (
        record {
          request = one.request;
          before = one.before;
          after = one.after;
          entry = one.entry;
          last = one.last;
          answer = one.answer ∙ same_told one.entry r.ruling;
          looks = one.looks;
        },
        replies_opened history requests kept replies h.1,
      )

module _ {F : Type 0} (setting : Setting) (desk : Desk) (book book' : Book F) (history : List Kept) (requests : List Request) (replies : List Reply) (members : List Member) (world : World)
    (shows : Shows setting desk book history requests replies members world) (moment first : ℕ)
    (told : IsNextFirst (state_of book.begin book.made book.time) first) (next : IsNextFirst world.shard (next_first setting world)) (reopens : Reopens book moment first book') where
  abbrev stands : StandsFor book world
  stands = shows.host

  -- the number is the world's
  pub same_first : first ≡ next_first setting world
  same_first =
      let at_time : IsNextFirst (at_moment world.shard book.time) first = subst (λ (s : Shard). IsNextFirst s first) (sym stands.shard) told in
      next_first_one world.shard first (next_first setting world) (record { least = at_time.least; above = λ name. at_time.above name; reached = at_time.reached }) next

  same_contents : (name : List ℕ) → (opening_file first (opening_in book'.begin) name).contents ≡ (world.shard.files name).contents
  same_contents name =
      opening_contents first (opening_in book'.begin) name ∙ reopens.contents name ∙ ap (λ (s : Shard). (s.files name).contents) (sym stands.shard)

  module _ (anew : (shard : Shard) (opening : Opening) (m f : ℕ) → ((name : List ℕ) → (opening_file f opening name).contents ≡ (shard.files name).contents) → restarted shard m f ≡ opened_shard opening m f) where
    same_shard : at_moment (restarted world.shard moment first) book'.time ≡ state_of book'.begin book'.made book'.time
    same_shard =
        let opens : restarted world.shard moment first ≡ opened_shard (opening_in book'.begin) moment first = anew world.shard (opening_in book'.begin) moment first same_contents in
        let has = reopens.has in
        ap (λ (s : Shard). at_moment s book'.time) opens
        ∙ (λ i. after (opened_shard (opening_in book'.begin) (sym has.opened i) (sym has.first i)) (history_of (sym has.made i) book'.time))
        ∙ ap (λ (b : Begin). state_of b book'.made book'.time) (sym has.new)

    abbrev after_restart : World
    after_restart = in_world.with_item world (Restarted moment first)

    stands_anew : StandsFor book' after_restart
    stands_anew =
        let has = reopens.has in
        let none : entries (items_of book'.made) ≡ [] = ap (λ (l : List Made). entries (items_of l)) has.made in
        let nothing : sum_by kept_by (entries (items_of book'.made)) ≡ 0 = ap (λ (l : List Entry). sum_by kept_by l) none in
        let more : kept_in (world.history ++ Restarted moment first ∷ []) ≡ kept_in world.history + 0 = kept_pushed world.history (Restarted moment first) in
        let old : sum_by (λ (file : OneFile). length file.1) (opening_in book.begin) + sum_by kept_by (entries (items_of book.made)) ≤ most_contents * most_lines + kept_in world.history = stands.small in
        let left : sum_by (λ (file : OneFile). length file.1) (opening_in book'.begin) ≤ sum_by (λ (file : OneFile). length file.1) (opening_in book.begin) + sum_by kept_by (entries (items_of book.made)) = reopens.small in
        record {
          new = has.new;
          quiet = stands.quiet;
          time = sym has.time;
          shard = same_shard;
          entries = entries_restarted world.history moment first ∙ sym none;
          small = omega (arith, nothing, more, old, left);
        }

    pub shows_anew : (desk' : Desk) → desk'.keys ≡ desk.keys → desk'.base ≡ desk.base → desk'.opened ≡ moment
        → Shows setting desk' book' (history ++ item.Restart moment first ∷ []) requests replies members (comes setting world (Restarts moment))
    shows_anew desk' same_keys same_base opened =
        let has = reopens.has in
        subst (λ (f : ℕ). Shows setting desk' book' (history ++ item.Restart moment first ∷ []) requests replies members (in_world.with_item world (Restarted moment f))) same_first
        (record {
          set_up = record {
            desk_is = record { keys = subst (λ (k : Keys). IsWordOf k (codes "4a656665")) (sym same_keys) shows.set_up.desk_is.keys; base = same_base ∙ shows.set_up.desk_is.base };
            opened = opened ∙ sym has.opened;
            only = has.only;
            limits = has.limits;
          };
          host = stands_anew;
          items = ap (λ (l : List Kept). l ++ item.Restart moment first ∷ []) shows.items ∙ sym (map-append item_kept world.history (Restarted moment first ∷ []));
          sessions = subst (λ (k : Keys). ShowsSessions k setting.clients members requests after_restart) (sym same_keys)
              (record { count = shows.sessions.count; sent = shows.sessions.sent; each = shows.sessions.each });
          answers = replies_opened desk desk' same_keys same_base (world.history ++ Restarted moment first ∷ []) world.requests replies world.replies
              (AreReplies-later desk world.history (Restarted moment first ∷ []) world.requests replies world.replies shows.answers);
        })

-- ---- when the host opened

after_opened : (shard : Shard) (items : List run.Item) → (after shard items).opened ≡ shard.opened
after_opened shard [] = refl
after_opened shard (run.Tick moment ∷ items) = after_opened (at_moment shard moment) items
after_opened shard (run.Step entry ∷ items) = after_opened (after_entry (at_moment shard entry.moment) entry) items

pub same_opened : {F : Type 0} (desk : Desk) (book : Book F) (world : World) → IsSetUp desk book → StandsFor book world → desk.opened ≡ world.shard.opened
same_opened desk book world set stands =
    set.opened ∙ sym (after_opened (begun book.begin) (history_of book.made book.time)) ∙ ap (λ (s : Shard). s.opened) (sym stands.shard)
