-- What an auditor keeps, before a line and behind it.
use Rattle.std.proofs.Common.{◌≡◌, ◌↔◌, ℕ, zero, suc, ◌+◌, ◌<◌, ◌≤◌, ◌==◌, max, Bool, true, false, cond, List, [], ◌∷◌, ◌++◌, Option, None, Some, length, refl, ap, sym, ◌∙◌, subst, arith, true≢false}
use Rattle.std.specs.Prelude.{IsTrue, is_some, take, slice_get, slice_set}
use Rattle.std.specs.Str.{bytes_eq}
use Rattle.std.proofs.lemmas.List.{append-nil}
use Rattle.std.proofs.lemmas.List.Elements.{filter-append}
use Rattle.std.proofs.lemmas.Slice.Eq.{bytes_eq-Decides}
use Rattle.wopi_text.specs.FileName.{shard_of}
use Rattle.wopi_model.specs.File.{File, never_met, opened_with}
use Rattle.wopi_model.specs.Settle.{settled}
use Rattle.wopi_model.specs.Shard.{Opening, Shard, Step, at_moment, happens, opened_shard, opening_file}
use Rattle.wopi_model.specs.Host.{opening_of}
use Rattle.wopi_model.specs.Kept.{Shows, kept_after}
use Rattle.wopi_model.proofs.Keeping.{shows-entry, shown-at_moment}
use Rattle.host_core.specs.Opening.{opened_contents}
use Rattle.name_index.specs.Index.{number_of}
use Rattle.journal_text.specs.declared.text.Line.{Line}
use Rattle.journal_audit.specs.declared.verdict.AuditFault.{AuditFault}
use Rattle.journal_audit.specs.declared.verdict.AuditFault.TheVariants as fault
use Rattle.journal_audit.specs.Audits.{AreOpened, AreTracked, Audited, IsOpenedHost, IsTurnIn, Judges, Keeps, Turns}
use Rattle.journal_audit.specs.Calls.{entry_of, told_ruling}
use Rattle.journal_audit.specs.Judging.{Placed}
use Rattle.journal_audit.specs.Known.{opened_as, unmet}
use Rattle.journal_audit.specs.Lines.{Begun, HasFault, IsBadAt, IsOrdered, IsRuledOn, LegalLines, MayCome, behind_line, behind_lines, opened_host}
use Rattle.journal_audit.specs.Orders.{KeepsOrder}
use Rattle.journal_audit.specs.Spent.{Ends, IsLater, refuses}
use Rattle.journal_audit.specs.Tracks.{AreKnown, IsKnownAt, IsOpened, IsOpenedAt, Knows, Takes, Tracked, all_left_by}
use Rattle.journal_audit.proofs.Knowing.{later_on}
use Rattle.journal_audit.proofs.Merges.{by_eq}
use Rattle.journal_audit.proofs.Tracking.{got_front, got_last, longer, got_other, got_set, some_same}

-- ---- a shard's track

late_at : (first : ℕ) (files : List Placed) (spent spent' : Ends) (file : File) (before now : ℕ) (found : Option ℕ) → before ≤ now → IsLater spent spent' now →
    IsKnownAt first files spent found file before → IsKnownAt first files spent' found file now
late_at first files spent spent' file before now None le later known = later_on (unmet first) (λ id later. false) (λ id later. false) file before now le known (λ id later late. refl)
late_at first files spent spent' file before now (Some n) le later known =
    (known.0, known.1, later_on known.0 (refuses spent n) (refuses spent' n) file before now le known.2 (λ id at late. later n id at late))

-- a line of the shard
pub track_takes : (old new : Tracked) (mid : Ends) (line : Line) (ruled : Bool) (shard : Shard) → Knows old shard → line.now ≡ max shard.now line.moment → IsLater old.spent mid line.now →
    Takes old.first old.opened line old.names old.files mid ruled new.names new.files new.spent → new.opened ≡ old.opened → new.first ≡ old.first → new.now ≡ line.now →
    (IsTrue ruled ↔ IsRuledOn ((at_moment shard line.moment).files line.name) line shard.opened line.now) × (IsTrue ruled → Knows new (happens shard (Step (entry_of line (told_ruling line)))))
track_takes old new mid line ruled shard knows timed later takes opened first now =
    let same = knows.now_is in
    let le : old.now ≤ line.now = omega (arith, same, timed) in
    let known : AreKnown old.first old.names old.files mid knows.kept line.now =
    λ name. late_at old.first old.files old.spent mid (knows.kept name) old.now line.now (number_of old.names name) le later (knows.known name) in
    let taken = takes knows.kept line.now (omega arith) known in
    let file : settled (knows.kept line.name) line.now ≡ (at_moment shard line.moment).files line.name =
    ap (λ n. settled (knows.kept line.name) n) timed ∙ sym (shown-at_moment knows.kept shard line.moment knows.shows line.name) in
    let P : File × ℕ → Type 0 = λ p. IsTrue ruled ↔ IsRuledOn p.0 line p.1 line.now in
    let here : P ((at_moment shard line.moment).files line.name, shard.opened) = subst P (λ i. (file i, knows.opened_is i)) taken.0 in (
      here,
      λ yes.
          record {
            opened_is = opened ∙ knows.opened_is;
            first_is = first ∙ knows.first_is;
            now_is = now ∙ timed;
            kept = all_left_by knows.kept old.opened line;
            shows = subst (λ (p : ℕ × ℕ). Shows (kept_after knows.kept p.0 p.1 (entry_of line (told_ruling line))) (happens shard (Step (entry_of line (told_ruling line))))) (λ i. (sym knows.opened_is i, sym timed i))
                (shows-entry knows.kept shard (entry_of line (told_ruling line)) knows.shows);
            known = let Q : ℕ × ℕ → Type 0 = λ p. AreKnown p.0 new.names new.files new.spent (all_left_by knows.kept old.opened line) p.1 in
                subst Q (λ i. (sym first i, sym now i)) (taken.1 yes);
          },
    )

-- ---- opening files

pub contents-push : (opening : Opening) (file : List ℕ × List ℕ) (name : List ℕ) →
    opened_contents (opening ++ file ∷ []) name ≡ elim (opened_contents opening name) [ None ↦ cond (bytes_eq file.0 name) (Some file.1) None | Some contents ↦ Some contents ]
contents-push [] file name = refl
contents-push (one ∷ opening) file name = by_test (bytes_eq one.0 name) (contents-push opening file name)
  where
    by_test : (b : Bool) → opened_contents (opening ++ file ∷ []) name ≡ elim (opened_contents opening name) [ None ↦ cond (bytes_eq file.0 name) (Some file.1) None | Some contents ↦ Some contents ] →
        cond b (Some one.1) (opened_contents (opening ++ file ∷ []) name) ≡ elim (cond b (Some one.1) (opened_contents opening name)) [ None ↦ cond (bytes_eq file.0 name) (Some file.1) None | Some contents ↦ Some contents ]
    by_test true e = refl
    by_test false e = e

-- the file of an opening that has these contents, or of one that lacks the name
abbrev pub file_of : ℕ → Option (List ℕ) → File
file_of first None = never_met first
file_of first (Some contents) = opened_with first contents

pub opening-file : (first : ℕ) (opening : Opening) (name : List ℕ) → opening_file first opening name ≡ file_of first (opened_contents opening name)
opening-file first [] name = refl
opening-file first (one ∷ opening) name = by_test (bytes_eq one.0 name) (opening-file first opening name)
  where
    by_test : (b : Bool) → opening_file first opening name ≡ file_of first (opened_contents opening name) →
        cond b (opened_with first one.1) (opening_file first opening name) ≡ file_of first (cond b (Some one.1) (opened_contents opening name))
    by_test true e = refl
    by_test false e = e

opened_known : (first : ℕ) (files : List Placed) (spent : Ends) (now : ℕ) (found : Option ℕ) (contents : Option (List ℕ)) → ((n : ℕ) (id : List ℕ) (at : ℕ) → refuses spent n id at ≡ false) →
    IsOpenedAt first files found contents → IsKnownAt first files spent found (file_of first contents) now
opened_known first files spent now None None none is =
    record { version_is = refl; size_is = refl; lock_is = refl; since_is = tt; spent_is = λ id later late. refl }
opened_known first files spent now None (Some contents) none is = absurd is
opened_known first files spent now (Some n) None none is = absurd is
opened_known first files spent now (Some n) (Some contents) none is =
    (opened_as first (length contents), is, record { version_is = refl; size_is = refl; lock_is = refl; since_is = tt; spent_is = λ id later late. none n id later })

pub opened_knows : (track : Tracked) (opening : Opening) (opened first : ℕ) → IsOpened track opening opened first → Knows track (opened_shard opening opened first)
opened_knows track opening opened first is =
    let P : ℕ → Type 0 = λ n. (name : List ℕ) → IsKnownAt n track.files track.spent (number_of track.names name) (opening_file first opening name) track.now in
    let each : P first = λ name.
    subst (λ (f : File). IsKnownAt first track.files track.spent (number_of track.names name) f track.now) (sym (opening-file first opening name))
    (opened_known first track.files track.spent track.now (number_of track.names name) (opened_contents opening name) is.unspent (is.files_are name)) in
    record {
      opened_is = is.opened_is;
      first_is = is.first_is;
      now_is = is.now_is;
      kept = opening_file first opening;
      shows = λ name. refl;
      known = subst P (sym is.first_is) each;
    }

-- one file more
abbrev with_file : List ℕ → List ℕ → List ℕ → Option (List ℕ) → Option (List ℕ)
with_file name contents other None = cond (bytes_eq name other) (Some contents) None
with_file name contents other (Some old) = Some old

opened_more : (first : ℕ) (files : List Placed) (name contents other : List ℕ) (size : ℕ) (b : Bool) (found : Option ℕ) (old : Option (List ℕ)) → length contents ≡ size →
    (b ≡ true → found ≡ None) → IsOpenedAt first files found old →
    IsOpenedAt first (files ++ opened_as first size ∷ []) (cond b (Some (length files)) found) (elim old [ None ↦ cond b (Some contents) None | Some was ↦ Some was ])
opened_more first files name contents other size true None None long none is = got_last files (opened_as first size) ∙ ap (λ n. Some (opened_as first n)) (sym long)
opened_more first files name contents other size false None None long none is = tt
opened_more first files name contents other size b None (Some old) long none is = absurd is
opened_more first files name contents other size b (Some n) None long none is = absurd is
opened_more first files name contents other size true (Some n) (Some old) long none is = absurd (cc (none refl))
opened_more first files name contents other size false (Some n) (Some old) long none is = got_front files (opened_as first size) n (opened_as first (length old)) is

pub opened_push : (old new : Tracked) (opening : Opening) (name contents : List ℕ) (size opened first : ℕ) → length contents ≡ size → IsOpened old opening opened first → number_of old.names name ≡ None →
    ((other : List ℕ) → number_of new.names other ≡ cond (bytes_eq name other) (Some (length old.files)) (number_of old.names other)) → new.files ≡ old.files ++ opened_as old.first size ∷ [] →
    new.spent ≡ old.spent → new.opened ≡ old.opened → new.first ≡ old.first → new.now ≡ old.now → IsOpened new (opening ++ (name, contents) ∷ []) opened first
opened_push old new opening name contents size opened first long is none added pushed spent o f n =
    let files : new.files ≡ old.files ++ opened_as first size ∷ [] = pushed ∙ ap (λ k. old.files ++ opened_as k size ∷ []) is.first_is in
    record {
      opened_is = o ∙ is.opened_is;
      first_is = f ∙ is.first_is;
      now_is = n ∙ is.now_is;
      files_are = λ other.
          let more = opened_more first old.files name contents other size (bytes_eq name other) (number_of old.names other) (opened_contents opening other) long
          (λ e. ap (number_of old.names) (sym ((bytes_eq-Decides name other).0 e)) ∙ none) (is.files_are other) in
          let P : List Placed × Option ℕ × Option (List ℕ) → Type 0 = λ p. IsOpenedAt first p.0 p.1 p.2 in
          subst P (λ i. (sym files i, sym (added other) i, sym (contents-push opening (name, contents) other) i)) more;
      unspent = λ k id at. ap (λ (s : Ends). refuses s k id at) spent ∙ is.unspent k id at;
    }

opened_again : (first : ℕ) (files : List Placed) (b : Bool) (contents : List ℕ) (found : Option ℕ) (old : Option (List ℕ)) → (b ≡ true → found ≡ None → ⊥) → IsOpenedAt first files found old →
    IsOpenedAt first files found (elim old [ None ↦ cond b (Some contents) None | Some was ↦ Some was ])
opened_again first files true contents None None some is = absurd (some refl refl)
opened_again first files false contents None None some is = tt
opened_again first files b contents None (Some old) some is = absurd is
opened_again first files b contents (Some n) None some is = absurd is
opened_again first files b contents (Some n) (Some old) some is = is

-- a name that came before
pub opened_twice : (old : Tracked) (opening : Opening) (name contents : List ℕ) (opened first : ℕ) → IsOpened old opening opened first → (number_of old.names name ≡ None → ⊥) →
    IsOpened old (opening ++ (name, contents) ∷ []) opened first
opened_twice old opening name contents opened first is some =
    record {
      opened_is = is.opened_is;
      first_is = is.first_is;
      now_is = is.now_is;
      files_are = λ other.
          subst (λ (c : Option (List ℕ)). IsOpenedAt first old.files (number_of old.names other) c) (sym (contents-push opening (name, contents) other))
          (opened_again first old.files (bytes_eq name other) contents (number_of old.names other) (opened_contents opening other)
          (λ e none. some (ap (number_of old.names) ((bytes_eq-Decides name other).0 e) ∙ none)) (is.files_are other));
      unspent = is.unspent;
    }

pub some_of : (found : Option ℕ) → is_some found ≡ true → found ≡ None → ⊥
some_of None e none = absurd (true≢false (sym e))
some_of (Some number) e none = absurd (cc none)

pub none_of : (found : Option ℕ) → is_some found ≡ false → found ≡ None
none_of None e = refl
none_of (Some number) e = absurd (true≢false e)

-- ---- all tracks

pub opened_track : (tracks tracks' : List Tracked) (files : Opening) (name contents : List ℕ) (old new : Tracked) (opened first : ℕ) → AreOpened tracks files opened first →
    slice_get tracks (shard_of name) ≡ Some old → tracks' ≡ slice_set tracks (shard_of name) new → shard_of name < length tracks →
    ((opening : Opening) → IsOpened old opening opened first → IsOpened new (opening ++ (name, contents) ∷ []) opened first) → AreOpened tracks' (files ++ (name, contents) ∷ []) opened first
opened_track tracks tracks' files name contents old new opened first are stood set below goes shard small =
    let own = shard_of name in
    let was = are shard small in
    let split : opening_of shard (files ++ (name, contents) ∷ []) ≡ opening_of shard files ++ cond (own == shard) ((name, contents) ∷ []) [] =
    filter-append (λ file. shard_of file.0 == shard) files ((name, contents) ∷ []) in
    let P : Opening → Type 0 = λ o. (track : Tracked) × (slice_get tracks' shard ≡ Some track) × IsOpened track o opened first in
    subst P (sym split)
    (by_eq own shard (λ b. P (opening_of shard files ++ cond b ((name, contents) ∷ []) []))
    (λ e. (
      new,
      ap (λ (l : List Tracked). slice_get l shard) set ∙ ap (λ n. slice_get (slice_set tracks own new) n) (sym e) ∙ got_set tracks own new below,
      goes (opening_of shard files) (subst (λ (t : Tracked). IsOpened t (opening_of shard files) opened first) (some_same was.0 old (sym was.1 ∙ ap (slice_get tracks) (sym e) ∙ stood)) was.2),
    ))
    (λ apart. (
      was.0,
      ap (λ (l : List Tracked). slice_get l shard) set ∙ got_other tracks own shard new (λ e. apart (sym e)) ∙ was.1,
      subst (λ (o : Opening). IsOpened was.0 o opened first) (sym (append-nil (opening_of shard files))) was.2,
    )))

pub opened_keeps : (kept : Audited) (files : Opening) (opened first : ℕ) → IsOpenedHost kept files opened first → Keeps kept (opened_host files opened first)
opened_keeps kept files opened first is =
    record {
      order = is.order (opened_host files opened first) refl (λ pass. refl);
      tracks = λ shard small. let was = is.tracks shard small in (was.0, was.1, opened_knows was.0 (opening_of shard files) opened first was.2);
    }

-- ---- one line

pub turn_on : (tracks tracks' : List Tracked) (line : Line) (old new : Tracked) (begun : Begun) → AreTracked tracks begun → line.shard < 16 → slice_get tracks line.shard ≡ Some old →
    tracks' ≡ slice_set tracks line.shard new → line.shard < length tracks → Knows new (happens (begun.shards line.shard) (Step (entry_of line (told_ruling line)))) → AreTracked tracks' (behind_line begun line)
turn_on tracks tracks' line old new begun are low stood set below knows shard small =
    let was = are shard small in
    by_eq line.shard shard (λ b. (track : Tracked) × (slice_get tracks' shard ≡ Some track) × Knows track (cond b (happens (begun.shards line.shard) (Step (entry_of line (told_ruling line)))) (begun.shards shard)))
    (λ e. (new, ap (λ (l : List Tracked). slice_get l shard) set ∙ ap (λ n. slice_get (slice_set tracks line.shard new) n) (sym e) ∙ got_set tracks line.shard new below, knows))
    (λ apart. (was.0, ap (λ (l : List Tracked). slice_get l shard) set ∙ got_other tracks line.shard shard new (λ e. apart (sym e)) ∙ was.1, was.2))

-- what is known of the line's shard
pub turn_knows : (tracks : List Tracked) (line : Line) (old : Tracked) (begun : Begun) → AreTracked tracks begun → line.shard < 16 → slice_get tracks line.shard ≡ Some old → Knows old (begun.shards line.shard)
turn_knows tracks line old begun are low stood =
    let was = are line.shard low in subst (λ (t : Tracked). Knows t (begun.shards line.shard)) (some_same was.0 old (sym was.1 ∙ stood)) was.2

-- what a track says of its line, and what that says in a host
pub turn_of : (tracks tracks' : List Tracked) (line : Line) (old new : Tracked) (wrong : Option AuditFault) → line.shard < 16 → slice_get tracks line.shard ≡ Some old →
    tracks' ≡ slice_set tracks line.shard new → line.shard < length tracks → ((shard : Shard) → Knows old shard → IsTurnIn shard line wrong new) → Turns tracks line wrong tracks'
turn_of tracks tracks' line old new None low stood set below turn begun are =
    let it = turn (begun.shards line.shard) (turn_knows tracks line old begun are low stood) in
    (it.0, it.1, turn_on tracks tracks' line old new begun are low stood set below it.2)
turn_of tracks tracks' line old new (Some fault.Order) low stood set below turn begun are = turn (begun.shards line.shard) (turn_knows tracks line old begun are low stood)
turn_of tracks tracks' line old new (Some fault.Now) low stood set below turn begun are = turn (begun.shards line.shard) (turn_knows tracks line old begun are low stood)
turn_of tracks tracks' line old new (Some fault.Ruling) low stood set below turn begun are = turn (begun.shards line.shard) (turn_knows tracks line old begun are low stood)

-- ---- a line in a host

pub judged_order : (old : Audited) (new : Audited) (line : Line) → ((begun : Begun) → KeepsOrder old.order begun → IsOrdered begun line → ⊥) → Judges old line (Some fault.Order) new
judged_order old new line not_ begun keeps = not_ begun keeps.order

pub judged_turn : (old new : Audited) (line : Line) (wrong : AuditFault) (tracks' : List Tracked) → ((begun : Begun) → KeepsOrder old.order begun → IsOrdered begun line) → Turns old.tracks line (Some wrong) tracks' →
    Judges old line (Some wrong) new
judged_turn old new line fault.Order tracks' ordered turns begun keeps = absurd (turns begun keeps.tracks)
judged_turn old new line fault.Now tracks' ordered turns begun keeps = (ordered begun keeps.order, turns begun keeps.tracks)
judged_turn old new line fault.Ruling tracks' ordered turns begun keeps = let it = turns begun keeps.tracks in (ordered begun keeps.order, it.0, it.1)

pub judged_well : (old new : Audited) (line : Line) → ((begun : Begun) → KeepsOrder old.order begun → IsOrdered begun line) → Turns old.tracks line None new.tracks →
    ((begun : Begun) → KeepsOrder old.order begun → IsOrdered begun line → KeepsOrder new.order (behind_line begun line)) → Judges old line None new
judged_well old new line ordered turns goes begun keeps =
    let it = turns begun keeps.tracks in
    let is = ordered begun keeps.order in
    (record { ordered = is; timed = it.0; ruled = it.1 }, record { order = goes begun keeps.order is; tracks = it.2 })

-- ---- the first bad line

-- the line behind so many legal ones has that fault
pub bad_behind : (begun : Begun) (lines : List Line) (place : ℕ) (line : Line) (wrong : AuditFault) → LegalLines begun (take place lines) → slice_get lines place ≡ Some line →
    HasFault (behind_lines begun (take place lines)) line wrong → IsBadAt begun lines place wrong
bad_behind begun [] place line wrong legal at has = absurd (cc at)
bad_behind begun (one ∷ lines) zero line wrong legal at has = subst (λ (l : Line). HasFault begun l wrong) (sym (some_same one line at)) has
bad_behind begun (one ∷ lines) (suc place) line wrong legal at has = (legal.0, bad_behind (behind_line begun one) lines place line wrong legal.1 at has)

-- one more legal line
legal_push : (begun : Begun) (lines : List Line) (place : ℕ) (line : Line) → LegalLines begun (take place lines) → slice_get lines place ≡ Some line →
    MayCome (behind_lines begun (take place lines)) line → LegalLines begun (take (suc place) lines) × (behind_lines begun (take (suc place) lines) ≡ behind_line (behind_lines begun (take place lines)) line)
legal_push begun [] place line legal at may = absurd (cc at)
legal_push begun (one ∷ lines) zero line legal at may =
    let same = some_same one line at in
    ((subst (λ (l : Line). MayCome begun l) (sym same) may, tt), ap (λ (l : Line). behind_line begun l) same)
legal_push begun (one ∷ lines) (suc place) line legal at may =
    let rest = legal_push (behind_line begun one) lines place line legal.1 at may in
    ((legal.0, rest.0), rest.1)

pub legal_next : (begun : Begun) (lines : List Line) (place : ℕ) (line : Line) → LegalLines begun (take place lines) → slice_get lines place ≡ Some line →
    MayCome (behind_lines begun (take place lines)) line → LegalLines begun (take (place + 1) lines) × (behind_lines begun (take (place + 1) lines) ≡ behind_line (behind_lines begun (take place lines)) line)
legal_next begun lines place line legal at may =
    let next : suc place ≡ place + 1 = omega arith in
    subst (λ n. LegalLines begun (take n lines) × (behind_lines begun (take n lines) ≡ behind_line (behind_lines begun (take place lines)) line)) next (legal_push begun lines place line legal at may)

take_push : {A : Type 0} (xs : List A) (n : ℕ) (x : A) → slice_get xs n ≡ Some x → take (suc n) xs ≡ take n xs ++ x ∷ []
take_push [] n x e = absurd (cc e)
take_push {A = A} (y ∷ xs) zero x e = ap (λ (z : A). z ∷ []) (some_same y x e)
take_push {A = A} (y ∷ xs) (suc n) x e = ap (λ (l : List A). y ∷ l) (take_push xs n x e)

pub take_next : {A : Type 0} (xs : List A) (n : ℕ) (x : A) → slice_get xs n ≡ Some x → take (n + 1) xs ≡ take n xs ++ x ∷ []
take_next {A = A} xs n x e =
    let next : suc n ≡ n + 1 = omega arith in
    subst (λ k. take k xs ≡ take n xs ++ x ∷ []) next (take_push xs n x e)

-- ---- the tracks at the beginning

pub tracks_push : (tracks : List Tracked) (new : Tracked) (opened first : ℕ) → ((shard : ℕ) → shard < length tracks → (track : Tracked) × (slice_get tracks shard ≡ Some track) × IsOpened track [] opened first) → IsOpened new [] opened first →
    (shard : ℕ) → shard < length (tracks ++ new ∷ []) → (track : Tracked) × (slice_get (tracks ++ new ∷ []) shard ≡ Some track) × IsOpened track [] opened first
tracks_push tracks new opened first are is shard below =
    let long = longer tracks new in
    by_eq (length tracks) shard (λ b. (track : Tracked) × (slice_get (tracks ++ new ∷ []) shard ≡ Some track) × IsOpened track [] opened first)
    (λ e. (new, ap (slice_get (tracks ++ new ∷ [])) (sym e) ∙ got_last tracks new, is))
    (λ apart.
    let was = are shard (omega (arith, below, long, apart)) in
    (was.0, got_front tracks new shard was.0 was.1, was.2))
