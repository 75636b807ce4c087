-- One call on the files and their locks.
use Rattle.std.proofs.Common.{◌≡◌, inl, inr, ◌<◌, ◌≤◌, ◌+◌, ◌==◌, ◌||◌, ℕ, zero, suc, max, Bool, true, false, if◌then◌else◌, List, [], ◌∷◌, ◌++◌, length, set, get_or, Option, None, Some, option_map, unwrap_or, refl, sym, ap, subst, ◌∙◌, arith}
use Rattle.std.proofs.lemmas.Bool.Decides.{eqb_tells}
use Rattle.std.specs.Str.{bytes_eq}
use Rattle.outside.specs.Folder.{Files}
use Rattle.wopi_model.specs.declared.calls.Call.{Call}
use Rattle.wopi_model.specs.File.{File, never_met}
use Rattle.wopi_model.specs.Settle.{settled}
use Rattle.wopi_model.specs.Step.{IsOutcome, after_step, decision, Accept}
use Rattle.wopi_model.specs.Host.{new_bytes, brings_contents, most_kept}
use Rattle.kept_locks.proofs.Ending.{ended_shows}
use Rattle.wopi_text.proofs.Disjunctions.{or_none}
use Rattle.host_core.specs.Places.{IsFirst, first_of}
use Rattle.kept_locks.specs.Locks.{Standing, Locks, AreChained, unlocked, ended_at, all_ended}
use Rattle.kept_locks.specs.Ties.{BeganBy}
use Rattle.host_core.specs.Notes.{Brought}
use Rattle.host_core.specs.declared.accept.Carried.{Carried}
use Rattle.host_core.specs.declared.store.StoreRefusal.{StoreRefusal}
use Rattle.host_core.specs.declared.file.KeptFile.{KeptFile}
use Rattle.host_core.specs.Names.{AreWithin, place_in}
use Rattle.host_core.specs.declared.store.StoreRefusal.TheVariants as refusal
use Rattle.host_core.proofs.Decisions.{keeps_self}
use Rattle.host_core.specs.Files.{file_of, files_of, torn_in, is_named}
use Rattle.host_core.specs.Numbers.{named, IsNumbered, AreLocked}
use Rattle.name_index.specs.Index.{number_of}
use Rattle.std.proofs.lemmas.List.{length-map}
use Rattle.host_core.proofs.Turning.{began_ended, began_gone, long_gone, as_of_later}
use Rattle.host_core.specs.Steps.{Moves, Stops, StepsAll, StopsAll, IsNoRoomFor, IsRoomFor}
use Rattle.host_core.specs.Turns.{Turns, AreAsOf, all_gone, gone_at}
use Rattle.host_core.specs.Whole.{Whole, whole, seen, standing_at, joined}
use Rattle.host_core.proofs.Joining.{later, stands_later, joined_cons, files_ended, joined_as, joined_put, joined_push, names_joined, long_joined, get_joined, stands_ended, stands_gone}
use Rattle.host_core.proofs.FileLists.{file_at}
use Rattle.host_core.proofs.Leaving.{none_place, some_is}
use Rattle.host_core.proofs.Moving.{moves_ended}
use Rattle.host_core.proofs.Numbering.{first_named, first_below}
use Rattle.host_core.proofs.Stepping.{met_steps, met_stops, push_steps, skip_steps, turned_away}
use Rattle.host_core.proofs.Stocking.{unmet_place}
use Rattle.host_core.proofs.Stocks.{place_at}

-- a name's place is the same whatever stands under the numbers
pub first_any : (files : List KeptFile) (ss ss' : List Standing) (name : List ℕ) (place : ℕ) → IsFirst (is_named name) (joined files ss) place → IsFirst (is_named name) (joined files ss') place
first_any files ss ss' name place first =
    first_named (joined files ss') name place
    (ap (λ (n : List (List ℕ)). place_in n name) (names_joined files ss' ∙ sym (names_joined files ss)) ∙ place_at (joined files ss) name place first)

pub none_any : (files : List KeptFile) (ss ss' : List Standing) (name : List ℕ) → first_of (is_named name) (joined files ss) ≡ None → first_of (is_named name) (joined files ss') ≡ None
none_any files ss ss' name none =
    unmet_place (joined files ss') name
    (ap (λ (n : List (List ℕ)). place_in n name) (names_joined files ss' ∙ sym (names_joined files ss)) ∙ none_place (joined files ss) name none)

pub place_below : (files : List KeptFile) (ss : List Standing) (name : List ℕ) (place : ℕ) → IsFirst (is_named name) (joined files ss) place → place < length files
place_below files ss name place first = let lt = first_below (is_named name) (joined files ss) place first in let long = long_joined files ss in omega (arith, lt, long)

-- the lock of a name's file is the one under the number of its place
pub lock_at : (oldest : ℕ) (files : List KeptFile) (ss : List Standing) (name : List ℕ) (place : ℕ) → place_in (named files) name ≡ Some place
    → (files_of oldest (joined files ss) name).lock ≡ (standing_at ss place).lock
lock_at oldest [] ss name place e = cc
lock_at oldest (k ∷ files) ss name place e =
    ap (λ (l : List Whole). (files_of oldest l name).lock) (joined_cons k files ss)
    ∙ go (bytes_eq k.name name) (place_in (named files) name) place (λ p h. lock_at oldest files (later ss) name p h) e where
      go : (b : Bool) (o : Option ℕ) (place : ℕ) → ((p : ℕ) → o ≡ Some p → (files_of oldest (joined files (later ss)) name).lock ≡ (standing_at (later ss) p).lock)
          → (if b then Some 0 else option_map suc o) ≡ Some place
          → (unwrap_or (option_map file_of (if b then Some (whole k (standing_at ss 0)) else first_of (is_named name) (joined files (later ss)))) (never_met oldest)).lock ≡ (standing_at ss place).lock
      go true o place rest e = ap (λ (n : ℕ). (standing_at ss n).lock) (some_is 0 place e)
      go false None place rest e = cc
      go false (Some p) place rest e =
          rest p refl ∙ ap (λ (s : Standing). s.lock) (sym (stands_later ss p)) ∙ ap (λ (n : ℕ). (standing_at ss n).lock) (some_is (suc p) place e)

-- a call on a file that was met
pub met_all : (oldest : ℕ) (folder folder' : Option Files) (bytes : ℕ) (v v' : Option Brought) (began count : ℕ) (files : List KeptFile) (place : ℕ) (k k' : KeptFile) (old new : Locks) (call : Call) (opened now : ℕ) (carried : Carried)
    → IsFirst (is_named call.name) (joined files old.files) place → k ≡ get_or files place k → Turns old new place now
    → Moves folder folder' bytes v v' began count (seen k old place) (seen k' new place) call opened now carried
    → StepsAll oldest folder folder' bytes v v' began count (joined files (all_ended now old.files)) (joined (set files place k') new.files) call opened now carried
met_all oldest folder folder' bytes v v' began count files place k k' old new call opened now carried first e turns moves =
    let ended = all_ended now old.files in
    let before = joined files ended in
    let moves' = subst (λ (s : Standing). Moves folder folder' bytes v v' began count (whole k s) (seen k' new place) call opened now carried) (sym (stands_ended now old.files place))
    (moves_ended folder folder' bytes v v' began count k (standing_at old.files place) (seen k' new place) call opened now carried moves) in
    subst (λ (after : List Whole). StepsAll oldest folder folder' bytes v v' began count before after call opened now carried)
    (sym (joined_put files place k' new.files ended (λ n differ. turns.others n differ ∙ sym (stands_ended now old.files n))))
    (met_steps oldest folder folder' bytes v v' began count before place (whole k (standing_at ended place)) (seen k' new place) call opened now carried
    (first_any files old.files ended call.name place first) (get_joined files place k ended e) moves')

pub met_stopped : (oldest : ℕ) (folder folder' : Option Files) (bytes : ℕ) (v v' : Option Brought) (files : List KeptFile) (place : ℕ) (k k' : KeptFile) (old new : Locks) (call : Call) (opened now : ℕ) (why : StoreRefusal)
    → IsFirst (is_named call.name) (joined files old.files) place → k ≡ get_or files place k → new ≡ old
    → Stops folder folder' bytes v v' (seen k old place) (seen k' new place) call opened now why
    → StopsAll oldest folder folder' bytes v v' (joined files old.files) (joined (set files place k') new.files) call opened now why
met_stopped oldest folder folder' bytes v v' files place k k' old new call opened now why first e same stops =
    let before = joined files old.files in
    subst (λ (after : List Whole). StopsAll oldest folder folder' bytes v v' before after call opened now why)
    (sym (joined_put files place k' new.files old.files (λ n differ. ap (λ (l : Locks). standing_at l.files n) same)))
    (met_stops oldest folder folder' bytes v v' before place (seen k old place) (seen k' new place) call opened now why first (get_joined files place k old.files e) stops)

-- the locks after a step
pub locked_turn : (files files' : List KeptFile) (old new : Locks) (place time now : ℕ) → AreLocked files old time → place < length files → length files' ≡ length files → Turns old new place now → AreLocked files' new now
locked_turn files files' old new place time now locked lt long turns = record {
  long = let more = locked.long in let same = turns.long in omega (arith, long, more, same);
  beyond = λ number le.
      let le' : length files ≤ number = omega (arith, le, long) in
      turns.others number (λ e. absurd (omega (arith, e, lt, le'))) ∙ ap (ended_at now) (locked.beyond number le');
  as_of = turns.as_of;
}

pub locked_push : (files : List KeptFile) (k : KeptFile) (old new : Locks) (now : ℕ) → ((number : ℕ) → length files ≤ number → standing_at old.files number ≡ unlocked) → length files < length old.files
    → Turns old new (length files) now → AreLocked (files ++ k ∷ []) new now
locked_push files k old new now beyond room turns =
    let more = long_push files k in
    record {
      long = let same = turns.long in omega (arith, more, room, same);
      beyond = λ number le.
          let le' : length files ≤ number = omega (arith, le, more) in
          turns.others number (λ e. absurd (omega (arith, e, le, more))) ∙ ap (ended_at now) (beyond number le');
      as_of = turns.as_of;
    }
  where
    long_push : (files : List KeptFile) (k : KeptFile) → length (files ++ k ∷ []) ≡ length files + 1
    long_push [] k = omega arith
    long_push (f ∷ files) k = let more = long_push files k in omega (arith, more)

-- a call on a name that wasn't met before, which is met now
pub push_all : (oldest : ℕ) (folder folder' : Option Files) (bytes : ℕ) (v v' : Option Brought) (began count : ℕ) (files : List KeptFile) (number : ℕ) (k k' : KeptFile) (first old new : Locks) (call : Call) (opened now : ℕ) (carried : Carried)
    → first_of (is_named call.name) (joined files first.files) ≡ None → ((n : ℕ) → standing_at old.files n ≡ standing_at first.files n)
    → ((n : ℕ) → length files ≤ n → standing_at first.files n ≡ unlocked)
    → file_of (whole k unlocked) ≡ never_met oldest → k.torn ≡ false → k.name ≡ call.name → number ≡ length files → Turns old new number now
    → Moves folder folder' bytes v v' began count (seen k old number) (seen k' new number) call opened now carried
    → StepsAll oldest folder folder' bytes v v' began count (joined files (all_ended now first.files)) (joined (files ++ k' ∷ []) new.files) call opened now carried
push_all oldest folder folder' bytes v v' began count files number k k' first old new call opened now carried none stands beyond is whole_k named_k at turns moves =
    let ended = all_ended now first.files in
    let before = joined files ended in
    let long : number ≡ length before = at ∙ sym (long_joined files ended) in
    let bare : standing_at old.files number ≡ unlocked = stands number ∙ beyond number (omega (arith, at)) in
    let moves' = subst (λ (s : Standing). Moves folder folder' bytes v v' began count (whole k s) (seen k' new number) call opened now carried) bare moves in
    let after : joined (files ++ k' ∷ []) new.files ≡ before ++ seen k' new number ∷ [] =
    joined_push files k' new.files ended (λ n lt. turns.others n (λ e. absurd (omega (arith, e, lt, at))) ∙ ap (ended_at now) (stands n) ∙ sym (stands_ended now first.files n))
    ∙ ap (λ (n : ℕ). before ++ whole k' (standing_at new.files n) ∷ []) (sym at) in
    subst (λ (l : List Whole). StepsAll oldest folder folder' bytes v v' began count before l call opened now carried) (sym after)
    (push_steps oldest folder folder' bytes v v' began count before number (whole k unlocked) (seen k' new number) call opened now carried
    (none_any files first.files ended call.name none) is whole_k named_k long moves')

bare_of : (oldest : ℕ) (s : Standing) (k : KeptFile) → file_of (whole k s) ≡ never_met oldest → s ≡ unlocked
bare_of oldest s k e =
    let lock : s.lock ≡ None = ap (λ (f : File). f.lock) e in
    let spent : s.spent ≡ [] = ap (λ (f : File). f.spent) e in
    λ i. record { lock = lock i; spent = spent i }

-- a call that was turned away leaves nothing under the number
pub skip_bare : (oldest : ℕ) (folder folder' : Option Files) (bytes : ℕ) (v v' : Option Brought) (began count number : ℕ) (k k' : KeptFile) (old new : Locks) (call : Call) (opened now : ℕ) (carried : Carried)
    → standing_at old.files number ≡ unlocked → file_of (whole k unlocked) ≡ never_met oldest → (carried.ruling.status == 200 || carried.ruling.status == 500) ≡ false
    → Moves folder folder' bytes v v' began count (seen k old number) (seen k' new number) call opened now carried
    → standing_at new.files number ≡ unlocked
skip_bare oldest folder folder' bytes v v' began count number k k' old new call opened now carried bare is turned moves =
    let status = or_none (carried.ruling.status == 200) (carried.ruling.status == 500) turned in
    let was : file_of (seen k old number) ≡ never_met oldest = ap (λ (s : Standing). file_of (whole k s)) bare ∙ is in
    let outcome : IsOutcome (settled (never_met oldest) now) call opened now carried.ruling = subst (λ (f : File). IsOutcome (settled f now) call opened now carried.ruling) was moves.steps.outcome in
    bare_of oldest (standing_at new.files number) k'
    (moves.steps.file ∙ ap (λ (f : File). after_at f) was ∙ turned_away call opened now carried.ruling (settled (never_met oldest) now) outcome status.0 status.1)
  where
    after_at : File → File
    after_at f = after_step (settled f now) call opened now carried.ruling

pub skip_all : (oldest : ℕ) (folder folder' : Option Files) (bytes : ℕ) (v v' : Option Brought) (began count : ℕ) (files : List KeptFile) (number : ℕ) (k k' : KeptFile) (first old new : Locks) (call : Call) (opened now : ℕ) (carried : Carried)
    → first_of (is_named call.name) (joined files first.files) ≡ None → ((n : ℕ) → standing_at old.files n ≡ standing_at first.files n)
    → ((n : ℕ) → length files ≤ n → standing_at first.files n ≡ unlocked)
    → file_of (whole k unlocked) ≡ never_met oldest → k.torn ≡ false → number ≡ length files → Turns old new number now
    → (carried.ruling.status == 200 || carried.ruling.status == 500) ≡ false
    → Moves folder folder' bytes v v' began count (seen k old number) (seen k' new number) call opened now carried
    → StepsAll oldest folder folder' bytes v v' began count (joined files (all_ended now first.files)) (joined files new.files) call opened now carried
skip_all oldest folder folder' bytes v v' began count files number k k' first old new call opened now carried none stands beyond is whole_k at turns turned moves =
    let ended = all_ended now first.files in
    let before = joined files ended in
    let long : number ≡ length before = at ∙ sym (long_joined files ended) in
    let bare : standing_at old.files number ≡ unlocked = stands number ∙ beyond number (omega (arith, at)) in
    let moves' = subst (λ (s : Standing). Moves folder folder' bytes v v' began count (whole k s) (seen k' new number) call opened now carried) bare moves in
    subst (λ (l : List Whole). StepsAll oldest folder folder' bytes v v' began count before l call opened now carried)
    (sym (joined_as files new.files ended (λ n lt. turns.others n (λ e. absurd (omega (arith, e, lt, at))) ∙ ap (ended_at now) (stands n) ∙ sym (stands_ended now first.files n))))
    (skip_steps oldest folder folder' bytes v v' began count before number (whole k unlocked) (seen k' new number) call opened now carried
    (none_any files first.files ended call.name none) is whole_k long turned moves')

pub locked_skip : (files : List KeptFile) (old new : Locks) (number now : ℕ) → ((n : ℕ) → length files ≤ n → standing_at old.files n ≡ unlocked) → length files < length old.files → number ≡ length files
    → standing_at new.files number ≡ unlocked → Turns old new number now → AreLocked files new now
locked_skip files old new number now beyond room at bare turns = record {
  long = let same = turns.long in omega (arith, room, same);
  beyond = λ n le. elim (eqb_tells n number) [
    | inl same ↦ ap (standing_at new.files) same.1 ∙ bare
    | inr other ↦ turns.others n other.1 ∙ ap (ended_at now) (beyond n le)
  ];
  as_of = turns.as_of;
}

-- the locks when those that are over have ended, and ids that are over may have gone
pub locked_gone : (purged : Bool) (files : List KeptFile) (old new : Locks) (time later : ℕ) → AreLocked files old time → time ≤ later → new.files ≡ all_gone purged later old.files → new.latest ≤ max old.latest later → AreChained new
    → AreLocked files new later
locked_gone purged files old new time later locked le is fell chains = record {
  long = let more = locked.long in let same : length new.files ≡ length old.files = ap (λ (l : List Standing). length l) is ∙ long_gone purged later old.files in omega (arith, more, same);
  beyond = λ n lt. ap (λ (l : List Standing). standing_at l n) is ∙ stands_gone purged later old.files n ∙ ap (gone_at purged later) (locked.beyond n lt) ∙ bare_gone purged later;
  as_of = record {
    began = subst (BeganBy later) (sym is) (began_gone purged old.files later later (as_of_later old time later locked.as_of le).began);
    stepped = let by = locked.as_of.stepped in omega (arith, by, le, fell);
    chains = chains;
  };
}
  where
    bare_gone : (purged : Bool) (now : ℕ) → gone_at purged now unlocked ≡ unlocked
    bare_gone false now = refl
    bare_gone true now = refl

-- the locks when time goes on
pub locked_ended : (files : List KeptFile) (old new : Locks) (time later : ℕ) → AreLocked files old time → time ≤ later → new.files ≡ all_ended later old.files → new.latest ≤ old.latest → AreChained new → AreLocked files new later
locked_ended files old new time later locked le is fell chains = record {
  long = let more = locked.long in let same : length new.files ≡ length old.files = ap (λ (l : List Standing). length l) is ∙ length-map old.files (ended_at later) in omega (arith, more, same);
  beyond = λ n lt. ap (λ (l : List Standing). standing_at l n) is ∙ stands_ended later old.files n ∙ ap (ended_at later) (locked.beyond n lt);
  as_of = record {
    began = subst (BeganBy later) (sym is) (began_ended old.files later later (as_of_later old time later locked.as_of le).began);
    stepped = let by = locked.as_of.stepped in omega (arith, by, le, fell);
    chains = chains;
  };
}

-- a name's number is the place of its file
pub found_first : (files : List KeptFile) (ss : List Standing) (index : List (List ℕ × ℕ)) (name : List ℕ) (number : ℕ) → IsNumbered index (named files) → Some number ≡ number_of index name → IsFirst (is_named name) (joined files ss) number
found_first files ss index name number numbered found =
    first_named (joined files ss) name number (ap (λ (n : List (List ℕ)). place_in n name) (names_joined files ss) ∙ sym (numbered name) ∙ sym found)

pub found_none : (files : List KeptFile) (ss : List Standing) (index : List (List ℕ × ℕ)) (name : List ℕ) → IsNumbered index (named files) → None ≡ number_of index name → first_of (is_named name) (joined files ss) ≡ None
found_none files ss index name numbered found =
    unmet_place (joined files ss) name (ap (λ (n : List (List ℕ)). place_in n name) (names_joined files ss) ∙ sym (numbered name) ∙ sym found)

pub fresh_name : (files : List KeptFile) (ss : List Standing) (index : List (List ℕ × ℕ)) (name other : List ℕ) → IsNumbered index (named files) → first_of (is_named name) (joined files ss) ≡ None → other ≡ name → number_of index other ≡ None
fresh_name files ss index name other numbered none same =
    ap (number_of index) same ∙ numbered name ∙ ap (λ (n : List (List ℕ)). place_in n name) (sym (names_joined files ss)) ∙ none_place (joined files ss) name none

pub joined_more : (files files' : List KeptFile) (old new : Locks) → files' ≡ files → ((n : ℕ) → standing_at new.files n ≡ standing_at old.files n) → joined files' new.files ≡ joined files old.files
joined_more files files' old new e stands = ap (λ (f : List KeptFile). joined f new.files) e ∙ joined_as files new.files old.files (λ n lt. stands n)

pub locked_more : (files files' : List KeptFile) (old new : Locks) (time : ℕ) → files' ≡ files → ((n : ℕ) → standing_at new.files n ≡ standing_at old.files n) → ((t : ℕ) → AreAsOf t old → AreAsOf t new)
    → length old.files ≤ length new.files → AreLocked files old time → AreLocked files' new time
locked_more files files' old new time e stands as_of longer locked = subst (λ (f : List KeptFile). AreLocked f new time) (sym e) (record {
  long = let more = locked.long in omega (arith, more, longer);
  beyond = λ n le. stands n ∙ locked.beyond n le;
  as_of = as_of time locked.as_of;
})

-- nothing was done
pub still_all : (oldest : ℕ) (folder : Option Files) (bytes : ℕ) (v : Option Brought) (before after : List Whole) (call : Call) (opened now : ℕ) (why : StoreRefusal) → after ≡ before
    → (why ≡ refusal.Full → ⊥) → StopsAll oldest folder folder bytes v v before after call opened now why
still_all oldest folder bytes v before after call opened now why e never = record {
  shows = record { files = λ name. ap (λ (l : List Whole). files_of oldest l name) e; torn = λ name. ap (λ (l : List Whole). torn_in l name) e };
  stay = refl;
  folder = keeps_self folder;
  full = λ h. absurd (never h);
  within = λ most h. subst (AreWithin most) (sym e) h;
  few = ap (λ (l : List Whole). length l) e;
}

-- a call on a name that wasn't met was stopped
pub stopped_new : (oldest : ℕ) (folder folder' : Option Files) (bytes : ℕ) (v v' : Option Brought) (before after : List Whole) (k k' : Whole) (call : Call) (opened now : ℕ) (why : StoreRefusal) → after ≡ before
    → first_of (is_named call.name) before ≡ None → file_of k ≡ never_met oldest → Stops folder folder' bytes v v' k k' call opened now why
    → StopsAll oldest folder folder' bytes v v' before after call opened now why
stopped_new oldest folder folder' bytes v v' before after k k' call opened now why e none is stops =
    let was : files_of oldest before call.name ≡ file_of k = ap (λ (o : Option Whole). unwrap_or (option_map file_of o) (never_met oldest)) none ∙ sym is in
    record {
      shows = record { files = λ name. ap (λ (l : List Whole). files_of oldest l name) e; torn = λ name. ap (λ (l : List Whole). torn_in l name) e };
      stay = stops.stay;
      folder = stops.folder;
      full = λ h. subst (λ (f : File). IsNoRoomFor f bytes call opened now) (sym was) (stops.full h);
      within = λ most h. subst (AreWithin most) (sym e) h;
      few = ap (λ (l : List Whole). length l) e;
    }

-- the file of a name that wasn't met
pub bare_seen : (oldest : ℕ) (k : KeptFile) (old new : Locks) (files : List KeptFile) (number time : ℕ) → AreLocked files old time → ((n : ℕ) → standing_at new.files n ≡ standing_at old.files n) → number ≡ length files
    → file_of (whole k unlocked) ≡ never_met oldest → file_of (seen k new number) ≡ never_met oldest
bare_seen oldest k old new files number time locked stands at is = ap (λ (s : Standing). file_of (whole k s)) (stands number ∙ locked.beyond number (omega (arith, at))) ∙ is

pub within_at : (most : ℕ) (ws : List Whole) (place : ℕ) (w : Whole) → AreWithin most ws → w ≡ get_or ws place w → place < length ws → w.version ≤ most
within_at most [] place w within e lt = absurd (omega (arith, lt))
within_at most (x ∷ ws) zero w within e lt = subst (λ (y : Whole). y.version ≤ most) (sym e) within.0
within_at most (x ∷ ws) (suc place) w within e lt = within_at most ws place w within.1 e (omega (arith, lt))

pub locked_same : (files files' : List KeptFile) (old new : Locks) (time : ℕ) → length files' ≡ length files → new ≡ old → AreLocked files old time → AreLocked files' new time
locked_same files files' old new time long same locked = subst (λ (l : Locks). AreLocked files' l time) (sym same) (record {
  long = let le = locked.long in omega (arith, le, long);
  beyond = λ n le. locked.beyond n (omega (arith, le, long));
  as_of = locked.as_of;
})

-- the file of a name that was met
pub met_file : (oldest : ℕ) (files : List KeptFile) (ss : List Standing) (name : List ℕ) (number : ℕ) (k : KeptFile) → IsFirst (is_named name) (joined files ss) number → k ≡ get_or files number k
    → files_of oldest (joined files ss) name ≡ file_of (whole k (standing_at ss number))
met_file oldest files ss name number k first e = file_at file_of (never_met oldest) (joined files ss) name number (whole k (standing_at ss number)) first (get_joined files number k ss e)

-- the room for a call is the same once the locks have ended
pub room_raw : (oldest : ℕ) (files : List KeptFile) (ss : List Standing) (name : List ℕ) (kept : ℕ) (call : Call) (opened now : ℕ)
    → IsRoomFor (files_of oldest (joined files (all_ended now ss)) name) kept call opened now → IsRoomFor (files_of oldest (joined files ss) name) kept call opened now
room_raw oldest files ss name kept call opened now room =
    subst (λ (f : File). decision f call opened now ≡ Accept → brings_contents call.act ≡ true → kept + new_bytes call.act ≤ most_kept)
    (ap (λ (f : File). settled f now) (files_ended oldest files ss now name) ∙ ended_shows (files_of oldest (joined files ss) name) now now (omega arith)) room
