-- Lines of a log, as a beginning or one is appended, or one settled or taken back.
use Rattle.std.proofs.Common.{◌≡◌, ◌≤◌, ℕ, Bool, true, false, List, [], ◌∷◌, ◌++◌, Option, None, Some, refl, sym, ap, subst, ◌∙◌, append-nil, arith}
use Rattle.std.specs.Prelude.{is_some}
use Rattle.std.specs.Io.KnownBytes.{Appends}
use Rattle.outside.specs.Faults.{Rose}
use Rattle.outside.specs.Log.{IsFront}
use Rattle.outside.specs.Stream.{GrewByPrefix}
use Rattle.wopi_model.specs.Begin.{Begin}
use Rattle.host_core.specs.Entries.{Made}
use Rattle.host_log.specs.Rows.{Counts, TakenBack, IsLog, IsTail, begin_text, is_synced, entry_text, off_line, rows_text, standing_text}
use Rattle.host_log.specs.Lines.{AreLines, GoesOn, IsUntouched, LinesView}
use Rattle.host_log.proofs.Growing.{log_new, log_cut, log_begun, cut_in_doubt, log_longer, log_synced, log_reached, log_idle, log_sure, front_in_doubt, back_in_doubt, rose_from}

-- what stands in a log that isn't lost
pub log_of : (v : LinesView) → AreLines v → v.lost ≡ false → (standing : Option Made) → v.standing ≡ standing → IsLog v.all v.start v.held v.synced v.head v.told (standing_text standing)
log_of v are fine standing is =
    let tail_is : IsTail v.head v.told false v.standing v.doubt are.tail = subst (λ (b : Bool). IsTail v.head v.told b v.standing v.doubt are.tail) fine are.tail_is in
    subst (λ (l : List ℕ). IsLog v.all v.start v.held v.synced v.head v.told l) (tail_is ∙ ap standing_text is) are.log

-- what it held at the start stands first
pub front_of : (v : LinesView) → AreLines v → IsFront v.start v.held
front_of v are = (v.head ++ (rows_text (are.log.sure ++ are.log.loose) ++ are.tail), are.log.grew)

-- nothing was appended yet
pub lines_new : (every : Bool) (start held synced : Option (List ℕ)) (told : List Made) (began faults : ℕ) → start ≡ held → synced ≡ held → told ≡ [] → began ≡ faults
    → AreLines (record { all = every; start = start; held = held; synced = synced; untouched = true; head = []; told = told; standing = None; lost = false; doubt = None; began = began; faults = faults })
lines_new every start held synced told began faults same all empty none =
    let one : IsLog every held held synced [] [] [] = subst (λ (s : Option (List ℕ)). IsLog every held held s [] [] []) (sym all) (log_new every held) in
    let two : IsLog every start held synced [] [] [] = subst (λ (s : Option (List ℕ)). IsLog every s held synced [] [] []) (sym same) one in
    record {
      tail = [];
      tail_is = refl;
      log = subst (λ (l : List Made). IsLog every start held synced [] l []) (sym empty) two;
      fresh = λ _. record { held = sym same; synced = all ∙ sym same; head = refl; told = empty; standing = refl; fine = refl; doubt = refl };
      sure = λ some. absurd (cc (some));
      rose = λ lost. absurd (cc (lost));
      counts = omega (arith, none);
    }

resynced : (v : LinesView) (held synced synced' : Option (List ℕ)) (told : List Made) (tail : List ℕ) → synced' ≡ synced → IsLog v.all v.start held synced v.head told tail → IsLog v.all v.start held synced' v.head told tail
resynced v held synced synced' told tail same log = subst (λ (s : Option (List ℕ)). IsLog v.all v.start held s v.head told tail) (sym same) log

never : (v : LinesView) (now : ℕ) → v.lost ≡ false → v.lost ≡ true → Rose v.began now
never v now fine lost = let no : false ≡ true = sym fine ∙ lost in absurd (cc (no))

-- there is one, and there is none
pub none_stands : {X : Type 0} (o : Option X) (P : Type 0) → o ≡ None → is_some o ≡ true → P
none_stands {X} o P none some = let no : false ≡ true = sym (ap (λ (p : Option X). is_some p) none) ∙ some in absurd (cc (no))

-- there is one
pub some_of : {X : Type 0} (o : Option X) → is_some o ≡ true → (one : X) × (o ≡ Some one)
some_of None is = absurd (cc (is))
some_of (Some one) is = (one, refl)

-- there is none
pub none_of : {X : Type 0} (o : Option X) → is_some o ≡ false → o ≡ None
none_of None is = refl
none_of (Some one) is = absurd (cc (is))

-- no line stands where nothing was appended
stands_untouched : (v : LinesView) (one : Made) (P : Type 0) → AreLines v → v.standing ≡ Some one → v.untouched ≡ true → P
stands_untouched v one P are is new = none_stands v.standing P (are.fresh new).standing (ap (λ (o : Option Made). is_some o) is)

-- what is told of the log at its start
from_start : (v : LinesView) (held : Option (List ℕ)) (text : List ℕ) → IsUntouched v → Appends v.held held text → Appends v.start held text
from_start v held text new grew = subst (λ (s : Option (List ℕ)). Appends s held text) new.held grew

-- nothing was told and no beginning stands there
headed : (v : LinesView) (held synced : Option (List ℕ)) (tail : List ℕ) → IsUntouched v → IsLog v.all v.start held synced [] [] tail → IsLog v.all v.start held synced v.head v.told tail
headed v held synced tail new log =
    let told : IsLog v.all v.start held synced [] v.told tail = subst (λ (l : List Made). IsLog v.all v.start held synced [] l tail) (sym new.told) log in
    subst (λ (h : List ℕ). IsLog v.all v.start held synced h v.told tail) (sym new.head) told

-- a front of a beginning was appended, and some of it was synced
pub begun_torn : (v : LinesView) (held synced : Option (List ℕ)) (faults shard : ℕ) (begin : Begin) → AreLines v → v.untouched ≡ true
    → GrewByPrefix v.held held (begin_text shard begin) → IsFront v.synced synced → v.faults ≤ faults → Rose v.faults faults
    → AreLines (record v { untouched = false; held = held; synced = synced; lost = true; faults = faults })
begun_torn v held synced faults shard begin are untouched grew front le rose =
    let new = are.fresh untouched in
    let reached : IsFront v.start synced = subst (λ (s : Option (List ℕ)). IsFront s synced) new.synced front in
    let cut : IsLog v.all v.start held synced [] [] grew.0 = log_cut v.all v.start held synced grew.0 (from_start v held grew.0 new grew.3) reached in
    record {
      tail = grew.0;
      tail_is = (new.standing, cut_in_doubt v.head v.told v.doubt grew.0 new.doubt new.head new.told (shard, begin, grew.1, grew.2));
      log = headed v held synced grew.0 new cut;
      fresh = λ is. absurd (cc (is));
      sure = none_stands v.standing _ new.standing;
      rose = λ _. rose_from v.began v.faults faults are.counts rose;
      counts = let counts = are.counts in omega (arith, counts, le);
    }

-- a beginning was appended and synced
pub begun_sure : (v : LinesView) (held synced : Option (List ℕ)) (head : List ℕ) (faults shard : ℕ) (begin : Begin) → AreLines v → v.untouched ≡ true
    → Appends v.held held (begin_text shard begin) → synced ≡ held → head ≡ begin_text shard begin → v.faults ≤ faults
    → AreLines (record v { untouched = false; head = head; held = held; synced = synced; faults = faults })
begun_sure v held synced head faults shard begin are untouched grew all is le =
    let new = are.fresh untouched in
    let there : Appends v.held held head = subst (Appends v.held held) (sym is) grew in
    let log : IsLog v.all v.start held held head [] [] = log_begun v.all v.start held head (from_start v held head new there) in
    let reached : IsLog v.all v.start held synced head [] [] = subst (λ (s : Option (List ℕ)). IsLog v.all v.start held s head [] []) (sym all) log in
    record {
      tail = [];
      tail_is = subst (λ (b : Bool). IsTail head v.told b v.standing v.doubt []) (sym new.fine) (ap standing_text (sym new.standing));
      log = subst (λ (l : List Made). IsLog v.all v.start held synced head l []) (sym new.told) reached;
      fresh = λ is. absurd (cc (is));
      sure = none_stands v.standing _ new.standing;
      rose = never v faults new.fine;
      counts = let counts = are.counts in omega (arith, counts, le);
    }

-- a front of a line was appended
pub lines_torn : (v : LinesView) (held synced : Option (List ℕ)) (doubt : Option Made) (faults : ℕ) (one : Made) → AreLines v → v.lost ≡ false → v.standing ≡ None
    → GrewByPrefix v.held held (entry_text one) → synced ≡ v.synced → doubt ≡ Some one → v.faults ≤ faults → Rose v.faults faults
    → AreLines (record v { untouched = false; held = held; synced = synced; lost = true; doubt = doubt; faults = faults })
lines_torn v held synced doubt faults one are fine free grew same at le rose = record {
  tail = grew.0;
  tail_is = (free, front_in_doubt v.head v.told doubt one grew.0 grew.1 at grew.2);
  log = resynced v held v.synced synced v.told grew.0 same (log_longer v.all v.start v.held held v.synced v.head v.told [] grew.0 (log_of v are fine None free) grew.3);
  fresh = λ is. absurd (cc (is));
  sure = none_stands v.standing _ free;
  rose = λ _. rose_from v.began v.faults faults are.counts rose;
  counts = let counts = are.counts in omega (arith, counts, le);
}

-- a line was appended, and it may be that it isn't synced
pub lines_unsynced : (v : LinesView) (between held synced' synced : Option (List ℕ)) (doubt : Option Made) (before faults : ℕ) (one : Made) → AreLines v → v.lost ≡ false
    → v.standing ≡ None → Appends v.held between (entry_text one) → held ≡ between → synced' ≡ v.synced → IsFront synced' synced → doubt ≡ Some one → v.faults ≤ before
    → before ≤ faults → Rose before faults → AreLines (record v { untouched = false; held = held; synced = synced; lost = true; doubt = doubt; faults = faults })
lines_unsynced v between held synced' synced doubt before faults one are fine free grew same kept front at le le' rose =
    let longer : IsLog v.all v.start between v.synced v.head v.told (entry_text one) = log_longer v.all v.start v.held between v.synced v.head v.told [] (entry_text one) (log_of v are fine None free) grew in
    let there : IsLog v.all v.start held v.synced v.head v.told (entry_text one) = subst (λ (h : Option (List ℕ)). IsLog v.all v.start h v.synced v.head v.told (entry_text one)) (sym same) longer in
    record {
      tail = entry_text one;
      tail_is = (free, front_in_doubt v.head v.told doubt one (entry_text one) [] at (sym (append-nil (entry_text one))));
      log = log_reached v.all v.start held synced' synced v.head v.told (entry_text one) (resynced v held v.synced synced' v.told (entry_text one) kept there) front;
      fresh = λ is. absurd (cc (is));
      sure = none_stands v.standing _ free;
      rose = λ _. let counts = are.counts in rose_from v.began before faults (omega (arith, counts, le)) rose;
      counts = let counts = are.counts in omega (arith, counts, le, le');
    }

-- a line that changed nothing was appended
pub lines_idle : (v : LinesView) (held synced : Option (List ℕ)) (told : List Made) (faults : ℕ) (one : Made) → AreLines v → v.lost ≡ false → v.standing ≡ None
    → Appends v.held held (entry_text one) → synced ≡ v.synced → is_synced v.all one ≡ false → told ≡ v.told ++ one ∷ [] → v.faults ≤ faults
    → AreLines (record v { untouched = false; held = held; synced = synced; told = told; faults = faults })
lines_idle v held synced told faults one are fine free grew same idle more le =
    let longer : IsLog v.all v.start held v.synced v.head v.told (entry_text one) = log_longer v.all v.start v.held held v.synced v.head v.told [] (entry_text one) (log_of v are fine None free) grew in
    let row : IsLog v.all v.start held v.synced v.head (v.told ++ one ∷ []) [] = log_idle v.all v.start held v.synced v.head v.told (Counts one) idle longer in
    record {
      tail = [];
      tail_is = subst (λ (b : Bool). IsTail v.head told b v.standing v.doubt []) (sym fine) (ap standing_text (sym free));
      log = resynced v held v.synced synced told [] same (subst (λ (l : List Made). IsLog v.all v.start held v.synced v.head l []) (sym more) row);
      fresh = λ is. absurd (cc (is));
      sure = none_stands v.standing _ free;
      rose = never v faults fine;
      counts = let counts = are.counts in omega (arith, counts, le);
    }

all_synced : (v : LinesView) (between held synced : Option (List ℕ)) (tail : List ℕ) → held ≡ between → synced ≡ between → IsLog v.all v.start between v.synced v.head v.told tail → IsLog v.all v.start held held v.head v.told tail
all_synced v between held synced tail same all log =
    subst (λ (h : Option (List ℕ)). IsLog v.all v.start h h v.head v.told tail) (sym same) (log_synced v.all v.start between v.synced v.head v.told tail log)

-- a line was appended and synced
pub lines_sure : (v : LinesView) (between held synced : Option (List ℕ)) (told : List Made) (faults : ℕ) (one : Made) → AreLines v → v.lost ≡ false → v.standing ≡ None
    → Appends v.held between (entry_text one) → held ≡ between → synced ≡ between → told ≡ v.told ++ one ∷ [] → v.faults ≤ faults
    → AreLines (record v { untouched = false; held = held; synced = synced; told = told; faults = faults })
lines_sure v between held synced told faults one are fine free grew same all more le =
    let longer : IsLog v.all v.start between v.synced v.head v.told (entry_text one) = log_longer v.all v.start v.held between v.synced v.head v.told [] (entry_text one) (log_of v are fine None free) grew in
    let row : IsLog v.all v.start held held v.head (v.told ++ one ∷ []) [] = log_sure v.all v.start held v.head v.told (Counts one) (all_synced v between held synced (entry_text one) same all longer) in
    record {
      tail = [];
      tail_is = subst (λ (b : Bool). IsTail v.head told b v.standing v.doubt []) (sym fine) (ap standing_text (sym free));
      log = resynced v held held synced told [] (all ∙ sym same) (subst (λ (l : List Made). IsLog v.all v.start held held v.head l []) (sym more) row);
      fresh = λ is. absurd (cc (is));
      sure = none_stands v.standing _ free;
      rose = never v faults fine;
      counts = let counts = are.counts in omega (arith, counts, le);
    }

-- a line was appended and synced, and may yet be taken back
pub lines_stand : (v : LinesView) (between held synced : Option (List ℕ)) (standing : Option Made) (faults : ℕ) (one : Made) → AreLines v → v.lost ≡ false → v.standing ≡ None
    → Appends v.held between (entry_text one) → held ≡ between → synced ≡ between → standing ≡ Some one → v.faults ≤ faults
    → AreLines (record v { untouched = false; held = held; synced = synced; standing = standing; faults = faults })
lines_stand v between held synced standing faults one are fine free grew same all is le =
    let longer : IsLog v.all v.start between v.synced v.head v.told (entry_text one) = log_longer v.all v.start v.held between v.synced v.head v.told [] (entry_text one) (log_of v are fine None free) grew in
    record {
      tail = entry_text one;
      tail_is = subst (λ (b : Bool). IsTail v.head v.told b standing v.doubt (entry_text one)) (sym fine) (ap standing_text (sym is));
      log = resynced v held held synced v.told (entry_text one) (all ∙ sym same) (all_synced v between held synced (entry_text one) same all longer);
      fresh = λ is. absurd (cc (is));
      sure = λ _. all ∙ sym same;
      rose = never v faults fine;
      counts = let counts = are.counts in omega (arith, counts, le);
    }

-- a front of what takes a line back was appended
pub back_torn : (v : LinesView) (held synced : Option (List ℕ)) (standing doubt : Option Made) (faults : ℕ) (one : Made) → AreLines v → v.lost ≡ false → v.standing ≡ Some one
    → standing ≡ None → GrewByPrefix v.held held off_line → synced ≡ v.synced → doubt ≡ Some one → v.faults ≤ faults → Rose v.faults faults
    → AreLines (record v { held = held; synced = synced; standing = standing; lost = true; doubt = doubt; faults = faults })
back_torn v held synced standing doubt faults one are fine is free grew same at le rose = record {
  tail = entry_text one ++ grew.0;
  tail_is = (free, back_in_doubt v.head v.told doubt one grew.0 grew.1 at grew.2);
  log = resynced v held v.synced synced v.told (entry_text one ++ grew.0) same (log_longer v.all v.start v.held held v.synced v.head v.told (entry_text one) grew.0 (log_of v are fine (Some one) is) grew.3);
  fresh = λ new. stands_untouched v one _ are is new;
  sure = none_stands standing _ free;
  rose = λ _. rose_from v.began v.faults faults are.counts rose;
  counts = let counts = are.counts in omega (arith, counts, le);
}

-- a line was taken back, and it may be that this isn't synced
pub back_unsynced : (v : LinesView) (between held synced' synced : Option (List ℕ)) (standing doubt : Option Made) (before faults : ℕ) (one : Made) → AreLines v → v.lost ≡ false
    → v.standing ≡ Some one → standing ≡ None → Appends v.held between off_line → held ≡ between → synced' ≡ v.synced → IsFront synced' synced → doubt ≡ Some one → v.faults ≤ before
    → before ≤ faults → Rose before faults → AreLines (record v { held = held; synced = synced; standing = standing; lost = true; doubt = doubt; faults = faults })
back_unsynced v between held synced' synced standing doubt before faults one are fine is free grew same kept front at le le' rose =
    let text = entry_text one ++ off_line in
    let longer : IsLog v.all v.start between v.synced v.head v.told text = log_longer v.all v.start v.held between v.synced v.head v.told (entry_text one) off_line (log_of v are fine (Some one) is) grew in
    let there : IsLog v.all v.start held v.synced v.head v.told text = subst (λ (h : Option (List ℕ)). IsLog v.all v.start h v.synced v.head v.told text) (sym same) longer in
    record {
      tail = text;
      tail_is = (free, back_in_doubt v.head v.told doubt one off_line [] at (sym (append-nil off_line)));
      log = log_reached v.all v.start held synced' synced v.head v.told text (resynced v held v.synced synced' v.told text kept there) front;
      fresh = λ new. stands_untouched v one _ are is new;
      sure = none_stands standing _ free;
      rose = λ _. let counts = are.counts in rose_from v.began before faults (omega (arith, counts, le)) rose;
      counts = let counts = are.counts in omega (arith, counts, le, le');
    }

-- a line was taken back
pub back_sure : (v : LinesView) (between held synced : Option (List ℕ)) (standing : Option Made) (faults : ℕ) (one : Made) → AreLines v → v.lost ≡ false → v.standing ≡ Some one → standing ≡ None
    → Appends v.held between off_line → held ≡ between → synced ≡ between → v.faults ≤ faults
    → AreLines (record v { held = held; synced = synced; standing = standing; faults = faults })
back_sure v between held synced standing faults one are fine is free grew same all le =
    let text = entry_text one ++ off_line in
    let longer : IsLog v.all v.start between v.synced v.head v.told text = log_longer v.all v.start v.held between v.synced v.head v.told (entry_text one) off_line (log_of v are fine (Some one) is) grew in
    let row : IsLog v.all v.start held held v.head (v.told ++ []) [] = log_sure v.all v.start held v.head v.told (TakenBack one) (all_synced v between held synced text same all longer) in
    record {
      tail = [];
      tail_is = subst (λ (b : Bool). IsTail v.head v.told b standing v.doubt []) (sym fine) (ap standing_text (sym free));
      log = resynced v held held synced v.told [] (all ∙ sym same) (subst (λ (l : List Made). IsLog v.all v.start held held v.head l []) (append-nil v.told) row);
      fresh = λ new. stands_untouched v one _ are is new;
      sure = none_stands standing _ free;
      rose = never v faults fine;
      counts = let counts = are.counts in omega (arith, counts, le);
    }

-- a line that stands is an entry's
pub lines_settled : (v : LinesView) (told : List Made) (standing : Option Made) (one same : Made) → AreLines v → v.lost ≡ false → v.standing ≡ Some one → standing ≡ None
    → entry_text one ≡ entry_text same → told ≡ v.told ++ same ∷ [] → AreLines (record v { told = told; standing = standing })
lines_settled v told standing one same are fine is free text more =
    let all : v.synced ≡ v.held = are.sure (ap (λ (o : Option Made). is_some o) is) in
    let log : IsLog v.all v.start v.held v.held v.head v.told (entry_text one) = subst (λ (s : Option (List ℕ)). IsLog v.all v.start v.held s v.head v.told (entry_text one)) all (log_of v are fine (Some one) is) in
    let line : IsLog v.all v.start v.held v.held v.head v.told (entry_text same) = subst (λ (l : List ℕ). IsLog v.all v.start v.held v.held v.head v.told l) text log in
    let row : IsLog v.all v.start v.held v.held v.head (v.told ++ same ∷ []) [] = log_sure v.all v.start v.held v.head v.told (Counts same) line in
    record {
      tail = [];
      tail_is = subst (λ (b : Bool). IsTail v.head told b standing v.doubt []) (sym fine) (ap standing_text (sym free));
      log = resynced v v.held v.held v.synced told [] all (subst (λ (l : List Made). IsLog v.all v.start v.held v.held v.head l []) (sym more) row);
      fresh = λ new. stands_untouched v one _ are is new;
      sure = none_stands standing _ free;
      rose = never v v.faults fine;
      counts = are.counts;
    }

-- one call after another
pub goes_both : (a b c : LinesView) → GoesOn a b → GoesOn b c → GoesOn a c
goes_both a b c first second =
    let before = first.never_falls in
    let after = second.never_falls in
    record {
      all = second.all ∙ first.all;
      lost = λ fine. first.lost (second.lost fine);
      start = second.start ∙ first.start;
      head = second.head ∙ first.head;
      began = second.began ∙ first.began;
      never_falls = omega (arith, before, after);
    }
