-- When the kept files were last saved, and their digests, as one file changes and as entries are made.
use Rattle.std.proofs.Common.{◌≡◌, ◌≢◌, ◌≤◌, ◌<◌, ℕ, max, Bool, true, false, ◌&&◌, ◌==◌, if◌then◌else◌, List, [], ◌∷◌, ◌++◌, length, map, set, get_or, Option, None, Some, refl, sym, ap, subst, ◌∙◌, arith}
use Rattle.std.proofs.lemmas.Slice.Eq.{bytes_eq-Decides}
use Rattle.std.specs.Str.{bytes_eq}
use Rattle.wopi_model.specs.declared.calls.Act.{Act}
use Rattle.wopi_model.specs.declared.calls.Call.{Call}
use Rattle.wopi_model.specs.declared.calls.Ruling.{Ruling}
use Rattle.wopi_model.specs.Begin.{Begin, at_name, new_life}
use Rattle.wopi_model.specs.File.{File}
use Rattle.wopi_model.specs.Host.{brings_contents, file_at, found_at}
use Rattle.wopi_model.specs.Moment.{IsMoment}
use Rattle.wopi_model.specs.Shard as model
use Rattle.wopi_model.specs.Shard.{Item, Tick, Step, Entry, begun, after, at_moment}
use Rattle.wopi_model.specs.Step.{Decision, Accept, decision, ruling_of}
use Rattle.wopi_model.proofs.Histories.{after-append}
use Rattle.host_core.specs.declared.file.KeptFile.{KeptFile}
use Rattle.host_core.specs.Entries.{Made, items_of, history_of}
use Rattle.host_core.specs.Facts.{AreDigested, Dates, IsDated, Marks, MarksAll, date_in, dates_of, is_accept, is_late, late_if, saved_after, saved_at, saves_by, time_after}
use Rattle.host_core.specs.Files.{is_named}
use Rattle.host_core.specs.Names.{place_in}
use Rattle.host_core.specs.Notes.{opening_listed}
use Rattle.host_core.specs.Numbers.{named}
use Rattle.host_core.specs.Places.{first_of}
use Rattle.host_core.specs.Times.{GoesByEntries, IsTimely, happened_of, untimed}
use Rattle.host_core.specs.Value.{state_of}
use Rattle.host_core.specs.Whole.{joined}
use Rattle.kept_locks.specs.Locks.{Standing}
use Rattle.host_core.proofs.Dates.{date_at, date_none, date_push, date_set, moment_if}
use Rattle.host_core.proofs.Decisions.{refused_status}
use Rattle.host_core.proofs.Digesting.{digested_at, digested_push, digested_set, undigested_fits}
use Rattle.host_core.proofs.History.{items_of-push}
use Rattle.host_core.proofs.Joining.{names_joined}
use Rattle.host_core.proofs.Leaving.{none_place}
use Rattle.host_core.proofs.Timing.{after-untimed, found-happened}

-- ---- what a call leaves

pub saves_refused : (asked : Act) (ruling : Ruling) → ruling.status == 200 ≡ false → saves_by asked ruling ≡ false
saves_refused asked ruling e = ap (λ (b : Bool). brings_contents asked && b) e ∙ go (brings_contents asked) where
  go : (b : Bool) → (b && false) ≡ false
  go true = refl
  go false = refl

-- a call that isn't accepted has another status
pub turned_status : (d : Decision) (file : File) (call : Call) (opened now : ℕ) → d ≡ decision file call opened now → d ≢ Accept → (ruling_of d file call now).status == 200 ≡ false
turned_status d file call opened now e differ = ap (λ (x : Decision). (ruling_of x file call now).status == 200) e ∙ refused_status file call opened now (λ h. differ (e ∙ h))

pub marks_same : (k : KeptFile) (asked : Act) (ruling : Ruling) (now : ℕ) → saves_by asked ruling ≡ false → Marks k k asked ruling now
marks_same k asked ruling now none = record { saved = sym (ap (λ (b : Bool). if b then now else k.saved) none); digest = λ own. own }

-- the moment of a name, by whether the call is on it and saved
module _ (files : List KeptFile) (called : List ℕ) (old new now : ℕ) (saving : Bool) (here : date_in files called ≡ old) (is : new ≡ (if saving then now else old)) where
  marked : (name : List ℕ) (b : Bool) → bytes_eq called name ≡ b → (if b then new else date_in files name) ≡ (if b && saving then now else date_in files name)
  marked name true e = is ∙ ap (λ (d : ℕ). if saving then now else d) (sym here ∙ ap (date_in files) ((bytes_eq-Decides called name).0 e))
  marked name false e = refl

pub marks_set : (files : List KeptFile) (n : ℕ) (k k' : KeptFile) (call : Call) (ruling : Ruling) (now : ℕ) → place_in (named files) call.name ≡ Some n → k ≡ get_or files n k → n < length files → k'.name ≡ k.name
    → Marks k k' call.act ruling now → MarksAll files (set files n k') call ruling now
marks_set files n k k' call ruling now at e lt same marks = record {
  dates = λ name. date_set files call.name n k k' at e same name
      ∙ marked files call.name k.saved k'.saved now (saves_by call.act ruling) (date_at files call.name n k at e) marks.saved name (bytes_eq call.name name) refl;
  digests = λ all. digested_set files n k' all (marks.digest (digested_at files n k all e lt));
}

pub unmet_number : (files : List KeptFile) (ss : List Standing) (name : List ℕ) → first_of (is_named name) (joined files ss) ≡ None → place_in (named files) name ≡ None
unmet_number files ss name none = ap (λ (n : List (List ℕ)). place_in n name) (sym (names_joined files ss)) ∙ none_place (joined files ss) name none

pub marks_push : (files : List KeptFile) (k k' : KeptFile) (call : Call) (ruling : Ruling) (now : ℕ) → place_in (named files) call.name ≡ None → k.saved ≡ 0 → k.digest ≡ None → k'.name ≡ call.name
    → Marks k k' call.act ruling now → MarksAll files (files ++ k' ∷ []) call ruling now
marks_push files k k' call ruling now none zero_is bare same marks = record {
  dates = λ name. date_push files call.name k' none same name
      ∙ marked files call.name k.saved k'.saved now (saves_by call.act ruling) (date_none files call.name none ∙ sym zero_is) marks.saved name (bytes_eq call.name name) refl;
  digests = λ all. digested_push files k' all (marks.digest (undigested_fits k bare));
}

pub marks_skip : (files : List KeptFile) (call : Call) (ruling : Ruling) (now : ℕ) → saves_by call.act ruling ≡ false → MarksAll files files call ruling now
marks_skip files call ruling now none = record {
  dates = λ name. sym (ap (λ (s : Bool). if bytes_eq call.name name && s then now else date_in files name) none ∙ never (bytes_eq call.name name) name);
  digests = λ all. all;
}
  where
    never : (b : Bool) (name : List ℕ) → (if b && false then now else date_in files name) ≡ date_in files name
    never true name = refl
    never false name = refl

-- ---- along the entries

time-append : (time : ℕ) (items rest : List Item) → time_after time (items ++ rest) ≡ time_after (time_after time items) rest
time-append time [] rest = refl
time-append time (Tick moment ∷ items) rest = time-append (max time moment) items rest
time-append time (Step entry ∷ items) rest = time-append (max time entry.moment) items rest

saved-append : (time saved : ℕ) (items rest : List Item) (name : List ℕ) → saved_after time saved (items ++ rest) name ≡ saved_after (time_after time items) (saved_after time saved items name) rest name
saved-append time saved [] rest name = refl
saved-append time saved (Tick moment ∷ items) rest name = saved-append (max time moment) saved items rest name
saved-append time saved (Step entry ∷ items) rest name = saved-append (max time entry.moment) _ items rest name

-- a tick saves nothing
pub saved-history : (begin : Begin) (dates : Dates) (made : List Made) (time : ℕ) (name : List ℕ) → saved_at begin dates (history_of made time) name ≡ saved_at begin dates (items_of made) name
saved-history begin dates made time name = saved-append begin.now (at_name 0 dates name) (items_of made) (Tick time ∷ []) name

pub dated_later : (files : List KeptFile) (dates : Dates) (begin : Begin) (items : List Item) (time later : ℕ) → time ≤ later → IsDated files dates begin items time → IsDated files dates begin items later
dated_later files dates begin items time later le dated = record { saved = dated.saved; moments = dated.moments; digests = dated.digests; passed = let passed = dated.passed in omega (arith, passed, le) }

pub dated_same : (files files' : List KeptFile) (dates : Dates) (begin begin' : Begin) (items items' : List Item) (time : ℕ) → files' ≡ files → begin' ≡ begin → items' ≡ items → IsDated files dates begin items time → IsDated files' dates begin' items' time
dated_same files files' dates begin begin' items items' time same_files same_begin same_items dated =
    subst (λ (f : List KeptFile). IsDated f dates begin' items' time) (sym same_files)
    (subst (λ (b : Begin). IsDated files dates b items' time) (sym same_begin)
    (subst (λ (i : List Item). IsDated files dates begin i time) (sym same_items) dated))

-- the entry stands at the shard's time
pub dated_push : (files files' : List KeptFile) (dates : Dates) (begin : Begin) (made : List Made) (one : Made) (time : ℕ) → one.time ≡ max time one.step.moment → IsMoment one.time
    → IsDated files dates begin (items_of made) time → MarksAll files files' one.step.call one.step.ruling one.time → IsDated files' dates begin (items_of (made ++ one ∷ [])) one.time
dated_push files files' dates begin made one time is moment dated marks =
    let before = time_after begin.now (items_of made) in
    let passed : before ≤ time = dated.passed in
    let ticked : max before one.time ≡ one.time = omega (arith, passed, is) in
    let stepped : max (max before one.time) one.step.moment ≡ one.time = omega (arith, passed, is) in
    let call = one.step.call in
    let saving = saves_by call.act one.step.ruling in
    let time_is : time_after begin.now (items_of (made ++ one ∷ [])) ≡ one.time =
    ap (time_after begin.now) (items_of-push made one) ∙ time-append begin.now (items_of made ++ Tick one.time ∷ []) (Step one.step ∷ [])
    ∙ ap (λ (t : ℕ). max t one.step.moment) (time-append begin.now (items_of made) (Tick one.time ∷ [])) ∙ stepped in
    record {
      saved = λ name.
          marks.dates name
          ∙ ap (λ (d : ℕ). if bytes_eq call.name name && saving then one.time else d) (dated.saved name)
          ∙ sym (
          ap (λ (l : List Item). saved_at begin dates l name) (items_of-push made one)
          ∙ saved-append begin.now (at_name 0 dates name) (items_of made ++ Tick one.time ∷ []) (Step one.step ∷ []) name
          ∙ ap (λ (t : ℕ). if bytes_eq call.name name && saving then max t one.step.moment else saved_at begin dates (items_of made ++ Tick one.time ∷ []) name) (time-append begin.now (items_of made) (Tick one.time ∷ []))
          ∙ ap (λ (t : ℕ). if bytes_eq call.name name && saving then t else saved_at begin dates (items_of made ++ Tick one.time ∷ []) name) stepped
          ∙ ap (λ (d : ℕ). if bytes_eq call.name name && saving then one.time else d) (saved-history begin dates made one.time name)
          );
      moments = λ name. subst IsMoment (sym (marks.dates name)) (moment_if (bytes_eq call.name name && saving) one.time (date_in files name) moment (dated.moments name));
      digests = marks.digests dated.digests;
      passed = omega (arith, time_is);
    }

-- as a shard begins
pub dated_start : (files : List KeptFile) (dates : Dates) (begin : Begin) (made : List Made) (time : ℕ) → made ≡ [] → begin.now ≡ time → dates ≡ dates_of files → ((name : List ℕ) → IsMoment (date_in files name)) → AreDigested files → IsDated files dates begin (items_of made) time
dated_start files dates begin made time none now same moments digests = subst (λ (m : List Made). IsDated files dates begin (items_of m) time) (sym none) (record {
  saved = λ name. sym (ap (λ (d : Dates). at_name 0 d name) same);
  moments = moments;
  digests = digests;
  passed = omega (arith, now);
})

pub names_dated : (files : List KeptFile) (opened first : ℕ) → map (λ (one : List ℕ × ℕ). one.0) (dates_of files) ≡ map (λ (one : List ℕ × File). one.0) (new_life (opening_listed files) opened first).files
names_dated [] opened first = refl
names_dated (k ∷ files) opened first = ap (λ (names : List (List ℕ)). k.name ∷ names) (names_dated files opened first)

-- ---- with the ticks and without

saved-untimed : (time saved : ℕ) (made : List Made) (name : List ℕ) → IsTimely time made → saved_after time saved (items_of made) name ≡ saved_after time saved (untimed made) name
saved-untimed time saved [] name t = refl
saved-untimed time saved (one ∷ made) name t =
    let is : one.time ≡ max time one.step.moment = t.0 in
    let later : max (max time one.time) one.step.moment ≡ max time one.step.moment = omega (arith, is) in
    let when = λ (n : ℕ). if bytes_eq one.step.call.name name && saves_by one.step.call.act one.step.ruling then n else saved in
    ap (λ (n : ℕ). saved_after n (when n) (items_of made) name) later
    ∙ saved-untimed (max time one.step.moment) (when (max time one.step.moment)) made name (subst (λ (n : ℕ). IsTimely n made) is t.1)

pub saved-happened : (b : Bool) (begin : Begin) (dates : Dates) (made : List Made) (time : ℕ) (name : List ℕ) → (b ≡ false → GoesByEntries begin.now made time)
    → saved_at begin dates (happened_of b made time) name ≡ saved_at begin dates (history_of made time) name
saved-happened true begin dates made time name goes = refl
saved-happened false begin dates made time name goes =
    sym (saved-history begin dates made time name ∙ saved-untimed begin.now (at_name 0 dates name) made name (goes refl).timely)

-- a save is late by what has happened as it is by the history
pub late-happened : (b : Bool) (begin : Begin) (dates : Dates) (made : List Made) (time : ℕ) (call : Call) (known : Option ℕ) (m : ℕ) → (b ≡ false → GoesByEntries begin.now made time)
    → is_late begin dates (happened_of b made (max time m)) call known m ≡ is_late begin dates (history_of made time) call known m
late-happened b begin dates made time call known m goes =
    let D : Begin → Bool = λ at. is_accept (decision (file_at at call) call at.opened at.now) in
    ap (λ (at : Begin). late_if call.act known (D at) (saved_at begin dates (happened_of b made (max time m)) call.name)) (found-happened b begin made time m goes)
    ∙ ap (late_if call.act known (D (found_at begin (history_of made time) m))) (same b goes) where
      same : (b : Bool) → (b ≡ false → GoesByEntries begin.now made time) → saved_at begin dates (happened_of b made (max time m)) call.name ≡ saved_at begin dates (history_of made time) call.name
      same true goes = saved-history begin dates made (max time m) call.name ∙ sym (saved-history begin dates made time call.name)
      same false goes = saved-happened false begin dates made time call.name goes

-- the contents of a file are the same whether time has gone on or not
pub contents-happened : (b : Bool) (begin : Begin) (made : List Made) (time : ℕ) (name : List ℕ) → (b ≡ false → GoesByEntries begin.now made time)
    → ((after (begun begin) (happened_of b made time)).files name).contents ≡ ((state_of begin made time).files name).contents
contents-happened true begin made time name goes = refl
contents-happened false begin made time name goes =
    let shard = begun begin in
    sym (
    ap (λ (s : model.Shard). (s.files name).contents) (after-append shard (items_of made) (Tick time ∷ []))
    ∙ ap (λ (s : model.Shard). (s.files name).contents) (after-untimed shard made (goes refl).timely)
    )
