-- The last row of a schedule.
use Rattle.std.proofs.Common.{◌≡◌, ℕ, true, false, ◌≤◌, inl, inr, List, [], ◌∷◌, ◌++◌, length, sym, ap, ◌∙◌, subst, arith}
use Rattle.std.specs.Prelude.{filter}
use Rattle.std.specs.List.{AllByRecursion}
use Rattle.std.proofs.lemmas.List.{append_assoc, append-nil, length-append}
use Rattle.schedule_text.specs.declared.schedule.FileLine.{FileLine}
use Rattle.schedule_text.specs.declared.schedule.SessionLine.{SessionLine}
use Rattle.schedule_text.specs.declared.schedule.EventLine.{EventLine}
use Rattle.schedule_text.specs.declared.one_line.AnyLine.{AnyLine}
use Rattle.schedule_text.specs.declared.one_line.AnyLine.TheVariants.{File, Session, Event}
use Rattle.schedule_text.specs.Schedules.{IsSchedule, Lines}
use Rattle.schedule_text.specs.Grammar.{AreRows, Each, IsEventRow, IsFileRow, IsSessionRow, most_bytes, most_rows, says}
use Rattle.schedule_text.specs.Readings.{IsInOrder, IsLine, with_line}
use Rattle.schedule_text.proofs.Growing.{all_front, each_last, each_none, last_of, not_empty_end, said_more, same_last, shrunk, silent_more}

abbrev Rows : Type 0
Rows = List (List ℕ)

-- the rows before the last are a schedule, and the last tells of one line more
pub record IsLast (rows : Rows) (row : List ℕ) (whole : Lines) : Type 0 where
  pub old : Lines
  pub one : AnyLine
  pub rows_are : AreRows rows old
  pub tells : IsLine row one
  pub order : IsInOrder old one
  pub with_it : whole ≡ with_line old one

-- the rows of a schedule, in their three parts, of which the last part isn't empty
pub record Parted (rows : Rows) (row : List ℕ) (lines : Lines) (files sessions events : Rows) : Type 0 where
  pub parts : filter says rows ++ row ∷ [] ≡ files ++ (sessions ++ events)
  pub file_rows : Each IsFileRow files lines.files
  pub session_rows : Each IsSessionRow sessions lines.sessions
  pub event_rows : Each IsEventRow events lines.events
  pub few : length rows ≤ most_rows
  pub short : AllByRecursion (λ row. length row ≤ most_bytes) rows
  pub form : IsSchedule lines

by_event : (rows : Rows) (row : List ℕ) (lines : Lines) (files sessions front : Rows) (last : List ℕ)
    → Parted rows row lines files sessions (front ++ last ∷ []) → IsLast rows row lines
by_event rows row lines files sessions front last parted =
    let split : filter says rows ++ row ∷ [] ≡ (files ++ (sessions ++ front)) ++ last ∷ [] =
    parted.parts ∙ ap (λ (l : Rows). files ++ l) (sym (append_assoc sessions front (last ∷ []))) ∙ sym (append_assoc files (sessions ++ front) (last ∷ [])) in
    let same = same_last (filter says rows) (files ++ (sessions ++ front)) row last split in
    let (events, event, are, each, tells) = each_last IsEventRow front last lines.events parted.event_rows in
    let put : List EventLine → Lines = λ l. record { files = lines.files; sessions = lines.sessions; events = l } in
    let whole : lines ≡ with_line (put events) (Event event) = ap put are in
    record {
      old = put events;
      one = Event event;
      rows_are = record {
        files = files;
        sessions = sessions;
        events = front;
        parts = same.0;
        file_rows = parted.file_rows;
        session_rows = parted.session_rows;
        event_rows = each;
        few = parted.few;
        short = parted.short;
        form = shrunk (put events) (Event event) tt (subst IsSchedule whole parted.form);
      };
      tells = subst (λ (r : List ℕ). IsEventRow r event) (sym same.1) tells;
      order = tt;
      with_it = whole;
    }

by_session : (rows : Rows) (row : List ℕ) (lines : Lines) (files front : Rows) (last : List ℕ) → Parted rows row lines files (front ++ last ∷ []) []
    → IsLast rows row lines
by_session rows row lines files front last parted =
    let split : filter says rows ++ row ∷ [] ≡ (files ++ front) ++ last ∷ [] =
    parted.parts ∙ ap (λ (l : Rows). files ++ l) (append-nil (front ++ last ∷ [])) ∙ sym (append_assoc files front (last ∷ [])) in
    let same = same_last (filter says rows) (files ++ front) row last split in
    let (sessions, session, are, each, tells) = each_last IsSessionRow front last lines.sessions parted.session_rows in
    let none = each_none IsEventRow lines.events parted.event_rows in
    let put : List SessionLine → Lines = λ l. record { files = lines.files; sessions = l; events = lines.events } in
    let whole : lines ≡ with_line (put sessions) (Session session) = ap put are in
    record {
      old = put sessions;
      one = Session session;
      rows_are = record {
        files = files;
        sessions = front;
        events = [];
        parts = same.0 ∙ ap (λ (l : Rows). files ++ l) (sym (append-nil front));
        file_rows = parted.file_rows;
        session_rows = each;
        event_rows = parted.event_rows;
        few = parted.few;
        short = parted.short;
        form = shrunk (put sessions) (Session session) none (subst IsSchedule whole parted.form);
      };
      tells = subst (λ (r : List ℕ). IsSessionRow r session) (sym same.1) tells;
      order = none;
      with_it = whole;
    }

by_file : (rows : Rows) (row : List ℕ) (lines : Lines) (front : Rows) (last : List ℕ) → Parted rows row lines (front ++ last ∷ []) [] [] → IsLast rows row lines
by_file rows row lines front last parted =
    let split : filter says rows ++ row ∷ [] ≡ front ++ last ∷ [] = parted.parts ∙ append-nil (front ++ last ∷ []) in
    let same = same_last (filter says rows) front row last split in
    let (files, file, are, each, tells) = each_last IsFileRow front last lines.files parted.file_rows in
    let no_sessions = each_none IsSessionRow lines.sessions parted.session_rows in
    let no_events = each_none IsEventRow lines.events parted.event_rows in
    let put : List FileLine → Lines = λ l. record { files = l; sessions = lines.sessions; events = lines.events } in
    let whole : lines ≡ with_line (put files) (File file) = ap put are in
    record {
      old = put files;
      one = File file;
      rows_are = record {
        files = front;
        sessions = [];
        events = [];
        parts = same.0 ∙ sym (append-nil front);
        file_rows = each;
        session_rows = parted.session_rows;
        event_rows = parted.event_rows;
        few = parted.few;
        short = parted.short;
        form = shrunk (put files) (File file) (no_sessions, no_events) (subst IsSchedule whole parted.form);
      };
      tells = subst (λ (r : List ℕ). IsFileRow r file) (sym same.1) tells;
      order = (no_sessions, no_events);
      with_it = whole;
    }

by_parts : (rows : Rows) (row : List ℕ) (lines : Lines) (files sessions events : Rows) → Parted rows row lines files sessions events → IsLast rows row lines
by_parts rows row lines files sessions events parted = elim (last_of events) [
  | inr more ↦ by_event rows row lines files sessions more.0 more.1 (subst (λ (l : Rows). Parted rows row lines files sessions l) more.2 parted)
  | inl none ↦ elim (last_of sessions) [
    | inr more ↦ by_session rows row lines files more.0 more.1
        (subst (λ (l : Rows). Parted rows row lines files l []) more.2 (subst (λ (l : Rows). Parted rows row lines files sessions l) none parted))
    | inl without ↦ elim (last_of files) [
      | inr more ↦ by_file rows row lines more.0 more.1
          (subst (λ (l : Rows). Parted rows row lines l [] []) more.2
          (subst (λ (l : Rows). Parted rows row lines files l []) without (subst (λ (l : Rows). Parted rows row lines files sessions l) none parted)))
      | inl nothing ↦
          let empty = subst (λ (l : Rows). Parted rows row lines l [] []) nothing
          (subst (λ (l : Rows). Parted rows row lines files l []) without (subst (λ (l : Rows). Parted rows row lines files sessions l) none parted)) in
          absurd (not_empty_end (filter says rows) row empty.parts)
    ]
  ]
]

-- the row behind others that are a schedule with it, where it says something
pub last_row : (rows : Rows) (row : List ℕ) (lines : Lines) → AreRows (rows ++ row ∷ []) lines → says row ≡ true → IsLast rows row lines
last_row rows row lines are said =
    let n = length-append rows (row ∷ []) in
    let few = are.few in
    by_parts rows row lines are.files are.sessions are.events (record {
      parts = sym (said_more rows row said) ∙ are.parts;
      file_rows = are.file_rows;
      session_rows = are.session_rows;
      event_rows = are.event_rows;
      few = omega (arith, n, few);
      short = (all_front _ rows row are.short).0;
      form = are.form;
    })

-- and where it says nothing
pub silent_last : (rows : Rows) (row : List ℕ) (lines : Lines) → AreRows (rows ++ row ∷ []) lines → says row ≡ false → AreRows rows lines
silent_last rows row lines are silent =
    let n = length-append rows (row ∷ []) in
    let few = are.few in
    record {
      files = are.files;
      sessions = are.sessions;
      events = are.events;
      parts = sym (silent_more rows row silent) ∙ are.parts;
      file_rows = are.file_rows;
      session_rows = are.session_rows;
      event_rows = are.event_rows;
      few = omega (arith, n, few);
      short = (all_front _ rows row are.short).0;
      form = are.form;
    }
