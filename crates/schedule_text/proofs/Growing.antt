-- Schedules with one line more.
use Rattle.std.proofs.Common.{◌≡◌, ℕ, Bool, true, false, not, ◌&&◌, ◌||◌, ◌+◌, ◌<◌, ◌≤◌, ◌⊎◌, inl, inr, cond, List, [], ◌∷◌, ◌++◌, length, refl, sym, ap, ◌∙◌, subst, arith}
use Rattle.std.specs.Prelude.{filter}
use Rattle.std.specs.List.{AllByRecursion}
use Rattle.std.proofs.lemmas.List.{append_assoc, append-nil, length-append, map-append}
use Rattle.std.proofs.lemmas.List.Elements.{filter-append}
use Rattle.std.proofs.lemmas.Bool.{or_parts}
use Rattle.std.specs.Str.{bytes_eq}
use Rattle.outside.specs.Folder.{all_differ}
use Rattle.outside.proofs.Distinct.{all_differ-push, all_differ-remove, bytes_eq-swap}
use Rattle.schedule_text.specs.declared.schedule.FileLine.{FileLine}
use Rattle.schedule_text.specs.declared.schedule.SessionLine.{SessionLine}
use Rattle.schedule_text.specs.declared.schedule.Wish.TheVariants as wish
use Rattle.schedule_text.specs.declared.schedule.EventLine.{EventLine}
use Rattle.schedule_text.specs.declared.schedule.EventLine.TheVariants as line
use Rattle.schedule_text.specs.declared.one_line.AnyLine.{AnyLine}
use Rattle.schedule_text.specs.declared.one_line.AnyLine.TheVariants.{File, Session, Event}
use Rattle.wopi_model.specs.Moment.{IsMoment}
use Rattle.schedule_text.specs.Schedules.{AreRestarts, IsEvent, IsRestart, IsSchedule, Lines, most_contents}
use Rattle.schedule_text.specs.Grammar.{AreIssued, AreRows, Each, IsEventRow, IsFileRow, IsSessionRow, most_bytes, most_rows, says}
use Rattle.schedule_text.specs.Readings.{Fits, IsInOrder, IsLine, Suits, is_among, names_of, with_line}
use Rattle.schedule_text.proofs.FittingLines.{among_none, none_among, nonces_of}

-- ---- one row for each

pub each_more : {T : Type 0} (R : List ℕ → T → Type 0) (rows : List (List ℕ)) (xs : List T) (row : List ℕ) (x : T) → Each R rows xs → R row x
    → Each R (rows ++ row ∷ []) (xs ++ x ∷ [])
each_more R [] [] row x h r = (r, tt)
each_more R (a ∷ rows) (y ∷ xs) row x h r = (h.0, each_more R rows xs row x h.1 r)
each_more R [] (y ∷ xs) row x h r = elim h [ ]
each_more R (a ∷ rows) [] row x h r = elim h [ ]

pub each_last : {T : Type 0} (R : List ℕ → T → Type 0) (rows : List (List ℕ)) (row : List ℕ) (xs : List T) → Each R (rows ++ row ∷ []) xs
    → (front : List T) × (x : T) × (xs ≡ front ++ x ∷ []) × Each R rows front × R row x
each_last R [] row [] h = elim h [ ]
each_last R [] row (x ∷ []) h = ([], x, refl, tt, h.0)
each_last R [] row (x ∷ y ∷ xs) h = elim h.1 [ ]
each_last R (a ∷ rows) row [] h = elim h [ ]
each_last R (a ∷ rows) row (x ∷ xs) h =
    let (front, last, is, each, r) = each_last R rows row xs h.1 in (x ∷ front, last, ap (λ l. x ∷ l) is, (h.0, each), r)

pub each_empty : {T : Type 0} (R : List ℕ → T → Type 0) (rows : List (List ℕ)) → Each R rows [] → rows ≡ []
each_empty R [] h = refl
each_empty R (a ∷ rows) h = elim h [ ]

pub each_none : {T : Type 0} (R : List ℕ → T → Type 0) (xs : List T) → Each R [] xs → xs ≡ []
each_none R [] h = refl
each_none R (x ∷ xs) h = elim h [ ]

pub each_length : {T : Type 0} (R : List ℕ → T → Type 0) (rows : List (List ℕ)) (xs : List T) → Each R rows xs → length rows ≡ length xs
each_length R [] [] h = refl
each_length R (a ∷ rows) (x ∷ xs) h = let later = each_length R rows xs h.1 in omega (arith, later)
each_length R [] (x ∷ xs) h = elim h [ ]
each_length R (a ∷ rows) [] h = elim h [ ]

pub no_items : {T : Type 0} (xs : List T) → length xs ≤ 0 → [] ≡ xs
no_items [] h = refl
no_items (x ∷ xs) h = absurd (omega (arith, h))

-- ---- lists and their last

pub last_of : {T : Type 0} (xs : List T) → (xs ≡ []) ⊎ ((front : List T) × (x : T) × (xs ≡ front ++ x ∷ []))
last_of [] = inl refl
last_of (x ∷ xs) = elim (last_of xs) [
  | inl none ↦ inr ([], x, ap (λ l. x ∷ l) none)
  | inr more ↦ inr (x ∷ more.0, more.1, ap (λ l. x ∷ l) more.2)
]

pub same_last : {T : Type 0} (a b : List T) (x y : T) → a ++ x ∷ [] ≡ b ++ y ∷ [] → (a ≡ b) × (x ≡ y)
same_last [] [] x y h = (refl, cc h)
same_last [] (c ∷ b) x y h = absurd (omega (arith, ap length h, length-append b (y ∷ [])))
same_last (c ∷ a) [] x y h = absurd (omega (arith, ap length h, length-append a (x ∷ [])))
same_last (c ∷ a) (d ∷ b) x y h =
    let first : c ≡ d = cc h in
    let rest : a ++ x ∷ [] ≡ b ++ y ∷ [] = cc h in
    let later = same_last a b x y rest in
    (cc (first, later.0), later.1)

pub not_empty_end : {T : Type 0} (a : List T) (x : T) → a ++ x ∷ [] ≡ [] → ⊥
not_empty_end a x h = omega (arith, ap length h, length-append a (x ∷ []))

pub all_more : {T : Type 0} (P : T → Type 0) (xs : List T) (x : T) → AllByRecursion P xs → P x → AllByRecursion P (xs ++ x ∷ [])
all_more P [] x h p = (p, tt)
all_more P (y ∷ xs) x h p = (h.0, all_more P xs x h.1 p)

pub all_front : {T : Type 0} (P : T → Type 0) (xs : List T) (x : T) → AllByRecursion P (xs ++ x ∷ []) → AllByRecursion P xs × P x
all_front P [] x h = (tt, h.0)
all_front P (y ∷ xs) x h = let later = all_front P xs x h.1 in ((h.0, later.0), later.1)

differ_front : (names : List (List ℕ)) (name : List ℕ) → all_differ (names ++ name ∷ []) ≡ true → all_differ names ≡ true
differ_front names name h = ap all_differ (sym (append-nil names)) ∙ all_differ-remove names name [] h

parts_of : (b c : Bool) → (not b && c) ≡ true → (b ≡ false) × (c ≡ true)
parts_of true c e = cc
parts_of false c e = (refl, e)

neither : (b c : Bool) → b ≡ false → c ≡ false → (b || c) ≡ false
neither b c e h = ap (λ x. x || c) e ∙ h

-- ---- what is said

pub said_more : (rows : List (List ℕ)) (row : List ℕ) → says row ≡ true → filter says (rows ++ row ∷ []) ≡ filter says rows ++ row ∷ []
said_more rows row h = filter-append says rows (row ∷ []) ∙ ap (λ (b : Bool). filter says rows ++ cond b (row ∷ []) []) h

pub silent_more : (rows : List (List ℕ)) (row : List ℕ) → says row ≡ false → filter says (rows ++ row ∷ []) ≡ filter says rows
silent_more rows row h = filter-append says rows (row ∷ []) ∙ ap (λ (b : Bool). filter says rows ++ cond b (row ∷ []) []) h ∙ append-nil (filter says rows)

filter_short : (rows : List (List ℕ)) → length (filter says rows) ≤ length rows
filter_short [] = omega arith
filter_short (row ∷ rows) = go (says row) (filter_short rows) where
  go : (b : Bool) → length (filter says rows) ≤ length rows → length (cond b (row ∷ filter says rows) (filter says rows)) ≤ length (row ∷ rows)
  go true h = omega (arith, h)
  go false h = omega (arith, h)

-- there are no more lines than rows
pub count_of : (rows : List (List ℕ)) (lines : Lines) → AreRows rows lines → length lines.files + length lines.sessions + length lines.events ≤ length rows
count_of rows lines are =
    let f = each_length IsFileRow are.files lines.files are.file_rows in
    let s = each_length IsSessionRow are.sessions lines.sessions are.session_rows in
    let e = each_length IsEventRow are.events lines.events are.event_rows in
    let n = length-append are.files (are.sessions ++ are.events) in
    let m = length-append are.sessions are.events in
    let p = ap length are.parts in
    let q = filter_short rows in
    omega (arith, f, s, e, n, m, p, q)

-- ---- schedules

pub event_of : (sessions : List SessionLine) (events : List EventLine) (row : List ℕ) (event : EventLine) → IsEventRow row event → Suits sessions events event
    → IsEvent sessions event
event_of sessions events row (line.Asks s wish.Start) is suits = (suits, tt)
event_of sessions events row (line.Asks s wish.Read) is suits = (suits, tt)
event_of sessions events row (line.Asks s (wish.Save contents)) is suits = (suits, is.1.0.short)
event_of sessions events row (line.Asks s wish.Refresh) is suits = (suits, tt)
event_of sessions events row (line.Asks s wish.Close) is suits = (suits, tt)
event_of sessions events row (line.Deliver request moment) is suits = is.1
event_of sessions events row (line.Answer reply) is suits = tt
event_of sessions events row (line.Lose s) is suits = suits
event_of sessions events row (line.Ticks moment) is suits = is.0
event_of sessions events row (line.Foreign moment ask) is suits =
    let contents = is.asked.contents in
    (is.moment_is, record { expires = is.expires; short = contents.short; target = is.asked.target; bodies = is.asked.bodies; others = suits })
event_of sessions events row (line.Restarts moment) is suits = is.0

suits_of : (sessions : List SessionLine) (events : List EventLine) (event : EventLine) → IsEvent sessions event → AreRestarts sessions (events ++ event ∷ [])
    → Suits sessions events event
suits_of sessions events (line.Asks s wish) is restarts = is.0
suits_of sessions events (line.Deliver request moment) is restarts = tt
suits_of sessions events (line.Answer reply) is restarts = tt
suits_of sessions events (line.Lose s) is restarts = is
suits_of sessions events (line.Ticks moment) is restarts = tt
suits_of sessions events (line.Foreign moment ask) is restarts = is.1.others
suits_of sessions events (line.Restarts moment) is restarts = restarts events [] moment refl

-- restarts come behind nothing, behind one event less, and behind one more
pub no_restart : (sessions : List SessionLine) → AreRestarts sessions []
no_restart sessions front behind moment is = absurd (omega (arith, ap length is, length-append front (line.Restarts moment ∷ behind)))

restarts_less : (sessions : List SessionLine) (events : List EventLine) (event : EventLine) → AreRestarts sessions (events ++ event ∷ []) → AreRestarts sessions events
restarts_less sessions events event restarts front behind moment is =
    restarts front (behind ++ event ∷ []) moment
    (ap (λ (l : List EventLine). l ++ event ∷ []) is ∙ append_assoc front (line.Restarts moment ∷ behind) (event ∷ []))

restarts_more : (sessions : List SessionLine) (events : List EventLine) (event : EventLine) → AreRestarts sessions events → Suits sessions events event
    → AreRestarts sessions (events ++ event ∷ [])
restarts_more sessions events event restarts suits front behind moment is = elim (last_of behind) [
  | inl none ↦
      let whole : events ++ event ∷ [] ≡ front ++ line.Restarts moment ∷ [] = is ∙ ap (λ (l : List EventLine). front ++ (line.Restarts moment ∷ l)) none in
      let same = same_last events front event (line.Restarts moment) whole in
      subst (λ (l : List EventLine). IsRestart sessions l moment) same.0 (subst (Suits sessions events) same.1 suits)
  | inr more ↦
      let whole : events ++ event ∷ [] ≡ (front ++ line.Restarts moment ∷ more.0) ++ more.1 ∷ [] =
      is ∙ ap (λ (l : List EventLine). front ++ (line.Restarts moment ∷ l)) more.2 ∙ sym (append_assoc front (line.Restarts moment ∷ more.0) (more.1 ∷ [])) in
      let same = same_last events (front ++ line.Restarts moment ∷ more.0) event more.1 whole in
      restarts front more.0 moment same.0
]

-- the moment at which a token was issued is one
issued_moment : (words : List (List ℕ)) (issued : ℕ) → AreIssued words issued → IsMoment issued
issued_moment [] issued is = omega (arith, is)
issued_moment (word ∷ []) issued is = is.0
issued_moment (word ∷ other ∷ words) issued is = elim is [ ]

pub grown : (lines : Lines) (row : List ℕ) (one : AnyLine) → IsLine row one → Fits lines one → IsSchedule lines
    → length lines.files + length lines.sessions + length lines.events < 16000 → IsSchedule (with_line lines one)
grown lines row (File file) is fits old few =
    let n = length-append lines.files (file ∷ []) in
    record {
      files_differ = ap all_differ (map-append (λ (f : FileLine). f.name) lines.files (file ∷ [])) ∙ all_differ-push (names_of lines.files) file.name old.files_differ fits.2;
      nonces_differ = old.nonces_differ;
      names = all_more _ lines.files file old.names is.name;
      contents = all_more (λ (f : FileLine). length f.contents ≤ most_contents) lines.files file old.contents is.contents.short;
      nonces = old.nonces;
      few_sessions = old.few_sessions;
      few_lines = omega (arith, n, few);
      tokens = old.tokens;
      each = old.each;
      restarts = old.restarts;
    }
grown lines row (Session session) is fits old few =
    let n = length-append lines.sessions (session ∷ []) in
    let room = fits.1 in
    record {
      files_differ = old.files_differ;
      nonces_differ =
          ap all_differ (map-append (λ (s : SessionLine). s.nonce) lines.sessions (session ∷ [])) ∙ all_differ-push (nonces_of lines.sessions) session.nonce old.nonces_differ (none_among lines.sessions session.nonce fits.2);
      names = old.names;
      contents = old.contents;
      nonces = all_more _ lines.sessions session old.nonces is.nonce;
      few_sessions = omega (arith, n, room);
      few_lines = omega (arith, n, few);
      tokens = all_more _ lines.sessions session old.tokens (is.expires, issued_moment is.last session.issued is.issued);
      each = subst (λ (events : List EventLine). AllByRecursion (IsEvent (lines.sessions ++ session ∷ [])) events) (sym fits.0) tt;
      restarts = subst (λ (events : List EventLine). AreRestarts (lines.sessions ++ session ∷ []) events) (sym fits.0) (no_restart (lines.sessions ++ session ∷ []));
    }
grown lines row (Event event) is fits old few =
    let n = length-append lines.events (event ∷ []) in
    record {
      files_differ = old.files_differ;
      nonces_differ = old.nonces_differ;
      names = old.names;
      contents = old.contents;
      nonces = old.nonces;
      few_sessions = old.few_sessions;
      few_lines = omega (arith, n, few);
      tokens = old.tokens;
      each = all_more (IsEvent lines.sessions) lines.events event old.each (event_of lines.sessions lines.events row event is fits);
      restarts = restarts_more lines.sessions lines.events event old.restarts fits;
    }

-- without its last line it is a schedule too
pub shrunk : (lines : Lines) (one : AnyLine) → IsInOrder lines one → IsSchedule (with_line lines one) → IsSchedule lines
shrunk lines (File file) order new =
    let n = length-append lines.files (file ∷ []) in
    let few = new.few_lines in
    record {
      files_differ = differ_front (names_of lines.files) file.name (ap all_differ (sym (map-append (λ (f : FileLine). f.name) lines.files (file ∷ []))) ∙ new.files_differ);
      nonces_differ = new.nonces_differ;
      names = (all_front _ lines.files file new.names).0;
      contents = (all_front (λ (f : FileLine). length f.contents ≤ most_contents) lines.files file new.contents).0;
      nonces = new.nonces;
      few_sessions = new.few_sessions;
      few_lines = omega (arith, n, few);
      tokens = new.tokens;
      each = new.each;
      restarts = new.restarts;
    }
shrunk lines (Session session) order new =
    let n = length-append lines.sessions (session ∷ []) in
    let few = new.few_lines in
    let room = new.few_sessions in
    record {
      files_differ = new.files_differ;
      nonces_differ =
          differ_front (nonces_of lines.sessions) session.nonce (ap all_differ (sym (map-append (λ (s : SessionLine). s.nonce) lines.sessions (session ∷ []))) ∙ new.nonces_differ);
      names = new.names;
      contents = new.contents;
      nonces = (all_front _ lines.sessions session new.nonces).0;
      few_sessions = omega (arith, n, room);
      few_lines = omega (arith, n, few);
      tokens = (all_front _ lines.sessions session new.tokens).0;
      each = subst (λ (events : List EventLine). AllByRecursion (IsEvent lines.sessions) events) (sym order) tt;
      restarts = subst (λ (events : List EventLine). AreRestarts lines.sessions events) (sym order) (no_restart lines.sessions);
    }
shrunk lines (Event event) order new =
    let n = length-append lines.events (event ∷ []) in
    let few = new.few_lines in
    record {
      files_differ = new.files_differ;
      nonces_differ = new.nonces_differ;
      names = new.names;
      contents = new.contents;
      nonces = new.nonces;
      few_sessions = new.few_sessions;
      few_lines = omega (arith, n, few);
      tokens = new.tokens;
      each = (all_front (IsEvent lines.sessions) lines.events event new.each).0;
      restarts = restarts_less lines.sessions lines.events event new.restarts;
    }

-- texts of which the last differs from the first
apart : (first : List ℕ) (names : List (List ℕ)) (name : List ℕ) → is_among (names ++ name ∷ []) first ≡ false → bytes_eq first name ≡ false
apart first [] name h = bytes_eq-swap name first (or_parts (bytes_eq name first) false h).0
apart first (other ∷ names) name h = apart first names name (or_parts (bytes_eq other first) (is_among (names ++ name ∷ []) first) h).1

-- a name that differs from all before it
new_at_end : (names : List (List ℕ)) (name : List ℕ) → all_differ (names ++ name ∷ []) ≡ true → is_among names name ≡ false
new_at_end [] name h = refl
new_at_end (first ∷ names) name h =
    let parts = parts_of (is_among (names ++ name ∷ []) first) (all_differ (names ++ name ∷ [])) h in
    neither _ _ (apart first names name parts.0) (new_at_end names name parts.1)

-- a line that stands behind others fits there
pub fits_there : (lines : Lines) (one : AnyLine) → IsInOrder lines one → IsSchedule (with_line lines one) → Fits lines one
fits_there lines (File file) order new =
    (order.0, order.1, new_at_end (names_of lines.files) file.name (ap all_differ (sym (map-append (λ (f : FileLine). f.name) lines.files (file ∷ []))) ∙ new.files_differ))
fits_there lines (Session session) order new =
    let n = length-append lines.sessions (session ∷ []) in
    let room = new.few_sessions in (
      order,
      omega (arith, n, room),
      among_none lines.sessions session.nonce
          (new_at_end (nonces_of lines.sessions) session.nonce (ap all_differ (sym (map-append (λ (s : SessionLine). s.nonce) lines.sessions (session ∷ []))) ∙ new.nonces_differ)),
    )
fits_there lines (Event event) order new =
    suits_of lines.sessions lines.events event (all_front (IsEvent lines.sessions) lines.events event new.each).1 new.restarts

-- ---- rows

-- a row more that says nothing
pub silent_next : (rows : List (List ℕ)) (row : List ℕ) (lines : Lines) → AreRows rows lines → length rows < most_rows → length row ≤ most_bytes → says row ≡ false
    → AreRows (rows ++ row ∷ []) lines
silent_next rows row lines are few short silent =
    let n = length-append rows (row ∷ []) in
    record {
      files = are.files;
      sessions = are.sessions;
      events = are.events;
      parts = silent_more rows row silent ∙ are.parts;
      file_rows = are.file_rows;
      session_rows = are.session_rows;
      event_rows = are.event_rows;
      few = omega (arith, n, few);
      short = all_more _ rows row are.short short;
      form = are.form;
    }

-- and one that says a line
pub said_next : (rows : List (List ℕ)) (row : List ℕ) (lines : Lines) (one : AnyLine) → AreRows rows lines → length rows < most_rows → length row ≤ most_bytes
    → says row ≡ true → IsLine row one → Fits lines one → AreRows (rows ++ row ∷ []) (with_line lines one)
said_next rows row lines (File file) are few short said is fits =
    let n = length-append rows (row ∷ []) in
    let count = count_of rows lines are in
    let no_sessions = each_empty IsSessionRow are.sessions (subst (Each IsSessionRow are.sessions) fits.0 are.session_rows) in
    let no_events = each_empty IsEventRow are.events (subst (Each IsEventRow are.events) fits.1 are.event_rows) in
    let none : are.sessions ++ are.events ≡ [] = ap (λ (l : List (List ℕ)). l ++ are.events) no_sessions ∙ no_events in
    record {
      files = are.files ++ row ∷ [];
      sessions = are.sessions;
      events = are.events;
      parts = said_more rows row said ∙ ap (λ (l : List (List ℕ)). l ++ row ∷ []) (are.parts ∙ ap (λ (l : List (List ℕ)). are.files ++ l) none ∙ append-nil are.files)
          ∙ sym (append-nil (are.files ++ row ∷ [])) ∙ ap (λ (l : List (List ℕ)). (are.files ++ row ∷ []) ++ l) (sym none);
      file_rows = each_more IsFileRow are.files lines.files row file are.file_rows is;
      session_rows = are.session_rows;
      event_rows = are.event_rows;
      few = omega (arith, n, few);
      short = all_more _ rows row are.short short;
      form = grown lines row (File file) is fits are.form (omega (arith, count, few));
    }
said_next rows row lines (Session session) are few short said is fits =
    let n = length-append rows (row ∷ []) in
    let count = count_of rows lines are in
    let no_events = each_empty IsEventRow are.events (subst (Each IsEventRow are.events) fits.0 are.event_rows) in
    record {
      files = are.files;
      sessions = are.sessions ++ row ∷ [];
      events = are.events;
      parts = said_more rows row said
          ∙ ap (λ (l : List (List ℕ)). l ++ row ∷ []) (are.parts ∙ ap (λ (l : List (List ℕ)). are.files ++ (are.sessions ++ l)) no_events ∙ ap (λ (l : List (List ℕ)). are.files ++ l) (append-nil are.sessions))
          ∙ append_assoc are.files are.sessions (row ∷ []) ∙ ap (λ (l : List (List ℕ)). are.files ++ l) (sym (append-nil (are.sessions ++ row ∷ [])))
          ∙ ap (λ (l : List (List ℕ)). are.files ++ ((are.sessions ++ row ∷ []) ++ l)) (sym no_events);
      file_rows = are.file_rows;
      session_rows = each_more IsSessionRow are.sessions lines.sessions row session are.session_rows is;
      event_rows = are.event_rows;
      few = omega (arith, n, few);
      short = all_more _ rows row are.short short;
      form = grown lines row (Session session) is fits are.form (omega (arith, count, few));
    }
said_next rows row lines (Event event) are few short said is fits =
    let n = length-append rows (row ∷ []) in
    let count = count_of rows lines are in
    record {
      files = are.files;
      sessions = are.sessions;
      events = are.events ++ row ∷ [];
      parts = said_more rows row said ∙ ap (λ (l : List (List ℕ)). l ++ row ∷ []) are.parts ∙ append_assoc are.files (are.sessions ++ are.events) (row ∷ [])
          ∙ ap (λ (l : List (List ℕ)). are.files ++ l) (append_assoc are.sessions are.events (row ∷ []));
      file_rows = are.file_rows;
      session_rows = are.session_rows;
      event_rows = each_more IsEventRow are.events lines.events row event are.event_rows is;
      few = omega (arith, n, few);
      short = all_more _ rows row are.short short;
      form = grown lines row (Event event) is fits are.form (omega (arith, count, few));
    }
