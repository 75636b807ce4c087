-- A text is one schedule: what its lines say is read off their words.
use Rattle.std.proofs.Common.{◌≡◌, ℕ, zero, suc, Bool, true, false, cond, ◌+◌, ◌-◌, ◌<◌, ◌^◌, inl, inr, List, [], ◌∷◌, ◌++◌, length, Result, Ok, Err, Option, None, Some, unwrap_or, refl, sym, ap, ◌∙◌, subst, arith}
use Rattle.std.specs.Prelude.{codes, decimal, if◌then◌else◌}
use Rattle.std.specs.List.{list_all}
use Rattle.std.specs.Char.{is_ascii_digit}
use Rattle.std.specs.Str.{bytes_eq}
use Rattle.std.proofs.lemmas.List.{length-append}
use Rattle.hex.specs.Hex.{decode_of, lower_digits}
use Rattle.hex.proofs.HexLemmas.{decode_of-encode_lower, length-encode_with}
use Rattle.wopi_text.specs.FileName.{IsFileName}
use Rattle.wopi_text.specs.Ids.{id_of}
use Rattle.wopi_text.specs.Decimals.{decimal_of}
use Rattle.wopi_text.proofs.Decimals.{decimal_of-decimal, decimal_of-some, digits-decimal}
use Rattle.wopi_text.proofs.Utf8Bytes.{IsBytes-IsUtf8}
use Rattle.wopi_model.specs.Moment.{IsMoment}
use Rattle.wopi_headers.specs.declared.ask.Op.{Op}
use Rattle.wopi_headers.specs.declared.ask.Op.TheVariants as op
use Rattle.wopi_headers.specs.declared.ask.Target.TheVariants.{Suggested, Relative}
use Rattle.schedule_text.specs.declared.schedule.FileLine.{FileLine}
use Rattle.schedule_text.specs.declared.schedule.Reference.{Reference}
use Rattle.schedule_text.specs.declared.schedule.Reference.TheVariants.{Number, Last}
use Rattle.schedule_text.specs.declared.schedule.Wish.TheVariants as wish
use Rattle.schedule_text.specs.declared.schedule.EventLine.{EventLine}
use Rattle.schedule_text.specs.declared.schedule.EventLine.TheVariants as line
use Rattle.schedule_text.specs.declared.one_line.AnyLine.{AnyLine}
use Rattle.schedule_text.specs.declared.one_line.AnyLine.TheVariants.{File, Session, Event}
use Rattle.schedule_text.specs.Schedules.{HasBody, HasTarget, Lines, carried}
use Rattle.schedule_text.specs.Grammar.{AreAsked, AreRows, IsContents, IsCounted, IsEventRow, IsFileRow, IsLockOrNone, IsReference, IsText, lock_word, reference_word, rows_of, says, words_of, yes_or_no}
use Rattle.schedule_text.specs.Readings.{IsLine, with_line}
use Rattle.line_text.specs.Words.{hex_text}
use Rattle.schedule_text.proofs.RowForms.{three_same}
use Rattle.schedule_text.proofs.Growing.{count_of, last_of, no_items}
use Rattle.schedule_text.proofs.LastRow.{last_row, silent_last}
use Rattle.schedule_text.proofs.SameRows.{first_word, second_word, third_word, behind_three, kind_is, no_bytes, session_same}

-- ---- names and contents

abbrev decoded : {E : Type 0} → Result (List ℕ) E → List ℕ
decoded (Ok bytes) = bytes
decoded (Err fault) = []

abbrev bytes_in : List ℕ → List ℕ
bytes_in word = decoded (decode_of word)

abbrev contents_in : List ℕ → List ℕ
contents_in word = if bytes_eq word (codes "-") then [] else bytes_in word

name_back : (name : List ℕ) → IsFileName name → bytes_in (id_of name) ≡ name
name_back name form = ap (λ r. decoded r) (decode_of-encode_lower name (IsBytes-IsUtf8 name form.utf8))

contents_back : (contents : List ℕ) → IsContents contents → contents_in (hex_text contents) ≡ contents
contents_back [] form = refl
contents_back (byte ∷ bytes) form =
    let len = length-encode_with lower_digits (byte ∷ bytes) in
    let test = no_bytes (hex_text (byte ∷ bytes)) (codes "-") (λ e. absurd (omega (arith, len, ap length e))) in
    ap (λ (b : Bool). cond b [] (bytes_in (hex_text (byte ∷ bytes)))) test ∙ ap (λ r. decoded r) (decode_of-encode_lower (byte ∷ bytes) form.bytes)

-- ---- numbers

abbrev count_in : List ℕ → ℕ
count_in word = unwrap_or (decimal_of word) 0

number_back : (number : ℕ) → number < 2 ^ 64 → count_in (decimal number) ≡ number
number_back number small = ap (λ (found : Option ℕ). unwrap_or found 0) (decimal_of-decimal number small)

moment_back : (moment : ℕ) → IsMoment moment → count_in (decimal moment) ≡ moment
moment_back moment form = number_back moment (omega (arith, form))

place_back : (s : ℕ) → IsCounted (s + 1) → count_in (decimal (s + 1)) - 1 ≡ s
place_back s form = let number : count_in (decimal (s + 1)) ≡ s + 1 = number_back (s + 1) form.fits in omega (arith, number)

abbrev referred : Option ℕ → List ℕ → Reference
referred (Some number) word = Number number
referred None [] = Last 0
referred None (first ∷ rest) = Last (count_in rest)

abbrev reference_in : List ℕ → Reference
reference_in word = referred (decimal_of word) word

no_number : (rest : List ℕ) → decimal_of (94 ∷ rest) ≡ None
no_number rest = go (decimal_of (94 ∷ rest)) refl
  where
    go : (found : Option ℕ) → decimal_of (94 ∷ rest) ≡ found → decimal_of (94 ∷ rest) ≡ None
    go None e = e
    go (Some number) e =
        let some = decimal_of-some (94 ∷ rest) number e in
        let all : list_all is_ascii_digit (94 ∷ rest) ≡ true = ap (list_all is_ascii_digit) some.1 ∙ digits-decimal number some.0 in
        absurd (cc all)

reference_back : (reference : Reference) → IsReference reference → reference_in (reference_word reference) ≡ reference
reference_back (Number number) form = ap (λ (found : Option ℕ). referred found (decimal number)) (decimal_of-decimal number form.fits)
reference_back (Last number) form =
    ap (λ (found : Option ℕ). referred found (94 ∷ decimal number)) (no_number (decimal number)) ∙ ap (λ (n : ℕ). Last n) (number_back number form.fits)

-- ---- what somebody else asks

abbrev lock_in : List ℕ → Option (List ℕ)
lock_in word = if bytes_eq word (codes "-") then None else Some word

lock_back : (lock : Option (List ℕ)) → IsLockOrNone lock → lock_in (lock_word lock) ≡ lock
lock_back None form = refl
lock_back (Some id) form = ap (λ (b : Bool). cond b None (Some id)) (no_bytes id (codes "-") form.no_dash)

abbrev yes_in : List ℕ → Bool
yes_in word = bytes_eq word (codes "yes")

yes_back : (test : Bool) → yes_in (yes_or_no test) ≡ test
yes_back true = refl
yes_back false = refl

abbrev op_by : List ℕ → List (List ℕ) → Op
op_by word words =
    if bytes_eq word (codes "info") then op.Info
    else if bytes_eq word (codes "get") then op.Get None
    else if bytes_eq word (codes "put") then op.Put (lock_in (third_word words))
    else if bytes_eq word (codes "lock") then op.Lock (third_word words)
    else if bytes_eq word (codes "getlock") then op.GetLock
    else if bytes_eq word (codes "refresh") then op.Refresh (third_word words)
    else if bytes_eq word (codes "unlock") then op.Unlock (third_word words)
    else if bytes_eq word (codes "relock") then op.Relock (third_word words) (first_word (behind_three words))
    else if bytes_eq word (codes "delete") then op.Delete
    else op.PutRelative (Relative (carried (bytes_in (third_word words))) (yes_in (first_word (behind_three words))))

abbrev op_in : List (List ℕ) → Op
op_in words = op_by (first_word words) words

op_back : (words : List (List ℕ)) (file body : List ℕ) (o : Op) → AreAsked words file body o → HasBody o body → op_in words ≡ o
op_back words file body op.Info are has = ap op_in are
op_back words file body (op.Get most) are has = ap op_in are ∙ ap (λ (m : Option ℕ). op.Get m) (sym has.0)
op_back words file body (op.Put lock) are has = ap op_in are.1 ∙ ap (λ (l : Option (List ℕ)). op.Put l) (lock_back lock are.0)
op_back words file body (op.Lock id) are has = ap op_in are.1
op_back words file body op.GetLock are has = ap op_in are
op_back words file body (op.Refresh id) are has = ap op_in are.1
op_back words file body (op.Unlock id) are has = ap op_in are.1
op_back words file body (op.Relock old id) are has = ap op_in are.2
op_back words file body op.Delete are has = ap op_in are
op_back words file body (op.PutRelative (Relative found overwrite)) are has =
    ap op_in are.3 ∙ ap (λ (n : List ℕ). op.PutRelative (Relative (carried n) (yes_in (yes_or_no overwrite)))) (name_back are.0 are.1)
    ∙ ap (λ (n : List ℕ). op.PutRelative (Relative n (yes_in (yes_or_no overwrite)))) (sym are.2)
    ∙ ap (λ (b : Bool). op.PutRelative (Relative found b)) (yes_back overwrite)
op_back words file body (op.PutRelative (Suggested text)) are has = elim are [ ]

abbrev body_by : List ℕ → List (List ℕ) → List ℕ
body_by word words =
    if bytes_eq word (codes "put") then contents_in (first_word (behind_three words))
    else if bytes_eq word (codes "relative") then contents_in (second_word (behind_three words))
    else []

abbrev body_in : List (List ℕ) → List ℕ
body_in words = body_by (first_word words) words

body_back : (words : List (List ℕ)) (file body : List ℕ) (o : Op) → AreAsked words file body o → HasBody o body → IsContents body → body_in words ≡ body
body_back words file body op.Info are has form = ap body_in are ∙ sym has
body_back words file body (op.Get most) are has form = ap body_in are ∙ sym has.1
body_back words file body (op.Put lock) are has form = ap body_in are.1 ∙ contents_back body form
body_back words file body (op.Lock id) are has form = ap body_in are.1 ∙ sym has
body_back words file body op.GetLock are has form = ap body_in are ∙ sym has
body_back words file body (op.Refresh id) are has form = ap body_in are.1 ∙ sym has
body_back words file body (op.Unlock id) are has form = ap body_in are.1 ∙ sym has
body_back words file body (op.Relock old id) are has form = ap body_in are.2 ∙ sym has
body_back words file body op.Delete are has form = ap body_in are ∙ sym has
body_back words file body (op.PutRelative (Relative found overwrite)) are has form = ap body_in are.3 ∙ contents_back body form
body_back words file body (op.PutRelative (Suggested text)) are has form = elim are [ ]

abbrev file_in : List (List ℕ) → List ℕ
file_in words = bytes_in (second_word words)

file_back : (words : List (List ℕ)) (file body : List ℕ) (o : Op) → AreAsked words file body o → IsFileName file → file_in words ≡ file
file_back words file body op.Info are form = ap file_in are ∙ name_back file form
file_back words file body (op.Get most) are form = ap file_in are ∙ name_back file form
file_back words file body (op.Put lock) are form = ap file_in are.1 ∙ name_back file form
file_back words file body (op.Lock id) are form = ap file_in are.1 ∙ name_back file form
file_back words file body op.GetLock are form = ap file_in are ∙ name_back file form
file_back words file body (op.Refresh id) are form = ap file_in are.1 ∙ name_back file form
file_back words file body (op.Unlock id) are form = ap file_in are.1 ∙ name_back file form
file_back words file body (op.Relock old id) are form = ap file_in are.2 ∙ name_back file form
file_back words file body op.Delete are form = ap file_in are ∙ name_back file form
file_back words file body (op.PutRelative (Relative found overwrite)) are form = ap file_in are.3 ∙ name_back file form
file_back words file body (op.PutRelative (Suggested text)) are form = elim are [ ]

-- ---- events, but for the name of a copy that a file can have

abbrev place_in : List (List ℕ) → ℕ
place_in words = count_in (second_word words) - 1

abbrev foreign_with : ℕ → ℕ → List ℕ → Op → List ℕ → EventLine
foreign_with moment expires file asked body =
    line.Foreign moment (record { expires = expires; file = file; op = asked; body = body; target = None })

abbrev foreign_in : List (List ℕ) → List (List ℕ) → EventLine
foreign_in words asked = foreign_with (count_in (second_word words)) (count_in (third_word words)) (file_in asked) (op_in asked) (body_in asked)

abbrev event_by : List ℕ → List (List ℕ) → EventLine
event_by word words =
    if bytes_eq word (codes "open") then line.Asks (place_in words) wish.Start
    else if bytes_eq word (codes "read") then line.Asks (place_in words) wish.Read
    else if bytes_eq word (codes "save") then line.Asks (place_in words) (wish.Save (contents_in (third_word words)))
    else if bytes_eq word (codes "refresh") then line.Asks (place_in words) wish.Refresh
    else if bytes_eq word (codes "close") then line.Asks (place_in words) wish.Close
    else if bytes_eq word (codes "lose") then line.Lose (place_in words)
    else if bytes_eq word (codes "deliver") then line.Deliver (reference_in (second_word words)) (count_in (third_word words))
    else if bytes_eq word (codes "answer") then line.Answer (reference_in (second_word words))
    else if bytes_eq word (codes "tick") then line.Ticks (count_in (second_word words))
    else if bytes_eq word (codes "restart") then line.Restarts (count_in (second_word words))
    else foreign_in words (behind_three words)

abbrev event_in : List (List ℕ) → EventLine
event_in words = event_by (first_word words) words

abbrev bare : EventLine → EventLine
bare (line.Foreign moment ask) = foreign_with moment ask.expires ask.file ask.op ask.body
bare (line.Asks s wish) = line.Asks s wish
bare (line.Deliver request moment) = line.Deliver request moment
bare (line.Answer reply) = line.Answer reply
bare (line.Lose s) = line.Lose s
bare (line.Ticks moment) = line.Ticks moment
bare (line.Restarts moment) = line.Restarts moment

event_back : (row : List ℕ) (event : EventLine) → IsEventRow row event → event_in (words_of row) ≡ bare event
event_back row (line.Asks s wish.Start) is = ap event_in is.1 ∙ ap (λ (n : ℕ). line.Asks n wish.Start) (place_back s is.0)
event_back row (line.Asks s wish.Read) is = ap event_in is.1 ∙ ap (λ (n : ℕ). line.Asks n wish.Read) (place_back s is.0)
event_back row (line.Asks s (wish.Save contents)) is =
    ap event_in is.1.1 ∙ ap (λ (n : ℕ). line.Asks n (wish.Save (contents_in (hex_text contents)))) (place_back s is.0)
    ∙ ap (λ (c : List ℕ). line.Asks s (wish.Save c)) (contents_back contents is.1.0)
event_back row (line.Asks s wish.Refresh) is = ap event_in is.1 ∙ ap (λ (n : ℕ). line.Asks n wish.Refresh) (place_back s is.0)
event_back row (line.Asks s wish.Close) is = ap event_in is.1 ∙ ap (λ (n : ℕ). line.Asks n wish.Close) (place_back s is.0)
event_back row (line.Lose s) is = ap event_in is.1 ∙ ap (λ (n : ℕ). line.Lose n) (place_back s is.0)
event_back row (line.Deliver request moment) is =
    ap event_in is.2 ∙ ap (λ (r : Reference). line.Deliver r (count_in (decimal moment))) (reference_back request is.0)
    ∙ ap (λ (m : ℕ). line.Deliver request m) (moment_back moment is.1)
event_back row (line.Answer reply) is = ap event_in is.1 ∙ ap (λ (r : Reference). line.Answer r) (reference_back reply is.0)
event_back row (line.Ticks moment) is = ap event_in is.1 ∙ ap (λ (m : ℕ). line.Ticks m) (moment_back moment is.0)
event_back row (line.Restarts moment) is = ap event_in is.1 ∙ ap (λ (m : ℕ). line.Restarts m) (moment_back moment is.0)
event_back row (line.Foreign moment ask) is =
    let asked = is.asked in
    let words = is.op in
    ap event_in is.words
    ∙ ap (λ (m : ℕ). foreign_with m (count_in (decimal ask.expires)) (file_in words) (op_in words) (body_in words)) (moment_back moment is.moment_is)
    ∙ ap (λ (m : ℕ). foreign_with moment m (file_in words) (op_in words) (body_in words)) (moment_back ask.expires is.expires)
    ∙ ap (λ (f : List ℕ). foreign_with moment ask.expires f (op_in words) (body_in words)) (file_back words ask.file ask.body ask.op asked.asked asked.file)
    ∙ ap (λ (o : Op). foreign_with moment ask.expires ask.file o (body_in words)) (op_back words ask.file ask.body ask.op asked.asked asked.bodies)
    ∙ ap (λ (b : List ℕ). foreign_with moment ask.expires ask.file ask.op b) (body_back words ask.file ask.body ask.op asked.asked asked.bodies asked.contents)

-- ---- and with that name

abbrev target_in : EventLine → Option (List ℕ)
target_in (line.Foreign moment ask) = ask.target
target_in _ = None

abbrev asked_in : EventLine → Op
asked_in (line.Foreign moment ask) = ask.op
asked_in _ = op.Info

abbrev with_target : EventLine → Option (List ℕ) → EventLine
with_target (line.Foreign moment ask) target = line.Foreign moment (record ask { target = target })
with_target event target = event

rebuilt : (event : EventLine) → with_target (bare event) (target_in event) ≡ event
rebuilt (line.Foreign moment ask) = refl
rebuilt (line.Asks s wish) = refl
rebuilt (line.Deliver request moment) = refl
rebuilt (line.Answer reply) = refl
rebuilt (line.Lose s) = refl
rebuilt (line.Ticks moment) = refl
rebuilt (line.Restarts moment) = refl

bare_asks : (event : EventLine) → asked_in (bare event) ≡ asked_in event
bare_asks (line.Foreign moment ask) = refl
bare_asks (line.Asks s wish) = refl
bare_asks (line.Deliver request moment) = refl
bare_asks (line.Answer reply) = refl
bare_asks (line.Lose s) = refl
bare_asks (line.Ticks moment) = refl
bare_asks (line.Restarts moment) = refl

has_target : (row : List ℕ) (event : EventLine) → IsEventRow row event → HasTarget (asked_in event) (target_in event)
has_target row (line.Foreign moment ask) is = is.asked.target
has_target row (line.Asks s wish) is = refl
has_target row (line.Deliver request moment) is = refl
has_target row (line.Answer reply) is = refl
has_target row (line.Lose s) is = refl
has_target row (line.Ticks moment) is = refl
has_target row (line.Restarts moment) is = refl

target_same : (o : Op) (one other : Option (List ℕ)) → HasTarget o one → HasTarget o other → one ≡ other
target_same (op.PutRelative (Relative name overwrite)) None None h k = refl
target_same (op.PutRelative (Relative name overwrite)) None (Some two) h k = let there = h.0.1 (k.0.0 refl) in absurd (cc there)
target_same (op.PutRelative (Relative name overwrite)) (Some one) None h k = let there = k.0.1 (h.0.0 refl) in absurd (cc there)
target_same (op.PutRelative (Relative name overwrite)) (Some one) (Some two) h k = ap (λ (n : List ℕ). Some n) (h.1 ∙ sym k.1)
target_same (op.PutRelative (Suggested text)) one other h k = absurd h
target_same op.Info one other h k = h ∙ sym k
target_same (op.Get most) one other h k = h ∙ sym k
target_same (op.Put lock) one other h k = h ∙ sym k
target_same (op.Lock id) one other h k = h ∙ sym k
target_same op.GetLock one other h k = h ∙ sym k
target_same (op.Refresh id) one other h k = h ∙ sym k
target_same (op.Unlock id) one other h k = h ∙ sym k
target_same (op.Relock old id) one other h k = h ∙ sym k
target_same op.Delete one other h k = h ∙ sym k

event_same : (row : List ℕ) (one other : EventLine) → IsEventRow row one → IsEventRow row other → one ≡ other
event_same row one other is too =
    let bares : bare one ≡ bare other = sym (event_back row one is) ∙ event_back row other too in
    let ops : asked_in one ≡ asked_in other = sym (bare_asks one) ∙ ap asked_in bares ∙ bare_asks other in
    let targets : target_in one ≡ target_in other =
    target_same (asked_in other) (target_in one) (target_in other) (subst (λ (o : Op). HasTarget o (target_in one)) ops (has_target row one is)) (has_target row other too) in
    sym (rebuilt one) ∙ ap (λ (e : EventLine). with_target e (target_in one)) bares ∙ ap (with_target (bare other)) targets ∙ rebuilt other

-- ---- lines

file_same : (row : List ℕ) (one other : FileLine) → IsFileRow row one → IsFileRow row other → one ≡ other
file_same row one other is too =
    let words = three_same (words_of row) _ _ _ _ _ _ is.words too.words in
    let name : one.name ≡ other.name = sym (name_back one.name is.name) ∙ ap bytes_in words.1 ∙ name_back other.name too.name in
    let contents : one.contents ≡ other.contents = sym (contents_back one.contents is.contents) ∙ ap contents_in words.2 ∙ contents_back other.contents too.contents in
    λ i. record { name = name i; contents = contents i }

pub line_same : (row : List ℕ) (one other : AnyLine) → IsLine row one → IsLine row other → one ≡ other
line_same row (File one) (File other) is too = ap (λ (f : FileLine). File f) (file_same row one other is too)
line_same row (Session one) (Session other) is too = ap (λ s. Session s) (session_same row one other is too)
line_same row (Event one) (Event other) is too = ap (λ (e : EventLine). Event e) (event_same row one other is too)
line_same row (File one) (Session other) is too = absurd (omega (arith, kind_is row (File one) is, kind_is row (Session other) too))
line_same row (Session one) (File other) is too = absurd (omega (arith, kind_is row (Session one) is, kind_is row (File other) too))
line_same row (File one) (Event other) is too = absurd (omega (arith, kind_is row (File one) is, kind_is row (Event other) too))
line_same row (Event one) (File other) is too = absurd (omega (arith, kind_is row (Event one) is, kind_is row (File other) too))
line_same row (Session one) (Event other) is too = absurd (omega (arith, kind_is row (Session one) is, kind_is row (Event other) too))
line_same row (Event one) (Session other) is too = absurd (omega (arith, kind_is row (Event one) is, kind_is row (Session other) too))

-- ---- texts

no_lines : (lines : Lines) → AreRows [] lines → lines ≡ record { files = []; sessions = []; events = [] }
no_lines lines are =
    let count = count_of [] lines are in
    let files = sym (no_items lines.files (omega (arith, count))) in
    let sessions = sym (no_items lines.sessions (omega (arith, count))) in
    let events = sym (no_items lines.events (omega (arith, count))) in
    λ i. record { files = files i; sessions = sessions i; events = events i }

-- where the rows before the last are one schedule, so are all
one_more : (front : List (List ℕ)) (row : List ℕ) (lines other : Lines) → ((before same : Lines) → AreRows front before → AreRows front same → before ≡ same)
    → AreRows (front ++ row ∷ []) lines → AreRows (front ++ row ∷ []) other → lines ≡ other
one_more front row lines other so_far are too = go (says row) refl
  where
    go : (b : Bool) → says row ≡ b → lines ≡ other
    go true said =
        let one = last_row front row lines are said in
        let two = last_row front row other too said in
        one.with_it ∙ ap (λ (l : Lines). with_line l one.one) (so_far one.old two.old one.rows_are two.rows_are)
        ∙ ap (with_line two.old) (line_same row one.one two.one one.tells two.tells) ∙ sym two.with_it
    go false silent = so_far lines other (silent_last front row lines are silent) (silent_last front row other too silent)

pub rows_same : (n : ℕ) (rows : List (List ℕ)) → length rows ≡ n → (lines other : Lines) → AreRows rows lines → AreRows rows other → lines ≡ other
rows_same zero [] count lines other are too = no_lines lines are ∙ sym (no_lines other too)
rows_same zero (row ∷ rows) count lines other are too = absurd (omega (arith, count))
rows_same (suc n) rows count lines other are too = elim (last_of rows) [
  | inl none ↦ absurd (omega (arith, count, ap length none))
  | inr more ↦
      let longer = length-append more.0 (more.1 ∷ []) in
      let whole = ap length more.2 in
      let fewer : length more.0 ≡ n = omega (arith, count, longer, whole) in
      one_more more.0 more.1 lines other (rows_same n more.0 fewer)
      (subst (λ (l : List (List ℕ)). AreRows l lines) more.2 are) (subst (λ (l : List (List ℕ)). AreRows l other) more.2 too)
]

pub one_schedule : (text : List ℕ) (lines other : Lines) → IsText text lines → IsText text other → lines ≡ other
one_schedule text lines other is too = rows_same (length (rows_of text)) (rows_of text) refl lines other is too
