-- Bytes are the lines of one segment at most.
use Rattle.std.proofs.Common.{◌≡◌, ℕ, zero, suc, ◌+◌, ◌-◌, ◌<◌, ◌≤◌, List, [], ◌∷◌, ◌++◌, length, get_or, drop, unwrap_or, Option, None, Some, inl, inr, refl, sym, ap, ◌∙◌, subst, arith, append_assoc, append-nil}
use Rattle.std.specs.List.{join_with_byte}
use Rattle.std.proofs.lemmas.List.{length-append}
use Rattle.line_text.specs.Words.{IsRow, words_of}
use Rattle.line_text.proofs.Splits.{EachLacks, Lacks}
use Rattle.journal_text.specs.Journals.{row_text}
use Rattle.journal_text.proofs.OneReading.{one_row}
use Rattle.journal_text.proofs.Plain.{feed, space}
use Rattle.journal_text.proofs.Rows.{no_line, row_said}
use Rattle.journal_segments.specs.declared.rows.Head.{Head}
use Rattle.journal_segments.specs.declared.rows.Row.{Row}
use Rattle.journal_segments.specs.declared.state.State.{State}
use Rattle.journal_segments.specs.Line.{contents_text, size_in}
use Rattle.journal_segments.specs.Rows.{AreRows, IsCut, IsForm, IsHead, IsLine, IsSegment, IsUnfilled, MayCome, bare, contents_of, filled, head_text, head_words, row_words, rows_text, segment_text, start, state_after, step, text_of, words_with}
use Rattle.journal_segments.specs.Reading.{HasLine, HasNoHead, IsBadRow, IsUnfit}
use Rattle.journal_segments.proofs.Lines.{comes_bare, full, head-lacks, line-lacks, line_of_row, row-lacks, row_again, same_head, some_words, words_bare}

-- ---- lists

head_of : {r s : List ℕ} (x y : ℕ) → x ∷ r ≡ y ∷ s → x ≡ y
head_of x y e = ap (λ (l : List ℕ). get_or l 0 0) e

tail_of : {x y : ℕ} {r s : List ℕ} → x ∷ r ≡ y ∷ s → r ≡ s
tail_of e = ap (λ (l : List ℕ). drop 1 l) e

pub some_of_size : (n m : ℕ) → Some n ≡ Some m → n ≡ m
some_of_size n m e = ap (λ (o : Option ℕ). unwrap_or o n) e

-- two lists that begin with as many
pub same_seam : (a c r s : List ℕ) → length a ≡ length c → a ++ r ≡ c ++ s → (a ≡ c) × (r ≡ s)
same_seam [] [] r s same e = (refl, e)
same_seam [] (x ∷ c) r s same e = absurd (omega (arith, same))
same_seam (x ∷ a) [] r s same e = absurd (omega (arith, same))
same_seam (x ∷ a) (y ∷ c) r s same e =
    let first : x ≡ y = head_of x y e in
    let rest = same_seam a c r s (omega (arith, same)) (tail_of e) in
    (λ i. first i ∷ rest.0 i, rest.1)

-- ---- one line

-- the line that a text begins with, and what is behind it
pub text_apart : (one : Row) (size : Option ℕ) (words : List (List ℕ)) (rest more : List ℕ) → IsLine one size → 0 < length words → EachLacks 32 words → EachLacks 10 words
    → row_text (words_with one size) ++ rest ≡ row_text words ++ more → (words_with one size ≡ words) × (rest ≡ more)
text_apart one size words rest more h some spaces feeds e =
    one_row (words_with one size) words rest more (some_words one size) some (line-lacks 32 one size space h) (line-lacks 10 one size feed h) spaces feeds e

pub said_first : (line rest more : List ℕ) (words : List (List ℕ)) → 0 < length words → IsRow line → EachLacks 32 words → EachLacks 10 words
    → line ++ 10 ∷ rest ≡ row_text words ++ more → words_of line ≡ words
said_first line rest more [] some none spaces feeds e = absurd (omega (arith, some))
said_first line rest more (word ∷ words) some none spaces feeds e = (row_said line rest more word words none spaces feeds e).0

-- a line and more have some bytes
pub some_text : (words : List (List ℕ)) (more : List ℕ) → 0 < length (row_text words ++ more)
some_text words more =
    let a = length-append (row_text words) more in
    let b = length-append (join_with_byte 32 words) (10 ∷ []) in
    omega (arith, a, b)

some_of : (one : Row) → 0 < length (row_words one)
some_of one = subst (λ (words : List (List ℕ)). 0 < length words) (words_bare one) (some_words (bare one) (size_in (contents_of one)))

-- a line and a row that begins the text
pub line_first : (line rest : List ℕ) (one : Row) (more : List ℕ) → IsRow line → IsForm one → line ++ 10 ∷ rest ≡ text_of one ++ more → words_of line ≡ row_words one
line_first line rest one more none form e =
    said_first line rest (contents_text (contents_of one) ++ more) (row_words one) (some_of one) none (row-lacks 32 one space form) (row-lacks 10 one feed form)
    (e ∙ append_assoc (row_text (row_words one)) (contents_text (contents_of one)) more)

-- a line that was read, and a row that begins the text
pub row_of_line : (read one : Row) (size : Option ℕ) (rest more : List ℕ) → IsLine read size → IsForm one → row_text (words_with read size) ++ rest ≡ text_of one ++ more
    → (read ≡ bare one) × (size ≡ size_in (contents_of one)) × (rest ≡ contents_text (contents_of one) ++ more)
row_of_line read one size rest more h form e =
    let both = text_apart read size (row_words one) rest (contents_text (contents_of one) ++ more) h (some_of one) (row-lacks 32 one space form) (row-lacks 10 one feed form)
    (e ∙ append_assoc (row_text (row_words one)) (contents_text (contents_of one)) more) in
    let same = line_of_row read one size h form both.0 in
    (same.0, same.1, both.1)

contents_apart : (c d : Option (List ℕ)) (rest more : List ℕ) → size_in c ≡ size_in d → contents_text c ++ rest ≡ contents_text d ++ more → (c ≡ d) × (rest ≡ more)
contents_apart None None rest more same e = (refl, e)
contents_apart None (Some d) rest more same e = absurd (cc same)
contents_apart (Some c) None rest more same e = absurd (cc same)
contents_apart (Some c) (Some d) rest more same e =
    let sizes : length c ≡ length d = some_of_size (length c) (length d) same in
    let seam = same_seam c d (10 ∷ rest) (10 ∷ more) sizes (sym (append_assoc c (10 ∷ []) rest) ∙ e ∙ append_assoc d (10 ∷ []) more) in
    (ap Some seam.0, tail_of seam.1)

-- two rows that begin a text
pub row_apart : (one two : Row) (rest more : List ℕ) → IsForm one → IsForm two → text_of one ++ rest ≡ text_of two ++ more → (one ≡ two) × (rest ≡ more)
row_apart one two rest more h k e =
    let text : row_text (words_with (bare one) (size_in (contents_of one))) ++ (contents_text (contents_of one) ++ rest) ≡ text_of two ++ more =
    ap (λ (words : List (List ℕ)). row_text words ++ (contents_text (contents_of one) ++ rest)) (words_bare one)
    ∙ sym (append_assoc (row_text (row_words one)) (contents_text (contents_of one)) rest) ∙ e in
    let line = row_of_line (bare one) two (size_in (contents_of one)) (contents_text (contents_of one) ++ rest) more h k text in
    let both = contents_apart (contents_of one) (contents_of two) rest more line.1 line.2 in
    let same : filled (bare one) (contents_of one) ≡ filled (bare two) (contents_of two) = λ i. filled (line.0 i) (both.0 i) in
    (sym (row_again one) ∙ same ∙ row_again two, both.1)

-- the first lines of two segments
pub head_apart : (head other : Head) (rest more : List ℕ) → IsHead head → IsHead other → head_text head ++ rest ≡ head_text other ++ more → (head ≡ other) × (rest ≡ more)
head_apart head other rest more h k e =
    let both = one_row (head_words head) (head_words other) rest more (omega arith) (omega arith) (head-lacks 32 head space h) (head-lacks 10 head feed h)
    (head-lacks 32 other space k) (head-lacks 10 other feed k) e in
    (same_head head other h k both.0, both.1)

-- ---- what was cut off

too_long : (contents : Option (List ℕ)) (size : ℕ) (part more : List ℕ) → Some size ≡ size_in contents → part ≡ contents_text contents ++ more → length part ≤ size → ⊥
too_long None size part more same e few = cc same
too_long (Some contents) size part more same e few =
    let sizes : size ≡ length contents = some_of_size size (length contents) same in
    let a = ap length e in
    let b = length-append (contents ++ 10 ∷ []) more in
    let c = length-append contents (10 ∷ []) in
    omega (arith, sizes, a, b, c, few)

-- it begins with no row
pub cut_no_row : (state : State) (tail : List ℕ) (one : Row) (more : List ℕ) → IsCut state tail → IsForm one → tail ≡ text_of one ++ more → ⊥
cut_no_row state tail one more (inl none) form e =
    no_line tail (join_with_byte 32 (row_words one)) (contents_text (contents_of one) ++ more) none
    (e ∙ append_assoc (row_text (row_words one)) (contents_text (contents_of one)) more
    ∙ append_assoc (join_with_byte 32 (row_words one)) (10 ∷ []) (contents_text (contents_of one) ++ more))
cut_no_row state tail one more (inr u) form e =
    let line = row_of_line u.one one (Some u.size) u.part more u.line_is form (sym u.parts ∙ e) in
    too_long (contents_of one) u.size u.part more line.1 line.2 u.few

abbrev zeros : ℕ → List ℕ
zeros zero = []
zeros (suc n) = 0 ∷ zeros n

length-zeros : (n : ℕ) → length (zeros n) ≡ n
length-zeros zero = refl
length-zeros (suc n) = (let rest = length-zeros n in omega (arith, rest))

-- a line may come whose contents aren't all there
pub unfilled_fits : (state : State) (tail : List ℕ) → IsUnfilled state tail → IsUnfit state tail → ⊥
unfilled_fits state tail u unfit =
    let missing = zeros (u.size - length u.part) in
    let contents = u.part ++ missing in
    let few = u.few in
    let len = length-append u.part missing in
    let more = length-zeros (u.size - length u.part) in
    let sizes : u.size ≡ length contents = omega (arith, few, len, more) in
    let is = full state u.one (Some u.size) (Some contents) u.line_is (ap Some sizes) in
    let one = filled u.one (Some contents) in
    let line : List ℕ = row_text (words_with u.one (Some u.size)) in
    let text : tail ++ (missing ++ 10 ∷ []) ≡ text_of one ++ [] =
    ap (λ (l : List ℕ). l ++ (missing ++ 10 ∷ [])) u.parts
    ∙ append_assoc line u.part (missing ++ 10 ∷ [])
    ∙ ap (λ (l : List ℕ). line ++ l) (sym (append_assoc u.part missing (10 ∷ [])))
    ∙ ap (λ (words : List (List ℕ)). row_text words ++ contents_text (Some contents)) (sym is.words_are)
    ∙ ap (λ (c : Option (List ℕ)). row_text (row_words one) ++ contents_text c) (sym is.contents_are)
    ∙ sym (append-nil (text_of one)) in
    unfit one [] (missing ++ 10 ∷ []) is.form_is (is.comes u.comes) text

-- ---- all lines

rows_apart : (state : State) (rows others : List Row) (tail more : List ℕ) → AreRows state rows → AreRows state others → IsCut (state_after state rows) tail
    → IsCut (state_after state others) more → rows_text rows ++ tail ≡ rows_text others ++ more → (rows ≡ others) × (tail ≡ more)
rows_apart state [] [] tail more are were cut end e = (refl, e)
rows_apart state [] (two ∷ others) tail more are were cut end e =
    absurd (cut_no_row state tail two (rows_text others ++ more) cut were.0 (e ∙ append_assoc (text_of two) (rows_text others) more))
rows_apart state (one ∷ rows) [] tail more are were cut end e =
    absurd (cut_no_row state more one (rows_text rows ++ tail) end are.0 (sym e ∙ append_assoc (text_of one) (rows_text rows) tail))
rows_apart state (one ∷ rows) (two ∷ others) tail more are were cut end e =
    let first = row_apart one two (rows_text rows ++ tail) (rows_text others ++ more) are.0 were.0
    (sym (append_assoc (text_of one) (rows_text rows) tail) ∙ e ∙ append_assoc (text_of two) (rows_text others) more) in
    let P : Row → Type 0 = λ row. AreRows (step state row) others in
    let Q : Row → Type 0 = λ row. IsCut (state_after (step state row) others) more in
    let rest = rows_apart (step state one) rows others tail more are.2 (subst P (sym first.0) were.2) cut (subst Q (sym first.0) end) first.1 in
    (λ i. first.0 i ∷ rest.0 i, rest.1)

rows_bad : (state : State) (rows others : List Row) (left tail : List ℕ) → AreRows state rows → AreRows state others → HasLine left → IsUnfit (state_after state rows) left
    → IsCut (state_after state others) tail → rows_text rows ++ left ≡ rows_text others ++ tail → ⊥
rows_bad state [] [] left tail are were has unfit (inl none) e =
    no_line left has.0 has.1 (subst IsRow (sym e) none) has.3
rows_bad state [] [] left tail are were has unfit (inr u) e =
    unfilled_fits state left (subst (IsUnfilled state) (sym e) u) unfit
rows_bad state [] (two ∷ others) left tail are were has unfit cut e =
    unfit two (rows_text others ++ tail) [] were.0 were.1 (append-nil left ∙ e ∙ append_assoc (text_of two) (rows_text others) tail)
rows_bad state (one ∷ rows) [] left tail are were has unfit cut e =
    cut_no_row state tail one (rows_text rows ++ left) cut are.0 (sym e ∙ append_assoc (text_of one) (rows_text rows) left)
rows_bad state (one ∷ rows) (two ∷ others) left tail are were has unfit cut e =
    let first = row_apart one two (rows_text rows ++ left) (rows_text others ++ tail) are.0 were.0
    (sym (append_assoc (text_of one) (rows_text rows) left) ∙ e ∙ append_assoc (text_of two) (rows_text others) tail) in
    let P : Row → Type 0 = λ row. AreRows (step state row) others in
    let Q : Row → Type 0 = λ row. IsCut (state_after (step state row) others) tail in
    rows_bad (step state one) rows others left tail are.2 (subst P (sym first.0) were.2) has unfit (subst Q (sym first.0) cut) first.1

-- ---- segments

pub one_segment : (bytes : List ℕ) (head other : Head) (rows others : List Row) (tail more : List ℕ) → IsSegment bytes head rows tail → IsSegment bytes other others more
    → (head ≡ other) × (rows ≡ others) × (tail ≡ more)
one_segment bytes head other rows others tail more h k =
    let heads = head_apart head other (rows_text rows ++ tail) (rows_text others ++ more) h.head_is k.head_is
    (sym (append_assoc (head_text head) (rows_text rows) tail) ∙ sym h.parts ∙ k.parts ∙ append_assoc (head_text other) (rows_text others) more) in
    let P : Head → Type 0 = λ it. AreRows (start it) others in
    let Q : Head → Type 0 = λ it. IsCut (state_after (start it) others) more in
    let same = rows_apart (start head) rows others tail more h.rows_are (subst P (sym heads.0) k.rows_are) h.cut (subst Q (sym heads.0) k.cut) heads.1 in
    (heads.0, same.0, same.1)

pub bad_is_none : (bytes : List ℕ) (line : ℕ) (head : Head) (rows : List Row) (tail : List ℕ) → IsBadRow bytes line → IsSegment bytes head rows tail → ⊥
bad_is_none bytes line head rows tail bad h =
    let heads = head_apart bad.head head (rows_text bad.rows ++ bad.left) (rows_text rows ++ tail) bad.head_is h.head_is
    (sym (append_assoc (head_text bad.head) (rows_text bad.rows) bad.left) ∙ sym bad.parts ∙ h.parts ∙ append_assoc (head_text head) (rows_text rows) tail) in
    let P : Head → Type 0 = λ it. AreRows (start it) rows in
    let Q : Head → Type 0 = λ it. IsCut (state_after (start it) rows) tail in
    rows_bad (start bad.head) bad.rows rows bad.left tail bad.rows_are (subst P (sym heads.0) h.rows_are) bad.has bad.unfit (subst Q (sym heads.0) h.cut) heads.1

pub headless_is_none : (bytes : List ℕ) (head : Head) (rows : List Row) (tail : List ℕ) → HasNoHead bytes → IsSegment bytes head rows tail → ⊥
headless_is_none bytes head rows tail none h =
    none [] (rows_text rows ++ tail) head h.head_is (append-nil bytes ∙ h.parts ∙ append_assoc (head_text head) (rows_text rows) tail)

pub unended_is_none : (bytes : List ℕ) (head : Head) (rows : List Row) (tail : List ℕ) → IsRow bytes → IsSegment bytes head rows tail → ⊥
unended_is_none bytes head rows tail none h =
    no_line bytes (join_with_byte 32 (head_words head)) (rows_text rows ++ tail) none
    (h.parts ∙ append_assoc (head_text head) (rows_text rows) tail ∙ append_assoc (join_with_byte 32 (head_words head)) (10 ∷ []) (rows_text rows ++ tail))
