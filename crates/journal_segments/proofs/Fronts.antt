-- What stands at the front of a text.
use Rattle.std.proofs.Common.{◌≡◌, ◌≢◌, ℕ, zero, suc, ◌+◌, ◌<◌, ◌≤◌, ◌==◌, false, List, [], ◌∷◌, ◌++◌, length, get_or, take, drop, Option, None, Some, inl, inr, refl, sym, ap, ◌∙◌, subst, arith, append_assoc, append-nil}
use Rattle.std.proofs.lemmas.List.{length-append, nil_from_length, take-append-le, take_all}
use Rattle.std.proofs.lemmas.List.Elements.{All-take}
use Rattle.line_text.specs.Words.{IsRow, words_of}
use Rattle.journal_text.specs.Journals.{row_text}
use Rattle.journal_text.proofs.Plain.{feed, space}
use Rattle.journal_text.proofs.Rows.{row_of_words}
use Rattle.journal_segments.specs.declared.rows.Row.{Row}
use Rattle.journal_segments.specs.declared.state.State.{State}
use Rattle.journal_segments.specs.declared.walking.Front.{Front}
use Rattle.journal_segments.specs.declared.walking.Front.TheVariants as front
use Rattle.journal_segments.specs.Line.{contents_text, size_in}
use Rattle.journal_segments.specs.Rows.{IsCut, IsForm, IsLine, IsUnfilled, MayCome, bare, contents_of, filled, row_words, text_of, words_with}
use Rattle.journal_segments.specs.Reading.{HasLine, IsLong, IsUnfit, IsWhole, Stands, StandsBehind, Waits, most_line}
use Rattle.journal_segments.proofs.Lines.{comes_bare, full, line_alone, row-lacks}
use Rattle.journal_segments.proofs.Apart.{line_first, row_of_line, same_seam, some_of_size, some_text}

pub text_some : (one : Row) → 0 < length (text_of one)
text_some one = some_text (row_words one) (contents_text (contents_of one))

-- ---- no whole line

pub waits_row : (state : State) (text : List ℕ) (wanted : ℕ) → IsRow text → wanted ≡ length text + 1 → Waits state text wanted
waits_row state text wanted none is = (
  omega (arith, is),
  λ more less.
      let nothing : more ≡ [] = nil_from_length more (omega (arith, is, less)) in
      inl (subst IsRow (sym (append-nil text) ∙ ap (λ (l : List ℕ). text ++ l) (sym nothing)) none),
)

pub long_row : (text : List ℕ) → IsRow text → most_line ≤ length text → IsLong text
long_row text none many = record { many = many; none = All-take (λ byte. (byte == 10) ≡ false) most_line text none }

pub long_line : (text line behind : List ℕ) → text ≡ line ++ 10 ∷ behind → IsRow line → most_line ≤ length line → IsLong text
long_line text line behind cut none many =
    let len = ap length cut ∙ length-append line (10 ∷ behind) in
    let front : take most_line text ≡ take most_line line = ap (take most_line) cut ∙ take-append-le most_line line (10 ∷ behind) many in
    record { many = omega (arith, len, many); none = subst IsRow (sym front) (All-take (λ byte. (byte == 10) ≡ false) most_line line none) }

-- ---- a whole line

pub has_line : (text line behind : List ℕ) → text ≡ line ++ 10 ∷ behind → IsRow line → HasLine text
has_line text line behind cut none = (line, behind, none, cut)

-- it is none by itself
pub unread : (state : State) (text line behind : List ℕ) → text ≡ line ++ 10 ∷ behind → IsRow line → ((one : Row) → IsForm one → words_of line ≢ row_words one) → IsUnfit state text
unread state text line behind cut none no_row one rest more form comes e =
    no_row one form (line_first line (behind ++ more) one rest none form (sym (append_assoc line (10 ∷ behind) more) ∙ ap (λ (l : List ℕ). l ++ more) (sym cut) ∙ e))

text_is : (text line behind : List ℕ) (words : List (List ℕ)) → text ≡ line ++ 10 ∷ behind → words_of line ≡ words → text ≡ row_text words ++ behind
text_is text line behind words cut said = cut ∙ row_of_words line behind words said

-- it is one, of which the row says the rest
said_by_row : (text line behind : List ℕ) (read one : Row) (size : Option ℕ) (rest more : List ℕ) → text ≡ line ++ 10 ∷ behind → IsLine read size → words_of line ≡ words_with read size
    → IsForm one → text ++ more ≡ text_of one ++ rest → (read ≡ bare one) × (size ≡ size_in (contents_of one)) × (behind ++ more ≡ contents_text (contents_of one) ++ rest)
said_by_row text line behind read one size rest more cut is said form e =
    let whole : row_text (words_with read size) ++ (behind ++ more) ≡ text_of one ++ rest =
    sym (append_assoc (row_text (words_with read size)) behind more) ∙ ap (λ (l : List ℕ). l ++ more) (sym (text_is text line behind (words_with read size) cut said)) ∙ e in
    row_of_line read one size (behind ++ more) rest is form whole

-- but it may not come
pub unwanted : (state : State) (text line behind : List ℕ) (read : Row) (size : Option ℕ) → text ≡ line ++ 10 ∷ behind → IsLine read size → words_of line ≡ words_with read size
    → (MayCome state read → ⊥) → IsUnfit state text
unwanted state text line behind read size cut is said not one rest more form comes e =
    let same = said_by_row text line behind read one size rest more cut is said form e in
    let P : Row → Type 0 = λ row. MayCome state row in
    not (subst P (sym same.0) (comes_bare state one comes))

-- and it tells no contents
pub alone : (state : State) (text line behind : List ℕ) (read : Row) (size : Option ℕ) → text ≡ line ++ 10 ∷ behind → IsLine read size → words_of line ≡ words_with read size
    → MayCome state read → size ≡ None → IsWhole state text read behind
alone state text line behind read size cut is said comes none =
    let P : Option ℕ → Type 0 = λ n. IsLine read n in
    let line_is : IsLine read None = subst P none is in
    let it = full state read None None line_is refl in
    let same = line_alone read line_is in
    let Q : Row → Type 0 = λ row. IsWhole state text row behind in
    let words : words_with read size ≡ row_words (filled read None) = ap (words_with read) none ∙ sym it.words_are in
    subst Q same (record {
      form_is = it.form_is;
      comes = it.comes comes;
      parts = text_is text line behind (words_with read size) cut said
          ∙ ap (λ (words : List (List ℕ)). row_text words ++ behind) words
          ∙ ap (λ (l : List ℕ). l ++ behind) (sym (append-nil (row_text (row_words (filled read None)))))
          ∙ ap (λ (c : Option (List ℕ)). (row_text (row_words (filled read None)) ++ contents_text c) ++ behind) (sym it.contents_are);
    })

-- ---- a line and its contents

pub at_place : (bytes : List ℕ) (n : ℕ) → n < length bytes → bytes ≡ take n bytes ++ get_or bytes n 0 ∷ drop (suc n) bytes
at_place [] n below = absurd (omega (arith, below))
at_place (x ∷ bytes) zero below = refl
at_place (x ∷ bytes) (suc n) below = ap (λ (l : List ℕ). x ∷ l) (at_place bytes n (omega (arith, below)))

no_feed : (c : Option (List ℕ)) (contents rest more end : List ℕ) (byte size : ℕ) → length contents ≡ size → Some size ≡ size_in c
    → (contents ++ byte ∷ rest) ++ more ≡ contents_text c ++ end → byte ≢ 10 → ⊥
no_feed None contents rest more end byte size sized same e other = cc same
no_feed (Some bytes) contents rest more end byte size sized same e other =
    let sizes : length contents ≡ length bytes = sized ∙ some_of_size size (length bytes) same in
    let seam = same_seam contents bytes (byte ∷ (rest ++ more)) (10 ∷ end) sizes (sym (append_assoc contents (byte ∷ rest) more) ∙ e ∙ append_assoc bytes (10 ∷ []) end) in
    other (ap (λ (l : List ℕ). get_or l 0 0) seam.1)

-- contents that don't end where their line says
unended : (state : State) (text line behind contents rest : List ℕ) (byte size : ℕ) (read : Row) → text ≡ line ++ 10 ∷ behind → IsLine read (Some size) → words_of line ≡ words_with read (Some size)
    → length contents ≡ size → behind ≡ contents ++ byte ∷ rest → byte ≢ 10 → IsUnfit state text
unended state text line behind contents rest byte size read cut is said sized parts other one end more form comes e =
    let same = said_by_row text line behind read one (Some size) end more cut is said form e in
    let both : (contents ++ byte ∷ rest) ++ more ≡ contents_text (contents_of one) ++ end = ap (λ (l : List ℕ). l ++ more) (sym parts) ∙ same.2 in
    no_feed (contents_of one) contents rest more end byte size sized same.1 both other

whole_with : (state : State) (text line behind contents rest : List ℕ) (size : ℕ) (read : Row) → text ≡ line ++ 10 ∷ behind → IsLine read (Some size) → words_of line ≡ words_with read (Some size)
    → MayCome state read → length contents ≡ size → behind ≡ contents ++ 10 ∷ rest → IsWhole state text (filled read (Some contents)) rest
whole_with state text line behind contents rest size read cut is said comes sized parts =
    let it = full state read (Some size) (Some contents) is (ap Some (sym sized)) in
    let one = filled read (Some contents) in
    record {
      form_is = it.form_is;
      comes = it.comes comes;
      parts = text_is text line behind (words_with read (Some size)) cut said
          ∙ ap (λ (words : List (List ℕ)). row_text words ++ behind) (sym it.words_are)
          ∙ ap (λ (l : List ℕ). row_text (row_words one) ++ l) (parts ∙ sym (append_assoc contents (10 ∷ []) rest))
          ∙ sym (append_assoc (row_text (row_words one)) (contents ++ 10 ∷ []) rest)
          ∙ ap (λ (c : Option (List ℕ)). (row_text (row_words one) ++ contents_text c) ++ rest) (sym it.contents_are);
    }

waits_with : (state : State) (text line behind : List ℕ) (size wanted : ℕ) (read : Row) → text ≡ line ++ 10 ∷ behind → IsLine read (Some size) → words_of line ≡ words_with read (Some size)
    → MayCome state read → length behind ≤ size → length line + length behind + 1 < wanted → wanted ≤ length line + size + 2 → Waits state text wanted
waits_with state text line behind size wanted read cut is said comes few above below =
    let len = ap length cut ∙ length-append line (10 ∷ behind) in (
      omega (arith, len, above),
      λ more less.
          let both = length-append behind more in
          inr (record {
            one = read;
            size = size;
            part = behind ++ more;
            line_is = is;
            comes = comes;
            parts = ap (λ (l : List ℕ). l ++ more) (text_is text line behind (words_with read (Some size)) cut said) ∙ append_assoc (row_text (words_with read (Some size))) behind more;
            few = omega (arith, len, both, less, below);
          }),
    )

pub stands_behind : (state : State) (text line behind : List ℕ) (size : ℕ) (read : Row) (found : Front) → text ≡ line ++ 10 ∷ behind → IsRow line → IsLine read (Some size)
    → words_of line ≡ words_with read (Some size) → MayCome state read → StandsBehind read size (length line) behind found → Stands state text found
stands_behind state text line behind size read (front.Whole two rest) cut none is said comes (contents, sized, same, parts) =
    let Q : Row → Type 0 = λ row. IsWhole state text row rest.now in
    subst Q (sym same) (whole_with state text line behind contents rest.now size read cut is said comes sized parts)
stands_behind state text line behind size read (front.Cut wanted) cut none is said comes (few, above, below) =
    waits_with state text line behind size wanted read cut is said comes few above below
stands_behind state text line behind size read front.Bad cut none is said comes (contents, byte, rest, sized, parts, other) =
    (has_line text line behind cut none, unended state text line behind contents rest byte size read cut is said sized parts other)
stands_behind state text line behind size read front.Long cut none is said comes never = absurd never
