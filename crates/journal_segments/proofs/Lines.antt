-- Lines with the same words are one.
use Rattle.std.proofs.Common.{◌≡◌, ℕ, ◌<◌, Bool, true, false, cond, List, [], ◌∷◌, ◌++◌, length, get_or, drop, Option, None, Some, refl, sym, ap, ◌∙◌, subst, arith}
use Rattle.std.specs.Prelude.{codes, decimal, if◌then◌else◌}
use Rattle.std.specs.Char.{is_ascii_digit}
use Rattle.std.specs.List.{list_all}
use Rattle.std.specs.Str.{bytes_eq}
use Rattle.std.proofs.lemmas.Fmt.{decimal_injective}
use Rattle.std.proofs.lemmas.Slice.Eq.{bytes_eq-Decides}
use Rattle.wopi_text.proofs.Decimals.{digits-decimal}
use Rattle.wopi_text.proofs.IdLemmas.{id_of-injective}
use Rattle.wopi_model.specs.declared.locks.Lock.{Lock}
use Rattle.wopi_model.specs.declared.locks.Spent.{Spent}
use Rattle.journal_text.specs.declared.text.Line.{Line}
use Rattle.journal_text.specs.Lines.{Fits, IsBare, MayFit, told_size}
use Rattle.journal_text.proofs.Bare.{same_bare}
use Rattle.journal_text.proofs.Plain.{IsMark, Lacks-append, Lacks-lock, Lacks-optional_number, bare-lacks, letters, number}
use Rattle.journal_text.proofs.TokenTexts.{Lacks-id}
use Rattle.journal_text.proofs.Uniqueness.{same_lock_id, same_number}
use Rattle.line_text.proofs.Splits.{EachLacks, Lacks}
use Rattle.journal_segments.specs.declared.rows.Head.{Head}
use Rattle.journal_segments.specs.declared.rows.Row.{Row}
use Rattle.journal_segments.specs.declared.rows.Row.TheVariants as row
use Rattle.journal_segments.specs.declared.state.State.{State}
use Rattle.journal_segments.specs.Line.{holds_words, size_in}
use Rattle.journal_segments.specs.Rows.{IsForm, IsHead, IsLine, MayCome, bare, contents_of, filled, head_words, row_words, with_contents, words_with}

-- ---- the first word

-- a number is none of these words
not_label : (n : ℕ) (word : List ℕ) → Fits n → list_all is_ascii_digit word ≡ false → bytes_eq (decimal n) word ≡ false
not_label n word h none =
    elim (bytes_eq (decimal n) word) as (λ b. bytes_eq (decimal n) word ≡ b → b ≡ false) [
      | true ↦ λ e.
          let same : decimal n ≡ word = (bytes_eq-Decides (decimal n) word).0 e in
          let digits : list_all is_ascii_digit word ≡ true = ap (list_all is_ascii_digit) (sym same) ∙ digits-decimal n h in
          absurd (cc (sym digits ∙ none))
      | false ↦ λ e. refl
    ] refl

abbrev kind : Row → ℕ
kind (row.At name version size) = 0
kind (row.Held name lock) = 1
kind (row.Spent name one) = 2
kind row.Off = 3
kind (row.Holds name contents) = 4
kind (row.Entry line) = 5

abbrev chosen : Bool → Bool → Bool → Bool → Bool → ℕ
chosen a b c d e = if a then 0 else if b then 1 else if c then 2 else if d then 3 else if e then 4 else 5

abbrev kind_word : List ℕ → ℕ
kind_word word =
    chosen (bytes_eq word (codes "at")) (bytes_eq word (codes "held")) (bytes_eq word (codes "spent")) (bytes_eq word (codes "off")) (bytes_eq word (codes "holds"))

fifth : (a b c d e : Bool) → a ≡ false → b ≡ false → c ≡ false → d ≡ false → e ≡ false → chosen a b c d e ≡ 5
fifth false false false false false h i j k l = refl
fifth true b c d e h i j k l = absurd (cc h)
fifth a true c d e h i j k l = absurd (cc i)
fifth a b true d e h i j k l = absurd (cc j)
fifth a b c true e h i j k l = absurd (cc k)
fifth a b c d true h i j k l = absurd (cc l)

kinds : (one : Row) (size : Option ℕ) → IsLine one size → kind one ≡ kind_word (get_or (words_with one size) 0 [])
kinds (row.At name version met) size h = refl
kinds (row.Held name lock) size h = refl
kinds (row.Spent name one) size h = refl
kinds row.Off size h = refl
kinds (row.Holds name contents) size h = refl
kinds (row.Entry line) size h =
    let n = line.stamp in
    let fits = h.0.stamp in
    sym (fifth (bytes_eq (decimal n) (codes "at")) (bytes_eq (decimal n) (codes "held")) (bytes_eq (decimal n) (codes "spent")) (bytes_eq (decimal n) (codes "off")) (bytes_eq (decimal n) (codes "holds"))
    (not_label n (codes "at") fits refl) (not_label n (codes "held") fits refl) (not_label n (codes "spent") fits refl) (not_label n (codes "off") fits refl) (not_label n (codes "holds") fits refl))

-- ---- all words

same_lock : (lock other : Lock) → lock.id ≡ other.id → lock.since ≡ other.since → lock.until ≡ other.until → lock ≡ other
same_lock lock other a b c = λ i. record { id = a i; since = b i; until = c i }

same_spent : (one other : Spent) → one.id ≡ other.id → one.until ≡ other.until → one ≡ other
same_spent one other a b = λ i. record { id = a i; until = b i }

one_kind : (one other : Row) (n m : Option ℕ) → kind one ≡ kind other → IsLine one n → IsLine other m → words_with one n ≡ words_with other m → (one ≡ other) × (n ≡ m)
one_kind (row.At name version met) (row.At file edition size) n m same h k e =
    let names = id_of-injective name file h.0.0 k.0.0 (ap (λ l. get_or l 1 []) e) in
    let versions = decimal_injective version edition h.0.1 k.0.1 (ap (λ l. drop 1 (get_or l 2 [])) e) in
    let sizes = same_number met size h.0.2 k.0.2 (ap (λ l. get_or l 3 []) e) in
    (λ i. row.At (names i) (versions i) (sizes i), h.1 ∙ sym k.1)
one_kind (row.Held name lock) (row.Held file other) n m same h k e =
    let names = id_of-injective name file h.0.0 k.0.0 (ap (λ l. get_or l 1 []) e) in
    let ids = same_lock_id lock.id other.id h.0.1.0 k.0.1.0 (ap (λ l. get_or l 2 []) e) in
    let a = h.0.1.1 in
    let b = k.0.1.1 in
    let since = decimal_injective lock.since other.since (omega (arith, a)) (omega (arith, b)) (ap (λ l. get_or l 3 []) e) in
    let until = decimal_injective lock.until other.until h.0.1.2 k.0.1.2 (ap (λ l. get_or l 4 []) e) in
    let locks = same_lock lock other ids since until in
    (λ i. row.Held (names i) (locks i), h.1 ∙ sym k.1)
one_kind (row.Spent name spent) (row.Spent file other) n m same h k e =
    let names = id_of-injective name file h.0.0 k.0.0 (ap (λ l. get_or l 1 []) e) in
    let ids = same_lock_id spent.id other.id h.0.1 k.0.1 (ap (λ l. get_or l 2 []) e) in
    let until = decimal_injective spent.until other.until h.0.2 k.0.2 (ap (λ l. get_or l 3 []) e) in
    let ones = same_spent spent other ids until in
    (λ i. row.Spent (names i) (ones i), h.1 ∙ sym k.1)
one_kind row.Off row.Off n m same h k e = (refl, h ∙ sym k)
one_kind (row.Holds name contents) (row.Holds file other) n m same h k e =
    let names = id_of-injective name file h.0 k.0 (ap (λ l. get_or l 1 []) e) in
    let sizes = same_number n m h.1 k.1 (ap (λ l. get_or l 2 []) e) in
    let both = h.2 ∙ sym k.2 in
    (λ i. row.Holds (names i) (both i), sizes)
one_kind (row.Entry line) (row.Entry other) n m same h k e =
    let lines = same_bare line other h.0 k.0 e in
    (ap (λ (l : Line). row.Entry l) lines, h.1 ∙ ap (λ (l : Line). told_size l.act l.status) lines ∙ sym k.1)
one_kind _ _ n m same h k e = absurd (omega (arith, same))

pub same_line : (one other : Row) (n m : Option ℕ) → IsLine one n → IsLine other m → words_with one n ≡ words_with other m → (one ≡ other) × (n ≡ m)
same_line one other n m h k e =
    one_kind one other n m (kinds one n h ∙ ap (λ (words : List (List ℕ)). kind_word (get_or words 0 [])) e ∙ sym (kinds other m k)) h k e

pub words_bare : (one : Row) → words_with (bare one) (size_in (contents_of one)) ≡ row_words one
words_bare (row.At name version met) = refl
words_bare (row.Held name lock) = refl
words_bare (row.Spent name one) = refl
words_bare row.Off = refl
words_bare (row.Holds name contents) = refl
words_bare (row.Entry line) = refl

-- a line that was read is that of a row that says the same
pub line_of_row : (read one : Row) (size : Option ℕ) → IsLine read size → IsForm one → words_with read size ≡ row_words one → (read ≡ bare one) × (size ≡ size_in (contents_of one))
line_of_row read one size h form e = same_line read (bare one) size (size_in (contents_of one)) h form (e ∙ sym (words_bare one))

-- what may come doesn't depend on contents
pub comes_bare : (state : State) (one : Row) → MayCome state one → MayCome state (bare one)
comes_bare state (row.At name version met) h = h
comes_bare state (row.Held name lock) h = h
comes_bare state (row.Spent name one) h = h
comes_bare state row.Off h = h
comes_bare state (row.Holds name contents) h = h
comes_bare state (row.Entry line) h = h

-- ---- with contents

pub no_size : (contents : Option (List ℕ)) → size_in contents ≡ None → contents ≡ None
no_size None e = refl
no_size (Some bytes) e = absurd (cc e)

-- a line with contents of its size
pub record IsFull (state : State) (read : Row) (size : Option ℕ) (contents : Option (List ℕ)) : Type 0 where
  pub form_is : IsForm (filled read contents)
  pub comes : MayCome state read → MayCome state (filled read contents)
  pub words_are : row_words (filled read contents) ≡ words_with read size
  pub contents_are : contents_of (filled read contents) ≡ contents

bare_again : (line : Line) → IsBare line → IsBare (with_contents line None)
bare_again line h = record {
  stamp = h.stamp;
  shard = h.shard;
  pass = h.pass;
  moment = h.moment;
  now = h.now;
  name = h.name;
  asked = h.asked;
  token = h.token;
  status = h.status;
  lock = h.lock;
  version = h.version;
  contents = refl;
}

pub full : (state : State) (read : Row) (size : Option ℕ) (contents : Option (List ℕ)) → IsLine read size → size ≡ size_in contents → IsFull state read size contents
full state (row.At name version met) size contents h e =
    let none = no_size contents (sym e ∙ h.1) in record { form_is = (h.0, refl); comes = λ c. c; words_are = refl; contents_are = sym none }
full state (row.Held name lock) size contents h e =
    let none = no_size contents (sym e ∙ h.1) in record { form_is = (h.0, refl); comes = λ c. c; words_are = refl; contents_are = sym none }
full state (row.Spent name one) size contents h e =
    let none = no_size contents (sym e ∙ h.1) in record { form_is = (h.0, refl); comes = λ c. c; words_are = refl; contents_are = sym none }
full state row.Off size contents h e =
    let none = no_size contents (sym e ∙ h) in record { form_is = refl; comes = λ c. c; words_are = refl; contents_are = sym none }
full state (row.Holds name old) size contents h e =
    let Q : Option ℕ → Type 0 = λ n. MayFit n in
    record { form_is = (h.0, subst Q e h.1, refl); comes = λ c. c; words_are = ap (λ (n : Option ℕ). holds_words name n) (sym e); contents_are = refl }
full state (row.Entry line) size contents h e =
    record { form_is = (bare_again line h.0, sym e ∙ h.1); comes = λ c. c; words_are = refl; contents_are = refl }

-- a line that tells no contents is whole
pub line_alone : (read : Row) → IsLine read None → filled read None ≡ read
line_alone (row.At name version met) h = refl
line_alone (row.Held name lock) h = refl
line_alone (row.Spent name one) h = refl
line_alone row.Off h = refl
line_alone (row.Holds name old) h = ap (λ (c : Option (List ℕ)). row.Holds name c) (sym h.2)
line_alone (row.Entry line) h = ap (λ (c : Option (List ℕ)). row.Entry (with_contents line c)) (sym h.0.contents)

-- a row is its line and its contents
pub row_again : (one : Row) → filled (bare one) (contents_of one) ≡ one
row_again (row.At name version met) = refl
row_again (row.Held name lock) = refl
row_again (row.Spent name one) = refl
row_again row.Off = refl
row_again (row.Holds name contents) = refl
row_again (row.Entry line) = refl

-- ---- the words of lines have no spaces and no line feeds

pub line-lacks : (mark : ℕ) (one : Row) (size : Option ℕ) → IsMark mark → IsLine one size → EachLacks mark (words_with one size)
unfolding EachLacks
line-lacks mark (row.At name version met) size m h = (
  letters mark (codes "at") m refl,
  (
    Lacks-id mark name m.letter h.0.0,
    (Lacks-append mark (codes "v") (decimal version) (letters mark (codes "v") m refl) (number mark version m h.0.1), (Lacks-optional_number mark met m h.0.2, tt)),
  ),
)
line-lacks mark (row.Held name lock) size m h =
    let since = h.0.1.1 in (
      letters mark (codes "held") m refl,
      (
        Lacks-id mark name m.letter h.0.0,
        (Lacks-lock mark lock.id m h.0.1.0, (number mark lock.since m (omega (arith, since)), (number mark lock.until m h.0.1.2, tt))),
      ),
    )
line-lacks mark (row.Spent name one) size m h =
    (letters mark (codes "spent") m refl, (Lacks-id mark name m.letter h.0.0, (Lacks-lock mark one.id m h.0.1, (number mark one.until m h.0.2, tt))))
line-lacks mark row.Off size m h = (letters mark (codes "off") m refl, tt)
line-lacks mark (row.Holds name contents) size m h =
    (letters mark (codes "holds") m refl, (Lacks-id mark name m.letter h.0, (Lacks-optional_number mark size m h.1, tt)))
line-lacks mark (row.Entry line) size m h = bare-lacks mark line m h.0

pub row-lacks : (mark : ℕ) (one : Row) → IsMark mark → IsForm one → EachLacks mark (row_words one)
row-lacks mark one m h = subst (EachLacks mark) (words_bare one) (line-lacks mark (bare one) (size_in (contents_of one)) m h)

pub some_words : (one : Row) (size : Option ℕ) → 0 < length (words_with one size)
some_words (row.At name version met) size = omega arith
some_words (row.Held name lock) size = omega arith
some_words (row.Spent name one) size = omega arith
some_words row.Off size = omega arith
some_words (row.Holds name contents) size = omega arith
some_words (row.Entry line) size = omega arith

-- ---- the first line

pub head-lacks : (mark : ℕ) (head : Head) → IsMark mark → IsHead head → EachLacks mark (head_words head)
unfolding EachLacks
head-lacks mark head m h =
    let shard = h.shard_is in
    let opened = h.opened_is in
    let first = h.first_is.1 in
    let now = h.now_is in (
      letters mark (codes "wopi") m refl,
      (
        letters mark (codes "journal") m refl,
        (
          letters mark (codes "3") m refl,
          (
            letters mark (codes "shard") m refl,
            (
              number mark head.shard m (omega (arith, shard)),
              (
                letters mark (codes "opened") m refl,
                (
                  number mark head.opened m (omega (arith, opened)),
                  (
                    letters mark (codes "first") m refl,
                    (
                      number mark head.first m (omega (arith, first)),
                      (
                        letters mark (codes "now") m refl,
                        (number mark head.now m (omega (arith, now)), (letters mark (codes "last") m refl, (number mark head.last m h.last_is, tt))),
                      ),
                    ),
                  ),
                ),
              ),
            ),
          ),
        ),
      ),
    )

pub same_head : (head other : Head) → IsHead head → IsHead other → head_words head ≡ head_words other → head ≡ other
same_head head other h k e =
    let a = h.shard_is in
    let b = k.shard_is in
    let c = h.opened_is in
    let d = k.opened_is in
    let f = h.first_is.1 in
    let g = k.first_is.1 in
    let n = h.now_is in
    let m = k.now_is in
    let shard = decimal_injective head.shard other.shard (omega (arith, a)) (omega (arith, b)) (ap (λ l. get_or l 4 []) e) in
    let opened = decimal_injective head.opened other.opened (omega (arith, c)) (omega (arith, d)) (ap (λ l. get_or l 6 []) e) in
    let first = decimal_injective head.first other.first (omega (arith, f)) (omega (arith, g)) (ap (λ l. get_or l 8 []) e) in
    let now = decimal_injective head.now other.now (omega (arith, n)) (omega (arith, m)) (ap (λ l. get_or l 10 []) e) in
    let last = decimal_injective head.last other.last h.last_is k.last_is (ap (λ l. get_or l 12 []) e) in
    λ i. record { shard = shard i; opened = opened i; first = first i; now = now i; last = last i }
