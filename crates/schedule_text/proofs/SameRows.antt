-- Two readings of one row are of one kind, and of one session.
use Rattle.std.proofs.Common.{◌≡◌, ℕ, Bool, true, false, ◌<◌, ◌^◌, if◌then◌else◌, List, [], ◌∷◌, Some, refl, sym, ap, ◌∙◌, subst, arith}
use Rattle.std.specs.Prelude.{codes, decimal}
use Rattle.std.specs.Str.{bytes_eq}
use Rattle.std.proofs.lemmas.Slice.Eq.{bytes_eq-Decides}
use Rattle.wopi_text.specs.Decimals.{decimal_of}
use Rattle.wopi_text.specs.Ids.{id_of}
use Rattle.wopi_text.proofs.Decimals.{decimal_of-decimal}
use Rattle.wopi_text.proofs.IdLemmas.{id_of-injective}
use Rattle.schedule_text.specs.declared.schedule.SessionLine.{SessionLine}
use Rattle.schedule_text.specs.declared.schedule.EventLine.TheVariants as line
use Rattle.schedule_text.specs.declared.schedule.Wish.TheVariants as wish
use Rattle.schedule_text.specs.declared.one_line.AnyLine.{AnyLine}
use Rattle.schedule_text.specs.declared.one_line.AnyLine.TheVariants.{File, Session, Event}
use Rattle.schedule_text.specs.Grammar.{AreIssued, IsSessionRow, words_of}
use Rattle.schedule_text.specs.Readings.{IsLine}

-- ---- the words

abbrev pub first_word : List (List ℕ) → List ℕ
first_word [] = []
first_word (word ∷ words) = word

abbrev pub second_word : List (List ℕ) → List ℕ
second_word (one ∷ word ∷ words) = word
second_word _ = []

abbrev pub third_word : List (List ℕ) → List ℕ
third_word (one ∷ two ∷ word ∷ words) = word
third_word _ = []

abbrev pub behind_three : List (List ℕ) → List (List ℕ)
behind_three (one ∷ two ∷ three ∷ words) = words
behind_three _ = []

pub no_bytes : (x y : List ℕ) → (x ≡ y → ⊥) → bytes_eq x y ≡ false
no_bytes x y other = go (bytes_eq x y) refl where
  go : (b : Bool) → bytes_eq x y ≡ b → bytes_eq x y ≡ false
  go true h = absurd (other ((bytes_eq-Decides x y).0 h))
  go false h = h

-- ---- kinds

-- 2 for a file, 1 for a session, 0 for an event
abbrev pub kind_of : List ℕ → ℕ
kind_of word = if bytes_eq word (codes "file") then 2 else if bytes_eq word (codes "session") then 1 else 0

abbrev pub kind_in : List (List ℕ) → ℕ
kind_in words = kind_of (first_word words)

abbrev pub kind_by : AnyLine → ℕ
kind_by (File file) = 2
kind_by (Session session) = 1
kind_by (Event event) = 0

pub kind_is : (row : List ℕ) (one : AnyLine) → IsLine row one → kind_in (words_of row) ≡ kind_by one
kind_is row (File file) is = ap kind_in is.words
kind_is row (Session session) is = ap kind_in is.words
kind_is row (Event (line.Asks s wish.Start)) is = ap kind_in is.1
kind_is row (Event (line.Asks s wish.Read)) is = ap kind_in is.1
kind_is row (Event (line.Asks s (wish.Save contents))) is = ap kind_in is.1.1
kind_is row (Event (line.Asks s wish.Refresh)) is = ap kind_in is.1
kind_is row (Event (line.Asks s wish.Close)) is = ap kind_in is.1
kind_is row (Event (line.Deliver request moment)) is = ap kind_in is.2
kind_is row (Event (line.Answer reply)) is = ap kind_in is.1
kind_is row (Event (line.Lose s)) is = ap kind_in is.1
kind_is row (Event (line.Ticks moment)) is = ap kind_in is.1
kind_is row (Event (line.Foreign moment ask)) is = ap kind_in is.words
kind_is row (Event (line.Restarts moment)) is = ap kind_in is.1

-- ---- sessions

decimal_same : (n m : ℕ) → n < 2 ^ 64 → m < 2 ^ 64 → decimal n ≡ decimal m → n ≡ m
decimal_same n m small other e =
    let both : Some n ≡ Some m = sym (decimal_of-decimal n small) ∙ ap decimal_of e ∙ decimal_of-decimal m other in cc both

issued_same : (words : List (List ℕ)) (issued other : ℕ) → AreIssued words issued → AreIssued words other → issued ≡ other
issued_same [] issued other is too = is ∙ sym too
issued_same (word ∷ []) issued other is too =
    let small = is.0 in
    let also = too.0 in
    decimal_same issued other (omega (arith, small)) (omega (arith, also)) (sym is.1 ∙ too.1)
issued_same (word ∷ more ∷ words) issued other is too = elim is [ ]

pub session_same : (row : List ℕ) (one other : SessionLine) → IsSessionRow row one → IsSessionRow row other → one ≡ other
session_same row one other is too =
    let same = sym is.words ∙ too.words in
    let id : id_of one.file ≡ id_of other.file = cc same in
    let moment : decimal one.expires ≡ decimal other.expires = cc same in
    let last : is.last ≡ too.last = cc same in
    let nonce : one.nonce ≡ other.nonce = cc same in
    let file = id_of-injective one.file other.file is.file too.file id in
    let small = is.expires in
    let also = too.expires in
    let expires = decimal_same one.expires other.expires (omega (arith, small)) (omega (arith, also)) moment in
    let issued = issued_same too.last one.issued other.issued (subst (λ (words : List (List ℕ)). AreIssued words one.issued) last is.issued) too.issued in
    λ i. record { file = file i; nonce = nonce i; expires = expires i; issued = issued i }
