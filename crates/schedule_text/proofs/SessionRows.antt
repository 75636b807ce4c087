-- The words of a session's line.
use Rattle.std.proofs.Common.{◌≡◌, ◌≢◌, ℕ, List, [], ◌∷◌, length, Option, None, Some, sym, ap, ◌∙◌, subst}
use Rattle.std.specs.Prelude.{IfSome, IfNone, codes, decimal}
use Rattle.wopi_text.specs.Ids.{id_of}
use Rattle.schedule_text.specs.declared.schedule.SessionLine.{SessionLine}
use Rattle.schedule_text.specs.Grammar.{AreIssued, IsSessionRow, words_of}
use Rattle.schedule_text.specs.RowKinds.{AreSessionWords}

abbrev Begin : List ℕ → List ℕ → List ℕ → List ℕ → List ℕ → List (List ℕ) → Type 0
Begin row kind id nonce expires last = words_of row ≡ kind ∷ id ∷ nonce ∷ expires ∷ last

pub session_row : (row kind id nonce expires : List ℕ) (last : List (List ℕ)) (issued : ℕ) (r : Option SessionLine) → Begin row kind id nonce expires last
    → AreIssued last issued → IfSome r (AreSessionWords kind id nonce expires) → IfSome r (λ session. session.issued ≡ issued) → IfSome r (IsSessionRow row)
session_row row kind id nonce expires last issued None words are some at = tt
session_row row kind id nonce expires last issued (Some session) words are some at =
    record {
      file = some.file_form;
      nonce = some.nonce_form;
      expires = some.expires_form;
      last = last;
      issued = subst (AreIssued last) (sym at) are;
      words = words ∙ ap (λ (w : List ℕ). w ∷ id ∷ nonce ∷ expires ∷ last) some.kind_is ∙ ap (λ (w : List ℕ). codes "session" ∷ w ∷ nonce ∷ expires ∷ last) some.id_is
          ∙ ap (λ (w : List ℕ). codes "session" ∷ id_of session.file ∷ w ∷ expires ∷ last) some.nonce_is
          ∙ ap (λ (w : List ℕ). codes "session" ∷ id_of session.file ∷ session.nonce ∷ w ∷ last) some.expires_is;
    }

words_in : (row kind id nonce expires : List ℕ) (last : List (List ℕ)) (session : SessionLine) → Begin row kind id nonce expires last → IsSessionRow row session
    → AreSessionWords kind id nonce expires session
words_in row kind id nonce expires last session words is =
    let same = sym words ∙ is.words in
    record {
      file_form = is.file;
      nonce_form = is.nonce;
      expires_form = is.expires;
      kind_is = cc same;
      id_is = cc same;
      nonce_is = cc same;
      expires_is = cc same;
    }

pub no_session_row : (row kind id nonce expires : List ℕ) (last : List (List ℕ)) (r : Option SessionLine) → Begin row kind id nonce expires last
    → IfNone r ((session : SessionLine) → AreSessionWords kind id nonce expires session → ⊥) → IfNone r ((session : SessionLine) → IsSessionRow row session → ⊥)
no_session_row row kind id nonce expires last (Some session) words none = tt
no_session_row row kind id nonce expires last None words none = λ session is. none session (words_in row kind id nonce expires last session words is)

-- there are four words, or five
four_or_five : (row : List ℕ) (session : SessionLine) (last : List (List ℕ)) → AreIssued last session.issued
    → words_of row ≡ codes "session" ∷ id_of session.file ∷ session.nonce ∷ decimal session.expires ∷ last → length (words_of row) ≢ 4 → length (words_of row) ≡ 5
four_or_five row session [] are words four = absurd (four (ap length words))
four_or_five row session (word ∷ []) are words four = ap length words
four_or_five row session (word ∷ other ∷ more) are words four = elim are [ ]

pub neither_row : (row : List ℕ) (r : Option SessionLine) → length (words_of row) ≢ 4
    → IfNone r ((session : SessionLine) → IsSessionRow row session → length (words_of row) ≢ 5) → IfNone r ((session : SessionLine) → IsSessionRow row session → ⊥)
neither_row row (Some session) four none = tt
neither_row row None four none = λ session is. none session is (four_or_five row session is.last is.issued is.words four)
