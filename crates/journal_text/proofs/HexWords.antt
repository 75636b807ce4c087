-- What words in hex say.
use Rattle.std.proofs.Common.{◌≡◌, ◌≢◌, ℕ, List, [], ◌∷◌, length, Option, None, Some, refl, sym, ◌∙◌}
use Rattle.std.specs.Prelude.{codes}
use Rattle.hex.specs.Hex.{IsBytes}
use Rattle.host_table.specs.Text.{hex_text, optional_hex}
use Rattle.line_text.specs.Words as told
use Rattle.line_text.proofs.HexWords.{same_many}
use Rattle.journal_text.specs.Lines.{AreSized, IsFile}
use Rattle.journal_text.specs.Words.{file_words, words_of}

-- a journal's words in hex are those of a line
pub as_hex : (bytes : List ℕ) → hex_text bytes ≡ told.hex_text bytes
as_hex [] = refl
as_hex (byte ∷ bytes) = refl

-- a word that is no hex tells no contents
pub no_contents : (word : List ℕ) (size : Option ℕ) (n : ℕ) (contents : Option (List ℕ)) → ((bytes : List ℕ) → IsBytes bytes → word ≢ told.hex_text bytes)
    → size ≡ Some n → AreSized size contents → word ≡ optional_hex contents → ⊥
no_contents word None n contents none is sized says = cc is
no_contents word (Some size) n None none is sized says = sized
no_contents word (Some size) n (Some bytes) none is sized says = none bytes sized.0 (says ∙ as_hex bytes)

-- and is in no line of a file
pub no_file : (row id digits : List ℕ) (file : List ℕ × List ℕ) → words_of row ≡ codes "file" ∷ id ∷ digits ∷ []
    → ((bytes : List ℕ) → IsBytes bytes → digits ≢ told.hex_text bytes) → IsFile file → words_of row ≡ file_words file → ⊥
no_file row id digits file are none form says =
    let both = sym are ∙ says in
    let same : digits ≡ hex_text file.1 = cc both in
    none file.1 form.contents (same ∙ as_hex file.1)

-- contents of another size aren't told
pub other_size : (word found : List ℕ) (size : ℕ) (contents : Option (List ℕ)) → word ≡ hex_text found → (length found ≡ size → ⊥) → AreSized (Some size) contents
    → word ≡ optional_hex contents → ⊥
other_size word found size None is apart sized e = sized
other_size word found size (Some bytes) is apart sized e =
    apart (same_many found bytes (sym (as_hex found) ∙ sym is ∙ e ∙ as_hex bytes) ∙ sized.1)
