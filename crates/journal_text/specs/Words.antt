-- The words of a journal's lines, which single spaces separate. (Own.)
use Rattle.std.specs.Prelude.{◌==◌, ℕ, List, [], ◌∷◌, ◌++◌, codes, decimal}
pub use Rattle.line_text.specs.Words.{IsRow, words_of}
use Rattle.line_text.specs.Words.{parts_at}
use Rattle.wopi_text.specs.Ids.{id_of}
use Rattle.host_core.specs.declared.entry.EntryAct.{EntryAct}
use Rattle.host_core.specs.declared.entry.EntryAct.TheVariants as act
use Rattle.wopi_model.specs.declared.token.Token.{Token}
use Rattle.host_table.specs.Text.{hex_text, optional_hex, optional_number, overwrite_text, rights_text, token_fields, reason_text, version_text}
use Rattle.journal_text.specs.declared.text.Format.{Format}
use Rattle.journal_text.specs.declared.text.Format.TheVariants.{First, Second}
use Rattle.journal_text.specs.declared.text.Line.{Line}
use Rattle.journal_text.specs.Lines.{told_size}

-- the parts of a token between its periods
abbrev pub parts_of : List ℕ → List (List ℕ)
parts_of text = parts_at 46 text

abbrev pub token_parts : Token → List (List ℕ)
token_parts token =
    token.user ∷ id_of token.file ∷ rights_text token.write ∷ decimal token.serial ∷ decimal token.issued ∷ decimal token.expires ∷ []

-- what was asked
abbrev pub act_words : EntryAct → List (List ℕ)
act_words act.Info = codes "info" ∷ []
act_words (act.Get most) = codes "get" ∷ optional_number most ∷ []
act_words (act.Put lock size) = codes "put" ∷ optional_hex lock ∷ decimal size ∷ []
act_words (act.Lock id) = codes "lock" ∷ hex_text id ∷ []
act_words act.GetLock = codes "getlock" ∷ []
act_words (act.Refresh id) = codes "refresh" ∷ hex_text id ∷ []
act_words (act.Unlock id) = codes "unlock" ∷ hex_text id ∷ []
act_words (act.Relock old id) = codes "relock" ∷ hex_text old ∷ hex_text id ∷ []
act_words act.Look = codes "look" ∷ []
act_words (act.Create overwrite size) = codes "create" ∷ overwrite_text overwrite ∷ decimal size ∷ []
act_words act.Delete = codes "delete" ∷ []

-- the shard's time, which only the second form tells
abbrev pub now_words : Format → ℕ → List (List ℕ)
now_words First now = []
now_words Second now = decimal now ∷ []

-- what is told behind the act
abbrev pub end_words : Line → List (List ℕ)
end_words line =
    token_fields line.token ∷ decimal line.status ∷ optional_hex line.lock ∷ reason_text line.reason ∷ version_text line.version
    ∷ optional_hex line.contents ∷ []

-- the words of an entry's line
abbrev pub line_words : Format → Line → List (List ℕ)
line_words form line =
    decimal line.stamp ∷ decimal line.shard ∷ decimal line.pass ∷ decimal line.moment
    ∷ (now_words form line.now ++ (id_of line.name ∷ (act_words line.act ++ end_words line)))

-- the words of an entry's line of which the contents stand elsewhere: of these it tells the size
abbrev pub bare_words : Line → List (List ℕ)
bare_words line =
    decimal line.stamp ∷ decimal line.shard ∷ decimal line.pass ∷ decimal line.moment ∷ decimal line.now ∷ id_of line.name
    ∷ (act_words line.act ++ (
    token_fields line.token ∷ decimal line.status ∷ optional_hex line.lock ∷ reason_text line.reason ∷ version_text line.version
    ∷ optional_number (told_size line.act line.status) ∷ []
    ))

-- the words of an opening file's line
abbrev pub file_words : List ℕ × List ℕ → List (List ℕ)
file_words file = codes "file" ∷ id_of file.0 ∷ hex_text file.1 ∷ []

-- the words of the first line
abbrev pub first_words : Format → ℕ → ℕ → List (List ℕ)
first_words First opened first = codes "wopi" ∷ codes "journal" ∷ codes "1" ∷ codes "opened" ∷ decimal opened ∷ []
first_words Second opened first =
    codes "wopi" ∷ codes "journal" ∷ codes "2" ∷ codes "opened" ∷ decimal opened ∷ codes "first" ∷ decimal first ∷ []

-- the words of the last line
abbrev pub last_words : Format → ℕ → List (List ℕ)
last_words First entries = codes "end" ∷ []
last_words Second entries = codes "end" ∷ decimal entries ∷ []
