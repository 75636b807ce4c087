-- The lines that a shard's log gains, as they are written. (Own.)
use Rattle.std.specs.Prelude.{ℕ, List, [], ◌∷◌, ◌++◌, Option, None, Some, codes, length, option_map}
use Rattle.wopi_text.specs.Ids.{id_of}
use Rattle.host_table.specs.Text.{optional_number}
use Rattle.journal_text.specs.declared.text.Line.{Line}
use Rattle.journal_text.specs.Journals.{row_text}
use Rattle.journal_text.specs.Words.{bare_words}

-- Contents stand behind their line as they are, with a line feed behind them.
abbrev pub contents_text : Option (List ℕ) → List ℕ
contents_text None = []
contents_text (Some contents) = contents ++ 10 ∷ []

-- an entry: its line tells how many bytes were accepted, or `-`
abbrev pub entry_text : Line → List ℕ
entry_text line = row_text (bare_words line) ++ contents_text line.contents

-- behind an entry: it doesn't count
abbrev pub off_words : List (List ℕ)
off_words = codes "off" ∷ []

-- behind an entry that tells a store fault: what stands under its name, or `-` that nothing does
abbrev pub holds_words : List ℕ → Option ℕ → List (List ℕ)
holds_words name size = codes "holds" ∷ id_of name ∷ optional_number size ∷ []

abbrev pub size_in : Option (List ℕ) → Option ℕ
size_in contents = option_map (λ bytes. length bytes) contents

abbrev pub holds_text : List ℕ → Option (List ℕ) → List ℕ
holds_text name contents = row_text (holds_words name (size_in contents)) ++ contents_text contents
