-- The texts of lines, as they are written.
use Rattle.std.proofs.Common.{◌≡◌, ℕ, List, [], ◌∷◌, ◌++◌, Option, Result, refl, sym, ap, subst, ◌∙◌, append_assoc, arith}
use Rattle.std.specs.Prelude.{codes, decimal}
use Rattle.std.specs.List.{join_with_byte}
use Rattle.wopi_text.specs.Ids.{id_of}
use Rattle.host_core.specs.declared.entry.EntryAct.{EntryAct}
use Rattle.host_core.specs.declared.entry.EntryAct.TheVariants as act
use Rattle.host_table.specs.Text.{act_text, file_line, first_line, hex_text, last_line, optional_hex, overwrite_text, token_fields, reason_text, version_text}
use Rattle.host_table.specs.Pieces.{place_text}
use Rattle.host_table.specs.Writing.{Gathers}
use Rattle.journal_text.specs.declared.text.Format.TheVariants.{Second}
use Rattle.journal_text.specs.declared.text.Line.{Line}
use Rattle.journal_text.specs.Journals.{file_text, first_text, last_text, line_text}
use Rattle.journal_text.specs.Words.{act_words, end_words}
use Rattle.journal_text.specs.Written.{begin_text, end_text}

pub first_lines : (opened first : ℕ) → first_line opened first ≡ first_text Second opened first
unfolding first_line
first_lines opened first = grind (arith, append_assoc)

pub last_lines : (entries : ℕ) → last_line entries ≡ last_text Second entries
unfolding last_line
last_lines entries = grind (arith, append_assoc)

pub file_lines : (file : List ℕ × List ℕ) → file_line file ≡ file_text file
unfolding file_line
file_lines file = grind (arith, append_assoc)

-- ---- entries

abbrev join : List (List ℕ) → List ℕ
join words = join_with_byte 32 words

pub headed : (word : List ℕ) (asked : EntryAct) (next : List ℕ) (words : List (List ℕ))
    → join (word ∷ (act_words asked ++ next ∷ words)) ≡ word ++ 32 ∷ join (act_words asked ++ next ∷ words)
headed word act.Info next words = refl
headed word (act.Get most) next words = refl
headed word (act.Put lock size) next words = refl
headed word (act.Lock id) next words = refl
headed word act.GetLock next words = refl
headed word (act.Refresh id) next words = refl
headed word (act.Unlock id) next words = refl
headed word (act.Relock old id) next words = refl
headed word act.Look next words = refl
headed word (act.Create overwrite size) next words = refl
headed word act.Delete next words = refl

pub asked_join : (asked : EntryAct) (next : List ℕ) (words : List (List ℕ)) → join (act_words asked ++ next ∷ words) ≡ act_text asked ++ 32 ∷ join (next ∷ words)
unfolding act_text
asked_join act.Info next words = refl
asked_join (act.Get most) next words = refl
asked_join (act.Put lock size) next words =
    ap (λ (l : List ℕ). codes "put" ++ 32 ∷ l) (sym (append_assoc (optional_hex lock) (32 ∷ decimal size) (32 ∷ join (next ∷ words))))
asked_join (act.Lock id) next words = refl
asked_join act.GetLock next words = refl
asked_join (act.Refresh id) next words = refl
asked_join (act.Unlock id) next words = refl
asked_join (act.Relock old id) next words =
    ap (λ (l : List ℕ). codes "relock" ++ 32 ∷ l) (sym (append_assoc (hex_text old) (32 ∷ hex_text id) (32 ∷ join (next ∷ words))))
asked_join act.Look next words = refl
asked_join (act.Create overwrite size) next words =
    ap (λ (l : List ℕ). codes "create" ++ 32 ∷ l) (sym (append_assoc (overwrite_text overwrite) (32 ∷ decimal size) (32 ∷ join (next ∷ words))))
asked_join act.Delete next words = refl

abbrev behind_name : Line → List ℕ
behind_name line =
    act_text line.act ++ 32 ∷ (token_fields line.token ++ 32 ∷ (decimal line.status ++ 32 ∷ (optional_hex line.lock ++ 32 ∷ (reason_text line.reason
    ++ 32 ∷ (version_text line.version ++ 32 ∷ optional_hex line.contents)))))

behind : (line : Line) → join (id_of line.name ∷ (act_words line.act ++ end_words line)) ≡ id_of line.name ++ 32 ∷ behind_name line
behind line =
    headed (id_of line.name) line.act _ _ ∙ ap (λ (l : List ℕ). id_of line.name ++ 32 ∷ l) (asked_join line.act _ _)

abbrev whole : Line → List ℕ → List ℕ
whole line rest =
    (decimal line.stamp ++ 32 ∷ (decimal line.shard ++ 32 ∷ (decimal line.pass ++ 32 ∷ (decimal line.moment ++ 32 ∷ (decimal line.now ++ 32 ∷ rest))))) ++ 10 ∷ []

abbrev six : List ℕ → List ℕ → List ℕ → List ℕ → List ℕ → List ℕ → List ℕ → List ℕ
six a b c d e f rest = a ++ 32 ∷ (b ++ 32 ∷ (c ++ 32 ∷ (d ++ 32 ∷ (e ++ 32 ∷ (f ++ rest)))))

six_first : (a b c d e f rest : List ℕ) → (a ++ 32 ∷ b ++ 32 ∷ c ++ 32 ∷ d ++ 32 ∷ e ++ 32 ∷ f) ++ rest ≡ six a b c d e f rest
six_first a b c d e f rest = grind (arith, append_assoc)

six_more : (a b c d e f rest end : List ℕ) → six a b c d e f rest ++ end ≡ six a b c d e f (rest ++ end)
six_more a b c d e f rest end = grind (arith, append_assoc)

four_first : (a b c d rest : List ℕ) → (a ++ 32 ∷ b ++ 32 ∷ c ++ 32 ∷ d) ++ rest ≡ a ++ 32 ∷ (b ++ 32 ∷ (c ++ 32 ∷ (d ++ rest)))
four_first a b c d rest = grind (arith, append_assoc)

abbrev seven : List ℕ → List ℕ → List ℕ → List ℕ → List ℕ → List ℕ → List ℕ → List ℕ
seven a b c d e f rest = a ++ 32 ∷ (b ++ 32 ∷ (c ++ 32 ∷ (d ++ 32 ∷ (e ++ 32 ∷ (f ++ 32 ∷ rest)))))

seven_more : (a b c d e f rest end : List ℕ) → seven a b c d e f rest ++ end ≡ seven a b c d e f (rest ++ end)
seven_more a b c d e f rest end = grind (arith, append_assoc)

middle : (asked token a b c d rest : List ℕ) → ((32 ∷ asked) ++ (32 ∷ token)) ++ ((32 ∷ (a ++ 32 ∷ b ++ 32 ∷ c ++ 32 ∷ d)) ++ (32 ∷ rest)) ≡ 32 ∷ seven asked token a b c d rest
middle asked token a b c d rest =
    ap (λ (l : List ℕ). 32 ∷ l) (append_assoc asked (32 ∷ token) (32 ∷ ((a ++ 32 ∷ b ++ 32 ∷ c ++ 32 ∷ d) ++ (32 ∷ rest)))
    ∙ ap (λ (l : List ℕ). asked ++ 32 ∷ (token ++ 32 ∷ l)) (four_first a b c d (32 ∷ rest)))

pieces : (line : Line) → begin_text line ++ end_text line ≡ whole line (id_of line.name ++ 32 ∷ behind_name line)
pieces line =
    append_assoc (place_text line.stamp line.shard line.pass line.moment line.now line.name) ((32 ∷ act_text line.act) ++ (32 ∷ token_fields line.token)) (end_text line)
    ∙ ap (λ (l : List ℕ). place_text line.stamp line.shard line.pass line.moment line.now line.name ++ l)
    (middle (act_text line.act) (token_fields line.token) (decimal line.status) (optional_hex line.lock) (reason_text line.reason) (version_text line.version) (optional_hex line.contents ++ 10 ∷ []))
    ∙ six_first (decimal line.stamp) (decimal line.shard) (decimal line.pass) (decimal line.moment) (decimal line.now) (id_of line.name) _
    ∙ ap (λ (l : List ℕ). six (decimal line.stamp) (decimal line.shard) (decimal line.pass) (decimal line.moment) (decimal line.now) (id_of line.name) (32 ∷ l))
    (sym (seven_more (act_text line.act) (token_fields line.token) (decimal line.status) (optional_hex line.lock) (reason_text line.reason) (version_text line.version) (optional_hex line.contents) (10 ∷ [])))
    ∙ sym (six_more (decimal line.stamp) (decimal line.shard) (decimal line.pass) (decimal line.moment) (decimal line.now) (id_of line.name) (32 ∷ behind_name line) (10 ∷ []))

-- a line is its two halves
pub line_halves : (line : Line) → begin_text line ++ end_text line ≡ line_text Second line
line_halves line = pieces line ∙ ap (whole line) (sym (behind line))

-- a text that was gathered, by another name
pub gathers_as : {T E : Type 0} (a b : Option (List ℕ)) (p q : List ℕ) (result : Result T E) (text other : List ℕ) → text ≡ other
    → Gathers a b p q result text → Gathers a b p q result other
gathers_as a b p q result text other same h = subst (Gathers a b p q result) same h
