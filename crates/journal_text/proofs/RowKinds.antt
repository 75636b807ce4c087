-- The kinds of lines differ by how many words they have.
use Rattle.std.proofs.Common.{◌≡◌, ℕ, List, length, ap, arith}
use Rattle.journal_text.specs.declared.text.Format.{Format}
use Rattle.journal_text.specs.declared.text.Format.TheVariants.{First, Second}
use Rattle.journal_text.specs.declared.text.Line.{Line}
use Rattle.journal_text.specs.Words.{file_words, last_words, line_words}

pub file_no_line : (form : Format) (file : List ℕ × List ℕ) (line : Line) → file_words file ≡ line_words form line → ⊥
file_no_line First file line e = omega (arith, ap length e)
file_no_line Second file line e = omega (arith, ap length e)

pub last_no_line : (form : Format) (entries : ℕ) (line : Line) → last_words form entries ≡ line_words form line → ⊥
last_no_line First entries line e = omega (arith, ap length e)
last_no_line Second entries line e = omega (arith, ap length e)

pub last_no_file : (form : Format) (entries : ℕ) (file : List ℕ × List ℕ) → last_words form entries ≡ file_words file → ⊥
last_no_file First entries file e = omega (arith, ap length e)
last_no_file Second entries file e = omega (arith, ap length e)
