-- The words of an entry's line.
use Rattle.std.proofs.Common.{◌≡◌, ℕ, ◌<◌, ◌==◌, true, List, ◌++◌, drop, Option, None, if◌then◌else◌, refl, sym, ap, ◌∙◌, arith}
use Rattle.std.specs.Prelude.{decimal}
use Rattle.std.proofs.lemmas.Fmt.{decimal_injective}
use Rattle.std.proofs.lemmas.Bool.Decides.{nat_tests}
use Rattle.journal_text.specs.declared.text.Format.{Format}
use Rattle.journal_text.specs.declared.text.Format.TheVariants.{First, Second}
use Rattle.journal_text.specs.declared.text.Line.{Line}
use Rattle.journal_text.specs.declared.entry.Head.{Head}
use Rattle.host_core.specs.declared.entry.EntryAct.{EntryAct}
use Rattle.journal_text.specs.Entries.{AreEnds, IsHead, head_words}
use Rattle.journal_text.specs.Lines.{IsAct, IsLine, is_status, told_size}
use Rattle.journal_text.specs.Words.{act_words, end_words, line_words}
use Rattle.journal_text.proofs.Asking.{same_size}

abbrev pub head_of : Line → Head
head_of line = record { place = record { stamp = line.stamp; shard = line.shard; pass = line.pass; moment = line.moment }; now = line.now; name = line.name }

pub IsHead-line : (form : Format) (line : Line) → IsLine form line → IsHead (head_of line)
IsHead-line form line h = record {
  place = record { stamp = h.stamp; shard = h.shard; pass = h.pass; moment = h.moment };
  now = h.now;
  name = h.name;
}

pub AreEnds-line : (form : Format) (line : Line) → IsLine form line → AreEnds line.token line.status line.lock line.version
AreEnds-line form line h = record { token_is = h.token; status_is = h.status; lock_is = h.lock; version_is = h.version }

-- a line's words are its head, its act and its end
pub line_parts : (form : Format) (line : Line) → line_words form line ≡ head_words form (head_of line) ++ (act_words line.act ++ end_words line)
line_parts First line = refl
line_parts Second line = refl

-- words that begin with two heads go on in one way
pub behind_head : (form : Format) (words more rest : List (List ℕ)) (head other : Head) → words ≡ head_words form head ++ more → words ≡ head_words form other ++ rest
    → more ≡ rest
behind_head First words more rest head other h k = ap (drop 5) (sym h ∙ k)
behind_head Second words more rest head other h k = ap (drop 6) (sym h ∙ k)

pub small : (status : ℕ) → is_status status ≡ true → status < 1000
small status h = grind (arith, nat_tests)

-- lines with one act and one status tell contents of one size
pub same_told : (asked other : EntryAct) (status second : ℕ) → IsAct asked → IsAct other → act_words asked ≡ act_words other
    → is_status status ≡ true → is_status second ≡ true → decimal status ≡ decimal second → told_size asked status ≡ told_size other second
same_told asked other status second h k words s t e =
    let same : status ≡ second = decimal_injective status second (let l = small status s in omega (arith, l)) (let l = small second t in omega (arith, l)) e in
    ap (λ (n : ℕ). told_size asked n) same ∙ ap (λ (size : Option ℕ). if second == 200 then size else None) (same_size asked other h k words)
