-- Journals that are judged while they come.
use Rattle.std.proofs.Common.{◌≡◌, ℕ, zero, suc, List, [], ◌∷◌, ◌++◌, Option, None, Some, length, refl, sym, ap, subst, arith}
use Rattle.std.proofs.lemmas.List.{length-append}
use Rattle.wopi_model.specs.Shard.{Opening}
use Rattle.journal_text.specs.declared.text.Format.{Format}
use Rattle.journal_text.specs.declared.text.JournalText.{JournalText}
use Rattle.journal_text.specs.declared.text.Line.{Line}
use Rattle.journal_text.specs.Lines.{IsLine}
use Rattle.journal_text.specs.Reader.{begun_text, with_file, with_line}
use Rattle.journal_audit.specs.declared.input.Progress.TheVariants as progress
use Rattle.journal_audit.specs.declared.verdict.AuditFault.{AuditFault}
use Rattle.journal_audit.specs.Audits.{Audited, IsOpenedHost, Judges, Keeps}
use Rattle.journal_audit.specs.Lines.{Begun, HasFault, IsBadAt, IsBadLine, LegalLines, behind_line, behind_lines, opened_host}
use Rattle.journal_audit.specs.Streams.{IsNext, KeepsText}
use Rattle.journal_audit.specs.Tracks.{IsSound}
use Rattle.journal_audit.proofs.Auditing.{opened_keeps}
use Rattle.journal_audit.proofs.Hosts.{go_on}

pub line_sound : (form : Format) (line : Line) → IsLine form line → IsSound line
line_sound form line is = record { shard = is.shard; now = is.now; contents = is.contents }

-- ---- opening files

pub begun_keeps : (auditor : Audited) (opened first : ℕ) → IsOpenedHost auditor [] opened first → KeepsText auditor (begun_text opened first)
begun_keeps auditor opened first is = record { opened = λ none. is; keeps = opened_keeps auditor [] opened first is; legal = tt }

pub file_keeps : (old new : Audited) (text : JournalText) (file : List ℕ × List ℕ) → text.lines ≡ []
    → (IsOpenedHost old text.files text.opened text.first → IsOpenedHost new (text.files ++ file ∷ []) text.opened text.first) → KeepsText old text → KeepsText new (with_file text file)
file_keeps old new text file none goes h =
    let files : Opening = text.files ++ file ∷ [] in
    let is = goes (h.opened none) in
    record {
      opened = λ again. is;
      keeps = subst (λ (l : List Line). Keeps new (behind_lines (opened_host files text.opened text.first) l)) (sym none) (opened_keeps new files text.opened text.first is);
      legal = subst (λ (l : List Line). LegalLines (opened_host files text.opened text.first) l) (sym none) tt;
    }

no_bad_at : (begun : Begun) (lines : List Line) (place : ℕ) (wrong : AuditFault) → lines ≡ [] → IsBadAt begun lines place wrong → ⊥
no_bad_at begun [] place wrong none bad = bad
no_bad_at begun (line ∷ lines) place wrong none bad = absurd (omega (arith, ap length none))

pub no_bad_line : (text : JournalText) (line : ℕ) (wrong : AuditFault) → text.lines ≡ [] → IsBadLine text line wrong → ⊥
no_bad_line text line wrong none bad = no_bad_at (opened_host text.files text.opened text.first) text.lines bad.0 wrong none bad.2

-- ---- entries

pub behind_more : (begun : Begun) (lines : List Line) (line : Line) → behind_lines begun (lines ++ line ∷ []) ≡ behind_line (behind_lines begun lines) line
behind_more begun [] line = refl
behind_more begun (one ∷ lines) line = behind_more (behind_line begun one) lines line

bad_more : (begun : Begun) (lines more : List Line) (place : ℕ) (wrong : AuditFault) → IsBadAt begun lines place wrong → IsBadAt begun (lines ++ more) place wrong
bad_more begun [] more place wrong bad = absurd bad
bad_more begun (line ∷ lines) more zero wrong bad = bad
bad_more begun (line ∷ lines) more (suc place) wrong bad = (bad.0, bad_more (behind_line begun line) lines more place wrong bad.1)

bad_end : (begun : Begun) (lines : List Line) (line : Line) (wrong : AuditFault) → LegalLines begun lines → HasFault (behind_lines begun lines) line wrong
    → IsBadAt begun (lines ++ line ∷ []) (length lines) wrong
bad_end begun [] line wrong legal has = has
bad_end begun (one ∷ lines) line wrong legal has = (legal.0, bad_end (behind_line begun one) lines line wrong legal.1 has)

pub bad_stays : (text : JournalText) (line : Line) (number : ℕ) (wrong : AuditFault) → IsBadLine text number wrong → IsBadLine (with_line text line) number wrong
bad_stays text line number wrong bad =
    (bad.0, bad.1, bad_more (opened_host text.files text.opened text.first) text.lines (line ∷ []) bad.0 wrong bad.2)

longer : (lines : List Line) (line : Line) → lines ++ line ∷ [] ≡ [] → ⊥
longer lines line none = let n = length-append lines (line ∷ []) in let m = ap length none in omega (arith, n, m)

pub next_keeps : (old new : Audited) (text : JournalText) (line : Line) (wrong : Option AuditFault) → Judges old line wrong new → KeepsText old text
    → IsNext text line wrong (progress.Legal new)
next_keeps old new text line None judges h =
    let host = opened_host text.files text.opened text.first in
    let it = judges (behind_lines host text.lines) h.keeps in
    record {
      opened = λ none. absurd (longer text.lines line none);
      keeps = subst (Keeps new) (sym (behind_more host text.lines line)) it.1;
      legal = (go_on host text.lines (line ∷ [])).1 (h.legal, (it.0, tt));
    }
next_keeps old new text line (Some wrong) judges h =
    let host = opened_host text.files text.opened text.first in
    (length text.lines, refl, bad_end host text.lines line wrong h.legal (judges (behind_lines host text.lines) h.keeps))
