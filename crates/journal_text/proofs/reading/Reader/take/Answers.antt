use Rattle.std.proofs.Common.{◌≡◌, List, ℕ, sym, ap, ◌∙◌, get_or, [], subst}
use Rattle.wopi_text.proofs.IdLemmas.{id_of-injective}
use Rattle.journal_text.specs.Lines.{IsFile}
use Rattle.journal_text.specs.Journals.{IsAfter}
use Rattle.journal_text.specs.Words.{file_words, words_of}
use Rattle.journal_text.proofs.RowKinds.{file_no_line}
use Rattle.journal_text.proofs.reading.Reader.take.Goals as goal

pub returns-in-Some : goal.returns-in-Some
returns-in-Some c =
    let read : IsFile c.in-Some.file × (words_of c.args.row.now ≡ file_words c.in-Some.file) = rw c.in-Some.is at c.in_ok-file.ensures.some in
    record {
      last = λ e. cc (sym (c.is_last.ensures.1 e) ∙ c.if-is_last.false);
      file = λ file form none after words.
          let ids = ap (λ l. get_or l 1 []) (sym read.1 ∙ words) in
          let name = id_of-injective c.in-Some.file.0 file.0 read.0.name form.name ids in
          c.add_file.ensures.bad c.if-add_file.false none (subst (λ (n : List ℕ). IsAfter c.args.self.now.last n) (sym name) after);
      line = λ line form few words. file_no_line c.args.self.now.form c.in-Some.file line (sym read.1 ∙ words);
    }
