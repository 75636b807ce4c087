use Rattle.std.proofs.Common.{inr, subst}
use Rattle.wopi_program.specs.Edit.{NotesForEdit}
use Rattle.wopi_program.proofs.EditLemmas.{edits_noted}
use Rattle.wopi_program.proofs.EndLemmas.{noted, same_notes}
use Rattle.wopi_program.proofs.edit.run_edit.Goals as goal

pub returns : goal.returns
returns g c =
    let ran = c.edit-status in
    let notes' = c.note_edit.new.notes in
    inr (record {
      asked = record {
        authority = c.in-Some.ask.authority.now;
        file = c.in-Some.ask.file;
        token = c.in-Some.ask.token.now;
        nonce = c.in-Some.ask.nonce;
      };
      first = c.in-Ok.editor;
      row = c.in-Some.ensures.some;
      editor = c.in-Ok.ensures;
      edits = edits_noted _ c.in-Ok.editor ran.result _ _ notes' ran.ensures.edits;
      read_cause = ran.ensures.read_cause;
      read_cut = ran.ensures.read_cut;
      read_fine = ran.ensures.read_fine;
      write_cause = ran.ensures.write_cause;
      notes = subst (λ n. NotesForEdit g.K.Sink.held g.K.Sink.write_faults ran.result n notes') (same_notes _ _ ran.ensures.others) c.note_edit.ensures;
      others = noted _ _ notes' ran.ensures.others;
    })
