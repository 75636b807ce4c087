use Rattle.std.proofs.Common.{subst}
use Rattle.wopi_program.specs.Edit.{NotesForEdit}
use Rattle.wopi_program.proofs.EndLemmas.{noted, same_notes}
use Rattle.wopi_program.proofs.ReplayLemmas.{asks_noted}
use Rattle.wopi_program.proofs.replay.run_replay.Goals as goal

pub returns : goal.returns
returns g c =
    let ran = c.replay-status in
    let notes' = c.note_edit.new.notes in
    record {
      asked = c.in-Some.ask;
      row = c.in-Some.ensures.some;
      replays = asks_noted _ c.in-Some.ask ran.result _ _ notes' ran.ensures.replays;
      read_cause = ran.ensures.read_cause;
      read_cut = ran.ensures.read_cut;
      read_fine = ran.ensures.read_fine;
      write_cause = ran.ensures.write_cause;
      notes = subst (λ n. NotesForEdit g.K.Sink.held g.K.Sink.write_faults ran.result n notes') (same_notes _ _ ran.ensures.others) c.note_edit.ensures;
      others = noted _ _ notes' ran.ensures.others;
    }
