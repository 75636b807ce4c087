use Rattle.std.proofs.Common.{subst}
use Rattle.wopi_program.specs.Contents.{NotesForContents}
use Rattle.wopi_program.proofs.AuditLemmas.{takes_noted}
use Rattle.wopi_program.proofs.contents.run_contents.Goals as goal

pub returns : goal.returns
returns g c =
    let ran = c.look_up-status in
    let notes' = c.note_contents.new.notes in
    record {
      name = c.in-Some.name;
      version = c.in-Some.version;
      row = c.in-Some.ensures.some;
      finds = takes_noted _ _ ran.result _ _ notes' ran.ensures.takes;
      notes = subst (λ n. NotesForContents g.K.Sink.held g.K.Sink.write_faults ran.result n notes') ran.ensures.notes c.note_contents.ensures;
    }
