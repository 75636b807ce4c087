use Rattle.std.proofs.Common.{◌∙◌, ℕ, List, Option, IfSome, inr, subst, sym}
use Rattle.access_tokens.specs.Origins.{IsOrigin}
use Rattle.wopi_program.specs.EditorWords.{origin_told}
use Rattle.wopi_program.specs.Once.{Finishes}
use Rattle.wopi_program.proofs.EndLemmas.{noted, same_notes}
use Rattle.wopi_program.proofs.OnceLemmas.{by_no_read_fault, by_read_fault, by_write_fault, once_noted, untouched_noted}
use Rattle.wopi_program.proofs.OnceRows.{once_page}
use Rattle.wopi_program.proofs.once.run_once.Goals as goal

pub once_in-end-requires-clause-page : goal.once_in-end-requires-clause-page
once_in-end-requires-clause-page g c κs within =
    subst (λ (o : Option (List ℕ)). IfSome o IsOrigin) (sym (c.in-Ok-origin_from.ensures ∙ once_page _ _ _ _ c.in-Some.ensures.some)) c.in-Some.ensures.some.options_are.1

pub returns : goal.returns
returns g c =
    let ran = c.once_in-end in
    let notes = c.args.outside.now.notes in
    let notes' = c.finish.new.notes in
    let status = c.finish.result in
    let finishes : Finishes g.K.Sink.held g.K.Sink.write_faults status notes notes' ran.result =
    subst (λ n. Finishes g.K.Sink.held g.K.Sink.write_faults status n notes' ran.result) (same_notes _ _ ran.ensures.others) c.finish.ensures
    in
    inr (record {
      end = ran.result;
      keys = c.in-Some.keys;
      base = c.in-Some.base.now;
      editor = c.in-Some.editor;
      row = c.in-Some.ensures.some;
      runs = once_noted _ c.in-Some.keys _ c.in-Some.base.now c.in-Some.editor _ (origin_told c.in-Some.ensures.some.options) ran.result _ _ notes' (c.in-Ok.ensures ∙ c.as_bytes.ensures.value)
          (c.in-Ok-origin_from.ensures ∙ once_page _ _ _ _ c.in-Some.ensures.some) ran.ensures.runs;
      untouched = untouched_noted ran.result _ _ notes' ran.ensures.untouched;
      nothing_read = ran.ensures.nothing_read;
      fine = by_no_read_fault _ g.K.Sink.held g.K.Sink.write_faults status notes notes' ran.result finishes ran.ensures.fine;
      read_cause = by_read_fault _ g.K.Sink.held g.K.Sink.write_faults status notes notes' ran.result finishes ran.ensures.read_fault;
      write_cause = by_write_fault _ g.K.Sink.held g.K.Sink.write_faults status notes notes' ran.result finishes ran.ensures.write_fault;
      finishes = finishes;
      others = noted _ _ notes' ran.ensures.others;
    })
