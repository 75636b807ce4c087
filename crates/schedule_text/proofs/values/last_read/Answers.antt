use Rattle.std.proofs.lemmas.List.{take_rest}
use Rattle.line_text.proofs.Endings.{not_empty}
use Rattle.schedule_text.proofs.WordValues.{behind, put_back}
use Rattle.schedule_text.proofs.values.last_read.Goals as goal

pub returns : goal.returns
returns c = λ n.
    let counted = rw take_rest at (c.counted_read.ensures n) in (
      λ e.
          let read = counted.0 e in
          (read.0, put_back _ _ _ (not_empty _ _ c.is_empty.ensures c.if-is_empty.false) c.if-word-ne94.false read.1),
      λ form. counted.1 (form.0, (behind _ _ _ form.1).2),
    )
