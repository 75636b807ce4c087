use Rattle.std.proofs.Common.{◌≡◌, ◌⊎◌, ℕ, Some, true, List, slice_get, slice_set, sym, subst}
use Rattle.wopi_program.specs.Notes.{Notes}
use Rattle.wopi_program.specs.Watched.{TellsOf}
use Rattle.wopi_program.proofs.WatchLemmas.{set_apart, set_there, tells_one, there_low}
use Rattle.wopi_program.proofs.watching.tell_of.Goals as goal

pub returns-clause-told : goal.returns-clause-told
returns-clause-told g c =
    let held = g.K.Sink.held in
    let count = g.K.Sink.write_faults in
    let old = c.args.notes.now in
    let new = c.note.new.notes in
    let noted = subst (λ (line : List ℕ). Notes (held old) (held new) (count old) (count new) line) c.nearly_full_line.ensures c.note.ensures in
    subst (λ k. TellsOf held count old new c.args.marks.now (slice_set c.args.marks.now k true)) (sym c.from.ensures)
    (tells_one held count old new c.args.marks.now c.args.shard c.requires.lowered noted)

pub returns-clause-raised : goal.returns-clause-raised
returns-clause-raised g c =
    subst (λ k. (other : ℕ) → slice_get (slice_set c.args.marks.now k true) other ≡ Some true → (other ≡ c.args.shard) ⊎ (slice_get c.args.marks.now other ≡ Some true)) (sym c.from.ensures)
    (λ other is. set_apart c.args.marks.now c.args.shard other is)

pub returns-clause-itself : goal.returns-clause-itself
returns-clause-itself g c =
    subst (λ k. slice_get (slice_set c.args.marks.now k true) c.args.shard ≡ Some true) (sym c.from.ensures)
    (set_there c.args.marks.now c.args.shard (there_low c.args.marks.now c.args.shard c.requires.lowered))
