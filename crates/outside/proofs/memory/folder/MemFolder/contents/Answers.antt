use Rattle.std.proofs.Common.{Some, sym, ap, ◌∙◌}
use Rattle.outside.proofs.Places.{file_at}
use Rattle.outside.proofs.memory.folder.MemFolder.contents.Goals as goal

pub returns-in-Some : goal.returns-in-Some
returns-in-Some c =
    let there = file_at c.args.self.now.files.items c.args.name.now _ c.index.result.now (rw c.deref.ensures.value at c.in-Some.ensures) c.index.ensures in
    ap Some c.as_slice.ensures ∙ sym there
