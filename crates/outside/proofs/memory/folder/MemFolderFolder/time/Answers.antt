use Rattle.outside.proofs.Places.{made_at}
use Rattle.outside.proofs.memory.folder.MemFolderFolder.time.Goals as goal

pub returns-in-Some-clause-told : goal.returns-in-Some-clause-told
returns-in-Some-clause-told c =
    made_at c.args.self.now.files.items c.args.name.now _ c.args.self.now.dated (rw c.deref.ensures.value at c.in-Some.ensures)
