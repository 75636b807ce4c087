use Rattle.expiry_queue.proofs.Chaining.{becomes_shorter, shorter_linked}
use Rattle.expiry_queue.proofs.cells.take_first.Goals as goal

pub returns-clause-chain : goal.returns-clause-chain
returns-clause-chain c =
    becomes_shorter c.args.cells.now.slots c.remove.new.self.slots c.args.place c.remove.result c.requires.linked c.requires.live c.remove.ensures.value c.remove.ensures.updates.changed c.remove.ensures.updates.others

pub returns-clause-linked : goal.returns-clause-linked
returns-clause-linked c =
    shorter_linked c.args.cells.now.slots c.remove.new.self.slots c.args.place c.remove.result c.requires.linked c.requires.live c.remove.ensures.value c.remove.ensures.updates.changed c.remove.ensures.updates.others
