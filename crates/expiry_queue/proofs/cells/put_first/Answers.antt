use Rattle.std.proofs.Common.{refl}
use Rattle.expiry_queue.specs.declared.cells.Cell.{Cell}
use Rattle.expiry_queue.proofs.Chaining.{becomes_longer, longer_linked}
use Rattle.expiry_queue.proofs.cells.put_first.Goals as goal

pub returns-clause-chain : goal.returns-clause-chain
returns-clause-chain c =
    let cell : Cell = record { spent = c.args.spent; next = c.args.chain; rest = c.rest_of-rest.result } in
    becomes_longer c.args.cells.now.slots c.insert_reserved.new.self.slots c.insert_reserved.result cell c.args.chain c.requires.linked c.requires.live c.insert_reserved.ensures.was_vacant
    c.insert_reserved.ensures.updates.changed c.insert_reserved.ensures.updates.others refl c.rest_of-rest.ensures

pub returns-clause-linked : goal.returns-clause-linked
returns-clause-linked c =
    let cell : Cell = record { spent = c.args.spent; next = c.args.chain; rest = c.rest_of-rest.result } in
    longer_linked c.args.cells.now.slots c.insert_reserved.new.self.slots c.insert_reserved.result cell c.args.chain c.requires.linked c.requires.live c.insert_reserved.ensures.was_vacant
    c.insert_reserved.ensures.updates.changed c.insert_reserved.ensures.updates.others refl c.rest_of-rest.ensures
