use Rattle.std.proofs.Common.{rules, ◌≤◌, arith}
use Rattle.store_tests.proofs.kept.a_place_is_free_once_its_id_is_over.Goals as goal

pub make_place-requires-clause-room : goal.make_place-requires-clause-room
make_place-requires-clause-room g c =
    let made : 1 ≤ c.in_ok-locks.locks.room = search rules in
    omega (arith, made, c.add_file.ensures.room, c.set.ensures.room, c.settle.ensures.room, c.purge.ensures.room)
