use Rattle.std.proofs.Common.{◌≤◌, true, refl, arith}
use Rattle.kept_locks.specs.declared.trail.Trail.{Trail}
use Rattle.kept_locks.proofs.Counted.{counted_purged, leaves_purged}
use Rattle.kept_locks.proofs.Trails.{tells_left}
use Rattle.kept_locks.proofs.Entries.{reindexes_shed}
use Rattle.kept_locks.proofs.trail.purge_hidden.Goals as goal

pub returns-clause-tells : goal.returns-clause-tells
returns-clause-tells c =
    let trail = c.args.trail in
    let result : Trail = record { chain = c.purge-chain.result.0; as_of = trail.as_of; purged = true; told = c.is_told.result; count = c.purge-chain.result.1; left = c.purge-chain.result.1 } in
    let le : trail.as_of ≤ trail.as_of = omega arith in
    tells_left c.args.index.now c.purge-chain.new.index c.args.file c.args.chains.now c.purge-chain.new.chains trail result trail.as_of le c.is_told.ensures.either c.is_told.ensures.kept refl c.purge-chain.ensures.sheds c.purge-chain.ensures.chain.spent_is
    c.purge-chain.ensures.count c.purge-chain.ensures.only c.requires.tells

pub returns-clause-counted : goal.returns-clause-counted
returns-clause-counted c =
    let trail = c.args.trail in
    let result : Trail = record { chain = c.purge-chain.result.0; as_of = trail.as_of; purged = true; told = c.is_told.result; count = c.purge-chain.result.1; left = c.purge-chain.result.1 } in
    counted_purged c.purge-chain.new.chains result c.purge-chain.ensures.count refl c.is_told.ensures.empty

pub returns-clause-left : goal.returns-clause-left
returns-clause-left c =
    let trail = c.args.trail in
    let result : Trail = record { chain = c.purge-chain.result.0; as_of = trail.as_of; purged = true; told = c.is_told.result; count = c.purge-chain.result.1; left = c.purge-chain.result.1 } in
    leaves_purged c.purge-chain.new.chains trail result refl c.purge-chain.ensures.count

pub returns-clause-few : goal.returns-clause-few
returns-clause-few c = let count = c.purge-chain.ensures.count in omega (arith, count)

pub returns-clause-index : goal.returns-clause-index
returns-clause-index c =
    let trail = c.args.trail in
    let result : Trail = record { chain = c.purge-chain.result.0; as_of = trail.as_of; purged = true; told = c.is_told.result; count = c.purge-chain.result.1; left = c.purge-chain.result.1 } in
    reindexes_shed c.args.index.now c.purge-chain.new.index c.args.file trail.as_of trail result c.purge-chain.ensures.sheds c.is_told.ensures.kept
