use Rattle.std.proofs.Common.{◌≡◌, ◌+◌, ◌≤◌, ℕ, suc, length, subst, ◌∙◌, arith}
use Rattle.std.proofs.lemmas.Option.{slice_get_within}
use Rattle.kept_locks.specs.Ties.{lefts_in, standings}
use Rattle.kept_locks.proofs.Counted.{leaves_next, purged_lefts, purged_shorter}
use Rattle.kept_locks.proofs.Purging.{PurgedTo, purged_files, purged_ids, purged_next}
use Rattle.kept_locks.proofs.places.purge_all.Goals as goal

pub places-preserved : goal.places-preserved
places-preserved c =
    let start = c.args.places.now.items in
    let places = c.places.places.items in
    let next = c.purge_place.new.places.items in
    let first = c.args.chains.now in
    let chains = c.places.chains in
    let now = c.args.now in
    let purged = c.places.invariant.purged in
    let latest = c.places.invariant.latest in
    let later = c.purge_place.ensures.latest in
    let spare = c.places.invariant.spare in
    let more = c.purge_place.ensures.spare in
    let one_more : suc c.places.at ≡ c.places.at + 1 = omega arith in
    record {
      tied = c.purge_place.ensures.tied;
      purged = subst (λ (n : ℕ). PurgedTo start next first c.purge_place.new.chains n now) one_more (purged_next start places next first chains c.purge_place.new.chains c.places.at now purged c.purge_place.ensures.purges);
      latest = omega (arith, latest, later);
      spare = omega (arith, spare, more);
      left = leaves_next (lefts_in start) (lefts_in places) (lefts_in next) (standings first start) (standings chains places) c.places.invariant.left c.purge_place.ensures.left
          (purged_shorter start places first chains c.places.at now purged);
      ready = λ ready. c.purge_place.ensures.ready (c.places.invariant.ready ready);
      room = c.purge_place.ensures.room ∙ c.places.invariant.room;
    }

pub returns-clause-files : goal.returns-clause-files
returns-clause-files c =
    let all : length c.places.places.items ≤ c.places.at = omega (arith, c.places-test.false, c.len.ensures, c.places.places.ok.0) in
    purged_files c.args.places.now.items c.places.places.items c.args.chains.now c.places.chains c.places.at c.args.now c.places.invariant.purged all

pub returns-clause-ids : goal.returns-clause-ids
returns-clause-ids c =
    let all : length c.places.places.items ≤ c.places.at = omega (arith, c.places-test.false, c.len.ensures, c.places.places.ok.0) in
    purged_ids c.places.chains c.places.places.items (λ j place found.
    let within = slice_get_within c.places.places.items j place found in
    (c.places.invariant.purged.purged j place (omega (arith, within, all)) found).0)

pub returns-clause-fresh : goal.returns-clause-fresh
returns-clause-fresh c =
    let places = c.places.places.items in
    let all : length places ≤ c.places.at = omega (arith, c.places-test.false, c.len.ensures, c.places.places.ok.0) in
    let tied = c.places.invariant.tied in
    purged_lefts places c.args.queue.now c.places.chains c.places.index tied (λ j place found.
    let within = slice_get_within places j place found in
    (c.places.invariant.purged.purged j place (omega (arith, within, all)) found).1)
