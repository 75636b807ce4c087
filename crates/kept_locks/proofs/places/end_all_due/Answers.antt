use Rattle.std.proofs.Common.{◌≡◌, List, subst, ◌∙◌, arith}
use Rattle.kept_locks.specs.Locks.{LeavesAll, Standing, all_ended}
use Rattle.kept_locks.specs.Ties.{chains_in, lefts_in, standings}
use Rattle.kept_locks.proofs.Counted.{leaves_next}
use Rattle.kept_locks.proofs.Falling.{falls_next}
use Rattle.kept_locks.proofs.Untouched.{due_next}
use Rattle.kept_locks.proofs.places.end_all_due.Goals as goal

pub due-preserved : goal.due-preserved
due-preserved c =
    let first = c.args.places.now.items in
    let start = c.args.chains.now in
    let places = c.due.places.items in
    let chains = c.due.chains in
    let next = c.end_due.new.places.items in
    let after = c.end_due.new.chains in
    let now = c.args.now in
    let files : all_ended now (standings after next) ≡ all_ended now (standings start first) = c.end_due.ensures.files ∙ c.due.invariant.files in
    let latest = c.due.invariant.latest in
    let later = c.end_due.ensures.latest in
    let taken = c.due.invariant.taken in
    let takes = c.end_due.ensures.taken in
    let spare = c.due.invariant.spare in
    let spares = c.end_due.ensures.spare in
    record {
      tied = c.end_due.ensures.tied;
      latest = omega (arith, latest, later);
      files = files;
      taken = omega (arith, taken, takes);
      due = due_next now (standings start first) (standings chains places) (standings after next) (chains_in start first) (chains_in chains places) (chains_in after next) c.due.invariant.due c.end_due.ensures.due;
      spare = omega (arith, spare, spares);
      falls = falls_next (lefts_in first) (lefts_in places) (lefts_in next) (chains_in start first) (chains_in chains places) (chains_in after next) c.due.invariant.falls c.end_due.ensures.falls;
      left = leaves_next (lefts_in first) (lefts_in places) (lefts_in next) (all_ended now (standings start first)) (all_ended now (standings start first)) c.due.invariant.left
          (subst (λ (l : List Standing). LeavesAll (lefts_in places) (lefts_in next) l) files c.end_due.ensures.left) (λ n. omega arith);
      ready = λ ready. c.end_due.ensures.ready (c.due.invariant.ready ready);
      room = c.end_due.ensures.room ∙ c.due.invariant.room;
    }
