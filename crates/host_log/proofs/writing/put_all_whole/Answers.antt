use Rattle.std.proofs.Common.{◌≤◌, ◌<◌, ◌∙◌, Option, length, ap, arith}
use Rattle.std.specs.Prelude.{unwrap_or}
use Rattle.kept_locks.specs.Locks.{Standing, unlocked}
use Rattle.host_log.proofs.Texts.{whole_all, whole_cut, whole_more}
use Rattle.host_log.proofs.writing.put_all_whole.Goals as goal

pub returns-in-Err-clause-bytes : goal.returns-in-Err-clause-bytes
returns-in-Err-clause-bytes g c =
    let file = c.index-files-place.result in
    whole_cut c.args.files.now c.args.locks.now c.files.place file file _ _ _ _ _ _ c.files-test.true c.index-files-place.is
    (ap (λ (o : Option Standing). unwrap_or o unlocked) c.locks_at.ensures) c.files.invariant.written c.in-Err.ensures.bytes

pub files-preserved : goal.files-preserved
files-preserved g c =
    let file = c.index-files-place.result in
    let inside : c.files.place < length c.args.files.now = c.files-test.true in
    let counts = c.files.invariant.counts in
    let falls = c.put_whole.ensures.never_falls in
    record {
      few = omega (arith, inside);
      written = whole_more c.args.files.now c.args.locks.now c.files.place file file _ _ _ _ _ _ _ c.files-test.true c.index-files-place.is
          (ap (λ (o : Option Standing). unwrap_or o unlocked) c.locks_at.ensures) c.files.invariant.written c.in-Ok.ensures.bytes;
      beside = c.put_whole.ensures.beside ∙ c.files.invariant.beside;
      counts = omega (arith, counts, falls);
    }

pub returns-clause-bytes : goal.returns-clause-bytes
returns-clause-bytes g c =
    let past : length c.args.files.now ≤ c.files.place = omega (arith, c.files-test.false) in
    whole_all c.args.files.now c.args.locks.now c.files.place _ _ _ _ past c.files.invariant.written
