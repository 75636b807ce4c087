use Rattle.std.proofs.Common.{arith, refl, ◌∙◌}
use Rattle.host_table.proofs.WritingLemmas.{hex_begun, hex_more, hex_cut, hex_done, hex_cut_at, none_left}
use Rattle.host_table.proofs.putting.put_hex.Goals as goal

pub steps-init : goal.steps-init
steps-init g c = record { written = hex_begun _ _ _; beside = refl; counts = omega (arith) }

pub returns-in-Err-clause-bytes : goal.returns-in-Err-clause-bytes
returns-in-Err-clause-bytes g c =
    hex_cut _ _ _ _ _ c.args.bytes.now c.steps.rest.now c.split_at.result.0.now c.split_at.result.1.now
    (hex_cut_at _ c.steps.rest.now _ _ c.split_at.ensures.front c.split_at.ensures.back) c.steps.invariant.written c.in-Err.ensures.bytes

pub steps-preserved : goal.steps-preserved
steps-preserved g c = record {
  written = hex_more _ _ _ _ _ _ c.args.bytes.now c.steps.rest.now c.split_at.result.0.now c.split_at.result.1.now
      (hex_cut_at _ c.steps.rest.now _ _ c.split_at.ensures.front c.split_at.ensures.back) c.steps.invariant.written c.in-Ok.ensures.bytes;
  beside = c.put_step.ensures.beside ∙ c.steps.invariant.beside;
  counts = omega (arith, c.steps.invariant.counts, c.put_step.ensures.never_falls);
}

pub returns-clause-bytes : goal.returns-clause-bytes
returns-clause-bytes g c = hex_done _ _ _ _ c.args.bytes.now c.steps.rest.now (none_left c.steps.rest.now c.steps-test.ensures) c.steps.invariant.written
