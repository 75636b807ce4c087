use Rattle.std.proofs.Common.{List, ℕ, subst, arith}
use Rattle.std.specs.Prelude.{All}
use Rattle.wopi_headers.specs.Requests.{IsByte}
use Rattle.replay_cmd.specs.Wires.{localhost}
use Rattle.replay_cmd.proofs.CarriedLemmas.{head_length, visible}
use Rattle.replay_cmd.proofs.carrying.is_readable.Goals as goal

pub returns : goal.returns
returns c = λ h.
    let whole = head_length c.args.ask.now localhost c.args.body.now c.args.text.now c.requires in
    record {
      ask = record { file = c.as_slice-name.ensures.form; token = subst (λ (l : List ℕ). All IsByte l) c.as_slice-token.ensures (c.are_bytes.ensures c.if-not-are_bytes.false); op = c.is_writable_op.ensures h };
      size = omega (arith, whole, c.is_short.ensures c.if-not-is_short.false);
      visible = visible;
      small = omega (arith, c.if-body-gt-BODY_LIMIT.false);
      bodiless = c.brings_too_much.ensures c.if-brings_too_much.false;
    }
