use Rattle.std.proofs.Common.{◌<◌, ◌≢◌, List, ℕ, length, ap, subst, arith}
use Rattle.wopi_headers.specs.declared.answer.BodyKind.TheVariants as kind
use Rattle.replay_cmd.proofs.carrying.is_tellable.Goals as goal

pub returns : goal.returns
returns c = λ h.
    record {
      form = record {
        lock = c.has_lock_id.ensures c.if-not-has_lock_id.false;
        version = c.has_version.ensures c.if-not-has_version.false;
        kind = subst (λ (l : List ℕ). 0 < length l → c.args.answer.now.kind ≢ kind.None) c.as_slice-body.ensures (c.has_kind.ensures h);
      };
      phrase = c.has_phrase.ensures c.if-not-has_phrase.false;
      small = omega (arith, c.if-body-gt-REPLY_LIMIT.false, ap length c.as_slice-body.ensures);
    }
