use Rattle.std.proofs.Common.{true≢false, ◌≤◌, length, sym, subst, arith}
use Rattle.wopi_text.specs.FileName.{name_limit, IsFileName}
use Rattle.put_relative.proofs.Forms.{copy_form}
use Rattle.put_relative.proofs.copies.candidate.Goals as goal

pub unreachable-requires : goal.unreachable-requires
unreachable-requires c =
    let form = subst IsFileName (sym c.as_slice-bytes.ensures.value) c.as_slice-bytes.ensures.form in
    let short = subst (λ t. length t ≤ name_limit) c.deref.ensures.0 c.deref.ensures.1 in
    let made = copy_form c.as_slice-bytes.result.now c.in_ok-text.text.items c.stem_len-stem.result c.args.n form c.stem_len-stem.ensures.bound c.stem_len-stem.ensures.period (omega arith) (omega arith) c.in_ok-text.ensures.some short in
    true≢false (sym (c.in-Err.ensures.exact.1 (subst IsFileName (sym c.deref.ensures.0) made)))
