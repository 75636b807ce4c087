use Rattle.std.proofs.Common.{refl, sym, ap, ◌∙◌, arith, subst, ◌≡◌}
use Rattle.std.proofs.lemmas.Grind.{common_steps}
use Rattle.hex.specs.Hex.{encode_lower}
use Rattle.wopi_text.specs.LockId.{IsLockId}
use Rattle.journal_text.proofs.Locks.{lock_hex, length-lock, decode_sized-lock, same_lock}
use Rattle.journal_text.proofs.values.lock_read.Goals as goal

pub returns-then-half-gt-MOST-clause-none : goal.returns-then-half-gt-MOST-clause-none
returns-then-half-gt-MOST-clause-none c = λ id form is.
    let len = length-lock c.args.word.now id form is in
    let short = form.short in omega (arith, len, short, c.if-half-gt-MOST.true)

pub returns-then-not-decode_hex-clause-none : goal.returns-then-not-decode_hex-clause-none
returns-then-not-decode_hex-clause-none c = λ id form is.
    c.if-not-decode_hex.ensures.none refl id (decode_sized-lock _ _ _ form is (grind (arith, common_steps)))

pub returns-then-not-writes-clause-none : goal.returns-then-not-writes-clause-none
returns-then-not-writes-clause-none c = λ id form is.
    let same = same_lock _ _ _ _ form is (grind (arith, common_steps)) (c.if-not-decode_hex.ensures.some refl) in
    absurd (cc (c.if-not-writes.ensures.1 (is ∙ lock_hex id form ∙ ap encode_lower (sym same))))

pub returns-in_default-clause-none : goal.returns-in_default-clause-none
returns-in_default-clause-none c = λ id form is.
    let same = same_lock _ _ _ _ form is (grind (arith, common_steps)) (c.if-not-decode_hex.ensures.some refl) in
    absurd (cc (c.in_default.ensures.exact.1 (subst IsLockId (sym same) form)))

pub returns-clause-some : goal.returns-clause-some
returns-clause-some c =
    let form = subst IsLockId (sym c.in-Some.ensures.value) (c.in-Some.ensures.exact.0 refl) in
    let same : c.args.word.now ≡ encode_lower c.in-Some.id = c.writes.ensures.0 c.if-not-writes.false ∙ ap encode_lower (sym c.in-Some.ensures.value) in
    (form, same ∙ sym (lock_hex c.in-Some.id form))
