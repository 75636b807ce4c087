use Rattle.std.proofs.Common.{◌≡◌, ◌++◌, ◌∷◌, [], ℕ, List, length, ap, sym, subst, ◌∙◌, arith}
use Rattle.std.proofs.lemmas.List.{length-append}
use Rattle.std.specs.Prelude.{IfSome}
use Rattle.wopi_text.specs.LockId.{IsLockId}
use Rattle.save_session.specs.LockIds.{decimal, lock_id}
use Rattle.save_session.proofs.IdForms.{decimal_short, id_is, is_lock_id}
use Rattle.save_session.proofs.ids.lock_id.Goals as goal

pub push_decimal-requires : goal.push_decimal-requires
push_decimal-requires c =
    let short = decimal_short c.args.number c.ranges.number.fits in
    let most = c.front_of-bytes.ensures.form.short in
    let held = ap length c.front_of-bytes.ensures.value in
    let sum = length-append c.args.nonce.now (45 ∷ []) in
    omega (arith, short, most, held, sum)

-- what was written is the id, and was read
spelled : (nonce front bytes : List ℕ) (n : ℕ) → front ≡ nonce ++ 45 ∷ [] → bytes ≡ front ++ decimal n → bytes ≡ lock_id nonce n
spelled nonce front bytes n a b = b ∙ ap (λ (xs : List ℕ). xs ++ decimal n) a ∙ id_is nonce n

pub unwrap-requires : goal.unwrap-requires
unwrap-requires c =
    let is = spelled c.args.nonce.now c.front_of-bytes.result.items c.as_slice.result.now c.args.number c.front_of-bytes.ensures.value (c.as_slice.ensures.value ∙ c.push_decimal.ensures) in
    c.read.ensures.exact.1 (subst IsLockId (sym is) (is_lock_id c.args.nonce.now c.args.number c.front_of-bytes.ensures.form c.ranges.number.fits))

pub returns : goal.returns
returns c =
    let is = spelled c.args.nonce.now c.front_of-bytes.result.items c.as_slice.result.now c.args.number c.front_of-bytes.ensures.value (c.as_slice.ensures.value ∙ c.push_decimal.ensures) in
    subst (λ o. IfSome o (λ id. id ≡ c.as_slice.result.now)) c.unwrap.ensures c.read.ensures.value ∙ is
