use Rattle.std.proofs.Common.{◌≡◌, ◌+◌, ◌<◌, ◌++◌, ◌/◌, ◌%◌, ◌∷◌, [], ℕ, List, length, ap, sym, ◌∙◌, arith}
use Rattle.std.proofs.lemmas.List.{length-append, append_assoc}
use Rattle.save_session.specs.LockIds.{decimal}
use Rattle.save_session.proofs.IdForms.{decimal_step, decimal_length}
use Rattle.save_session.proofs.ids.+push_decimal.Goals as goal

pub push-requires : goal.push-requires
push-requires t c =
    let some : 0 < c.args.number = omega arith in
    let longer = decimal_length c.args.number some in
    let room = c.requires in
    let held = ap length c.push_decimal.ensures in
    let sum = length-append c.args.bytes.now.items (decimal (c.args.number / 10)) in
    omega (arith, longer, room, held, sum)

pub returns : goal.returns
returns t c =
    let before = c.args.bytes.now.items in
    let digit : List ℕ = (48 + c.args.number % 10) ∷ [] in
    let moved : c.push_decimal.new.bytes.items ++ digit ≡ (before ++ decimal (c.args.number / 10)) ++ digit = ap (λ (xs : List ℕ). xs ++ digit) c.push_decimal.ensures in
    let joined : (before ++ decimal (c.args.number / 10)) ++ digit ≡ before ++ (decimal (c.args.number / 10) ++ digit) = append_assoc before (decimal (c.args.number / 10)) digit in
    let some : 0 < c.args.number = omega arith in
    let whole : before ++ (decimal (c.args.number / 10) ++ digit) ≡ before ++ decimal c.args.number = ap (λ (xs : List ℕ). before ++ xs) (sym (decimal_step c.args.number some)) in
    c.push.ensures.items ∙ moved ∙ joined ∙ whole
