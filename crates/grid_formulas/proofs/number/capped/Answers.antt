use Rattle.std.proofs.Common.{◌≡◌, ℕ, ◌+◌, ◌*◌, ◌<◌, min, take, length, get_or, sym, ap, ◌∙◌, true, arith, rules, tests}
use Rattle.std.specs.Str.Parse.{digits_value}
use Rattle.std.specs.Char.{digit_value, is_ascii_digit}
use Rattle.std.specs.Int.{IsInRange}
use Rattle.std.proofs.lemmas.List.Sums.{AllPass-from_list_all}
use Rattle.std.proofs.lemmas.Str.{digit_value_digit}
use Rattle.std.proofs.lemmas.Int.Digits.{digits_value_more}
use Rattle.grid_formulas.proofs.number.capped.Goals as goal

-- one digit more, under a cap
capped_more : (cap v total d : ℕ) → total ≡ min v cap → min (min (total * 10) cap + d) cap ≡ min (v * 10 + d) cap
capped_more cap v total d e = omega arith

pub loop-byte-preserved : goal.loop-byte-preserved
loop-byte-preserved c =
    let bytes = c.args.bytes.now in
    let i = c.loop-byte.byte-index in
    let byte = get_or bytes i 0 in
    let below : i < length bytes = omega arith in
    let more = digits_value_more 10 bytes i below in
    let digit : is_ascii_digit byte ≡ true = AllPass-from_list_all is_ascii_digit bytes c.requires i 0 below in
    let range : IsInRange 48 57 byte = search (rules, tests) in
    let value : digit_value byte ≡ c.from.result = omega (arith, digit_value_digit byte range, c.from.ensures) in
    let cap : ℕ = 340282366920938463463374607431768211455 in
    let before = digits_value 10 (take i bytes) in
    c.saturating_add-total.ensures
    ∙ ap (λ z. min (z + c.from.result) cap) c.saturating_mul.ensures
    ∙ capped_more cap before c.loop-byte.total c.from.result c.loop-byte.invariant
    ∙ ap (λ z. min z cap) (ap (λ d. before * 10 + d) (sym value) ∙ sym more)
