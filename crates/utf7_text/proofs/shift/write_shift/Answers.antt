use Rattle.std.proofs.Common.{◌++◌, encode_utf8, lit<, string_bytes, ap, ◌∙◌}
use Rattle.base64.specs.Engines.{standard_no_pad}
use Rattle.base64.specs.GeneralPurpose.{encode_of}
use Rattle.utf7_text.specs.Pieces.{base64_of}
use Rattle.utf7_text.proofs.Digits.{three_parts}
use Rattle.utf7_text.proofs.shift.write_shift.Goals as goal

pub returns : goal.returns
unfolding base64_of
returns c =
    let digits = ap (encode_of standard_no_pad) (c.deref.ensures.value ∙ c.in_ok-bytes.ensures) in
    three_parts (string_bytes c.args.out.now) (string_bytes c.push.new.self) (string_bytes c.encode_string.new.output) (string_bytes c.push-2.new.self) (encode_utf8 43) (base64_of c.args.units.now) (encode_utf8 45)
    c.in_ok-push.ensures.bytes (c.in_ok-push.ensures.ascii (lit< tt)) (c.in_ok-encode_string.ensures.ok ∙ ap (λ ds. string_bytes c.push.new.self ++ ds) digits) c.in_ok-push-2.ensures.bytes (c.in_ok-push-2.ensures.ascii (lit< tt))
