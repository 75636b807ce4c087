use Rattle.std.proofs.Common.{◌++◌, append-nil, encode_utf8, string_bytes, refl, sym, ap, ◌∙◌, arith, get_or}
use Rattle.utf7_text.specs.Pieces.{Direct}
use Rattle.utf7_text.proofs.Pushing.{direct_begins}
use Rattle.utf7_text.proofs.reading.take_piece.Goals as goal

pub returns-then-is_direct : goal.returns-then-is_direct
returns-then-is_direct c =
    (Direct (get_or c.args.bytes.now 0 0), direct_begins c.args.bytes.now (get_or c.args.bytes.now 0 0) c.requires refl (sym c.if-is_direct.ensures), c.in_ok-push-2.ensures.bytes ∙ ap (λ b. string_bytes c.args.text.now ++ encode_utf8 b) c.from.ensures ∙ ap (λ t. string_bytes c.args.text.now ++ t) (sym (append-nil (encode_utf8 (get_or c.args.bytes.now 0 0)))), omega arith, c.requires)
