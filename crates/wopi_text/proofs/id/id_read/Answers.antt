use Rattle.std.proofs.Common.{refl, sym, ap, ◌∙◌, arith, subst}
use Rattle.std.proofs.lemmas.Grind.{common_steps}
use Rattle.wopi_text.specs.FileName.{IsFileName}
use Rattle.wopi_text.specs.Ids.{id_of}
use Rattle.wopi_text.proofs.IdLemmas.{length-id, decode_sized-id, same_decoded}
use Rattle.wopi_text.proofs.id.id_read.Goals as goal

pub returns-then-half-gt-NAME_LIMIT-clause-exact : goal.returns-then-half-gt-NAME_LIMIT-clause-exact
returns-then-half-gt-NAME_LIMIT-clause-exact c = (
  λ e. absurd (cc e),
  λ id. let len = length-id c.args.bytes.now id.0 id.2 in let short = id.1.short in absurd (omega (arith, len, short, c.if-half-gt-NAME_LIMIT.true)),
)

pub returns-then-not-decode_hex-clause-exact : goal.returns-then-not-decode_hex-clause-exact
returns-then-not-decode_hex-clause-exact c = (
  λ e. absurd (cc e),
  λ id. absurd (c.if-not-decode_hex.ensures.none refl id.0 (decode_sized-id _ _ _ id.1 id.2 (grind (arith, common_steps)))),
)

pub returns-then-not-is_id_of-clause-exact : goal.returns-then-not-is_id_of-clause-exact
returns-then-not-is_id_of-clause-exact c = (
  λ e. absurd (cc e),
  λ id. let same = same_decoded _ _ _ _ id.1 id.2 (grind (arith, common_steps)) (c.if-not-decode_hex.ensures.some refl) in
      c.if-not-is_id_of.ensures.1 (id.2 ∙ ap id_of (sym same)),
)

pub returns-in-Err-clause-exact : goal.returns-in-Err-clause-exact
returns-in-Err-clause-exact c = (
  λ e. absurd (cc e),
  λ id. let same = same_decoded _ _ _ _ id.1 id.2 (grind (arith, common_steps)) (c.if-not-decode_hex.ensures.some refl) in
      c.in-Err.ensures.exact.1 (subst IsFileName (sym same) id.1),
)
