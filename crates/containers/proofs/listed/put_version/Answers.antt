use Rattle.std.proofs.Common.{◌++◌, [], ◌∷◌, sym, ap, subst, ◌∙◌}
use Rattle.std.specs.Str.{IsUtf8}
use Rattle.wopi_headers.specs.Replies.{version_text}
use Rattle.containers.proofs.Texts.{version_is_text}
use Rattle.containers.proofs.listed.put_version.Goals as goal

pub returns-clause-text : goal.returns-clause-text
unfolding version_text
returns-clause-text c =
    let digits = c.as_bytes.result.now in
    let whole =
    c.in_ok-extend_from_slice.ensures.items ∙ ap (λ l. l ++ digits) (c.in_ok-push.ensures.items ∙ ap (λ l. l ++ 118 ∷ []) c.clear.ensures.items)
    ∙ ap (λ d. 118 ∷ d) (c.as_bytes.ensures.value ∙ c.format.ensures.text) in
    subst IsUtf8 (sym whole) (version_is_text c.args.version c.ranges.version.fits)
