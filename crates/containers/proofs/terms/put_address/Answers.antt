use Rattle.std.proofs.Common.{◌++◌, sym, ap, subst, ◌∙◌}
use Rattle.std.specs.Str.{IsUtf8}
use Rattle.access_tokens.specs.Addresses.{address_with}
use Rattle.access_tokens.proofs.Ascii.{address_is_text}
use Rattle.containers.specs.Listed.{child_token}
use Rattle.containers.proofs.Texts.{child_token-writable}
use Rattle.containers.proofs.terms.put_address.Goals as goal

pub returns-clause-text : goal.returns-clause-text
returns-clause-text c =
    let terms = c.args.terms.now in
    let child = c.args.child.now in
    let address = address_with terms.base.now terms.keys.now in
    let whole = c.in_ok-push_address.ensures ∙ ap (λ l. l ++ address c.child_token.result) c.clear.ensures.items ∙ ap address c.child_token.ensures in
    subst IsUtf8 (sym whole)
    (address_is_text terms.base.now terms.keys.now (child_token terms.token.now terms.moment child) c.requires.base
    (child_token-writable terms.token.now terms.moment child c.requires.token c.as_slice-name.ensures.form c.requires.moment))
