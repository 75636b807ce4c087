use Rattle.std.proofs.Common.{◌++◌, ap, ◌∙◌}
use Rattle.json.specs.Print.{print}
use Rattle.containers.specs.Written.{listing_tokens}
use Rattle.containers.proofs.Writing.{listing_printed}
use Rattle.containers.proofs.listed.listing_text.Goals as goal

pub returns-clause-text : goal.returns-clause-text
returns-clause-text c =
    let terms = c.args.terms.now in
    let before = c.in_ok-write_listing.ensures.before ∙ c.new-out.ensures.before ∙ c.in_ok-with_capacity.ensures.items in
    let words = listing_tokens terms.keys.now terms.base.now terms.token.now terms.moment c.args.children.now in
    let tokens = c.in_ok-write_listing.ensures.tokens ∙ ap (λ l. l ++ words) c.new-out.ensures.tokens in
    c.from_vec.ensures ∙ c.into_inner-text.ensures.items ∙ ap (λ b. b ++ print c.write_listing.new.out.tokens) before ∙ ap print tokens
    ∙ listing_printed terms.keys.now terms.base.now terms.token.now terms.moment c.args.children.now
