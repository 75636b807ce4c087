use Rattle.std.proofs.Common.{List, ℕ, refl, sym, ◌∙◌, subst}
use Rattle.std.specs.List.{All}
use Rattle.std.proofs.lemmas.List.Elements.{All-get_or}
use Rattle.access_tokens.specs.Remembering.{IsKnown}
use Rattle.access_tokens.specs.TokenText.{IsSigned}
use Rattle.access_tokens.proofs.remembering.RecentTokens.find.Goals as goal

pub returns-in-Some : goal.returns-in-Some
returns-in-Some c = λ keys all.
    let found = c.in-Some.ensures.lookup in
    let all_there = subst (All (IsKnown keys)) (sym (c.deref.ensures.value ∙ c.self.view_is)) all in
    let known = subst (IsKnown keys) (sym found.1) (All-get_or (IsKnown keys) _ _ _ found.3.0 all_there) in
    let same = sym c.as_slice.ensures ∙ c.if-are_equal.ensures.0 refl in
    subst (IsSigned keys c.args.text.now) (sym c.copy.ensures) (subst (λ (text : List ℕ). IsSigned keys text c.in-Some.known.now.token) same known)
