-- The token of a query is that of its target.
use Rattle.std.proofs.Common.{◌≡◌, ℕ, List, ap, ◌∙◌}
use Rattle.wopi_headers.specs.Targets.{query_of, token_in, token_of}

pub token_is_of : (query target token : List ℕ) → query ≡ query_of target → token ≡ token_in query → token ≡ token_of target
unfolding token_of
token_is_of query target token query_is token_is = token_is ∙ ap token_in query_is
