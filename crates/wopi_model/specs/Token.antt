-- An access token.
use Rattle.std.specs.Prelude.{ℕ, Bool, ◌&&◌, nat_lt, nat_le}
use Rattle.wopi_model.specs.declared.token.Token.{Token}

-- a token is live until it expires, and dead where it was issued before the host opened
abbrev pub is_live : Token → ℕ → ℕ → Bool
is_live token opened now = nat_lt now token.expires && nat_le opened token.issued
