-- Texts of ASCII alone.
use Rattle.std.proofs.Common.{List, ℕ, codes, refl}
use Rattle.std.specs.Str.{IsUtf8}
use Rattle.std.proofs.lemmas.Str.{IsUtf8-from_ascii}
use Rattle.wopi_model.specs.User.{IsUser}
use Rattle.access_tokens.proofs.Ascii.{literal, user_is_ascii}

pub owner_is_text : IsUtf8 (codes "owner")
owner_is_text = IsUtf8-from_ascii _ (literal (codes "owner") refl)

pub user_is_text : (user : List ℕ) → IsUser user → IsUtf8 user
user_is_text user form = IsUtf8-from_ascii user (user_is_ascii user form)
