-- The origin of a page may be told.
use Rattle.std.proofs.Common.{◌≡◌, List, ℕ, true, refl, sym, ap, ◌∙◌}
use Rattle.std.specs.Prelude.{Option, None, Some, IfSome}
use Rattle.std.specs.Str.{IsUtf8}
use Rattle.access_tokens.specs.Origins.{IsOrigin}
use Rattle.access_tokens.proofs.OriginLemmas.{origin_is_text, origin_passes, passes_is}
use Rattle.host_server.specs.Editing.{may_tell}

pub is_told : (origin : Option (List ℕ)) → IfSome origin IsOrigin → may_tell origin ≡ true
unfolding may_tell
is_told None is = refl
is_told (Some origin) is = origin_passes origin is

pub told_is_text : (origin : Option (List ℕ)) (text : List ℕ) → may_tell origin ≡ true → origin ≡ Some text → IsUtf8 text
unfolding may_tell
told_is_text origin text may is = origin_is_text text (passes_is text (sym (ap may_tell is) ∙ may))
