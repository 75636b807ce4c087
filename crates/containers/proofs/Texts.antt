-- What is written of a file is text.
use Rattle.std.proofs.Common.{◌≡◌, ◌<◌, ◌^◌, ℕ, List, true, codes, decimal, refl}
use Rattle.std.specs.Str.{IsUtf8}
use Rattle.std.proofs.lemmas.Str.{IsAscii-append, IsUtf8-from_ascii}
use Rattle.std.proofs.lemmas.Fmt.{IsAscii-decimal}
use Rattle.wopi_text.specs.FileName.{IsFileName}
use Rattle.wopi_model.specs.Moment.{IsMoment}
use Rattle.wopi_headers.specs.Replies.{version_text}
use Rattle.access_tokens.specs.TokenText as file
use Rattle.access_tokens.proofs.Ascii.{literal}
use Rattle.host_core.specs.declared.children.Child.{Child}
use Rattle.containers.specs.Listed.{child_token}
use Rattle.containers.specs.TokenText.{IsWritable}
use Rattle.containers.specs.declared.token.ContainerToken.{ContainerToken}

-- a token for a file can be written
pub child_token-writable : (token : ContainerToken) (moment : ℕ) (child : Child) → IsWritable token → IsFileName child.name → IsMoment moment
    → file.IsWritable (child_token token moment child)
child_token-writable token moment child form named timed = record {
  user = form.user;
  file = named;
  serial = form.serial;
  issued = timed;
  expires = form.expires;
}

pub version_is_text : (version : ℕ) → version < 2 ^ 64 → IsUtf8 (version_text version)
unfolding version_text
version_is_text version fits =
    IsUtf8-from_ascii _ (IsAscii-append (codes "v") (decimal version) (literal (codes "v") refl) (IsAscii-decimal version fits))
