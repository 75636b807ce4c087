use Rattle.std.proofs.Common.{ℕ, List, sym, ◌∙◌, subst}
use Rattle.std.specs.Str.{IsUtf8}
use Rattle.wopi_text.specs.FileName.{IsFileName}
use Rattle.wopi_model.specs.Moment.{IsMoment}
use Rattle.wopi_model.specs.declared.token.Token.{Token}
use Rattle.access_tokens.specs.TokenText.{IsWritable}
use Rattle.access_tokens.proofs.Ascii.{address_is_text}
use Rattle.host_server.specs.Copies.{token_for}
use Rattle.host_server.proofs.address.file_text.Goals as goal

-- a token for a file stays one that can be written
writable_for : (name : List ℕ) (asking : Token) (moment : ℕ) → IsWritable asking → IsFileName name → IsMoment moment → IsWritable (token_for name asking moment)
writable_for name asking moment form named timed = record {
  user = form.user;
  file = named;
  serial = form.serial;
  issued = timed;
  expires = form.expires;
}

pub text_of-requires : goal.text_of-requires
text_of-requires c =
    let desk = c.args.desk.now in
    let token = token_for c.args.name.now c.args.asking.now c.args.moment in
    subst IsUtf8 (sym (c.deref.ensures.value ∙ c.in_ok-address.ensures))
    (address_is_text desk.base desk.keys token desk.form
    (writable_for c.args.name.now c.args.asking.now c.args.moment c.requires.asking c.as_str.ensures.form c.requires.moment))
