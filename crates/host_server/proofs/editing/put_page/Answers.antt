use Rattle.std.proofs.Common.{sym, subst}
use Rattle.std.specs.Str.{IsUtf8}
use Rattle.host_server.proofs.PageLemmas.{told_is_text}
use Rattle.host_server.proofs.editing.put_page.Goals as goal

pub text_of-requires : goal.text_of-requires
text_of-requires c = subst IsUtf8 (sym c.as_slice.ensures) (told_is_text c.args.origin.now c.in-Some.origin c.requires c.in-Some.is)
