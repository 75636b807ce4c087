use Rattle.std.proofs.Common.{sym, ◌∙◌, subst}
use Rattle.std.specs.Str.{IsUtf8}
use Rattle.containers.proofs.Texts.{version_is_text}
use Rattle.host_server.proofs.AsciiLemmas.{owner_is_text, user_is_text}
use Rattle.host_server.proofs.telling.info_of.Goals as goal

pub returns-clause-texts : goal.returns-clause-texts
returns-clause-texts c = record {
  name = subst IsUtf8 (sym (c.in_ok-from_slice.ensures ∙ c.as_slice.ensures.value)) c.as_slice.ensures.form.utf8;
  owner = subst IsUtf8 (sym c.in_ok-from_slice-2.ensures) owner_is_text;
  user = subst IsUtf8 (sym (c.in_ok-from_slice-3.ensures ∙ c.as_slice-2.ensures.value)) (user_is_text _ c.as_slice-2.ensures.form);
  version = subst IsUtf8 (sym c.in_ok-version_text.ensures) (version_is_text c.args.version c.ranges.version.fits);
}
