use Rattle.std.proofs.Common.{◌∙◌}
use Rattle.wopi_headers.specs.Replies.{length_field}
use Rattle.wopi_headers.proofs.replying.push_length.Goals as goal

pub returns : goal.returns
unfolding length_field
returns c = rw (c.as_bytes-number.ensures.value ∙ c.format.ensures.text) at c.push_field.ensures
