use Rattle.std.proofs.Common.{◌∙◌}
use Rattle.wopi_headers.specs.Replies.{reason_fields}
use Rattle.wopi_headers.proofs.replying.push_reason.Goals as goal

pub returns-in-Some : goal.returns-in-Some
unfolding reason_fields
returns-in-Some c = rw c.in-Some.is (rw (c.as_bytes.ensures.value ∙ c.text.ensures) at c.push_field.ensures)
