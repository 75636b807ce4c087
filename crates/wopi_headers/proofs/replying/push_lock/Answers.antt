use Rattle.wopi_headers.specs.Replies.{lock_fields}
use Rattle.wopi_headers.proofs.replying.push_lock.Goals as goal

pub returns-in-Held : goal.returns-in-Held
unfolding lock_fields
returns-in-Held c = rw c.in-Held.is (rw c.as_slice.ensures.value at c.push_field-in-Held.ensures)
