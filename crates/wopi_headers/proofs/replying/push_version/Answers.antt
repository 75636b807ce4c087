use Rattle.wopi_headers.specs.Replies.{version_fields}
use Rattle.wopi_headers.proofs.replying.push_version.Goals as goal

pub returns-in_ok-text-in-Some : goal.returns-in_ok-text-in-Some
unfolding version_fields
returns-in_ok-text-in-Some c = rw c.in-Some.is (rw c.in_ok-text-in-Some.ensures at c.push_owned.ensures)
