use Rattle.json.specs.Print.{escape_byte}
use Rattle.containers.specs.Listed.{container_info}
use Rattle.containers.proofs.answering.container_info.Goals as goal

pub returns-clause-text : goal.returns-clause-text
unfolding container_info escape_byte
returns-clause-text c = c.from_slice.ensures
