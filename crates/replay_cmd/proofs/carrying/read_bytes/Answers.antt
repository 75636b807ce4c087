use Rattle.std.proofs.Common.{ap, ◌∙◌}
use Rattle.outside.specs.MemSource.{bytes_left}
use Rattle.replay_cmd.proofs.CarriedLemmas.{begins_there, ends_there, finds_all, refused_there}
use Rattle.replay_cmd.proofs.carrying.read_bytes.Goals as goal

pub returns-clause-found : goal.returns-clause-found
returns-clause-found c =
    finds_all c.in_ok-buffer.buffer c.args.bytes (bytes_left c.new-link.result.source) c.read_request.result c.read_request.ensures.found c.in_ok-buffer.ensures
    (ap bytes_left c.new-link.ensures.source ∙ c.new-source.ensures.left)

pub returns-clause-there : goal.returns-clause-there
returns-clause-there c = λ q is.
    begins_there c.in_ok-buffer.buffer c.args.bytes (bytes_left c.new-link.result.source) c.read_request.result q _ _ _ c.read_request.ensures.reads c.in_ok-buffer.ensures
    (ap bytes_left c.new-link.ensures.source ∙ c.new-source.ensures.left) is

pub returns-clause-ended : goal.returns-clause-ended
returns-clause-ended c = λ is.
    ends_there c.in_ok-buffer.buffer c.args.bytes (bytes_left c.new-link.result.source) c.read_request.result _ _ _ c.read_request.ensures.reads c.in_ok-buffer.ensures
    (ap bytes_left c.new-link.ensures.source ∙ c.new-source.ensures.left) is

pub returns-clause-refused : goal.returns-clause-refused
returns-clause-refused c = λ status at is.
    refused_there c.in_ok-buffer.buffer c.args.bytes (bytes_left c.new-link.result.source) c.read_request.result status at _ _ _ c.read_request.ensures.reads
    c.in_ok-buffer.ensures (ap bytes_left c.new-link.ensures.source ∙ c.new-source.ensures.left) is
