use Rattle.std.proofs.Common.{◌∙◌}
use Rattle.wopi_text.proofs.Shorts.{only_short}
use Rattle.wopi_text.proofs.bytes.Bytes.from_slice.Goals as goal

pub returns : goal.returns
returns c = only_short _ _ c.new.ensures.items ∙ c.new-2.ensures
