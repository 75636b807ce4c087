use Rattle.file_info.specs.Saved.{digest_text}
use Rattle.file_info.proofs.saved.digest_text.Goals as goal

pub returns : goal.returns
unfolding digest_text
returns c = c.encode.ensures.text
