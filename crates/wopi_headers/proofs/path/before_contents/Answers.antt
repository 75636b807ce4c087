use Rattle.wopi_headers.proofs.PathLemmas.{suffix_found}
use Rattle.wopi_headers.proofs.path.before_contents.Goals as goal

pub returns : goal.returns
returns c = rw c.as_slice.ensures at (suffix_found c.as_slice.result.now c.args.rest.now c.strip_suffix.result c.strip_suffix.ensures.cases)
