use Rattle.wopi_headers.proofs.PathLemmas.{no_path, contents_path, file_path_found}
use Rattle.wopi_headers.proofs.path.id_in.Goals as goal

pub returns-in_default : goal.returns-in_default
returns-in_default c = no_path c.args.path.now c.in_default.ensures

pub returns-in-Some-before_contents : goal.returns-in-Some-before_contents
returns-in-Some-before_contents c =
    contents_path c.args.path.now c.in-Some.rest.now c.in-Some-before_contents.id.now c.in-Some.ensures c.in-Some-before_contents.ensures

pub returns-in-None : goal.returns-in-None
returns-in-None c = file_path_found c.args.path.now c.in-Some.rest.now c.in-Some.ensures c.in-None.ensures
