use Rattle.wopi_ends.proofs.Hearing.{all_heard}
use Rattle.wopi_ends.proofs.Living.{script_heard}
use Rattle.wopi_ends.proofs.laws.a_script_is_heard.Goals as goal

pub returns-clause-heard : goal.returns-clause-heard
returns-clause-heard c = script_heard

pub returns-clause-none_is_passed_over : goal.returns-clause-none_is_passed_over
returns-clause-none_is_passed_over c = all_heard
