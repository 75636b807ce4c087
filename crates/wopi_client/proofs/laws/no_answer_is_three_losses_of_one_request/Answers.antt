use Rattle.std.proofs.Common.{Ok, refl}
use Rattle.save_session.specs.declared.output.Outcome.TheVariants as outcome
use Rattle.wopi_client.proofs.Losing.{no_answer_at_the_third, three_in_a_row, drive_loses}
use Rattle.wopi_client.proofs.laws.no_answer_is_three_losses_of_one_request.Goals as goal

pub returns-clause-told : goal.returns-clause-told
returns-clause-told c = λ desktop nonce session left input exchanges sound none talk. no_answer_at_the_third desktop nonce session left input exchanges sound none talk

pub returns-clause-lost : goal.returns-clause-lost
returns-clause-lost c = λ desktop nonce session left input before later a b d result sound talk. three_in_a_row desktop nonce session input _ left result talk sound before a b d later refl

pub returns-clause-driven : goal.returns-clause-driven
returns-clause-driven c = λ desktop nonce session left input exchanges sound drive. drive_loses desktop nonce session input left (Ok outcome.NoAnswer) exchanges drive sound refl
