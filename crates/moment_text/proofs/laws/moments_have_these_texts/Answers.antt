use Rattle.std.proofs.Common.{refl}
use Rattle.moment_text.specs.Dates.{passed}
use Rattle.moment_text.specs.Text.{moment_text}
use Rattle.moment_text.proofs.laws.moments_have_these_texts.Goals as goal

pub returns-clause-first : goal.returns-clause-first
unfolding moment_text passed
returns-clause-first c = refl

pub returns-clause-leap : goal.returns-clause-leap
unfolding moment_text passed
returns-clause-leap c = refl

pub returns-clause-later : goal.returns-clause-later
unfolding moment_text passed
returns-clause-later c = refl
