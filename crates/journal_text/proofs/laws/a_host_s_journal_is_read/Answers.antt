use Rattle.journal_text.specs.declared.text.Format.TheVariants.{Second}
use Rattle.journal_text.proofs.HostBounds.{host_within}
use Rattle.journal_text.proofs.HostTexts.{host_text}
use Rattle.journal_text.proofs.laws.a_host_s_journal_is_read.Goals as goal

pub returns : goal.returns
returns g c = λ journal keeps. (Second, (host_within journal keeps, host_text journal))
