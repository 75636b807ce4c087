use Rattle.journal_segments.proofs.Once.{each_once}
use Rattle.journal_segments.proofs.Own.{each_own}
use Rattle.journal_segments.proofs.laws.each_name_is_told_once.Goals as goal

pub returns-clause-once : goal.returns-clause-once
returns-clause-once c = each_once

pub returns-clause-own : goal.returns-clause-own
returns-clause-own c = each_own
