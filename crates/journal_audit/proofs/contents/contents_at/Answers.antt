use Rattle.journal_audit.proofs.Givings.{never_had}
use Rattle.journal_audit.proofs.contents.contents_at.Goals as goal

pub returns-in-None-clause-none : goal.returns-in-None-clause-none
returns-in-None-clause-none c =
    never_had c.args.text.now c.args.name.now c.args.version c.as_slice.result.now c.given_in.result c.as_slice.ensures c.in-None.ensures.none c.given_in.ensures.none
