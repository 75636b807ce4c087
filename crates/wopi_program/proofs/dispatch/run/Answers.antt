use Rattle.std.proofs.Common.{Some, ap, ◌∙◌}
use Rattle.wopi_program.specs.declared.command.Command.TheVariants.{Audit, Contents, Ctoken, Edit, Once, Replay, Serve, Token, Upgrade}
use Rattle.wopi_program.proofs.Rows.{known}
use Rattle.wopi_program.proofs.OnceLemmas.{OnceEnds-known}
use Rattle.wopi_program.proofs.EditLemmas.{EditEnds-known}
use Rattle.wopi_program.proofs.ReplayLemmas.{ReplayEnds-known}
use Rattle.wopi_program.proofs.EndLemmas.{ServeEnds-known}
use Rattle.wopi_program.proofs.TokenLemmas.{TokenEnds-known}
use Rattle.wopi_program.proofs.CtokenLemmas.{CtokenEnds-known}
use Rattle.wopi_program.proofs.UpgradeLemmas.{UpgradeEnds-known}
use Rattle.wopi_program.proofs.AuditLemmas.{AuditEnds-known, ContentsEnds-known}
use Rattle.wopi_program.proofs.dispatch.run.Goals as goal

pub run_once-requires-clause-words : goal.run_once-requires-clause-words
run_once-requires-clause-words g c κs within = (c.read_words.ensures Once).0 (c.in-Some-Once.is ∙ ap Some c.in-Some-Once.field-0-is)

pub run_once-requires-clause-folders : goal.run_once-requires-clause-folders
run_once-requires-clause-folders g c κs within =
    (c.requires.once ((c.read_words.ensures Once).0 (c.in-Some-Once.is ∙ ap Some c.in-Some-Once.field-0-is))).0

pub run_once-requires-clause-clocks : goal.run_once-requires-clause-clocks
run_once-requires-clause-clocks g c κs within =
    (c.requires.once ((c.read_words.ensures Once).0 (c.in-Some-Once.is ∙ ap Some c.in-Some-Once.field-0-is))).1

pub run_token-requires-after_bounds : goal.run_token-requires-after_bounds
run_token-requires-after_bounds g c κs within = (c.read_words.ensures Token).0 (c.in-Some-Token.is ∙ ap Some c.in-Some-Token.field-0-is)

pub returns-in-Some-Token-clause-usage : goal.returns-in-Some-Token-clause-usage
returns-in-Some-Token-clause-usage g c =
    known _ Token ((c.read_words.ensures Token).0 (c.in-Some-Token.is ∙ ap Some c.in-Some-Token.field-0-is)) c.run_token.result
    (TokenEnds-known _ _ _ _ _ c.run_token.ensures)

pub returns-in-Some-Token-clause-usage_leaves : goal.returns-in-Some-Token-clause-usage_leaves
returns-in-Some-Token-clause-usage_leaves g c =
    λ none. absurd (none (Token, (c.read_words.ensures Token).0 (c.in-Some-Token.is ∙ ap Some c.in-Some-Token.field-0-is)))

pub run_ctoken-requires-after_bounds : goal.run_ctoken-requires-after_bounds
run_ctoken-requires-after_bounds g c κs within = (c.read_words.ensures Ctoken).0 (c.in-Some-Ctoken.is ∙ ap Some c.in-Some-Ctoken.field-0-is)

pub returns-in-Some-Ctoken-clause-usage : goal.returns-in-Some-Ctoken-clause-usage
returns-in-Some-Ctoken-clause-usage g c =
    known _ Ctoken ((c.read_words.ensures Ctoken).0 (c.in-Some-Ctoken.is ∙ ap Some c.in-Some-Ctoken.field-0-is)) c.run_ctoken.result
    (CtokenEnds-known _ _ _ _ _ c.run_ctoken.ensures)

pub returns-in-Some-Ctoken-clause-usage_leaves : goal.returns-in-Some-Ctoken-clause-usage_leaves
returns-in-Some-Ctoken-clause-usage_leaves g c =
    λ none. absurd (none (Ctoken, (c.read_words.ensures Ctoken).0 (c.in-Some-Ctoken.is ∙ ap Some c.in-Some-Ctoken.field-0-is)))

pub returns-in-Some-Once-clause-usage : goal.returns-in-Some-Once-clause-usage
returns-in-Some-Once-clause-usage g c =
    known _ Once ((c.read_words.ensures Once).0 (c.in-Some-Once.is ∙ ap Some c.in-Some-Once.field-0-is)) c.run_once.result
    (OnceEnds-known _ _ _ _ _ c.run_once.ensures)

pub returns-in-Some-Once-clause-usage_leaves : goal.returns-in-Some-Once-clause-usage_leaves
returns-in-Some-Once-clause-usage_leaves g c =
    λ none. absurd (none (Once, (c.read_words.ensures Once).0 (c.in-Some-Once.is ∙ ap Some c.in-Some-Once.field-0-is)))

pub run_serve-requires-clause-words : goal.run_serve-requires-clause-words
run_serve-requires-clause-words g c κs within = (c.read_words.ensures Serve).0 (c.in-Some-Serve.is ∙ ap Some c.in-Some-Serve.field-0-is)

pub run_serve-requires-clause-folders : goal.run_serve-requires-clause-folders
run_serve-requires-clause-folders g c κs within =
    let row = (c.read_words.ensures Serve).0 (c.in-Some-Serve.is ∙ ap Some c.in-Some-Serve.field-0-is) in
    (c.requires.serve row.0 row.1 row.2 row.3).0

pub run_serve-requires-clause-workers : goal.run_serve-requires-clause-workers
run_serve-requires-clause-workers g c κs within = λ keys base ask row. let all = c.requires.serve keys base ask row in (all.1, all.2)

pub run_serve-requires-clause-logs : goal.run_serve-requires-clause-logs
run_serve-requires-clause-logs g c κs within = λ keys base ask keep row keeps. c.requires.keep keys base ask keep row keeps

pub run_serve-requires-clause-has_all_back : goal.run_serve-requires-clause-has_all_back
run_serve-requires-clause-has_all_back g c κs within = c.requires.has_all_back ((c.read_words.ensures Serve).0 (c.in-Some-Serve.is ∙ ap Some c.in-Some-Serve.field-0-is))

pub returns-in-Some-Serve-clause-usage : goal.returns-in-Some-Serve-clause-usage
returns-in-Some-Serve-clause-usage g c =
    known _ Serve ((c.read_words.ensures Serve).0 (c.in-Some-Serve.is ∙ ap Some c.in-Some-Serve.field-0-is)) c.run_serve.result
    (ServeEnds-known _ _ _ _ _ c.run_serve.ensures)

pub returns-in-Some-Serve-clause-usage_leaves : goal.returns-in-Some-Serve-clause-usage_leaves
returns-in-Some-Serve-clause-usage_leaves g c =
    λ none. absurd (none (Serve, (c.read_words.ensures Serve).0 (c.in-Some-Serve.is ∙ ap Some c.in-Some-Serve.field-0-is)))

pub run_edit-requires-after_bounds : goal.run_edit-requires-after_bounds
run_edit-requires-after_bounds g c κs within = (c.read_words.ensures Edit).0 (c.in-Some-Edit.is ∙ ap Some c.in-Some-Edit.field-0-is)

pub returns-in-Some-Edit-clause-usage : goal.returns-in-Some-Edit-clause-usage
returns-in-Some-Edit-clause-usage g c =
    known _ Edit ((c.read_words.ensures Edit).0 (c.in-Some-Edit.is ∙ ap Some c.in-Some-Edit.field-0-is)) c.run_edit.result
    (EditEnds-known _ _ _ _ _ c.run_edit.ensures)

pub returns-in-Some-Edit-clause-usage_leaves : goal.returns-in-Some-Edit-clause-usage_leaves
returns-in-Some-Edit-clause-usage_leaves g c =
    λ none. absurd (none (Edit, (c.read_words.ensures Edit).0 (c.in-Some-Edit.is ∙ ap Some c.in-Some-Edit.field-0-is)))

pub run_replay-requires-after_bounds : goal.run_replay-requires-after_bounds
run_replay-requires-after_bounds g c κs within = (c.read_words.ensures Replay).0 (c.in-Some-Replay.is ∙ ap Some c.in-Some-Replay.field-0-is)

pub returns-in-Some-Replay-clause-usage : goal.returns-in-Some-Replay-clause-usage
returns-in-Some-Replay-clause-usage g c =
    known _ Replay ((c.read_words.ensures Replay).0 (c.in-Some-Replay.is ∙ ap Some c.in-Some-Replay.field-0-is)) c.run_replay.result
    (ReplayEnds-known _ _ _ _ _ c.run_replay.ensures)

pub returns-in-Some-Replay-clause-usage_leaves : goal.returns-in-Some-Replay-clause-usage_leaves
returns-in-Some-Replay-clause-usage_leaves g c =
    λ none. absurd (none (Replay, (c.read_words.ensures Replay).0 (c.in-Some-Replay.is ∙ ap Some c.in-Some-Replay.field-0-is)))

pub run_upgrade-requires-after_bounds : goal.run_upgrade-requires-after_bounds
run_upgrade-requires-after_bounds g c κs within = (c.read_words.ensures Upgrade).0 (c.in-Some-Upgrade.is ∙ ap Some c.in-Some-Upgrade.field-0-is)

pub returns-in-Some-Upgrade-clause-usage : goal.returns-in-Some-Upgrade-clause-usage
returns-in-Some-Upgrade-clause-usage g c =
    known _ Upgrade ((c.read_words.ensures Upgrade).0 (c.in-Some-Upgrade.is ∙ ap Some c.in-Some-Upgrade.field-0-is)) c.run_upgrade.result
    (UpgradeEnds-known _ _ _ _ c.run_upgrade.ensures)

pub returns-in-Some-Upgrade-clause-usage_leaves : goal.returns-in-Some-Upgrade-clause-usage_leaves
returns-in-Some-Upgrade-clause-usage_leaves g c =
    λ none. absurd (none (Upgrade, (c.read_words.ensures Upgrade).0 (c.in-Some-Upgrade.is ∙ ap Some c.in-Some-Upgrade.field-0-is)))

pub run_audit-requires-after_bounds : goal.run_audit-requires-after_bounds
run_audit-requires-after_bounds g c κs within = (c.read_words.ensures Audit).0 (c.in-Some-Audit.is ∙ ap Some c.in-Some-Audit.field-0-is)

pub returns-in-Some-Audit-clause-usage : goal.returns-in-Some-Audit-clause-usage
returns-in-Some-Audit-clause-usage g c =
    known _ Audit ((c.read_words.ensures Audit).0 (c.in-Some-Audit.is ∙ ap Some c.in-Some-Audit.field-0-is)) c.run_audit.result
    (AuditEnds-known _ _ _ _ c.run_audit.ensures)

pub returns-in-Some-Audit-clause-usage_leaves : goal.returns-in-Some-Audit-clause-usage_leaves
returns-in-Some-Audit-clause-usage_leaves g c =
    λ none. absurd (none (Audit, (c.read_words.ensures Audit).0 (c.in-Some-Audit.is ∙ ap Some c.in-Some-Audit.field-0-is)))

pub run_contents-requires-after_bounds : goal.run_contents-requires-after_bounds
run_contents-requires-after_bounds g c κs within = (c.read_words.ensures Contents).0 (c.in-Some-Contents.is ∙ ap Some c.in-Some-Contents.field-0-is)

pub returns-in-Some-Contents-clause-usage : goal.returns-in-Some-Contents-clause-usage
returns-in-Some-Contents-clause-usage g c =
    known _ Contents ((c.read_words.ensures Contents).0 (c.in-Some-Contents.is ∙ ap Some c.in-Some-Contents.field-0-is)) c.run_contents.result
    (ContentsEnds-known _ _ _ _ _ c.run_contents.ensures)

pub returns-in-Some-Contents-clause-usage_leaves : goal.returns-in-Some-Contents-clause-usage_leaves
returns-in-Some-Contents-clause-usage_leaves g c =
    λ none. absurd (none (Contents, (c.read_words.ensures Contents).0 (c.in-Some-Contents.is ∙ ap Some c.in-Some-Contents.field-0-is)))
