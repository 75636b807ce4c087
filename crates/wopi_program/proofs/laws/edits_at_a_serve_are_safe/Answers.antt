use Rattle.std.proofs.Common.{List, subst}
use Rattle.grid_editor.specs.Views.{desktop_of}
use Rattle.wopi_world.specs.World.{Told}
use Rattle.wopi_world.specs.Talks.{IsSafeFor, first_speaker}
use Rattle.wopi_program.specs.BothEnds.{history_at, start_at}
use Rattle.wopi_program.proofs.EndsLemmas.{editor_of, at_serve}
use Rattle.wopi_program.proofs.laws.edits_at_a_serve_are_safe.Goals as goal

pub returns-clause-heard : goal.returns-clause-heard
returns-clause-heard g c m words status old new client edit run nonce =
    c.a_script_is_heard.ensures.heard (desktop_of edit.first) client first_speaker edit.first run.commands run.ran.last run.ran.result run.ran.written run.ran.sent
    (editor_of edit.asked client edit.first nonce edit.editor) run.ran.runs

pub returns-clause-safe : goal.returns-clause-safe
returns-clause-safe g c m words status old new host host' keys base origin ask ends journal client edit run served h crosses =
    subst (λ (told : List Told). IsSafeFor client told (start_at journal client) (history_at journal client)) h.has.told_is
    (at_serve c.both_ends_are_safe.ensures.host journal served.desk.opened ask.first served.journal_is.opened_is served.journal_is.first_is served.journal_is.legal
    (desktop_of edit.first) client h.ending h.has.spoken h.has.heard h.has.heard_is crosses)
