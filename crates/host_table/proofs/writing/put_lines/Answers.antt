use Rattle.std.proofs.Common.{◌++◌, length, ap, ◌∙◌}
use Rattle.std.specs.List.{flat_map}
use Rattle.host_table.specs.Journal.{JournalView, openings}
use Rattle.host_table.specs.Text.{first_line, file_line, entry_line, last_line}
use Rattle.host_table.proofs.WritingLemmas.{gathers_then, cut_longer, cut_after}
use Rattle.host_table.proofs.writing.put_lines.Goals as goal

pub returns-in-Err-clause-bytes : goal.returns-in-Err-clause-bytes
returns-in-Err-clause-bytes g c =
    let j = c.args.journal.now in
    let begun = rw c.opened.ensures at c.in-Err.ensures.bytes in
    let first = rw c.first.ensures at begun in
    cut_longer _ _ _ (first_line j.opened j.first) (flat_map file_line (openings j.parts) ++ (flat_map entry_line j.merge ++ last_line (length j.merge))) first

pub returns-in-Err-put_openings-clause-bytes : goal.returns-in-Err-put_openings-clause-bytes
returns-in-Err-put_openings-clause-bytes g c =
    let j = c.args.journal.now in
    let begun = rw c.opened.ensures at c.in-Ok.ensures.bytes in
    let first = rw c.first.ensures at begun in
    let parts = c.deref.ensures.value ∙ ap (λ (v : JournalView g.row.F.Denot). v.parts) c.journal.view_is in
    let files = rw parts at c.in-Err-put_openings.ensures.bytes in
    cut_after _ _ _ _ _ (first_line j.opened j.first) (flat_map file_line (openings j.parts) ++ (flat_map entry_line j.merge ++ last_line (length j.merge))) first
    (cut_longer _ _ _ (flat_map file_line (openings j.parts)) (flat_map entry_line j.merge ++ last_line (length j.merge)) files)

pub returns-in-Err-put_entries-clause-bytes : goal.returns-in-Err-put_entries-clause-bytes
returns-in-Err-put_entries-clause-bytes g c =
    let j = c.args.journal.now in
    let begun = rw c.opened.ensures at c.in-Ok.ensures.bytes in
    let first = rw c.first.ensures at begun in
    let parts = c.deref.ensures.value ∙ ap (λ (v : JournalView g.row.F.Denot). v.parts) c.journal.view_is in
    let files = rw parts at c.in-Ok-put_openings.ensures.bytes in
    cut_after _ _ _ _ _ (first_line j.opened j.first) (flat_map file_line (openings j.parts) ++ (flat_map entry_line j.merge ++ last_line (length j.merge))) first
    (cut_after _ _ _ _ _ (flat_map file_line (openings j.parts)) (flat_map entry_line j.merge ++ last_line (length j.merge)) files
    (cut_longer _ _ _ (flat_map entry_line j.merge) (last_line (length j.merge)) c.in-Err-put_entries.ensures.bytes))

pub returns-clause-bytes : goal.returns-clause-bytes
returns-clause-bytes g c =
    let j = c.args.journal.now in
    let begun = rw c.opened.ensures at c.in-Ok.ensures.bytes in
    let first = rw c.first.ensures at begun in
    let parts = c.deref.ensures.value ∙ ap (λ (v : JournalView g.row.F.Denot). v.parts) c.journal.view_is in
    let files = rw parts at c.in-Ok-put_openings.ensures.bytes in
    let last = rw c.len.ensures at c.put_last.ensures.bytes in
    gathers_then _ _ _ _ _ _ _ (first_line j.opened j.first) (flat_map file_line (openings j.parts) ++ (flat_map entry_line j.merge ++ last_line (length j.merge))) first
    (gathers_then _ _ _ _ _ _ _ (flat_map file_line (openings j.parts)) (flat_map entry_line j.merge ++ last_line (length j.merge)) files
    (gathers_then _ _ _ _ _ _ _ (flat_map entry_line j.merge) (last_line (length j.merge)) c.in-Ok-put_entries.ensures.bytes last))
