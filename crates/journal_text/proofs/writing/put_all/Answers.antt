use Rattle.std.proofs.Common.{◌++◌, length}
use Rattle.std.specs.List.{flat_map}
use Rattle.journal_text.specs.declared.text.Format.TheVariants.{Second}
use Rattle.journal_text.specs.Journals.{file_text, first_text, last_text, line_text}
use Rattle.host_table.proofs.WritingLemmas.{gathers_then, cut_longer, cut_after}
use Rattle.journal_text.proofs.writing.put_all.Goals as goal

pub returns-in-Err-clause-bytes : goal.returns-in-Err-clause-bytes
returns-in-Err-clause-bytes g c =
    let t = c.args.text.now in
    cut_longer _ _ _ (first_text Second t.opened t.first) (flat_map file_text t.files ++ (flat_map (line_text Second) t.lines ++ last_text Second (length t.lines))) c.in-Err.ensures.bytes

pub returns-in-Err-put_files-clause-bytes : goal.returns-in-Err-put_files-clause-bytes
returns-in-Err-put_files-clause-bytes g c =
    let t = c.args.text.now in
    let files = rw c.as_slice.ensures at c.in-Err-put_files.ensures.bytes in
    cut_after _ _ _ _ _ (first_text Second t.opened t.first) (flat_map file_text t.files ++ (flat_map (line_text Second) t.lines ++ last_text Second (length t.lines))) c.in-Ok.ensures.bytes
    (cut_longer _ _ _ (flat_map file_text t.files) (flat_map (line_text Second) t.lines ++ last_text Second (length t.lines)) files)

pub returns-in-Err-put_lines-clause-bytes : goal.returns-in-Err-put_lines-clause-bytes
returns-in-Err-put_lines-clause-bytes g c =
    let t = c.args.text.now in
    let files = rw c.as_slice.ensures at c.in-Ok-put_files.ensures.bytes in
    let lines = rw c.as_slice-lines.ensures at c.in-Err-put_lines.ensures.bytes in
    cut_after _ _ _ _ _ (first_text Second t.opened t.first) (flat_map file_text t.files ++ (flat_map (line_text Second) t.lines ++ last_text Second (length t.lines))) c.in-Ok.ensures.bytes
    (cut_after _ _ _ _ _ (flat_map file_text t.files) (flat_map (line_text Second) t.lines ++ last_text Second (length t.lines)) files
    (cut_longer _ _ _ (flat_map (line_text Second) t.lines) (last_text Second (length t.lines)) lines))

pub returns-clause-bytes : goal.returns-clause-bytes
returns-clause-bytes g c =
    let t = c.args.text.now in
    let files = rw c.as_slice.ensures at c.in-Ok-put_files.ensures.bytes in
    let lines = rw c.as_slice-lines.ensures at c.in-Ok-put_lines.ensures.bytes in
    let last = rw c.as_slice-lines.ensures at c.put_last.ensures.bytes in
    gathers_then _ _ _ _ _ _ _ (first_text Second t.opened t.first) (flat_map file_text t.files ++ (flat_map (line_text Second) t.lines ++ last_text Second (length t.lines))) c.in-Ok.ensures.bytes
    (gathers_then _ _ _ _ _ _ _ (flat_map file_text t.files) (flat_map (line_text Second) t.lines ++ last_text Second (length t.lines)) files
    (gathers_then _ _ _ _ _ _ _ (flat_map (line_text Second) t.lines) (last_text Second (length t.lines)) lines last))
