use Rattle.std.proofs.Common.{◌≡◌, ◌≢◌, ◌≤◌, length, inr, rules, arith}
use Rattle.grid_editor.specs.Scripts.{most_bytes}
use Rattle.grid_editor.proofs.ScriptLemmas.{feed_result, byte_refused}
use Rattle.grid_editor.proofs.script.Reader.take.Goals as goal

pub returns-then-byte-eq10-clause-taken : goal.returns-then-byte-eq10-clause-taken
returns-then-byte-eq10-clause-taken c =
    let feed : c.args.byte ≡ 10 = search rules in
    λ text so. feed_result text c.args.self.now c.end_line.new.self c.args.byte c.end_line.result feed so c.end_line.ensures.ok c.end_line.ensures.refused

pub returns-then-len-ge-MOST_BYTES-clause-taken : goal.returns-then-len-ge-MOST_BYTES-clause-taken
returns-then-len-ge-MOST_BYTES-clause-taken c =
    let other : c.args.byte ≢ 10 = search rules in
    let long : most_bytes ≤ length c.args.self.now.line.items = search rules in
    λ text so. byte_refused text c.args.self.now c.args.self.now c.args.byte c.bad_line-then-len-ge-MOST_BYTES.result c.bad_line-then-len-ge-MOST_BYTES.ensures so other (inr long)
