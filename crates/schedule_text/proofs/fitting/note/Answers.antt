use Rattle.std.proofs.Common.{◌≡◌, ◌∙◌, ℕ, List, true, cond, ap, string_bytes, rules}
use Rattle.std.specs.Str.{bytes_eq}
use Rattle.std.specs.BTreeSet.{contains_text}
use Rattle.std.proofs.lemmas.Map.Text.{btree_set_updates_text}
use Rattle.schedule_text.proofs.FittingLines.{noted_or}
use Rattle.schedule_text.proofs.fitting.note.Goals as goal

pub returns-clause-noted : goal.returns-clause-noted
returns-clause-noted c = λ other.
    let bytes : string_bytes c.in_ok-text.text ≡ c.args.name.now = search rules in
    btree_set_updates_text (string_bytes c.in_ok-text.text) _ _ true c.in_ok-fresh.ensures.updates other
    ∙ ap (λ (b : List ℕ). cond (bytes_eq b other) true (contains_text c.args.names.now other)) bytes
    ∙ noted_or (bytes_eq c.args.name.now other) (contains_text c.args.names.now other)
