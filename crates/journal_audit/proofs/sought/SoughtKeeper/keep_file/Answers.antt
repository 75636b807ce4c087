use Rattle.std.proofs.Common.{◌≡◌, true, false, rules, ◌∙◌}
use Rattle.std.specs.Prelude.{is_some}
use Rattle.std.specs.Str.{bytes_eq}
use Rattle.journal_audit.proofs.Seeking.{file_after, file_found, file_of_name}
use Rattle.journal_audit.proofs.sought.SoughtKeeper.keep_file.Goals as goal

pub returns-then-is_some : goal.returns-then-is_some
returns-then-is_some c = λ text none seeks.
    let self = c.args.self.now in
    let some : is_some self.found ≡ true = search rules in
    record { first = seeks.first; found = file_after self.name self.version text c.args.file self.found none some seeks.found }

pub returns-then-ne : goal.returns-then-ne
returns-then-ne c = λ text none seeks.
    let self = c.args.self.now in
    let unfound : is_some self.found ≡ false = search rules in
    let other : bytes_eq c.args.file.0 self.name ≡ false = search rules in
    let same : self.version ≡ self.first = search rules in
    record { first = seeks.first; found = file_of_name self.name self.version text c.args.file self.found unfound other (same ∙ seeks.first) seeks.found }

pub returns : goal.returns
returns c = λ text none seeks.
    let self = c.args.self.now in
    let unfound : is_some self.found ≡ false = search rules in
    let own : bytes_eq c.args.file.0 self.name ≡ true = search rules in
    let same : self.version ≡ self.first = search rules in
    record { first = seeks.first; found = file_found self.name self.version text c.args.file self.found unfound own (same ∙ seeks.first) seeks.found }
