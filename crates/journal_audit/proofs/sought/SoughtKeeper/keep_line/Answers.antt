use Rattle.std.proofs.Common.{◌≡◌, Some, true, false, rules}
use Rattle.std.specs.Prelude.{is_some}
use Rattle.std.specs.Str.{bytes_eq}
use Rattle.journal_audit.proofs.Seeking.{line_after, line_found, line_of_other, other_name}
use Rattle.journal_audit.proofs.sought.SoughtKeeper.keep_line.Goals as goal

pub returns-then-is_some : goal.returns-then-is_some
returns-then-is_some c = λ text number seeks.
    let self = c.args.self.now in
    let some : is_some self.found ≡ true = search rules in
    record { first = seeks.first; found = line_after self.name self.version text c.args.line self.found some seeks.found }

pub returns-then-ne-2 : goal.returns-then-ne-2
returns-then-ne-2 c = λ text number seeks.
    let self = c.args.self.now in
    let line = c.args.line in
    let unfound : is_some self.found ≡ false = search rules in
    let other : bytes_eq line.name self.name ≡ false = search rules in
    record { first = seeks.first; found = line_of_other self.name self.version text line self.found unfound (other_name self.name self.version line other) seeks.found }

pub returns : goal.returns
returns c = λ text number seeks.
    let self = c.args.self.now in
    let line = c.args.line in
    let unfound : is_some self.found ≡ false = search rules in
    let own : bytes_eq line.name self.name ≡ true = search rules in
    let at : line.version ≡ Some self.version = search rules in
    record { first = seeks.first; found = line_found self.name self.version text line self.found unfound at own seeks.found }
