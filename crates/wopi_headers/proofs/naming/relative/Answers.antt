use Rattle.std.proofs.lemmas.Option.{MatchOption-at_none}
use Rattle.std.proofs.Common.{ℕ, List}
use Rattle.wopi_headers.specs.Readings.{relative_name, IsText}
use Rattle.wopi_headers.proofs.Targets.{no_choice, no_relative}
use Rattle.wopi_headers.proofs.naming.relative.Goals as goal

pub returns-in_default : goal.returns-in_default
returns-in_default c = no_choice c.args.fields.now c.requires c.in_default.ensures

pub returns-in-None : goal.returns-in-None
returns-in-None c =
    let fields = c.args.fields.now in
    no_relative fields c.requires (MatchOption-at_none ((text : List ℕ) → ¬ (IsText relative_name fields text)) (IsText relative_name fields) c.in-None.is c.in_ok-name.ensures)
