use Rattle.std.proofs.lemmas.Option.{MatchOption-at_none}
use Rattle.std.proofs.Common.{ℕ, List}
use Rattle.wopi_headers.specs.Readings.{suggested_name, IsText}
use Rattle.wopi_headers.proofs.Targets.{no_suggestion}
use Rattle.wopi_headers.proofs.naming.suggested.Goals as goal

pub returns-in-None : goal.returns-in-None
returns-in-None c =
    let fields = c.args.fields.now in
    no_suggestion fields c.requires (MatchOption-at_none ((text : List ℕ) → ¬ (IsText suggested_name fields text)) (IsText suggested_name fields) c.in-None.is c.in_ok-name.ensures)
