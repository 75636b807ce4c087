use Rattle.std.proofs.Common.{◌==◌, rules, tests}
use Rattle.std.proofs.lemmas.Iterator.Search.{find_from_yields_List}
use Rattle.std.proofs.lemmas.Iterator.Splits.{YieldsList-from_slice_split}
use Rattle.wopi_headers.specs.Targets.{is_token}
use Rattle.wopi_headers.proofs.target.part_among.Goals as goal

pub returns : goal.returns
returns c =
    find_from_yields_List is_token _ _ _ c.find.ensures.ran
    (YieldsList-from_slice_split _ (λ b. b == 38) _ c.split.ensures.rest c.split.ensures.done c.split.ensures.closure (λ x b q k. search (rules, tests)))
    (λ x b q k. search (rules, tests))
