use Rattle.std.proofs.Common.{◌∙◌, sym}
use Rattle.wopi_headers.proofs.Counts.{no_place, first_place}
use Rattle.wopi_headers.proofs.reading.first_and_rest.Goals as goal

pub returns-in_default : goal.returns-in_default
returns-in_default c = no_place c.args.name.now c.args.fields.now (sym c.place_named.ensures ∙ c.in_default.is)

pub returns : goal.returns
returns c =
    first_place c.args.name.now c.args.fields.now c.in-Some.place c.index-fields-place.result c.as_slice.result.now (sym c.place_named.ensures ∙ c.in-Some.is) c.as_slice.ensures
