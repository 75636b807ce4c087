use Rattle.std.proofs.Common.{◌≡◌, ◌∙◌, ap, sym, arith, ℕ, List, Some, None}
use Rattle.std.specs.Prelude.{get_or}
use Rattle.journal_segments.specs.Places.{place_in}
use Rattle.journal_segments.specs.Told.{Placed}
use Rattle.journal_segments.proofs.Placing.{at_none, at_there, within}
use Rattle.journal_segments.proofs.shelf.file_of.Goals as goal

pub index-file-requires : goal.index-file-requires
index-file-requires c =
    let files = c.args.files.now.items in
    let found : place_in files c.args.name.now ≡ Some c.in-Some.place = cc in
    let below = within files c.args.name.now c.in-Some.place found in
    omega (arith, below, c.args.files.now.ok.0)

pub returns-in-None : goal.returns-in-None
returns-in-None c = λ other.
    let none : place_in c.args.files.now.items c.args.name.now ≡ None = cc in
    at_none other c.args.files.now.items c.args.name.now none

pub returns-in-Some : goal.returns-in-Some
returns-in-Some c = λ other.
    let files = c.args.files.now.items in
    let place = c.in-Some.place in
    let own = c.index-file.result.now in
    let found : place_in files c.args.name.now ≡ Some place = cc in
    let same : own ≡ get_or files place own = c.index-file.ensures in
    at_there other files c.args.name.now place own found ∙ ap (λ (p : List ℕ × Placed). p.1) (sym same)
