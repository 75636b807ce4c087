use Rattle.std.proofs.Common.{◌≡◌, ◌∙◌, ap, sym, subst, arith, ℕ, List, [], ◌∷◌, ◌++◌, Option, Some, None}
use Rattle.std.specs.Prelude.{IfOk, slice_set, get_or}
use Rattle.wopi_model.specs.Begin.{at_name, put_name}
use Rattle.journal_segments.specs.Places.{IsNumbered, place_in}
use Rattle.journal_segments.specs.Told.{Placed, unmet}
use Rattle.journal_segments.specs.Rows.{holding}
use Rattle.journal_segments.proofs.Placing.{at_none, at_there, numbered_put, put_none, put_there, within}
use Rattle.journal_segments.proofs.shelf.hold.Goals as goal

pub index_mut-requires : goal.index_mut-requires
index_mut-requires c =
    let files = c.args.files.items in
    let found : place_in files c.args.name ≡ Some c.in-Some.place = cc in
    let below = within files c.args.name c.in-Some.place found in
    omega (arith, below, c.args.files.ok.0)

pub invariant_of-result : goal.invariant_of-result
invariant_of-result c =
    let files = c.args.files.items in
    let place = c.in-Some.place in
    let own = c.index_mut.result.now in
    let found : place_in files c.args.name ≡ Some place = cc in
    let same : own ≡ get_or files place own = c.index_mut.ensures.value in
    let P : List ℕ → Type 0 = λ n. IsNumbered c.args.names (slice_set files place (n, c.stand.new.self)) in
    subst P (sym (ap (λ (p : List ℕ × Placed). p.0) same)) (numbered_put c.args.names files c.args.name c.stand.new.self place own c.requires found)

pub returns-in-Some : goal.returns-in-Some
returns-in-Some c =
    let files = c.args.files.items in
    let place = c.in-Some.place in
    let own = c.index_mut.result.now in
    let found : place_in files c.args.name ≡ Some place = cc in
    let same : own ≡ get_or files place own = c.index_mut.ensures.value in
    let at : at_name (unmet c.args.first) files c.args.name ≡ own.1 = at_there (unmet c.args.first) files c.args.name place own found ∙ ap (λ (p : List ℕ × Placed). p.1) (sym same) in
    let it = holding (at_name (unmet c.args.first) files c.args.name) c.args.contents in
    let is : c.stand.new.self ≡ it = c.stand.ensures ∙ ap (λ (p : Placed). holding p c.args.contents) (sym at) in
    ap (λ (p : Placed). slice_set files place (own.0, p)) is
    ∙ ap (λ (n : List ℕ). slice_set files place (n, it)) (ap (λ (p : List ℕ × Placed). p.0) same)
    ∙ sym (put_there files c.args.name it place own found)

pub returns-in-None : goal.returns-in-None
returns-in-None c =
    let files = c.args.files.items in
    let none : place_in files c.args.name ≡ None = cc in
    let at : at_name (unmet c.args.first) files c.args.name ≡ unmet c.args.first = at_none (unmet c.args.first) files c.args.name none in
    let it = holding (at_name (unmet c.args.first) files c.args.name) c.args.contents in
    let is : c.stand-in-None.new.self ≡ it = c.stand-in-None.ensures ∙ ap (λ (p : Placed). holding p c.args.contents) (c.unmet-file.ensures ∙ sym at) in
    let to : files ++ (c.args.name, c.stand-in-None.new.self) ∷ [] ≡ put_name c.args.name it files =
    ap (λ (p : Placed). files ++ (c.args.name, p) ∷ []) is ∙ sym (put_none files c.args.name it none) in
    subst (λ (l : List (List ℕ × Placed)). IfOk c.push.result (λ shelf. shelf ≡ l)) to c.push.ensures
