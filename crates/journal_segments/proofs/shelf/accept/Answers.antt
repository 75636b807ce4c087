use Rattle.std.proofs.Common.{◌≡◌, ◌∙◌, ap, sym, subst, arith, ℕ, List, [], ◌∷◌, ◌++◌, Option, Some, None}
use Rattle.std.specs.Prelude.{IfOk, slice_set, get_or}
use Rattle.wopi_model.specs.Begin.{at_name, put_name}
use Rattle.journal_segments.specs.Places.{IsNumbered, place_in}
use Rattle.journal_segments.specs.Told.{Placed, placed_after, placed_by, settled_place, unmet}
use Rattle.journal_segments.proofs.Placing.{at_none, at_there, numbered_put, put_none, put_there, within}
use Rattle.journal_segments.proofs.shelf.accept.Goals as goal

pub index_mut-requires : goal.index_mut-requires
index_mut-requires c =
    let files = c.args.files.items in
    let found : place_in files c.args.line.name ≡ Some c.in-Some.place = cc in
    let below = within files c.args.line.name c.in-Some.place found in
    omega (arith, below, c.args.files.ok.0)

pub invariant_of-result : goal.invariant_of-result
invariant_of-result c =
    let files = c.args.files.items in
    let place = c.in-Some.place in
    let own = c.index_mut.result.now in
    let found : place_in files c.args.line.name ≡ Some place = cc in
    let same : own ≡ get_or files place own = c.index_mut.ensures.value in
    let P : List ℕ → Type 0 = λ n. IsNumbered c.args.names (slice_set files place (n, c.accept.new.self)) in
    subst P (sym (ap (λ (p : List ℕ × Placed). p.0) same)) (numbered_put c.args.names files c.args.line.name c.accept.new.self place own c.requires.numbered found)

pub returns-in-Some : goal.returns-in-Some
returns-in-Some c =
    let files = c.args.files.items in
    let line = c.args.line in
    let place = c.in-Some.place in
    let own = c.index_mut.result.now in
    let found : place_in files line.name ≡ Some place = cc in
    let same : own ≡ get_or files place own = c.index_mut.ensures.value in
    let at : at_name (unmet c.args.first) files line.name ≡ own.1 = at_there (unmet c.args.first) files line.name place own found ∙ ap (λ (p : List ℕ × Placed). p.1) (sym same) in
    let is : c.accept.new.self ≡ placed_by files c.args.first line =
    c.in_ok-accept-in-Some.ensures ∙ ap (λ (p : Placed). placed_after (settled_place p line.now) line.act line.token.expires line.now line.version line.contents) (sym at) in
    ap (λ (p : Placed). slice_set files place (own.0, p)) is
    ∙ ap (λ (n : List ℕ). slice_set files place (n, placed_by files c.args.first line)) (ap (λ (p : List ℕ × Placed). p.0) same)
    ∙ sym (put_there files line.name (placed_by files c.args.first line) place own found)

pub returns-in-None : goal.returns-in-None
returns-in-None c =
    let files = c.args.files.items in
    let line = c.args.line in
    let none : place_in files line.name ≡ None = cc in
    let at : at_name (unmet c.args.first) files line.name ≡ unmet c.args.first = at_none (unmet c.args.first) files line.name none in
    let it = placed_by files c.args.first line in
    let is : c.accept-in-None.new.self ≡ it =
    c.in_ok-accept-in-None.ensures ∙ ap (λ (p : Placed). placed_after (settled_place p line.now) line.act line.token.expires line.now line.version line.contents) (c.unmet-file.ensures ∙ sym at) in
    let to : files ++ (c.copy-name.result, c.accept-in-None.new.self) ∷ [] ≡ put_name line.name it files =
    ap (λ (n : List ℕ). files ++ (n, c.accept-in-None.new.self) ∷ []) c.copy-name.ensures
    ∙ ap (λ (p : Placed). files ++ (line.name, p) ∷ []) is ∙ sym (put_none files line.name it none) in
    subst (λ (l : List (List ℕ × Placed)). IfOk c.push.result (λ shelf. shelf ≡ l)) to c.push.ensures
