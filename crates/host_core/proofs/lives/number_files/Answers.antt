use Rattle.std.proofs.Common.{◌≡◌, ◌≤◌, ◌<◌, ◌+◌, ◌++◌, ◌∷◌, [], ℕ, List, length, take, None, Some, refl, sym, ap, subst, ◌∙◌, arith}
use Rattle.name_index.specs.Index.{number_of}
use Rattle.host_core.specs.Life.{life_names}
use Rattle.host_core.specs.Names.{AreOnce, place_in}
use Rattle.host_core.specs.Numbers.{IsNumbered}
use Rattle.host_core.proofs.Counts.{once_push}
use Rattle.host_core.proofs.Joins.{names_front, names_long, names_more}
use Rattle.host_core.proofs.Numbering.{numbered_push}
use Rattle.host_core.proofs.lives.number_files.Goals as goal

pub files-preserved : goal.files-preserved
files-preserved c =
    let files = c.args.files.now.items in
    let place = c.files.place in
    let file = c.index.result.now in
    let name = c.copy-name.result in
    let lt : place < length files = omega (arith, c.files-test.true, c.len-count.ensures, c.args.files.now.ok.0) in
    let names = life_names (take place files) in
    let more : life_names (take (place + 1) files) ≡ names ++ name ∷ [] =
    names_more files place file lt c.index.ensures ∙ ap (λ (n : List ℕ). names ++ n ∷ []) (sym c.copy-name.ensures) in
    let long = names_long files place (omega (arith, lt)) in
    let none : number_of c.files.numbers name ≡ None = sym c.in-None.ensures in (
      omega (arith, lt),
      subst (IsNumbered c.add.new.self) (sym more) (numbered_push c.files.numbers c.add.new.self names name place c.files.invariant.1 none (sym long) c.in_ok-add.ensures.ok),
      subst AreOnce (sym more) (once_push names name (sym (c.files.invariant.1 name) ∙ none) c.files.invariant.2),
    )

pub returns-in-Some-clause-once : goal.returns-in-Some-clause-once
returns-in-Some-clause-once c =
    let files = c.args.files.now.items in
    let place = c.files.place in
    let file = c.index.result.now in
    let name = c.copy-name.result in
    let lt : place < length files = omega (arith, c.files-test.true, c.len-count.ensures, c.args.files.now.ok.0) in (
      λ e. absurd (cc (e)),
      λ once.
          absurd (cc (c.in-Some.ensures ∙ c.files.invariant.1 name ∙ ap (place_in (life_names (take place files))) c.copy-name.ensures ∙ names_front files place file lt c.index.ensures once)),
    )
