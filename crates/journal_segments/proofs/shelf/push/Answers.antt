use Rattle.std.proofs.Common.{◌≡◌, sym, ◌∙◌, subst, cond, length, List, ℕ, ◌∷◌, ◌++◌, [], Some, rules}
use Rattle.std.specs.Str.{bytes_eq}
use Rattle.name_index.specs.Index.{number_of}
use Rattle.journal_segments.specs.Told.{Placed}
use Rattle.journal_segments.specs.Places.{IsNumbered}
use Rattle.journal_segments.proofs.Placing.{numbered_known, numbered_new}
use Rattle.journal_segments.proofs.shelf.push.Goals as goal

pub invariant_of-result : goal.invariant_of-result
invariant_of-result c =
    let P : List (List ℕ × Placed) → Type 0 = λ l. IsNumbered c.args.names l in
    subst P (sym c.in_ok-push-in-Some.ensures.items)
    (numbered_known c.args.names c.args.files.items c.args.name c.args.file c.in-Some.field-0 c.requires (sym c.find.ensures ∙ c.in-Some.is))

pub invariant_of-result-in-None : goal.invariant_of-result-in-None
invariant_of-result-in-None c =
    let P : List (List ℕ × Placed) → Type 0 = λ l. IsNumbered c.add.new.self l in
    let count : c.in-Ok.number ≡ length c.args.files.items = search rules in
    let is : (x : List ℕ) → number_of c.add.new.self x ≡ cond (bytes_eq c.args.name x) (Some (length c.args.files.items)) (number_of c.args.names x) =
    λ x. c.in_ok-add-in-None.ensures.ok x ∙ (λ i. cond (bytes_eq (c.copy.ensures i) x) (Some (count i)) (number_of c.args.names x)) in
    subst P (sym c.in_ok-push-in-None.ensures.items)
    (numbered_new c.args.names c.add.new.self c.args.files.items c.args.name c.args.file c.requires (sym c.find.ensures ∙ c.in-None.is) is)
