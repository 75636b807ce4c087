use Rattle.std.proofs.Common.{ℕ, ◌∙◌, ◌^◌, sym, subst, List, map}
use Rattle.std.proofs.lemmas.List.{length-map}
use Rattle.host_table.specs.declared.opening.Most.{Most}
use Rattle.host_table.specs.Histories.{as_opened}
use Rattle.host_table.specs.Passes.{Place, top, IsPass, IsPassOf}
use Rattle.host_table.specs.Start.{limits_of, first_seats}
use Rattle.host_table.proofs.Beginning.{pass_first, of_first}
use Rattle.host_table.proofs.host.begin.Goals as goal

pub invariant_of-pass : goal.invariant_of-pass
invariant_of-pass g c =
    let books = c.args.shards.value.items in
    let top_is : ℕ = top (first_seats c.args.locks.items (map as_opened books)) in
    let P : ℕ → ℕ → ℕ → Most → List (Place g.row.F.Denot) → Type 0 = λ l o n k seats. IsPass (record { number = 0; last = l; weight = 2 ^ 62; opened = o; first = n; limits = limits_of k; seats = seats }) in
    let first = pass_first c.args.opened c.args.first (limits_of c.args.most) c.args.locks.items (map as_opened books) c.requires.many.0 (length-map books as_opened ∙ c.requires.many.1) c.requires.bases in
    subst (λ l. P l c.of.result.value c.of-2.result.value c.of-3.result.value c.args.seats.items) (sym c.requires.last)
    (subst (λ o. P top_is o c.of-2.result.value c.of-3.result.value c.args.seats.items) (sym c.of.ensures)
    (subst (λ n. P top_is c.args.opened n c.of-3.result.value c.args.seats.items) (sym c.of-2.ensures)
    (subst (λ k. P top_is c.args.opened c.args.first k c.args.seats.items) (sym c.of-3.ensures)
    (subst (P top_is c.args.opened c.args.first c.args.most) (sym c.requires.seats) first))))

pub returns-clause-pass : goal.returns-clause-pass
returns-clause-pass g c = λ i. record { number = 0; last = c.requires.last i; weight = 2 ^ 62; opened = c.of.ensures i; first = c.of-2.ensures i; limits = limits_of (c.of-3.ensures i); seats = c.requires.seats i }

pub returns-clause-of_host : goal.returns-clause-of_host
returns-clause-of_host g c =
    let books = c.args.shards.value.items in
    let top_is : ℕ = top (first_seats c.args.locks.items (map as_opened books)) in
    let P : ℕ → ℕ → ℕ → Most → List (Place g.row.F.Denot) → Type 0 = λ l o n k seats. IsPassOf (record { locks = c.args.locks.items; bases = map as_opened books; opened = c.args.opened; first = c.args.first; limits = limits_of c.args.most; made = 1 })
    (record { number = 0; last = l; weight = 2 ^ 62; opened = o; first = n; limits = limits_of k; seats = seats }) in
    let first = of_first c.args.opened c.args.first (limits_of c.args.most) c.args.locks.items (map as_opened books) c.requires.many.0 (length-map books as_opened ∙ c.requires.many.1) in
    subst (λ l. P l c.of.result.value c.of-2.result.value c.of-3.result.value c.args.seats.items) (sym c.requires.last)
    (subst (λ o. P top_is o c.of-2.result.value c.of-3.result.value c.args.seats.items) (sym c.of.ensures)
    (subst (λ n. P top_is c.args.opened n c.of-3.result.value c.args.seats.items) (sym c.of-2.ensures)
    (subst (λ k. P top_is c.args.opened c.args.first k c.args.seats.items) (sym c.of-3.ensures)
    (subst (P top_is c.args.opened c.args.first c.args.most) (sym c.requires.seats) first))))
