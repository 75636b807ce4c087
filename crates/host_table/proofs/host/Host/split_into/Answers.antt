use Rattle.std.proofs.Common.{◌≡◌, ℕ, ◌+◌, ◌-◌, ◌/◌, ◌≤◌, ap, sym, ◌∙◌, subst, List}
use Rattle.wopi_model.specs.Host.{Limits}
use Rattle.host_table.specs.Views.{pass_of, host_of}
use Rattle.host_table.specs.Passes.{Place, PassView, HostView, IsPass, IsPassOf, given_pass}
use Rattle.host_table.specs.Start.{limits_of}
use Rattle.host_table.proofs.Splitting.{can_split, pass_given, pass_kept, given_of, kept_of, as_its_host}
use Rattle.host_table.proofs.host.Host.split_into.Goals as goal

pub split_all-requires-clause-free : goal.split_all-requires-clause-free
split_all-requires-clause-free g c =
    let p = pass_of c.pass.inside in
    can_split p.number p.weight p.opened p.first p.limits 0 p.seats (subst (λ (q : PassView g.row.F.Denot). 2 ≤ q.weight) (sym c.pass.view_is) c.requires.weight) c.pass.invariant.seats

pub invariant_of-result : goal.invariant_of-result
invariant_of-result g c =
    let F = g.row.F.Denot in let p = pass_of c.pass.inside in let host = host_of c.self.inside in
    let both : (c.args.self.now, c.args.pass.now) ≡ (host, p) = λ i. (sym c.self.view_is i, sym c.pass.view_is i) in
    let of : IsPassOf host p = subst (λ (z : HostView F × PassView F). IsPassOf z.0 z.1) both c.requires.of_host in
    let same = as_its_host host p c.self.invariant.0 c.pass.invariant of in
    let opened : c.of.result.value ≡ p.opened = c.of.ensures ∙ sym same.0 in
    let oldest : c.of-2.result.value ≡ p.first = c.of-2.ensures ∙ sym same.1 in
    let limits : limits_of c.of-3.result.value ≡ p.limits = ap limits_of c.of-3.ensures ∙ sym same.2 in
    let P : ℕ → ℕ → Limits → List (Place F) → Type 0 = λ o n k seats. IsPass (record { number = host.made; last = p.last; weight = p.weight / 2; opened = o; first = n; limits = k; seats = seats }) in
    let seats = c.split_all.new.new.items in
    subst (λ o. P o c.of-2.result.value (limits_of c.of-3.result.value) seats) (sym opened)
    (subst (λ n. P p.opened n (limits_of c.of-3.result.value) seats) (sym oldest)
    (subst (λ k. P p.opened p.first k seats) (sym limits)
    (subst (P p.opened p.first p.limits) (sym c.split_all.ensures.given) (pass_given host.made p c.pass.invariant))))

pub invariant_of-pass : goal.invariant_of-pass
invariant_of-pass g c =
    let p = pass_of c.pass.inside in
    let P : List (Place g.row.F.Denot) → Type 0 = λ seats. IsPass (record { number = p.number; last = p.last; weight = p.weight - p.weight / 2; opened = p.opened; first = p.first; limits = p.limits; seats = seats }) in
    subst P (sym c.split_all.ensures.kept) (pass_kept p c.pass.invariant)

pub returns-clause-given : goal.returns-clause-given
returns-clause-given g c =
    let F = g.row.F.Denot in let p = pass_of c.pass.inside in let host = host_of c.self.inside in
    let both : (c.args.self.now, c.args.pass.now) ≡ (host, p) = λ i. (sym c.self.view_is i, sym c.pass.view_is i) in
    let of : IsPassOf host p = subst (λ (z : HostView F × PassView F). IsPassOf z.0 z.1) both c.requires.of_host in
    let same = as_its_host host p c.self.invariant.0 c.pass.invariant of in
    let opened : c.of.result.value ≡ p.opened = c.of.ensures ∙ sym same.0 in
    let oldest : c.of-2.result.value ≡ p.first = c.of-2.ensures ∙ sym same.1 in
    let limits : limits_of c.of-3.result.value ≡ p.limits = ap limits_of c.of-3.ensures ∙ sym same.2 in
    (λ i. record { number = host.made; last = p.last; weight = p.weight / 2; opened = opened i; first = oldest i; limits = limits i; seats = c.split_all.ensures.given i })
    ∙ ap (λ (z : HostView F × PassView F). given_pass z.0.made z.1) (sym both)

pub returns-clause-of_host : goal.returns-clause-of_host
returns-clause-of_host g c =
    let F = g.row.F.Denot in let p = pass_of c.pass.inside in let host = host_of c.self.inside in
    let both : (c.args.self.now, c.args.pass.now) ≡ (host, p) = λ i. (sym c.self.view_is i, sym c.pass.view_is i) in
    let of : IsPassOf host p = subst (λ (z : HostView F × PassView F). IsPassOf z.0 z.1) both c.requires.of_host in
    let same = as_its_host host p c.self.invariant.0 c.pass.invariant of in
    let opened : c.of.result.value ≡ p.opened = c.of.ensures ∙ sym same.0 in
    let oldest : c.of-2.result.value ≡ p.first = c.of-2.ensures ∙ sym same.1 in
    let limits : limits_of c.of-3.result.value ≡ p.limits = ap limits_of c.of-3.ensures ∙ sym same.2 in
    let more : HostView F = record { locks = host.locks; bases = host.bases; opened = host.opened; first = host.first; limits = host.limits; made = host.made + 1 } in
    let K : List (Place F) → Type 0 = λ seats. IsPassOf more (record { number = p.number; last = p.last; weight = p.weight - p.weight / 2; opened = p.opened; first = p.first; limits = p.limits; seats = seats }) in
    let G : ℕ → ℕ → Limits → List (Place F) → Type 0 = λ o n k seats. IsPassOf more (record { number = host.made; last = p.last; weight = p.weight / 2; opened = o; first = n; limits = k; seats = seats }) in
    let seats = c.split_all.new.new.items in (
      subst K (sym c.split_all.ensures.kept) (kept_of host p of),
      subst (λ o. G o c.of-2.result.value (limits_of c.of-3.result.value) seats) (sym opened)
          (subst (λ n. G p.opened n (limits_of c.of-3.result.value) seats) (sym oldest)
          (subst (λ k. G p.opened p.first k seats) (sym limits) (subst (G p.opened p.first p.limits) (sym c.split_all.ensures.given) (given_of host host.made p of)))),
    )
