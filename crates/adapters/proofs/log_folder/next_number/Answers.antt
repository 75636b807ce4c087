use Rattle.std.proofs.Common.{◌∷◌, ◌+◌, ◌∙◌, map, drop, sym, subst, inl, arith, string_bytes}
use Rattle.adapters.specs.LogNames.{HasLogOf}
use Rattle.adapters.proofs.LogLemmas.{IsNextSoFar, great_log, no_log, one_left, small_log}
use Rattle.adapters.proofs.log_folder.next_number.Goals as goal
use Rattle.adapters.proofs.log_folder.next_number.Goals.{in-Some+else-number+then-number-next, in-Some+else-number+else-number-next, in-None}

pub names-preserved : goal.names-preserved
names-preserved c =
    let names = c.args.names.now in
    let whole = map string_bytes names in
    let left = map string_bytes (drop (c.names.name-index + 1) names) in
    let name = c.as_str.result.now in
    let is = one_left string_bytes names c.names.name-index c.name-item.result name c.names-test.true c.name-item.is c.as_str.ensures.value in
    let far : IsNextSoFar whole (name ∷ left) c.names.next = subst (λ those. IsNextSoFar whole those c.names.next) is c.names.invariant in
    elim c.match-number_of.branch [
      | in-Some+else-number+then-number-next w ↦
          rw w.next-is (great_log whole name left c.names.next w.in-Some.number ((c.number_of.ensures w.in-Some.number).0 w.in-Some.is) (omega (arith, w.if-number-next.true)) far)
      | in-Some+else-number+else-number-next w ↦
          rw w.next-is (small_log whole name left c.names.next w.in-Some.number ((c.number_of.ensures w.in-Some.number).0 w.in-Some.is) (omega (arith, w.if-number-next.false)) far)
      | in-None w ↦ rw w.next-is (no_log whole name left c.names.next (λ number of. absurd (cc (sym w.in-None.is ∙ (c.number_of.ensures number).1 of))) far)
    ]

pub returns-then-number-clause-none : goal.returns-then-number-clause-none
returns-then-number-clause-none c = λ _.
    let names = c.args.names.now in
    let name = c.as_str.result.now in
    let is = one_left string_bytes names c.names.name-index c.name-item.result name c.names-test.true c.name-item.is c.as_str.ensures.value in
    let number = c.in-Some.number in
    let own = (c.number_of.ensures number).0 c.in-Some.is in
    subst (HasLogOf (map string_bytes names)) c.if-number.true (c.names.invariant.inside number (subst (λ left. HasLogOf left number) (sym is) (inl own)))
