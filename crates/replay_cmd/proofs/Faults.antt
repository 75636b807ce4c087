-- No store fails over a folder without faults.
use Rattle.std.proofs.Common.{◌≡◌, ◌==◌, ℕ, ◌+◌, Bool, true, false, if◌then◌else◌, List, [], ◌∷◌, ◌++◌, map, refl, ap, arith}
use Rattle.std.specs.List.{AllByRecursion}
use Rattle.std.proofs.lemmas.Bool.{eq-eqb}
use Rattle.std.proofs.lemmas.List.Sums.{sum_by-append, sum_by-cons}
use Rattle.wopi_model.specs.Shard.{Entry}
use Rattle.host_core.specs.Entries.{Made}
use Rattle.host_core.specs.Value.{faults_in}
use Rattle.host_server.specs.Deeds.{Made as DeedMade, made}
use Rattle.replay_cmd.specs.Exchanges.{IsStored}

abbrev counts : Bool → ℕ
counts test = if test then 1 else 0

abbrev fails : Made → ℕ
fails one = counts (one.step.ruling.status == 500)

one_if : (test : Bool) → test ≡ true → counts test ≡ 1
one_if true e = refl
one_if false e = cc

-- each entry of what was made was stored
pub all_stored : (more : List Made) → faults_in more ≡ 0 → AllByRecursion IsStored (map (λ one. one.step) more)
all_stored [] h = tt
all_stored (one ∷ more) h =
    let parts : faults_in (one ∷ more) ≡ fails one + faults_in more = sum_by-cons fails one more in
    let none : fails one ≡ 0 = omega (arith, parts, h) in
    let rest : faults_in more ≡ 0 = omega (arith, parts, h) in (
      λ fault. let some : fails one ≡ 1 = one_if (one.step.ruling.status == 500) (eq-eqb one.step.ruling.status 500 fault) in omega (arith, none, some),
      all_stored more rest,
    )

pub later_stored : (old more : List Made) → faults_in (old ++ more) ≡ 0 → AllByRecursion IsStored (map (λ one. one.step) more)
later_stored old more h =
    let parts : faults_in (old ++ more) ≡ faults_in old + faults_in more = sum_by-append fails old more in
    all_stored more (omega (arith, parts, h))

-- the entries of deeds that made each of them
pub made_all : (entries : List Entry) → made (map DeedMade entries) ≡ entries
made_all [] = refl
made_all (entry ∷ entries) = ap (λ (l : List Entry). entry ∷ l) (made_all entries)

pub last_stored : (taken : List Entry) (last : Entry) → AllByRecursion IsStored (taken ++ last ∷ []) → IsStored last
last_stored [] last h = h.0
last_stored (entry ∷ taken) last h = last_stored taken last h.1
