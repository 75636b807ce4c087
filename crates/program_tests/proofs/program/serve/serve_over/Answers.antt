use Rattle.std.proofs.Common.{◌≡◌, ◌==◌, ◌++◌, ℕ, true, List, [], ◌∷◌, length, length-append, take, take-append-drop, drop, append-nil, Some, Option, refl, sym, ap, subst, ◌+◌, ◌∙◌, eqb-true, arith}
use Rattle.std.proofs.lemmas.Bool.{and_parts}
use Rattle.std.specs.List.{AllByRecursion, list_all}
use Rattle.wopi_program.specs.declared.command.Command.TheVariants.{Once}
use Rattle.wopi_program.specs.declared.serve_words.ServeAsk.{ServeAsk}
use Rattle.outside.specs.declared.memory.listener.MemListener.{MemListener}
use Rattle.outside.specs.declared.memory.log.MemLog.{MemLog}
use Rattle.outside.specs.MemListener.{has_all_back, put_back}
use Rattle.outside.specs.MemLog.{bytes_held, bytes_synced}
use Rattle.program_tests.proofs.program.serve.serve_over.Goals as goal

all_back : {L : Type 0} (listeners : List (MemListener L)) → list_all has_all_back listeners ≡ true
    → AllByRecursion (λ listener. length (put_back listener) ≡ listener.accepted) listeners
all_back [] all = tt
all_back (x ∷ xs) all =
    let parts = and_parts (has_all_back x) (list_all has_all_back xs) all in
    (eqb-true (length (put_back x)) x.accepted parts.0, all_back xs parts.1)

pub run-requires-clause-has_all_back : goal.run-requires-clause-has_all_back
run-requires-clause-has_all_back g c κs within = λ row.
    subst (AllByRecursion (λ listener. length (put_back listener) ≡ listener.accepted)) c.deref.ensures.value (all_back _ (sym c.if-not-have_all_back.ensures))

pub run-requires-clause-once : goal.run-requires-clause-once
run-requires-clause-once g c κs within =
    λ row. absurd (cc (sym ((c.read_words.ensures Once).1 row) ∙ c.in-Some-Serve.is ∙ ap Some c.in-Some-Serve.field-0-is))

pub run-requires-clause-serve : goal.run-requires-clause-serve
run-requires-clause-serve g c κs within = λ keys base ask row.
    let both : Some c.in-Some.ask ≡ Some ask = (c.in-Some.ensures ask).1 (keys, base, row) in
    let same : c.in-Some.ask ≡ ask = cc both in
    let fit = c.fits.ensures c.if-not-fits.false in
    let workers : c.in-Some.ask.workers ≡ ask.workers = ap (λ (a : ServeAsk). a.workers) same in
    (fit.0, fit.1 ∙ workers, fit.2 ∙ workers)

-- a front as long as the whole is all of it
all_of : (n : ℕ) (l : List ℕ) → length (take n l) ≡ length l → take n l ≡ l
all_of n l same =
    let parts : take n l ++ drop n l ≡ l = take-append-drop n l in
    let sums : length (take n l) + length (drop n l) ≡ length l = sym (length-append (take n l) (drop n l)) ∙ ap (λ (k : List ℕ). length k) parts in
    let none : length (drop n l) ≡ 0 = omega (arith, same, sums) in
    sym (append-nil (take n l)) ∙ ap (λ (k : List ℕ). take n l ++ k) (sym (nothing (drop n l) none)) ∙ parts
  where
    nothing : (k : List ℕ) → length k ≡ 0 → k ≡ []
    nothing [] is = refl
    nothing (x ∷ xs) is = absurd (omega (arith, is))

all_told : (logs : List MemLog) → list_all (λ log. length (bytes_synced log) == length (bytes_held log)) logs ≡ true
    → AllByRecursion (λ log. Some (bytes_synced log) ≡ Some (bytes_held log)) logs
all_told [] all = tt
all_told (log ∷ logs) all =
    let parts = and_parts (length (bytes_synced log) == length (bytes_held log)) (list_all (λ log. length (bytes_synced log) == length (bytes_held log)) logs) all in
    (ap Some (all_of log.synced log.bytes.items (eqb-true (length (bytes_synced log)) (length (bytes_held log)) parts.0)), all_told logs parts.1)

pub run-requires-clause-keep : goal.run-requires-clause-keep
run-requires-clause-keep g c κs within = λ keys base ask keep row keeps.
    let both : Some c.in-Some.ask ≡ Some ask = (c.in-Some.ensures ask).1 (keys, base, row) in
    let same : c.in-Some.ask ≡ ask = cc both in
    let fit = c.has_logs.ensures c.if-not-has_logs.false keep (ap (λ (a : ServeAsk). a.keep) same ∙ keeps) in
    (fit.0, all_told _ fit.1)
