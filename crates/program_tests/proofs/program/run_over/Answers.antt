use Rattle.program_tests.proofs.program.run_over.Goals as goal

pub run-status-requires-clause-serve : goal.run-status-requires-clause-serve
run-status-requires-clause-serve g c κs within = λ keys base ask row. absurd (cc ((c.in-None.ensures ask).1 (keys, base, row)))

pub run-status-requires-clause-has_all_back : goal.run-status-requires-clause-has_all_back
run-status-requires-clause-has_all_back g c κs within = λ row. absurd (cc ((c.in-None.ensures row.2).1 (row.0, row.1, row.3)))

pub run-status-requires-clause-keep : goal.run-status-requires-clause-keep
run-status-requires-clause-keep g c κs within = λ keys base ask keep row keeps. absurd (cc ((c.in-None.ensures ask).1 (keys, base, row)))
