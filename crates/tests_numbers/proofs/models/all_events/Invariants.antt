use Rattle.tests_numbers.proofs.models.all_events.Given as goal

abbrev pub ghosts-assert_contexts : goal.ghosts-assert_contexts
ghosts-assert_contexts g a = record { name = a.blank.name; parts = a.blank.parts }
