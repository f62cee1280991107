use Rattle.tests_numbers.proofs.models.spans.Given as goal

abbrev pub ghosts-assert_cases : goal.ghosts-assert_cases
ghosts-assert_cases g a = record { name = a.blank.name; parts = a.blank.parts }
