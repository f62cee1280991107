use Rattle.tests_cache.proofs.tests.rings.changes.Given as goal

abbrev pub ghosts-assert_done : goal.ghosts-assert_done
ghosts-assert_done g a = record { name = a.blank.name; parts = a.blank.parts }
