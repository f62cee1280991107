use Rattle.tests_edits.proofs.tests.edits.dated.Goals as goal

pub after-requires : goal.after-requires
after-requires c = c.in_ok-edit.ensures
