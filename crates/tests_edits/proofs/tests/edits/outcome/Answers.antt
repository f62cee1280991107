use Rattle.tests_edits.proofs.tests.edits.outcome.Goals as goal

pub outcome_of-requires : goal.outcome_of-requires
outcome_of-requires c = c.in_ok-edit.ensures
