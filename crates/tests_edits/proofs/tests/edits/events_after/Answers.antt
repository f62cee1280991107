use Rattle.tests_edits.proofs.tests.edits.events_after.Goals as goal

pub events_of-requires : goal.events_of-requires
events_of-requires c = c.in_ok-edit.ensures
