use Rattle.cg_run.proofs.top.run_alone.Given as goal

-- the ledger of the steps is the new one
abbrev pub ghosts-run_sessions : goal.ghosts-run_sessions
ghosts-run_sessions g a = record { name = a.blank.name; parts = a.blank.parts }
