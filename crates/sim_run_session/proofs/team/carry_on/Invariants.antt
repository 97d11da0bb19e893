use Rattle.sim_run_session.proofs.team.carry_on.Given as goal

-- the design is that of the call
abbrev pub ghosts-run_by : goal.ghosts-run_by
ghosts-run_by g a = record { design = a.run.store.simulation.design }
