use Rattle.sim_store_tests.proofs.orders.put_row.Given as goal

-- the design is that of the run whose phase is handed out
abbrev pub ghosts-put_handed : goal.ghosts-put_handed
ghosts-put_handed a = record { design = a.own.store.simulation.design }
