use Rattle.sim_run_claims_tests.proofs.drawing.+draw_after_splits.Given as goal

abbrev pub decreases-draw_after_splits : goal.decreases-draw_after_splits
decreases-draw_after_splits l = l.splits
