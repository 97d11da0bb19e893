use Rattle.std.proofs.Common.{◌-◌, suc, length, arith}
use Rattle.sim_standard.proofs.Least.{Marked_from_test, test_from_Marked}
use Rattle.sim_standard.proofs.editing.the_marked_places_are_the_least_set.Goals as goal

pub returns : goal.returns
returns c limit old first others place within =
    (Marked_from_test limit old first others (length old - suc place) place (omega arith), λ m. test_from_Marked limit old first others place m within)
