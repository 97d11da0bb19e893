use Rattle.sim_flat_instances.proofs.SoundInstances.{is_bound}
use Rattle.sim_flat_instances.proofs.laws.an_instance_without_faults_is_bound.Goals as goal

pub returns : goal.returns
returns c = λ l look components i none. is_bound l look components i none
