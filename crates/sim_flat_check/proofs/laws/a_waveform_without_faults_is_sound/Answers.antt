use Rattle.sim_flat_check.proofs.SoundWaveforms.{sound}
use Rattle.sim_flat_check.proofs.laws.a_waveform_without_faults_is_sound.Goals as goal

pub returns : goal.returns
returns c = λ look mechanism target w h. sound look mechanism target w h
