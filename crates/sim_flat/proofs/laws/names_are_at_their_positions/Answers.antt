use Rattle.sim_flat.proofs.NamesAtPlaces.{names_at_places}
use Rattle.sim_flat.proofs.laws.names_are_at_their_positions.Goals as goal

pub returns : goal.returns
returns c = λ l a name place h. names_at_places l a name place h
