use Rattle.model.specs.Map.{map_of}
use Rattle.show_store.proofs.service_map.Goals as goal

pub returns : goal.returns
unfolding map_of
returns c = c.service_map.ensures
