use Rattle.collector_laws.proofs.Hands.{read_link}
use Rattle.marking.proofs.hands.advance.Goals as goal

pub link_done-y-requires : goal.link_done-y-requires
link_done-y-requires g c = read_link _ _ _ _ c.read_tracer-x.ensures c.requires.t_bound.1
