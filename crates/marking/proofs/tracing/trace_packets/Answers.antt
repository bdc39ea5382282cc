use Rattle.collector_laws.proofs.Tracing.{held_output}
use Rattle.marking.proofs.tracing.trace_packets.Goals as goal

pub has_entries-requires-clause-x_bound : goal.has_entries-requires-clause-x_bound
has_entries-requires-clause-x_bound g c = held_output _ _ _ c.requires.t_bound.1 c.requires.lines c.requires.t_bound.0 _ c.value.ensures.value
