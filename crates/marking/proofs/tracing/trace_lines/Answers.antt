use Rattle.collector_laws.proofs.Tracing.{held_input}
use Rattle.marking.proofs.tracing.trace_lines.Goals as goal

pub has_entries-requires-clause-x_bound : goal.has_entries-requires-clause-x_bound
has_entries-requires-clause-x_bound g c = held_input _ _ _ c.read_tracer-x.ensures c.requires.lines c.requires.t_bound _ c.value-i.ensures.value
