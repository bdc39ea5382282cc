use Rattle.collector_laws.proofs.Tracing.{tidy, popped_taken}
use Rattle.marking.proofs.tracing.trace_input.Goals as goal

pub pop_entry-g-requires-clause-tidy : goal.pop_entry-g-requires-clause-tidy
pop_entry-g-requires-clause-tidy g c = tidy _ _ c.requires.lines c.requires.t_bound.1

pub returns : goal.returns
returns g c = popped_taken _ _ _ _ _ c.requires.t_bound.2 c.pop_entry-g.ensures _ (rw c.value.ensures.value at c.is_dirty.ensures) c.if-is_dirty.false _ c.take_object.ensures
