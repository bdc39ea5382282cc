use Rattle.collector_laws.proofs.Reaching.{marked_lines, taken_lines}
use Rattle.reach.proofs.reaching.reach.Goals as goal

pub take_output-requires-clause-lines : goal.take_output-requires-clause-lines
take_output-requires-clause-lines g c =
    let start = rw (← c.value-start.ensures.value) at c.requires.nil_or in
    marked_lines _ _ c.requires.lines start c.if-start-eq0.false _ c.is_marked.ensures c.if-is_marked.false _ c.mark_object.ensures

pub enter-requires-clause-lines : goal.enter-requires-clause-lines
enter-requires-clause-lines g c =
    let start = rw (← c.value-start.ensures.value) at c.requires.nil_or in
    taken_lines _ _ _ c.if-start-eq0.false _ c.is_marked.ensures c.if-is_marked.false _ c.mark_object.ensures c.requires.lines start c.requires.t_bound _ c.take_output.ensures
