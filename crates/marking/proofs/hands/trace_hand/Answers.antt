use Rattle.collector_laws.proofs.Hands.{hand_start, hand_below, hand_link, hand_next}
use Rattle.marking.proofs.hands.trace_hand.Goals as goal

pub word-n-requires-clause-i_bound : goal.word-n-requires-clause-i_bound
word-n-requires-clause-i_bound g c =
    let R = c.requires in
    hand_below _ _ _ R.lines _ R.t_bound.0 R.t_bound.1 _ c.read_tracer-x.ensures _ c.value-g.ensures.value

pub reach_link-requires-clause-start : goal.reach_link-requires-clause-start
reach_link-requires-clause-start g c =
    let R = c.requires in
    hand_start _ _ _ R.lines _ R.t_bound.0 R.t_bound.1 _ c.read_tracer-x.ensures _ c.value-g.ensures.value

pub reach_link-requires-clause-t_bound : goal.reach_link-requires-clause-t_bound
reach_link-requires-clause-t_bound g c =
    let R = c.requires in
    (R.t_bound.0, hand_link _ _ _ R.lines _ R.t_bound.0 R.t_bound.1 _ c.read_tracer-x.ensures _ c.value-g.ensures.value _ c.value.ensures.value)

pub advance-requires-clause-t_bound : goal.advance-requires-clause-t_bound
advance-requires-clause-t_bound g c =
    let R = c.requires in
    let reached = rw (c.value-g.ensures.value, c.value.ensures.value) at c.reach_link.ensures in
    (R.t_bound.0, hand_next _ _ _ R.lines _ R.t_bound.0 R.t_bound.1 _ c.read_tracer-x.ensures _ reached _ (rw c.value-g.ensures.value at c.word-n.ensures))
