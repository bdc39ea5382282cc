use Rattle.collector_laws.proofs.Hands.{link-ok}
use Rattle.marking.proofs.hands.reach_link.Goals as goal

pub reach-requires-clause-nil_or : goal.reach-requires-clause-nil_or
reach-requires-clause-nil_or g c = link-ok _ _ _ c.requires.lines _ c.requires.start _ _ c.requires.t_bound.1 c.word-a.ensures
