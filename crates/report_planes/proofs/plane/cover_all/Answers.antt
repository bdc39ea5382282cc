use Rattle.report_laws.proofs.Plane.{stretch_ends, stretches_none, stretches_more, stretches_end}
use Rattle.report_planes.proofs.plane.cover_all.Goals as goal

pub loop-i-init : goal.loop-i-init
loop-i-init g c = stretches_none _ _ _ _

pub cover-requires : goal.cover-requires
cover-requires g c =
    rw c.loop-i.auto.s (stretch_ends _ _ _ _ _ _ c.requires c.loop-i-test.true c.start-a.ensures c.granules-n.ensures)

pub loop-i-preserved : goal.loop-i-preserved
loop-i-preserved g c = stretches_more _ _ _ _ _ _ c.loop-i.invariant c.loop-i-test.true _ _ c.start-a.ensures c.granules-n.ensures _ c.cover.ensures

pub returns : goal.returns
returns g c = stretches_end _ _ _ _ _ _ c.loop-i.invariant c.loop-i-test.false
