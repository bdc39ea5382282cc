use borrow.Author.Rules.{rules}
use Rattle.soundness_laws.proofs.Checks.{sought_none, sought_more, sought_end}
use Rattle.report_laws.proofs.Plane.{some-in, stretch_ends}
use Rattle.report_planes.proofs.plane.any_in.Goals as goal

pub loop-i-init : goal.loop-i-init
loop-i-init g c = sought_none

pub some_bit-found-requires : goal.some_bit-found-requires
some_bit-found-requires g c = stretch_ends _ _ _ _ _ _ c.requires c.loop-i-test.true c.start-a.ensures c.granules-n.ensures

pub loop-i-preserved : goal.loop-i-preserved
loop-i-preserved g c = sought_more _ _ _ _ _ c.loop-i.invariant c.loop-i-test.true (some-in _ _ _ _ _ _ c.start-a.ensures c.granules-n.ensures c.some_bit-found.ensures)

pub returns : goal.returns
returns g c = search (rules, sought_end)
