use Rattle.report_laws.proofs.Verdict.{plane_within, held_is}
use Rattle.report.proofs.verdict.held_freed.Goals as goal

pub any_in-requires : goal.any_in-requires
any_in-requires c = plane_within _ _ _ c.requires.sized c.requires.sound _ _ c.requires.lying _ c.reach.ensures

pub returns : goal.returns
returns c = held_is _ _ _ c.requires.sized c.requires.sound _ _ c.requires.lying _ c.reach.ensures _ c.any_in.ensures
