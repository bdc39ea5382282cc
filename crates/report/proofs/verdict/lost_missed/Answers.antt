use native.Mathlib.Omega.{arith}
use Rattle.report_laws.proofs.Verdict.{plane_within, lost_is}
use Rattle.report.proofs.verdict.lost_missed.Goals as goal

pub cover_all-requires : goal.cover_all-requires
cover_all-requires c = plane_within _ _ _ c.requires.sized c.requires.sound _ _ c.requires.lying _ c.reach.ensures

pub any_bare-requires : goal.any_bare-requires
any_bare-requires c = record { sized = c.requires.sized; width_in_bounds = omega (arith, c.cover_all.ensures.same, c.reach.ensures.long) }

pub returns : goal.returns
returns c = lost_is _ _ _ c.requires.sized c.requires.sound _ _ c.requires.lying _ c.reach.ensures _ c.cover_all.ensures _ c.any_bare.ensures
