use Rattle.report_laws.proofs.Verdict.{planes_long, scratch_zero}
use Rattle.report.proofs.verdict.verdict.Goals as goal

pub by_planes-r-requires : goal.by_planes-r-requires
by_planes-r-requires c = record { sized = c.requires.sized; sound = c.requires.sound; s_len = planes_long _ _ c.requires.scratch_len }

pub returns : goal.returns
returns c = record { value = c.by_planes-r.ensures; scratch_after = search scratch_zero }
