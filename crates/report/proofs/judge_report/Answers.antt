use borrow.Author.Rules.{rules}
use Rattle.report_laws.proofs.Calls.{call_misfit, call_sized, call_scratch, call_damaged, call_sound, call_verdict}
use Rattle.report.proofs.judge_report.Goals as goal

pub returns-in_default : goal.returns-in_default
returns-in_default c = search (rules, c.in_default.ensures, call_misfit)

pub both_undamaged-requires : goal.both_undamaged-requires
both_undamaged-requires c = call_sized _ _ _ _ _ _ c.extent.ensures _ c.in-Some.is

pub returns-then-not-both_undamaged : goal.returns-then-not-both_undamaged
returns-then-not-both_undamaged c = search (rules, call_damaged)

pub verdict-requires-clause-sized : goal.verdict-requires-clause-sized
verdict-requires-clause-sized c = call_sized _ _ _ _ _ _ c.extent.ensures _ c.in-Some.is

pub verdict-requires-clause-sound : goal.verdict-requires-clause-sound
verdict-requires-clause-sound c = call_sound _ _ _ _ _ _ c.extent.ensures _ c.in-Some.is _ c.both_undamaged.ensures c.if-not-both_undamaged.false

pub verdict-requires-clause-scratch_len : goal.verdict-requires-clause-scratch_len
verdict-requires-clause-scratch_len c = search (rules, call_scratch)

pub returns : goal.returns
returns c = search (rules, call_verdict)
