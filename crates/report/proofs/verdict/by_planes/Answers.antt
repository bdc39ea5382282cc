use borrow.Author.Rules.{rules}
use Rattle.report_laws.proofs.Verdict.{bytes_in, number_is, lying_of, verdict_bad, verdict_held, verdict_lost, verdict_fine}
use Rattle.report.proofs.verdict.by_planes.Goals as goal

pub all_good-requires : goal.all_good-requires
all_good-requires c = record { sized = c.requires.sized.1; sound = c.requires.sound.1; c_in_bounds = bytes_in c.args.report.now }

pub returns-then-not-all_good : goal.returns-then-not-all_good
returns-then-not-all_good c = verdict_bad _ _ _ _ _ _ (number_is _) _ c.all_good.ensures (search rules)

pub held_freed-requires : goal.held_freed-requires
held_freed-requires c = record { sized = c.requires.sized.1; sound = c.requires.sound.1; lying = lying_of _ _ c.args.first.now _ _ _ (number_is _) _ c.all_good.ensures (search rules); s_len = c.requires.s_len }

pub returns-then-held_freed : goal.returns-then-held_freed
returns-then-held_freed c = verdict_held _ _ _ _ _ _ (number_is _) _ c.all_good.ensures (search rules) _ c.held_freed.ensures c.if-held_freed.true

pub lost_missed-requires : goal.lost_missed-requires
lost_missed-requires c = record { sized = c.requires.sized.0; sound = c.requires.sound.0; lying = lying_of _ _ c.args.first.now _ _ _ (number_is _) _ c.all_good.ensures (search rules); s_len = search rules }

pub returns-then-lost_missed : goal.returns-then-lost_missed
returns-then-lost_missed c = verdict_lost _ _ _ _ _ _ (number_is _) _ c.all_good.ensures (search rules) _ c.held_freed.ensures c.if-held_freed.false _ c.lost_missed.ensures c.if-lost_missed.true

pub returns : goal.returns
returns c = verdict_fine _ _ _ _ _ _ (number_is _) _ c.all_good.ensures (search rules) _ c.held_freed.ensures c.if-held_freed.false _ c.lost_missed.ensures c.if-lost_missed.false
