use borrow.Author.Rules.{rules}
use native.Mathlib.Omega.{arith}
use mathlib.Core.Path.{◌∙◌}
use Rattle.search_laws.proofs.hints.Registers.{regs_none, regs_target, regs_more, regs_end}
use Rattle.pending_objects.proofs.hints.hold_all.Goals as goal

pub loop-i-init : goal.loop-i-init
loop-i-init g c = (search (rules, regs_none), search rules, search rules, search rules)

pub visit-h-requires-clause-a_bound : goal.visit-h-requires-clause-a_bound
visit-h-requires-clause-a_bound g c = regs_target c.loop-i.invariant.0 (c.value-a.ensures.value ∙ c.reg_word.ensures)

pub loop-i-preserved : goal.loop-i-preserved
loop-i-preserved g c =
    (regs_more c.loop-i.invariant.0 (c.value-a.ensures.value ∙ c.reg_word.ensures) (omega arith) c.visit-h.ensures.visited, omega (arith, c.visit-h.ensures.upper_bound), search rules, search rules)

pub returns-clause-held : goal.returns-clause-held
returns-clause-held g c = regs_end c.loop-i.invariant.0 (omega arith)
