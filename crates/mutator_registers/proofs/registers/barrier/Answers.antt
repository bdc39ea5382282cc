use borrow.Author.Rules.{rules}
use Rattle.mutator_laws.proofs.Registers.{owed_card, barrier_idle, barrier_done}
use native.Mathlib.Omega.{arith}
use mathlib.Core.Path.{◌∙◌}
use Rattle.mutator_registers.proofs.registers.barrier.Goals as goal

pub returns-then-o-eq0 : goal.returns-then-o-eq0
returns-then-o-eq0 g c = barrier_idle _ _ c.requires.p_bound _ (c.value-o.ensures.value ∙ c.owed.ensures) c.if-o-eq0.true

pub dirty_card-requires : goal.dirty_card-requires
dirty_card-requires g c = record { sized = search rules; c_lt_k = omega (arith, owed_card _ _ _ c.requires.sound _ _ (c.value-o.ensures.value ∙ c.owed.ensures)) }

pub returns : goal.returns
returns g c =
    rw c.of-2.ensures
    (barrier_done _ _ c.requires.p_bound _ (c.value-o.ensures.value ∙ c.owed.ensures) c.if-o-eq0.false _ _ c.dirty_card.ensures (rw c.of.ensures at c.set_owed.ensures))
