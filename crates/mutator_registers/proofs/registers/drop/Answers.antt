use Rattle.mutator_laws.proofs.Registers.{drop_done}
use Rattle.mutator_registers.proofs.registers.drop.Goals as goal

pub returns : goal.returns
returns g c = rw c.of-2.ensures (drop_done _ _ _ c.requires.p_bound c.requires.p_value _ (rw c.of.ensures at c.set_reg.ensures))
