use Rattle.mutator_laws.proofs.Registers.{hand_done}
use Rattle.mutator_registers.proofs.registers.hand.Goals as goal

pub returns : goal.returns
returns g c = rw c.of.ensures (hand_done _ _ _ _ _ c.requires.p_bound c.requires.p_value _ c.reg-v.ensures _ c.set_reg.ensures)
