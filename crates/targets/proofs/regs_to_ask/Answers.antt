use native.Mathlib.Omega.{arith}
use Rattle.soundness_laws.proofs.Sets.{nil_behind}
use Rattle.targets.proofs.regs_to_ask.Goals as goal

pub returns-then-zero_part : goal.returns-then-zero_part
returns-then-zero_part g c = (omega arith, nil_behind _ 16 256 c.zero_part.result (omega arith) c.zero_part.ensures c.if-zero_part.true)
