use Rattle.std.proofs.Common.{arith}
use lib.Count.{ones-le}
use Rattle.soundness_laws.proofs.Counts.{marks_counted}
use Rattle.cycle_sections.proofs.counts.marks_on.Goals as goal

pub overflow_cast-result : goal.overflow_cast-result
overflow_cast-result g c = omega (arith, ones-le 64 c.card_bits.result (omega arith))

pub returns : goal.returns
returns g c = marks_counted _ _ _ _ _ (rw c.mark_words.ensures.words at c.card_bits.ensures) (omega arith)
