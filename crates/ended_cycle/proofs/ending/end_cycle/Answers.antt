use borrow.Author.Rules.{rules}
use Rattle.finish_laws.proofs.Ending.{end_done}
use Rattle.ended_cycle.proofs.ending.end_cycle.Goals as goal

pub returns : goal.returns
returns g c = end_done _ _ _ _ _ _ _ (search rules) c.clear_section-2.ensures c.clear_section-3.ensures c.clear_section-4.ensures c.unscan.ensures (rw c.of.ensures at c.set_general_word.ensures)
