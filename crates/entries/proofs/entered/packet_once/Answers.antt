use borrow.Author.Rules.{rules}
use Rattle.std.proofs.Common.{◌∙◌}
use Rattle.soundness_laws.proofs.Entered.{in_count, entries_none, entries_end}
use Rattle.entries.proofs.entered.packet_once.Goals as goal

pub loop-e-init : goal.loop-e-init
loop-e-init g c = search (rules, entries_none)

pub add_entry-ok-requires-clause-p_bound : goal.add_entry-ok-requires-clause-p_bound
add_entry-ok-requires-clause-p_bound g c = let e = c.value-n.ensures.value ∙ c.packet_word.ensures in search (rules, in_count)

pub returns : goal.returns
returns g c = let e = c.value-n.ensures.value ∙ c.packet_word.ensures in search (rules, entries_end)
