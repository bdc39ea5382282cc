use Rattle.std.proofs.Common.{◌∙◌, refl, arith}
use Rattle.model.specs.Image.{entries_of}
use Rattle.soundness_laws.proofs.Entered.{few, looked_none, packets_more}
use Rattle.entries.proofs.entered.in_packets.Goals as goal

pub loop-p-init : goal.loop-p-init
unfolding entries_of
loop-p-init g c = looked_none _ _ _ refl

pub in_packet-found-requires-clause-p_bound : goal.in_packet-found-requires-clause-p_bound
in_packet-found-requires-clause-p_bound g c = let e = c.value-c.ensures.value ∙ c.packet_word.ensures in (omega arith, few _ _ _ c.requires.packed (omega arith) e)

pub loop-p-preserved : goal.loop-p-preserved
loop-p-preserved g c = let e = c.value-c.ensures.value ∙ c.packet_word.ensures in packets_more _ _ _ _ _ _ _ c.loop-p.invariant c.loop-p-test.true e c.in_packet-found.ensures
