use borrow.Author.Rules.{rules}
use Rattle.std.proofs.Common.{refl}
use Rattle.soundness_laws.proofs.Entered.{looked_none, packet_more}
use Rattle.entries.proofs.entered.in_packet.Goals as goal

pub loop-e-init : goal.loop-e-init
loop-e-init g c = looked_none _ _ _ refl

pub loop-e-preserved : goal.loop-e-preserved
loop-e-preserved g c = search (rules, packet_more)
