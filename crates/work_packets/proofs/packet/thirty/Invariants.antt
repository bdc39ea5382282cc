use Rattle.std.proofs.Common.{◌≡◌, take, length}
use Rattle.work_packets.proofs.packet.thirty.Given as goal

abbrev pub invariant-loop-j : goal.invariant-loop-j
invariant-loop-j g l = (take l.j (g.W.Word.words l.e) ≡ take l.j (g.W.Word.words l.s)) × (length l.e ≡ 30)
