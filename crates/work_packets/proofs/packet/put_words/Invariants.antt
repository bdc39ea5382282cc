use Rattle.std.proofs.Common.{◌≡◌, ◌∷◌, ◌+◌, take, length}
use Rattle.work_packets.proofs.packet.put_words.Given as goal

abbrev pub invariant-loop-j : goal.invariant-loop-j
invariant-loop-j g l = (take (l.j + 2) (g.W.Word.words l.s) ≡ l.n ∷ 0 ∷ take l.j (g.W.Word.words l.e)) × (length l.s ≡ 32)
