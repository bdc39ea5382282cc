use Rattle.judge_laws.proofs.Words.{Taken}
use Rattle.cover.proofs.words.word_covered.Given as goal

abbrev pub invariant-loop-left : goal.invariant-loop-left
invariant-loop-left g l = Taken g.W.Word.BITS l.k (g.W.Word.words l.im) l.w l.ok l.left

abbrev pub decreases-loop-left : goal.decreases-loop-left
decreases-loop-left g l = l.left
