use Prim.Native.Nat.{◌*◌, ◌/◌}
use mathlib.Core.Bool.{true}
use Rattle.model.specs.Image.{image_of}
use Rattle.soundness_laws.proofs.Checks.{Checked}
use Rattle.judge_laws.specs.Links.{same_word}
use Rattle.marked_words.proofs.links.all_marked.Given as goal

abbrev pub invariant-loop-i : goal.invariant-loop-i
invariant-loop-i g l = Checked (64 * l.k / g.W.Word.BITS) (same_word (image_of g.W.Word.BITS l.k (g.W.Word.words l.im))) true l.i
