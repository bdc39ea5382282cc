use mathlib.Core.Path.{◌∙◌}
use Prim.Native.Nat.{◌+◌, ◌*◌}
use lib.ListN.{set}
use Rattle.model.specs.Base.{put}
use Rattle.image.proofs.Words.{word_written}
use Rattle.show_store_laws.proofs.Run.{turn}
use Rattle.run.proofs.one.Goals as goal

pub returns-clause-answers_after : goal.returns-clause-answers_after
unfolding put
returns-clause-answers_after g c =
    let A = c.args in
    let w = g.met.W.Word.laws.by_value in
    word_written w (set A.answers.now (2 * A.i) c.number.result) (2 * A.i + 1) c.value.result
    ∙ rw (word_written w A.answers.now (2 * A.i) c.number.result, c.number.ensures, c.value.ensures) (turn _ _ (g.W.Word.words A.answers.now) A.i _ _ _ c.perform-done.ensures.im_after).1
