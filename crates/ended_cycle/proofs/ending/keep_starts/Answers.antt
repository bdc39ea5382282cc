use Rattle.std.proofs.Common.{◌∙◌, arith}
use borrow.Author.Rules.{rules}
use Rattle.image.proofs.Words.{same_length, slice_length}
use Rattle.image_laws.proofs.Lengths.{starts_words, marks_words}
use Rattle.image_laws.proofs.Loops.{looped_none, looped_more, looped_end}
use Rattle.finish_laws.proofs.Ending.{copied_none, copied_more, copied_end}
use Rattle.ended_cycle.proofs.ending.keep_starts.Goals as goal

pub loop-i-init : goal.loop-i-init
loop-i-init g c = (looped_none c.requires (copied_none _ _), rw c.BITS.ensures)

pub mark_word-requires : goal.mark_word-requires
mark_word-requires g c = let I = c.loop-i.invariant in record { sized = I.0.sized; w_bound = omega (arith, I.1, c.loop-i-test.true) }

pub loop-i-preserved : goal.loop-i-preserved
loop-i-preserved g c =
    let I = c.loop-i.invariant in
    let V = c.value-v.ensures in
    let copied = copied_more I.0.state c.value-v.result (V.value ∙ c.mark_word.ensures) V.fits (rw c.of.ensures at c.set_start_word.ensures) in
    (looped_more I.0 (omega (arith, I.1, c.loop-i-test.true)) (same_length g.met.W.Word.laws.by_value c.loop-i.im _ (search rules)) copied, I.1)

pub shape_of-im : goal.shape_of-im
shape_of-im g c = slice_length g.met.W.Word.laws.by_value c.args.im.now _ c.loop-i.invariant.0.same

pub returns : goal.returns
returns g c = let I = c.loop-i.invariant in copied_end (starts_words c.requires) (marks_words c.requires) (looped_end I.0 (omega (arith, I.1, c.loop-i-test.false)))
