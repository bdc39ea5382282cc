use Rattle.std.proofs.Common.{arith}
use borrow.Author.Rules.{rules}
use Rattle.image.proofs.Words.{same_length}
use Rattle.image_laws.proofs.Lengths.{sized_as}
use Rattle.finish_laws.proofs.gaps.Code.{within_grown}
use Rattle.finish_laws.proofs.gaps.Bits.{sweeping_none, sweeping_more, sweeping_end}
use Rattle.sweep.proofs.bits.sweep_all.Goals as goal

pub loop-i-init : goal.loop-i-init
loop-i-init g c = rw c.BITS.ensures (sweeping_none (sized_as c.requires (same_length g.met.W.Word.laws.by_value c.args.im.now _ (search rules))))

pub loop-i-preserved : goal.loop-i-preserved
loop-i-preserved g c =
    let S = c.sweep_word-s in
    sweeping_more c.loop-i.invariant c.loop-i-test.true _ _ _ (same_length g.met.W.Word.laws.by_value c.loop-i.im _ (search rules)) S.ensures.im_after S.ensures.i_bound_2

pub returns-clause-im_after : goal.returns-clause-im_after
returns-clause-im_after g c =
    let G = c.close_gap-n.ensures in
    sweeping_end c.loop-i.invariant _ (rw c.of.ensures at c.set_first_run.ensures) c.loop-i-test.false _ G.im_after _ G.value _ c.grow.ensures

pub returns-clause-within : goal.returns-clause-within
returns-clause-within g c = within_grown _ _ _ _ c.loop-i.invariant.room (omega arith) _ (omega arith) _ c.close_gap-n.ensures.value _ c.grow.ensures
