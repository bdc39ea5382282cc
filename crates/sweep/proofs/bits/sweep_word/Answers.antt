use Rattle.std.proofs.Common.{◌∙◌}
use borrow.Author.Rules.{rules}
use Rattle.finish_laws.proofs.gaps.Bits.{taking_none, taking_end, word_full}
use Rattle.sweep.proofs.bits.sweep_word.Goals as goal

pub returns-then-x-VALUES-clause-im_after : goal.returns-then-x-VALUES-clause-im_after
returns-then-x-VALUES-clause-im_after g c =
    rw c.BITS-then-x-VALUES.ensures (word_full _ _ _ _ _ _ _ (search rules) (c.if-x-VALUES.true ∙ c.VALUES.ensures ∙ g.met.W.Word.laws.values) (rw (c.BITS.ensures, c.BITS-2.ensures) at c.if-e-BITS.true))

pub returns-then-x-eq0-clause-im_after : goal.returns-then-x-eq0-clause-im_after
returns-then-x-eq0-clause-im_after g c =
    let P = c.requires in
    taking_end (taking_none P.sized (search rules) c.value-x.ensures.fits P.i_bound.2 P.i_bound.1) c.if-x-eq0.true
