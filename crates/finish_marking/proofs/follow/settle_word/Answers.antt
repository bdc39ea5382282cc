use mathlib.Core.Path.{◌∙◌, sym}
use Rattle.finish_marking_laws.proofs.follow.Settling.{word_none, word_end}
use Rattle.finish_marking.proofs.follow.settle_word.Goals as goal

pub returns-then-value-eq0 : goal.returns-then-value-eq0
returns-then-value-eq0 g c = word_end (word_none _ (rw c.value.ensures.value at c.value.ensures.fits) c.requires.sized c.pending_word-x.ensures) (sym c.value.ensures.value ∙ c.if-value-eq0.true)
