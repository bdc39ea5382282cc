use Rattle.model.specs.Image.{image_of}
use Rattle.collector_laws.proofs.Cards.{NoDirty}
use Rattle.card_cleaning.proofs.cards.lowest_dirty.Given as goal

abbrev pub invariant-loop-c : goal.invariant-loop-c
invariant-loop-c g l = NoDirty (image_of g.W.Word.BITS l.k (g.W.Word.words l.im)) l.c
