use Rattle.model.specs.Image.{image_of}
use Rattle.image_laws.specs.Digits.{mark_bit}
use Rattle.finish_marking_laws.proofs.seeds.Bared.{Opening}
use Rattle.finish_marking_laws.proofs.seeds.Opening.{CardWord}
use Prim.Native.Nat.{◌/◌}
use Rattle.opened_cards.proofs.opening.open_card.Given as goal

abbrev pub invariant-loop-i : goal.invariant-loop-i
invariant-loop-i g l = Opening g.W.Word.BITS l.k (64 / g.W.Word.BITS) (CardWord g.W.Word.BITS (mark_bit (image_of g.W.Word.BITS l.k (g.W.Word.words l.initial.im))) l.c) (g.W.Word.words l.initial.im) (g.W.Word.words l.im) l.i
