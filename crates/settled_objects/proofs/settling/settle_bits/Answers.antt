use Rattle.image.proofs.Words.{same_length}
use Rattle.image_laws.proofs.Masks.{one_shl, and_not_pow}
use Rattle.image_laws.proofs.Places.{few_bits, few_cards}
use Rattle.finish_marking_laws.proofs.follow.Settling.{word_none, word_again, word_bit, word_object, word_falls, word_more, word_end}
use native.Mathlib.Omega.{arith}
use borrow.Author.Rules.{rules}
use Rattle.settled_objects.proofs.settling.settle_bits.Goals as goal

pub loop-left-init : goal.loop-left-init
loop-left-init g c = let P = c.requires in word_none _ (omega arith) P.sized (rw c.value-left.ensures.value P.pending_word)

pub overflow_add-BITS : goal.overflow_add-BITS
overflow_add-BITS g c =
    let P = c.requires in
    rw c.BITS.ensures (omega (arith, (word_object c.loop-left.invariant c.loop-left-test.true P.i_bound P.underway).0.0, few_cards g.met.W.Word.laws.one_of_two P.sized.high))

pub settle-h-requires : goal.settle-h-requires
settle-h-requires g c =
    let L = c.loop-left in
    let P = c.requires in
    let O = word_object L.invariant c.loop-left-test.true P.i_bound P.underway in
    rw c.BITS.ensures (record { sized = L.invariant.sized; g_bound = O.0; links_in = O.1 })

pub loop-left-smaller-then-left-eq0 : goal.loop-left-smaller-then-left-eq0
loop-left-smaller-then-left-eq0 g c = let P = c.requires in word_falls c.loop-left.invariant c.loop-left-test.true P.i_bound P.underway _ _ (rw c.BITS.ensures at c.settle-h.ensures.im_after)

pub loop-left-preserved-then-left-eq0 : goal.loop-left-preserved-then-left-eq0
loop-left-preserved-then-left-eq0 g c =
    let L = c.loop-left in
    let n = c.loop-left-test.true in
    let P = c.requires in
    let j = word_bit L.invariant n in
    let few = few_bits g.met.W.Word.laws.one_of_two j.within in
    word_again
    (word_more L.invariant n P.i_bound P.underway _ _ (rw c.BITS.ensures at c.settle-h.ensures.im_after) (same_length g.met.W.Word.laws.by_value _ _ (search rules)) _ (rw (one_shl 64 _ few) (and_not_pow 64 _ _ (search rules) few)))
    c.if-left-eq0.true (omega arith) (rw c.value-left-then-left-eq0.ensures.value c.pending_word.ensures)

pub loop-left-smaller : goal.loop-left-smaller
loop-left-smaller g c = let P = c.requires in word_falls c.loop-left.invariant c.loop-left-test.true P.i_bound P.underway _ _ (rw c.BITS.ensures at c.settle-h.ensures.im_after)

pub loop-left-preserved : goal.loop-left-preserved
loop-left-preserved g c =
    let L = c.loop-left in
    let n = c.loop-left-test.true in
    let P = c.requires in
    let j = word_bit L.invariant n in
    let few = few_bits g.met.W.Word.laws.one_of_two j.within in
    word_more L.invariant n P.i_bound P.underway _ _ (rw c.BITS.ensures at c.settle-h.ensures.im_after) (same_length g.met.W.Word.laws.by_value _ _ (search rules)) _ (rw (one_shl 64 _ few) (and_not_pow 64 _ _ (search rules) few))

pub returns : goal.returns
returns g c = word_end c.loop-left.invariant c.loop-left-test.false
