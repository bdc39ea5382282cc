use native.Mathlib.Omega.{arith}
use mathlib.Core.Path.{refl}
use lib.ListN.{length-set}
use Rattle.image.proofs.Words.{words_length, word_written}
use Rattle.search_laws.proofs.hints.Refill.{hinting_none, hinting_bit, hinting_more, hinting_full, hinting_end}
use Rattle.pending_objects.proofs.hints.hint_word.Goals as goal

pub loop-x-init : goal.loop-x-init
loop-x-init g c = (rw c.value-x.ensures.value (hinting_none _ _ _ _ _ (omega (arith, words_length g.met.W.Word.laws.by_value c.args.hints.now))), omega arith, refl)

pub returns-then-h-hints-clause-hinted : goal.returns-then-h-hints-clause-hinted
returns-then-h-hints-clause-hinted g c =
    let long = words_length g.met.W.Word.laws.by_value in
    hinting_full c.loop-x.invariant.0 (omega (arith, long c.args.hints.now)) (omega (arith, c.if-h-hints.true, long c.loop-x.hints))

pub loop-x-preserved : goal.loop-x-preserved
loop-x-preserved g c =
    let L = c.loop-x.invariant in
    let v = g.met.W.Word.laws.by_value in
    let j = hinting_bit L.0 (rw c.value-x.ensures.value at c.value-x.ensures.fits) _ c.lowest-j.ensures.set in
    (rw (word_written v) (hinting_more L.0 _ (omega (arith, L.1, c.if-h-hints.false, words_length v c.loop-x.hints)) _ j c.lowest-j.ensures.set _ (rw c.BITS.ensures at c.of.ensures)), simp length-set (omega (arith, L.1, c.if-h-hints.false)), simp length-set L.2)

pub returns-clause-hinted : goal.returns-clause-hinted
returns-clause-hinted g c = hinting_end c.loop-x.invariant.0 c.loop-x-test.false
