use borrow.Author.Rules.{rules}
use native.Mathlib.Omega.{arith}
use Rattle.image.proofs.Words.{word_read, words_length}
use Rattle.search_laws.proofs.hints.Refill.{refill_none, refill_more, refill_full, refill_end}
use Rattle.pending_objects.proofs.hints.refill.Goals as goal

pub loop-i-init : goal.loop-i-init
loop-i-init g c = (search (rules, refill_none), search rules, search rules)

pub returns-then-n-hints-clause-refilled : goal.returns-then-n-hints-clause-refilled
returns-then-n-hints-clause-refilled g c =
    let v = g.met.W.Word.laws.by_value in
    let e = word_read v c.args.s.now _ _ (omega (arith, words_length v c.args.s.now, c.loop-i.invariant.0.plane)) c.index-s-p.is in
    refill_full (refill_more c.loop-i.invariant.0 c.loop-i-test.true (rw e at c.hint_word-n.ensures.hinted)) (search rules)

pub loop-i-preserved : goal.loop-i-preserved
loop-i-preserved g c =
    let v = g.met.W.Word.laws.by_value in
    let e = word_read v c.args.s.now _ _ (omega (arith, words_length v c.args.s.now, c.loop-i.invariant.0.plane)) c.index-s-p.is in
    (refill_more c.loop-i.invariant.0 c.loop-i-test.true (rw e at c.hint_word-n.ensures.hinted), search rules, search rules)

pub returns-clause-refilled : goal.returns-clause-refilled
returns-clause-refilled g c = refill_end c.loop-i.invariant.0 c.loop-i-test.false
