use Rattle.std.proofs.Common.{arith, ◌≡◌, ◌/◌, ◌∙◌}
use Rattle.tracers_laws.proofs.Marks.{marks_none, marks_all, marks_more}
use Rattle.tracer_words.proofs.marks.card_marks.Goals as goal

pub loop-i-init : goal.loop-i-init
loop-i-init g c = marks_none _ _ _

pub loop-i-preserved : goal.loop-i-preserved
loop-i-preserved g c =
    let L = c.loop-i in
    let b = g.met.W.Word.laws.bits_of_card in
    let q : c.CARD_BITS-i-end.result ≡ 64 / g.W.Word.BITS = c.CARD_BITS-i-end.ensures ∙ b in
    let r : c.CARD_BITS.result ≡ 64 / g.W.Word.BITS = c.CARD_BITS.ensures ∙ b in
    let e = rw r at (c.value-w.ensures.value ∙ c.mark_word.ensures) in
    rw c.BITS.ensures (marks_more _ c.args.k _ c.requires.sized c.args.c L.i L.marks L.invariant (omega arith) c.value-w.result e c.value-w.ensures.fits)

pub returns : goal.returns
returns g c =
    let q : c.CARD_BITS-i-end.result ≡ 64 / g.W.Word.BITS = c.CARD_BITS-i-end.ensures ∙ g.met.W.Word.laws.bits_of_card in
    marks_all _ _ _ c.requires.sized _ _ _ c.loop-i.invariant (omega arith)
