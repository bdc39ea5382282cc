use Rattle.std.proofs.Common.{arith}
use Rattle.image_laws.proofs.Parts.{g_none, g_more, g_end}
use Rattle.soundness_laws.proofs.Marks.{by_cards, mark_card}
use Rattle.cycle_sections.proofs.marks.marks_ok.Goals as goal

pub loop-c-init : goal.loop-c-init
loop-c-init g c = g_none

pub loop-c-preserved : goal.loop-c-preserved
loop-c-preserved g c =
    let m = rw c.mark_words-marks.ensures.words at c.card_bits-m.ensures in
    let s = rw c.start_words-starts.ensures.words at c.card_bits-s.ensures in
    g_more _ _ _ _ _ c.loop-c.invariant (omega arith) (mark_card _ _ _ _ _ _ m s (omega arith) (omega arith))

pub returns : goal.returns
returns g c = by_cards g.W.Word.BITS c.args.k _ _ _ (g_end c.loop-c.invariant (omega arith))
