use Rattle.std.proofs.Common.{refl, arith, ◌∙◌}
use lib.ListN.{length-set}
use Rattle.model.specs.Base.{nth, put}
use Rattle.tracers_laws.proofs.Copy.{alike_more, alike_done}
use Rattle.image.proofs.Words.{word_read, word_written, words_length}
use Rattle.work_packets.proofs.packet.thirty.Goals as goal

pub loop-j-init : goal.loop-j-init
loop-j-init g c = (refl, refl)

pub loop-j-preserved : goal.loop-j-preserved
unfolding nth put
loop-j-preserved g c =
    let L = c.loop-j in
    let b = g.met.W.Word.laws.by_value in
    let s = c.args.s.now in (
      rw (word_written b L.e L.j c.index-s-j.result, word_read b s L.j c.index-s-j.result (omega arith) c.index-s-j.is)
          (alike_more (g.W.Word.words s) (g.W.Word.words L.e) L.j L.invariant.0 (omega (arith, words_length b L.e)) (omega (arith, words_length b s))),
      simp length-set L.invariant.1,
    )

pub returns : goal.returns
returns g c =
    let L = c.loop-j in
    let b = g.met.W.Word.laws.by_value in
    alike_done (g.W.Word.words c.args.s.now) (g.W.Word.words L.e) L.j 30 L.invariant.0 (words_length b L.e ∙ L.invariant.1) (omega arith) (omega arith)
