use Rattle.std.proofs.Common.{arith, ◌∙◌, ◌+◌, ◌≡◌, length}
use borrow.Author.Rules.{rules}
use lib.ListN.{length-set}
use Rattle.model.specs.Base.{nth, put}
use Rattle.tracers_laws.specs.Packet.{words_of}
use Rattle.tracers_laws.proofs.Copy.{headed_more, headed_first, headed_done}
use Rattle.image.proofs.Words.{word_written, words_length}
use Rattle.work_packets.proofs.Entries.{entry_read}
use Rattle.work_packets.proofs.packet.put_words.Goals as goal

pub loop-j-init : goal.loop-j-init
unfolding put
loop-j-init g c =
    let b = g.met.W.Word.laws.by_value in
    let s = c.args.s.now in (
      rw (word_written b _ 1 _, word_written b s 0 _, c.of.ensures, c.of-2.ensures) (headed_first _ 0 (g.W.Word.words s) (words_length b s ∙ c.requires.0)),
      simp length-set c.requires.0,
    )

pub loop-j-preserved : goal.loop-j-preserved
unfolding nth put
loop-j-preserved g c =
    let L = c.loop-j in
    let e = c.args.q.entries in
    let b = g.met.W.Word.laws.by_value in
    let t : length e ≡ 30 = search rules in (
      rw (word_written b L.s (L.j + 2) _, entry_read b e L.j c.index-e-j.result (omega arith))
          (headed_more _ 0 (g.W.Word.words e) (g.W.Word.words L.s) L.j L.invariant.0 (omega (arith, words_length b L.s)) (omega (arith, words_length b e))),
      simp length-set L.invariant.1,
    )

pub returns : goal.returns
unfolding words_of
returns g c =
    let L = c.loop-j in
    let e = c.args.q.entries in
    let b = g.met.W.Word.laws.by_value in
    let t : length e ≡ 30 = search rules in
    headed_done _ 0 (g.W.Word.words e) (g.W.Word.words L.s) L.j L.invariant.0 (words_length b L.s ∙ L.invariant.1) (words_length b e ∙ t) c.loop-j-test.false
