use Rattle.std.proofs.Common.{arith, ◌∙◌}
use Rattle.model.specs.Image.{image_of}
use Rattle.collector_laws.specs.Pool.{held_set}
use Rattle.collector_laws.proofs.Pool.{held_more, held_all, input_few, output_few}
use borrow.Author.Rules.{rules}
use Rattle.packet_pool.proofs.pool.held_packets.Goals as goal

pub with_packet-requires : goal.with_packet-requires
with_packet-requires g c = input_few (image_of g.W.Word.BITS c.args.k (g.W.Word.words c.args.im.now)) _ c.requires.held_ok (omega arith) _ (c.value-a.ensures.value ∙ c.tracer_word.ensures)

pub with_packet-s-requires : goal.with_packet-s-requires
with_packet-s-requires g c = output_few (image_of g.W.Word.BITS c.args.k (g.W.Word.words c.args.im.now)) _ c.requires.held_ok (omega arith) _ (c.value-b.ensures.value ∙ c.tracer_word-in-loop-t.ensures)

pub loop-t-init : goal.loop-t-init
unfolding held_set
loop-t-init g c = search rules

pub loop-t-preserved : goal.loop-t-preserved
loop-t-preserved g c = held_more _ _ _ _ _ _ _ c.loop-t.invariant (c.value-a.ensures.value ∙ c.tracer_word.ensures) (c.value-b.ensures.value ∙ c.tracer_word-in-loop-t.ensures) c.with_packet.ensures c.with_packet-s.ensures

pub returns : goal.returns
returns g c = search (rules, held_all)
