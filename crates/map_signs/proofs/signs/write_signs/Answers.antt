use native.Mathlib.Omega.{arith}
use borrow.Author.Rules.{rules}
use mathlib.Core.Path.{sym, ap, ◌∙◌}
use Rattle.model.specs.Image.{image_of}
use Rattle.service_map_laws.specs.Ends.{end_before}
use Rattle.service_map_laws.proofs.Signs.{signs_none, signs_more, signs_carried, signs_end, words_card, bits_card, word_store, word_granule}
use Rattle.map_signs.proofs.signs.write_signs.Goals as goal

pub loop-i-init : goal.loop-i-init
loop-i-init g c = search (rules, signs_none)

pub write_word-last-requires : goal.write_word-last-requires
write_word-last-requires g c =
    let L = g.met.W.Word.laws in
    let I = c.loop-i.invariant in
    rw (c.BITS.ensures, c.CARD_BITS.ensures) (record {
      sized = c.requires.sized;
      x_bound = (word_store L.one_of_two L.bits_of_card (search rules) c.requires.c_lt_k.0, omega (arith, I.signs.same, bits_card L.one_of_two L.bits_of_card {i = c.loop-i.i} (search rules)));
      end_value = I.carried ∙ ap (end_before (image_of g.W.Word.BITS c.args.k (g.W.Word.words c.args.im.now))) (sym (word_granule L.one_of_two L.bits_of_card c.args.c c.loop-i.i));
    })

pub loop-i-preserved : goal.loop-i-preserved
loop-i-preserved g c =
    let L = g.met.W.Word.laws in
    signs_more c.loop-i.invariant _ _ (omega arith) (word_granule L.one_of_two (c.CARD_BITS.ensures ∙ L.bits_of_card) c.args.c c.loop-i.i) (search rules) c.write_word-last.ensures.value c.write_word-last.ensures.out_after

pub shape_of-out : goal.shape_of-out
shape_of-out g c = c.loop-i.invariant.signs.same

pub returns : goal.returns
returns g c =
    let L = g.met.W.Word.laws in
    let e = words_card L.one_of_two L.bits_of_card in
    record { value = signs_carried c.loop-i.invariant e (search rules); out_after = signs_end c.loop-i.invariant e (search rules) }
