use Rattle.runs_laws.proofs.Granules.{free_first, free_end, free_in, free_less, free_next}
use Rattle.runs_laws.proofs.Sound.{sound_linked}
use Rattle.model.specs.Image.{granules, image_of, image}
use native.Mathlib.Omega.{arith}
use mathlib.Core.Path.{◌∙◌}
use Rattle.image_laws.proofs.Places.{word_below, few_cards}
use borrow.Author.Rules.{rules}
use Rattle.runs.proofs.granules.count.Goals as goal

pub loop-g-init : goal.loop-g-init
loop-g-init g c = free_first _ _ (search rules) (sound_linked _ (search rules))

pub word-requires : goal.word-requires
unfolding granules image_of image
word-requires g c = record { sized = search rules; i_bound = omega (arith, free_in _ _ _ c.loop-g.invariant c.loop-g-test.true) }

pub grow-f-requires : goal.grow-f-requires
unfolding granules image_of image
grow-f-requires g c =
    let I = c.loop-g.invariant in
    let h = word_below g.met.W.Word.laws.one_of_two c.value-length.ensures.fits in
    let k = few_cards g.met.W.Word.laws.one_of_two c.requires.sized.high in
    (omega (arith, h, k, I.all.small), omega (arith, h, k, I.long.small))

pub next_run-g-requires : goal.next_run-g-requires
unfolding granules image_of image
next_run-g-requires g c = record { sized = search rules; g_bound = omega (arith, free_in _ _ _ c.loop-g.invariant c.loop-g-test.true) }

pub loop-g-smaller : goal.loop-g-smaller
loop-g-smaller g c = rw c.next_run-g.ensures (free_less _ _ _ c.loop-g.invariant c.loop-g-test.true)

pub loop-g-preserved : goal.loop-g-preserved
loop-g-preserved g c = rw c.next_run-g.ensures (free_next _ _ _ c.loop-g.invariant c.loop-g-test.true _ (c.value-length.ensures.value ∙ c.word.ensures) (omega (arith, word_below g.met.W.Word.laws.one_of_two c.value-length.ensures.fits)) _ c.grow-f.ensures)

pub returns : goal.returns
returns g c = search (rules, free_end)
