use Rattle.image.proofs.Words.{words_length, words_part}
use Rattle.image_laws.proofs.Places.{some_bits}
use Rattle.soundness_laws.proofs.Small.{all_small, word_small}
use Prim.Native.Nat.{◌%◌}
use native.Mathlib.Nat.{mod-lt, div-add-mod}
use native.Mathlib.Omega.{arith}
use lib.ListN.{length-take, length-drop}
use Rattle.targets.proofs.small.is_small_word.Goals as goal

pub heap_within-requires-clause-a_in_bounds : goal.heap_within-requires-clause-a_in_bounds
heap_within-requires-clause-a_in_bounds g c =
    let long = words_length g.met.W.Word.laws.by_value c.args.bounds.now in
    rw c.BITS-w.ensures (simp (length-take, length-drop) (omega (arith, long, c.requires.link_bounds.bounds.long)), simp (length-take, length-drop) (omega (arith, long, c.requires.link_bounds.bounds.long)))

pub returns-then-heap_within : goal.returns-then-heap_within
returns-then-heap_within g c =
    let w = g.W.Word.BITS in
    let a = c.args.a in
    λ _. word_small w _ _ _ c.requires.sized c.requires.link_bounds a (a % w) (mod-lt a (some_bits w c.args.k g.met.W.Word.laws.one_of_two)) (omega (arith, div-add-mod a w)) c.requires.width_bound _
    (simp (words_part g.met.W.Word.laws.by_value c.args.bounds.now) at (rw c.BITS-w.ensures at c.heap_within.ensures)) c.if-heap_within.true

pub returns : goal.returns
returns g c = rw c.BITS-w.ensures at (all_small _ _ _ _ c.all_small.ensures)
