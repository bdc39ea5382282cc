use borrow.Author.Rules.{rules}
use lib.Count.{ones, ones-le}
use Rattle.model.specs.Image.{most_cards}
use Rattle.std.proofs.Common.{arith, ℕ, ◌+◌, ◌*◌, ◌/◌, ◌<◌, ◌≤◌, ◌∙◌, ◌≡◌}
use mathlib.Core.Logic.{◌⊎◌}
use native.Mathlib.Nat.{zero-add}
use Rattle.image_laws.proofs.Places.{by_width}
use Rattle.soundness_laws.proofs.Ones.{ones_none, ones_small, ones_more}
use Rattle.soundness_laws.proofs.Starts.{starts_end}
use Rattle.heap_pieces.proofs.starts.count_starts.Goals as goal

-- n bits in the first i words, and m in the next one
few_ones : {w : ℕ} (k i n m : ℕ) → (w ≡ 16) ⊎ (w ≡ 32) → k ≤ most_cards w → i < 64 * k / w → n ≤ w * i → m ≤ w → n + m < 4294967296
few_ones k i n m =
    by_width (λ w. k ≤ most_cards w → i < 64 * k / w → n ≤ w * i → m ≤ w → n + m < 4294967296) (λ a b c d. omega arith) (λ a b c d. omega arith)

pub loop-i-init : goal.loop-i-init
loop-i-init g c = (search (rules, ones_none), rw c.BITS.ensures)

pub overflow_add-n : goal.overflow_add-n
overflow_add-n g c =
    let I = c.loop-i.invariant in
    let x = c.value.result in
    let l : c.loop-i.i < 64 * c.args.k / g.W.Word.BITS = omega (arith, I.1, c.loop-i-test.true) in
    omega (arith, few_ones c.args.k c.loop-i.i c.loop-i.n (ones x) g.met.W.Word.laws.one_of_two c.requires.high l (ones_small _ _ _ _ _ _ I.0) (ones-le g.W.Word.BITS x c.value.ensures.fits))

pub loop-i-preserved : goal.loop-i-preserved
loop-i-preserved g c =
    let I = c.loop-i.invariant in (
      ones_more _ _ _ _ _ _ _ _ I.0 (omega (arith, I.1, c.loop-i-test.true)) (c.value.ensures.value ∙ c.start_word.ensures) (zero-add _) c.value.ensures.fits,
      I.1,
    )

pub returns : goal.returns
returns g c = let I = c.loop-i.invariant in starts_end _ _ _ _ _ c.requires I.0 (omega (arith, I.1, c.loop-i-test.false))
