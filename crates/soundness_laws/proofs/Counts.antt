-- Counts: the ones of a card's mark bits, and the count held to them.
use Rattle.std.proofs.Common.{◌≡◌, ◌∙◌, [], ◌∷◌, List, ℕ, ◌^◌, ◌<◌}
use lib.Count.{ones}
use lib.Dec.{eqb}
use Rattle.model.specs.Base.{nth}
use Rattle.model.specs.Image.{image, image_of, marked, card_count, marks_on}
use Rattle.model.specs.Undamaged.{count_ok}
use Rattle.model.proofs.Counts.{how_many_same}
use Rattle.image_laws.proofs.Bits.{bit_at}
use Rattle.soundness_laws.specs.Sets.{CardBits}
use Rattle.soundness_laws.specs.Tests.{onward}
use Rattle.soundness_laws.proofs.Ones.{word_ones}

module _ (w k : ℕ) (l : List ℕ) (c : ℕ) where
  pub marks_counted : (x : ℕ) → CardBits w (image_of w k l).marks c x → x < 2 ^ 64 → ones x ≡ marks_on (image_of w k l) c
  unfolding onward marks_on marked image_of image nth
  marks_counted x s h =
      word_ones 64 (x ∷ []) 0 h
      ∙ how_many_same _ _ 64 (λ j q. bit_at 64 (x ∷ []) 0 j q ∙ s.each j q)

  pub count_is : (x n : ℕ) → x ≡ card_count (image_of w k l) c → n ≡ marks_on (image_of w k l) c → eqb x n ≡ count_ok (image_of w k l) c
  unfolding count_ok
  count_is x n ex en = rw (ex, en)
