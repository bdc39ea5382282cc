-- Cover, in the order in which the code asks: links that are nil or marked, then what covers a whole object, then what covers one link.
use Rattle.std.specs.Prelude.{◌≡◌, Bool, true, [], ◌∷◌, ℕ, suc, ◌+◌, ◌*◌, ◌/◌, ◌≤◌, ◌<◌, leb, eqb}
use Rattle.model.specs.Base.{all, any, every, some, implies}
use Rattle.model.specs.Image.{Image, is_start, marked, links, link, dirty, reg, hand, next_link, hand_card, next_granule, owed}
use Rattle.model.specs.Undamaged.{entered, link_to_come, granule_to_come, owed_with, covered}
use Rattle.soundness_laws.specs.Tests.{Packed}

module _ (m : Image) where
  -- ---- the tests of one tracer, register or player

  unfoldable pub hand_comes : ℕ → ℕ → ℕ → Bool
  hand_comes g i t = every (eqb (hand m t) g ∷ leb (next_link m t) i ∷ [])

  unfoldable pub card_comes : ℕ → ℕ → Bool
  card_comes g t = every (eqb (hand_card m t) (suc (g / 64)) ∷ leb (next_granule m t) g ∷ [])

  unfoldable pub holds : ℕ → ℕ → ℕ → Bool
  holds p a r = eqb (reg m p r) a

  unfoldable pub owes_holding : ℕ → ℕ → ℕ → Bool
  owes_holding g a p = every (eqb (owed m p) (suc (g / 64)) ∷ any 16 (holds p a) ∷ [])

  -- ---- the lines of Cover in three parts

  unfoldable pub nil_or_marked : ℕ → Bool
  nil_or_marked a = some (eqb a 0 ∷ marked m a ∷ [])

  unfoldable pub plain : ℕ → ℕ → Bool
  plain g i = nil_or_marked (link m g i)

  -- every link of g is covered
  unfoldable pub coming : ℕ → Bool
  coming g = some (dirty m (g / 64) ∷ entered m g ∷ granule_to_come m g ∷ [])

  -- link i of g is covered, where not every link is
  unfoldable pub late : ℕ → ℕ → Bool
  late g i = some (plain g i ∷ link_to_come m g i ∷ owed_with m g (link m g i) ∷ [])

  unfoldable pub object_covered : ℕ → Bool
  object_covered g = implies (marked m g) (all (links m g) (covered m g))

-- the links of marked objects lie in the heap of k cards and are nil or starts, there are at most two where the next granule is marked too,
-- and packets have no more entries than places
pub record Coverable (k : ℕ) (m : Image) : Type 0 where
  pub inside : (g : ℕ) → g < 64 * k → marked m g ≡ true → 4 * g + 2 + links m g ≤ 256 * k
  pub to_starts : (g : ℕ) → marked m g ≡ true → (i : ℕ) → i < links m g → (link m g i ≡ 0 → ⊥) → is_start m (link m g i) ≡ true
  pub two_links : (g : ℕ) → marked m g ≡ true → marked m (suc g) ≡ true → links m g ≤ 2
  pub packed : Packed m
