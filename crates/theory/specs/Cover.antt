-- Cover by derivations: one constructor for each phrase of document 01.
use Rattle.std.specs.Prelude.{◌≡◌, true, ℕ, suc, ◌/◌, ◌≤◌, ◌<◌, length}
use Rattle.model.specs.Image.{Image, granules, marked, links, link, dirty, reg, owed, count, entry, hand, next_link, hand_card, next_granule}

-- link i of g is still to come
pub data Coming (m : Image) (g i : ℕ) : Type 0 where
  on_dirty : dirty m (g / 64) ≡ true → Coming m g i
  on_entry : (p e : ℕ) → p < 32 → e < count m p → entry m p e ≡ g → Coming m g i
  on_hand : (t : ℕ) → t < 8 → hand m t ≡ g → next_link m t ≤ i → Coming m g i
  on_card : (t : ℕ) → t < 8 → hand_card m t ≡ suc (g / 64) → next_granule m t ≤ g → Coming m g i

-- a player owes g's card and holds a
pub data Owes (m : Image) (g a : ℕ) : Type 0 where
  owes_by : (p r : ℕ) → p < 16 → r < 16 → owed m p ≡ suc (g / 64) → reg m p r ≡ a → Owes m g a

pub data Covered (m : Image) (g i : ℕ) : Type 0 where
  to_nil : link m g i ≡ 0 → Covered m g i
  to_marked : marked m (link m g i) ≡ true → Covered m g i
  is_coming : Coming m g i → Covered m g i
  is_owed : Owes m g (link m g i) → Covered m g i

abbrev pub Cover : Image → Type 0
Cover m = (g i : ℕ) → g < granules m → marked m g ≡ true → i < links m g → Covered m g i

-- the packets have their length, and no more entries than places
pub record Counted (m : Image) : Type 0 where
  pub packets_length : length m.packets ≡ 1024
  pub counts : (p : ℕ) → p < 32 → count m p ≤ 30
