-- A search over two bit planes of a scratch: what is seen, and what is pending; what holds throughout, and what is still to do.
use Rattle.std.specs.Prelude.{ℕ, ◌+◌, ◌*◌, ◌-◌, ◌/◌, ◌≤◌, ◌<◌, ◌≡◌, true, false, List, ◌⊎◌, length}
use Rattle.model.specs.Base.{nth, test_bit, bit, set_bit, sum_below}
use Rattle.model.specs.Image.{Image, most_cards, links, link}
use Rattle.model.specs.Claim.{Chain}
use Rattle.image_laws.specs.Digits.{digit}

-- ---- the planes: bit g for "seen", bit 64 * k + g for "pending": seen, and its links still to be followed

-- a scratch of two planes for a store of k cards, in words of w bits
pub record Planes (w k : ℕ) (s : List ℕ) : Type 0 where
  pub low : 1 ≤ k
  pub high : k ≤ most_cards w
  pub long : length s ≡ 2 * (64 * k / w)

abbrev pub seen : ℕ → List ℕ → ℕ → ℕ
seen w s g = digit (bit w s g)

abbrev pub pending : ℕ → ℕ → List ℕ → ℕ → ℕ
pending w k s g = digit (bit w s (64 * k + g))

-- a link to a is followed; there were n hints, there are r
pub data Visited (w k : ℕ) (s : List ℕ) (n a : ℕ) (s' : List ℕ) (r : ℕ) : Type 0 where
  again : seen w s a ≡ 1 → s' ≡ s → r ≡ n → Visited w k s n a s' r
  newly : seen w s a ≡ 0 → s' ≡ set_bit w (set_bit w s a) (64 * k + a) → r ≤ n + 1 → Visited w k s n a s' r

-- ---- hints: granules that may be pending, the last of them the first to be looked at

-- the last of n hints is a granule of x, word i of a plane
pub record LastOf (w i x : ℕ) (hints : List ℕ) (n : ℕ) : Type 0 where
  pub some : 1 ≤ n
  pub bit_number : ℕ
  pub within : bit_number < w
  pub is_set : test_bit x bit_number ≡ true
  pub named : nth hints (n - 1) ≡ w * i + bit_number

-- the granules of x, word i of a plane, have become hints: there were n, and room for more, there are r
pub data Hinted (w i x : ℕ) (hints : List ℕ) (n : ℕ) (hints' : List ℕ) (r : ℕ) : Type 0 where
  no_granule : x ≡ 0 → hints' ≡ hints → r ≡ n → Hinted w i x hints n hints' r
  some_granule : LastOf w i x hints' r → Hinted w i x hints n hints' r

-- the last of n hints is pending
pub record LastPending (w k : ℕ) (s hints : List ℕ) (n : ℕ) : Type 0 where
  pub here : nth hints (n - 1) < 64 * k
  pub is_pending : pending w k s (nth hints (n - 1)) ≡ 1

-- nothing is pending
pub record NonePending (w k : ℕ) (s : List ℕ) : Type 0 where
  pub none : (g : ℕ) → g < 64 * k → pending w k s g ≡ 0

-- n hints have been made of what is pending: none only if nothing is
pub record Refilled (w k : ℕ) (s hints : List ℕ) (n : ℕ) : Type 0 where
  pub none : n ≡ 0 → NonePending w k s
  pub last : 1 ≤ n → LastPending w k s hints n

-- ---- what holds throughout

pub record Search (w k : ℕ) (m : Image) (s : List ℕ) : Type 0 where
  pub planes : Planes w k s
  pub nil : seen w s 0 ≡ 1
  pub only : (g : ℕ) → g < 64 * k → seen w s g ≡ 1 → (g ≡ 0) ⊎ Chain m g
  pub waiting : (g : ℕ) → g < 64 * k → pending w k s g ≡ 1 → (seen w s g ≡ 1) × Chain m g
  -- the links of what is seen and not pending are seen
  pub closed : (g i : ℕ) → g < 64 * k → Chain m g → seen w s g ≡ 1 → pending w k s g ≡ 0 → i < links m g → seen w s (link m g i) ≡ 1

-- an object that is not seen is still to be seen, hinted and settled; a pending one to be settled
unfoldable pub to_do_at : ℕ → ℕ → List ℕ → ℕ → ℕ
to_do_at w k s g = 3 * (1 - seen w s g) + pending w k s g

unfoldable pub to_do : ℕ → ℕ → List ℕ → ℕ
to_do w k s = sum_below (to_do_at w k s) (64 * k)

-- from s the search came to s', and at least d less is to do
pub record Goes (w k : ℕ) (m : Image) (s s' : List ℕ) (d : ℕ) : Type 0 where
  pub search : Search w k m s'
  pub grow : (g : ℕ) → g < 64 * k → seen w s g ≤ seen w s' g
  pub down : to_do w k s' + d ≤ to_do w k s

-- what registers hold is seen
pub record Held (w k : ℕ) (m : Image) (s : List ℕ) : Type 0 where
  pub search : Search w k m s
  pub regs : (i : ℕ) → i < 256 → seen w s (nth m.regs i) ≡ 1

-- ---- what the search gives: the first plane has granule 0 and what a chain reaches, the second is zero

pub record ChainBits (w k : ℕ) (m : Image) (s : List ℕ) : Type 0 where
  pub long : length s ≡ 2 * (64 * k / w)
  pub has : (g : ℕ) → Chain m g → bit w s g ≡ true
  pub only : (g : ℕ) → g < 64 * k → bit w s g ≡ true → (g ≡ 0) ⊎ Chain m g
  pub nil : bit w s 0 ≡ true
  pub none_pending : (g : ℕ) → g < 64 * k → bit w s (64 * k + g) ≡ false
