-- The tests of an image as the code makes them, and what one of them may rely on.
use Rattle.std.specs.Prelude.{◌≡◌, Bool, true, false, not, cond, [], ◌∷◌, ℕ, suc, ◌+◌, ◌*◌, ◌≤◌, ◌<◌, eqb, ltb, take, drop}
use Rattle.model.specs.Base.{all, every, distinct, each_piece, zeroes}
use Rattle.model.specs.Image.{Image, granules, word, is_start, marked, links, link, count, entry, entries, scanned}
use Rattle.model.specs.Undamaged.{piece, zero_granule, filled, nil_or_start, links_ok, reg_ok, player_ok, card_ok, general_ok, mark_ok, entry_ok, packet_ok, tracer_ok, held_at, held_once, count_ok}
use Rattle.model.specs.Steps.{run}

-- the granules of bit word i pass, where a word has w bits
unfoldable pub at_word : ℕ → (ℕ → Bool) → ℕ → ℕ → Bool
at_word w p i j = p (w * i + j)

unfoldable pub wordwise : ℕ → (ℕ → Bool) → ℕ → Bool
wordwise w p i = all w (at_word w p i)

-- the number i places behind a passes
unfoldable pub onward : ℕ → (ℕ → Bool) → ℕ → Bool
onward a p i = p (a + i)

module _ (m : Image) where
  -- ---- the heap

  unfoldable pub link_ok : ℕ → ℕ → Bool
  link_ok g i = nil_or_start m (link m g i)

  -- the object at g, the run at g, the piece at g are in order, whatever starts lie inside
  unfoldable pub object_ok : ℕ → Bool
  object_ok g = piece (λ _. false) g (word m g 0) (drop (suc (4 * g)) m.heap) 0 false true

  unfoldable pub run_ok : ℕ → ℕ → Bool → Bool
  run_ok g next run = piece (λ _. false) g (word m g 0) (drop (suc (4 * g)) m.heap) next run false

  unfoldable pub piece_ok : ℕ → ℕ → Bool → Bool
  piece_ok g next run = piece (λ _. false) g (word m g 0) (drop (suc (4 * g)) m.heap) next run (is_start m g)

  -- where the run after the piece at g must be
  unfoldable pub next_run : ℕ → ℕ → ℕ
  next_run g next = cond (is_start m g) next (word m g 1)

  -- ---- packets and tracers

  unfoldable pub packet_ok_at : ℕ → Bool
  packet_ok_at p = packet_ok m (take 32 (drop (32 * p) m.packets))

  unfoldable pub entry_ok_at : ℕ → ℕ → Bool
  entry_ok_at p e = entry_ok m (ltb e (count m p)) (entry m p e)

  unfoldable pub entry_marked : ℕ → ℕ → Bool
  entry_marked p e = marked m (entry m p e)

  -- places x and y hold no packet in common
  unfoldable pub apart : ℕ → ℕ → Bool
  apart x y = not (eqb (held_at m y) (held_at m x))

  -- ---- the lines of every image, those that a running cycle adds, and those with no cycle

  unfoldable pub layout : Bool
  layout = every (zero_granule m ∷ filled m ∷ all (granules m) (links_ok m) ∷ all 256 (reg_ok m) ∷ all m.k (card_ok m) ∷ all 16 (player_ok m) ∷ general_ok m ∷ [])

  unfoldable pub cycle_lines : Bool
  cycle_lines = every (all (granules m) (mark_ok m) ∷ each_piece 32 32 (packet_ok m) m.packets ∷ distinct (entries m) ∷ all 8 (tracer_ok m) ∷ all 16 (held_once m) ∷ all m.k (count_ok m) ∷ [])

  unfoldable pub not_scanned : ℕ → Bool
  not_scanned p = eqb (scanned m p) 0

  -- what the model asks with no cycle, and the counts
  unfoldable pub still : Bool
  still = every (zeroes m.marks ∷ zeroes m.packets ∷ zeroes m.tracers ∷ all 16 not_scanned ∷ [])

  unfoldable pub idle : Bool
  idle = every (still ∷ zeroes m.counts ∷ [])

-- the links of an object that starts at g lie in the heap of k cards
pub record LinksInside (k : ℕ) (m : Image) (g : ℕ) : Type 0 where
  pub inside : is_start m g ≡ true → 4 * g + 2 + links m g ≤ 256 * k

-- packets have no more entries than places, and these are granules
pub record Packed (m : Image) : Type 0 where
  pub counts : (p : ℕ) → p < 32 → count m p ≤ 30
  pub below : (p e : ℕ) → p < 32 → e < count m p → entry m p e < granules m
