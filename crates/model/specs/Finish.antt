-- Finish: what it finds, by object; what it keeps; and the sweep.
use Rattle.std.specs.Prelude.{◌≡◌, Bool, true, false, cond, ◌&&◌, ◌||◌, List, [], ◌∷◌, ◌++◌, ℕ, zero, suc, ◌+◌, ◌*◌, ◌-◌, ◌/◌, ◌<◌, eqb, get_or, take, drop, replicate}
use Rattle.model.specs.Base.{put, zeros, any, every, some, table, add_bits}
use Rattle.model.specs.Closure
use Rattle.model.specs.Closure.{reached}
use Rattle.model.specs.Undamaged.{entered}
use Rattle.model.specs.Image.{Image, granules, is_start, marked, links, link, dirty, reg, count, entry, hand, hand_card}

-- ---- what it finds: "It finds what registers hold, and what is linked from an unmarked object that it finds, or from a marked one that is
-- entered, in hand, on a dirty card or on a card in hand. It follows no other marked object's links"

-- "entered, in hand, on a dirty card or on a card in hand": asked of the object, whatever its next link or the card's next granule
unfoldable pub still_due : Image → ℕ → Bool
still_due m g = some (entered m g ∷ any 8 (λ t. eqb (hand m t) g) ∷ dirty m (g / 64) ∷ any 8 (λ t. eqb (hand_card m t) (suc (g / 64))) ∷ [])

unfoldable pub non_nil : List ℕ → List ℕ
non_nil [] = []
non_nil (zero ∷ l) = non_nil l
non_nil (suc g ∷ l) = suc g ∷ non_nil l

unfoldable pub links_of : Image → ℕ → List ℕ
links_of m g = non_nil (table (links m g) (link m g))

-- the links of the marked objects below n that are still due
unfoldable pub due_from : Image → ℕ → List ℕ
due_from m zero = []
due_from m (suc g) = let r = due_from m g in elim (every (marked m g ∷ still_due m g ∷ [])) [ true ↦ links_of m g ++ r | false ↦ r ]

-- what is found at once, and what follows from a found object
unfoldable pub seeds : Image → List ℕ
seeds m = non_nil m.regs ++ due_from m (granules m)

unfoldable pub follows : Image → ℕ → List ℕ
follows m g = cond (marked m g) [] (links_of m g)

unfoldable pub found_set : Image → List Bool
found_set m = reached (granules m) (follows m) (seeds m)

-- "It keeps all marked objects and all that it finds."
unfoldable pub kept_set : Image → List Bool
kept_set m = let s = found_set m in table (granules m) (λ g. is_start m g && (marked m g || get_or s g false))

-- ---- the same by derivations: the rule as a reader checks it

pub data Due (m : Image) (g : ℕ) : Type 0 where
  due_entered : (p e : ℕ) → p < 32 → e < count m p → entry m p e ≡ g → Due m g
  due_in_hand : (t : ℕ) → t < 8 → hand m t ≡ g → Due m g
  due_dirty : dirty m (g / 64) ≡ true → Due m g
  due_card_in_hand : (t : ℕ) → t < 8 → hand_card m t ≡ suc (g / 64) → Due m g

pub data Found (m : Image) : ℕ → Type 0 where
  found_reg : {a : ℕ} (p r : ℕ) → p < 16 → r < 16 → reg m p r ≡ a → (a ≡ 0 → ⊥) → Found m a
  found_link : {a : ℕ} (g i : ℕ) → Found m g → marked m g ≡ false → i < links m g → link m g i ≡ a → (a ≡ 0 → ⊥) → Found m a
  found_due : {a : ℕ} (g i : ℕ) → g < granules m → marked m g ≡ true → Due m g → i < links m g → link m g i ≡ a → (a ≡ 0 → ⊥) → Found m a

pub data Kept (m : Image) (g : ℕ) : Type 0 where
  kept_marked : marked m g ≡ true → Kept m g
  kept_found : Found m g → Kept m g

-- ---- the sweep: "All others are freed: start bits off, neighbouring runs joined, and freed granules are zeroed but for a run's two words."

-- the words of a run of suc n granules behind its length
unfoldable pub run_tail : ℕ → ℕ → List ℕ
run_tail n next = next ∷ replicate (4 * suc n - 2) 0

-- The heap from a granule on, swept: the free granules at its front, the words behind them, the first run behind them, the granules freed.
pub record Swept : Type 0 where
  pub free : ℕ
  pub rest : List ℕ
  pub next : ℕ
  pub freed : ℕ

unfoldable pub swept_words : Swept → List ℕ
swept_words r = elim r.free [ zero ↦ r.rest | suc n ↦ (suc n ∷ run_tail n r.next) ++ r.rest ]

-- the first run from granule g on
unfoldable pub first_of : ℕ → Swept → ℕ
first_of g r = elim r.free [ zero ↦ r.next | suc n ↦ g ]

-- the piece of s granules at g with the words ws, kept or free, before what is swept behind it
unfoldable pub swept : (ℕ → Bool) → ℕ → ℕ → List ℕ → Bool → Swept → Swept
swept st g s ws true r = record { free = 0; rest = ws ++ swept_words r; next = first_of (g + s) r; freed = r.freed }
swept st g s ws false r = record { free = s + r.free; rest = r.rest; next = r.next; freed = cond (st g) s 0 + r.freed }

-- the words from granule g on, of n pieces at most; what starts in `st` and not in `keep` is freed
unfoldable pub sweep : (st keep : ℕ → Bool) → ℕ → ℕ → List ℕ → Swept
sweep st keep zero g ws = record { free = 0; rest = []; next = 0; freed = 0 }
sweep st keep (suc n) g [] = record { free = 0; rest = []; next = 0; freed = 0 }
sweep st keep (suc n) g (s ∷ ws) = swept st g s (take (4 * s) (s ∷ ws)) (keep g) (sweep st keep n (g + s) (drop (4 * s) (s ∷ ws)))

-- ---- the whole finish

-- "scanned .. become 0; owed cards stay"
unfoldable pub scanned_off : List ℕ → List ℕ
scanned_off [] = []
scanned_off (o ∷ []) = o ∷ []
scanned_off (o ∷ s ∷ l) = o ∷ 0 ∷ scanned_off l

-- "Value: granules freed."
pub record Finish : Type 0 where
  pub image : Image
  pub value : ℕ

-- with the set that it keeps: "Cards, marks, packets, tracers, scanned and running become 0", and with the marks their counts
unfoldable pub finish_with : Image → List Bool → Finish
finish_with m keep =
    let r : Swept = sweep (is_start m) (λ g. get_or keep g false) (granules m) 1 (drop 4 m.heap) in
    record {
      image = record {
        width = m.width;
        k = m.k;
        heap = take 4 m.heap ++ swept_words r;
        starts = add_bits m.width (λ g. get_or keep g false) (granules m) (zeros m.starts);
        marks = zeros m.marks;
        cards = zeros m.cards;
        counts = zeros m.counts;
        regs = m.regs;
        packets = zeros m.packets;
        tracers = zeros m.tracers;
        players = scanned_off m.players;
        general = put (put m.general 0 0) 1 (first_of 1 r);
      };
      value = r.freed;
    }

unfoldable pub finish_step : Image → Finish
finish_step m = finish_with m (kept_set m)

-- opens all of these
unfoldable pub finish_open : ℕ
unfolding Closure.closure_open still_due non_nil links_of due_from seeds follows found_set kept_set run_tail swept_words first_of swept sweep scanned_off finish_with finish_step
finish_open = 0
