-- A marking on its way: what holds of every image that it comes through, what is left to do, and how far a step takes it.
use Rattle.std.specs.Prelude.{ℕ, ◌+◌, ◌*◌, ◌-◌, ◌/◌, ◌≤◌, ◌<◌, min, ◌≡◌, ◌⊎◌, length}
use Rattle.model.specs.Base.{sum_below}
use Rattle.model.specs.Image.{Image, links, link}
use Rattle.image_laws.specs.Digits.{mark_bit, start_bit}
use Rattle.finish_marking_laws.specs.Follow.{card_word, Headed, Reach, object_bit, World, Listed, untouched}

-- ---- m comes from m₀ by marking

-- every granule has its bits, every card its word
pub record Shape (k : ℕ) (m : Image) : Type 0 where
  pub starts : (g : ℕ) → g < 64 * k → g / m.width < length m.starts
  pub marks : (g : ℕ) → g < 64 * k → g / m.width < length m.marks
  pub cards : length m.cards ≡ k

pub record Grown (k : ℕ) (m₀ m : Image) : Type 0 where
  pub shape : Shape k m
  pub heap : m.heap ≡ m₀.heap
  pub rest : untouched m ≡ untouched m₀
  -- objects are the same, marks grow, an object done at first stays done
  pub same : (g : ℕ) → object_bit m g ≡ object_bit m₀ g
  pub grow : (g : ℕ) → mark_bit m₀ g ≤ mark_bit m g
  pub stay : (g : ℕ) → mark_bit m₀ g ≡ 1 → start_bit m₀ g ≡ 1 → start_bit m g ≡ 1
  -- what is marked was marked or is found
  pub only : (g : ℕ) → mark_bit m g ≡ 1 → (mark_bit m₀ g ≡ 1) ⊎ Reach m₀ g
  -- the links of what is settled are marked
  pub closed : (g i : ℕ) → mark_bit m g ≡ 1 → start_bit m g ≡ 1 → (start_bit m₀ g ≡ 0) ⊎ (mark_bit m₀ g ≡ 0) → i < links m₀ g → (link m₀ g i ≡ 0 → ⊥) → mark_bit m (link m₀ g i) ≡ 1

-- N are the objects that this turn is still to settle, from h the cards wait, from l those that were listed later
pub record Marking (k : ℕ) (m₀ m : Image) (N : ℕ → Type 0) (h l : ℕ) : Type 0 where
  pub world : World k m₀
  pub grown : Grown k m₀ m
  pub listed : Listed m N h l

-- ---- what is left to be marked, listed and settled

-- an unmarked object is still to be marked, listed and settled; a pending one to be settled
unfoldable pub weight : Image → ℕ → ℕ
weight m g = 3 * (1 - mark_bit m g) + (mark_bit m g - start_bit m g)

unfoldable pub on_list : Image → ℕ → ℕ
on_list m c = min 1 (card_word m c)

unfoldable pub work_left : ℕ → Image → ℕ
work_left k m = sum_below (weight m) (64 * k) + sum_below (on_list m) k

-- ---- a turn, which settles the pending objects of a card in the order of their granules

pub record Between (a e g : ℕ) : Type 0 where
  pub low : a ≤ g
  pub high : g < e

-- some marking has come to m; its turn has the granules from a on still to settle
pub record Underway (k : ℕ) (m : Image) (a l : ℕ) : Type 0 where
  pub from : Image
  pub head : ℕ
  pub end : ℕ
  pub marking : Marking k from m (Between a end) head l

-- a marking has gone on from m to p, with no more left
pub record GoneOn (k : ℕ) (m₀ m : Image) (N : ℕ → Type 0) (h : ℕ) (p : Headed) : Type 0 where
  pub marking : Marking k m₀ p.image N h p.head
  pub less : work_left k p.image ≤ work_left k m

-- whatever marking has come to m goes on to p; its turn has settled the granules from a up to b
pub record SettledTo (k : ℕ) (m : Image) (a l b : ℕ) (p : Headed) : Type 0 where
  pub goes_on : (m₀ : Image) (h e : ℕ) → Marking k m₀ m (Between a e) h l → GoneOn k m₀ m (Between b e) h p
