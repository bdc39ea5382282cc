-- How the seeds of a finish become pending, by object; and what seeds and marking give together.
use Rattle.std.specs.Prelude.{ℕ, ◌+◌, ◌*◌, ◌/◌, ◌%◌, ◌≤◌, ◌<◌, ◌≡◌, true, List, ◌⊎◌}
use Rattle.model.specs.Base.{nth}
use Rattle.model.specs.Image.{Image, is_start, marked, is_dirty}
use Rattle.model.specs.Finish.{Kept}
use Rattle.image_laws.specs.Digits.{mark_bit, start_bit}
use Rattle.finish_marking_laws.specs.Follow.{card_word, Pending, untouched}

-- ---- sets of objects, the seeds or roots of the marking, by the words that refer to them; `mark` are the mark bits

-- some place below n
pub record Upto (P : ℕ → ℕ → Type 0) (n g : ℕ) : Type 0 where
  pub place : ℕ
  pub below : place < n
  pub here : P place g

-- word a refers to object g
pub record Refers (a g : ℕ) : Type 0 where
  pub eq : g ≡ a
  pub some : a ≡ 0 → ⊥

-- word i of the packets is an entry with g
pub record EnteredAt (packets : List ℕ) (i g : ℕ) : Type 0 where
  pub place : 2 ≤ i % 32
  pub is : Refers (nth packets i) g

-- marked, and in bit word i, of w bits; on card c
pub record WordAt (w : ℕ) (mark : ℕ → ℕ) (i g : ℕ) : Type 0 where
  pub on : g / w ≡ i
  pub is_marked : mark g ≡ 1

pub record CardAt (mark : ℕ → ℕ) (c g : ℕ) : Type 0 where
  pub on : g / 64 ≡ c
  pub is_marked : mark g ≡ 1

-- in tracer t's hand; marked, and on the card in its hand
pub data HandAt (tracers : List ℕ) (mark : ℕ → ℕ) (t g : ℕ) : Type 0 where
  object : Refers (nth tracers (8 * t + 2)) g → HandAt tracers mark t g
  card : nth tracers (8 * t + 4) ≡ g / 64 + 1 → mark g ≡ 1 → HandAt tracers mark t g

-- marked, and on card c, which is dirty
pub record DirtyAt (cards : List ℕ) (mark : ℕ → ℕ) (c g : ℕ) : Type 0 where
  pub on : g / 64 ≡ c
  pub is-dirty : is_dirty (nth cards c) ≡ true
  pub is_marked : mark g ≡ 1

-- in register i, and not marked
pub record HeldAt (regs : List ℕ) (mark : ℕ → ℕ) (i g : ℕ) : Type 0 where
  pub is : Refers (nth regs i) g
  pub bare : mark g ≡ 0

-- ---- opening: start bits taken away from a set of objects, all else as it was

pub record Bared (m m' : Image) (N : ℕ → Type 0) : Type 0 where
  pub heap : m'.heap ≡ m.heap
  pub marks : ◌≡◌ {A = ℕ → ℕ} (mark_bit m') (mark_bit m)
  pub cards : m'.cards ≡ m.cards
  pub rest : untouched m' ≡ untouched m
  pub has : (g : ℕ) → N g → start_bit m' g ≡ 0
  pub only : (g : ℕ) → N g ⊎ (start_bit m' g ≡ start_bit m g)

-- the same with marks: a set of objects becomes pending
pub record Opened (m m' : Image) (N : ℕ → Type 0) : Type 0 where
  pub heap : m'.heap ≡ m.heap
  pub cards : m'.cards ≡ m.cards
  pub rest : untouched m' ≡ untouched m
  pub has : (g : ℕ) → N g → Pending m' g
  pub only : (g : ℕ) → N g ⊎ ((mark_bit m' g ≡ mark_bit m g) × (start_bit m' g ≡ start_bit m g))

-- ---- what the loops need: entries, hands and registers lie in the store

abbrev pub EntriesIn : ℕ → List ℕ → Type 0
EntriesIn k packets = (i : ℕ) → i < 1024 → 2 ≤ i % 32 → nth packets i < 64 * k

abbrev pub HandsIn : ℕ → List ℕ → Type 0
HandsIn k tracers = (t : ℕ) → t < 8 → (nth tracers (8 * t + 2) < 64 * k) × (nth tracers (8 * t + 4) ≤ k)

abbrev pub RegsIn : ℕ → List ℕ → Type 0
RegsIn k regs = (i : ℕ) → i < 256 → nth regs i < 64 * k

-- every card is listed, all else is as it was
pub record ListedAll (k : ℕ) (m m' : Image) (h : ℕ) : Type 0 where
  pub heap : m'.heap ≡ m.heap
  pub starts : ◌≡◌ {A = ℕ → ℕ} (start_bit m') (start_bit m)
  pub marks : ◌≡◌ {A = ℕ → ℕ} (mark_bit m') (mark_bit m)
  pub rest : untouched m' ≡ untouched m
  pub head : h ≡ k + 1
  pub words : (c : ℕ) → c < k → card_word m' c ≡ c + 1
  pub past : (c : ℕ) → k ≤ c → card_word m' c ≡ 0

-- ---- what seeds and marking give together: the start bits are as before, the marks are what a finish keeps, the cards are 0

pub record KeptMarked (m m' : Image) : Type 0 where
  pub heap : m'.heap ≡ m.heap
  pub rest : untouched m' ≡ untouched m
  pub starts : (g : ℕ) → is_start m' g ≡ is_start m g
  pub only : (g : ℕ) → marked m' g ≡ true → Kept m g
  pub all : (g : ℕ) → Kept m g → marked m' g ≡ true
  pub cards : (c : ℕ) → card_word m' c ≡ 0
