-- What a new leaves: the object, every other object as it was, and the run chain without what it took.
use Rattle.std.specs.Prelude.{◌≡◌, true, cond, List, ℕ, zero, suc, ◌+◌, ◌*◌, ◌-◌, ◌≤◌, ◌<◌, eqb, length}
use Rattle.model.specs.Base.{nth}
use Rattle.model.specs.Image.{Image, granules, word, is_start, size, links, set_word, set_start, set_reg}
use Rattle.model.specs.Records.{Step, new}
use Rattle.model.specs.Mutate.{Placing, room_for, take_run, new_object}
use Rattle.model.specs.Steps.{refusal}
use Rattle.theory.specs.Heap.{HeapFilled, HeapSized}
use Rattle.theory.specs.Pieces.{Stretch}

-- new, before its register is written: an object of b granules and c links at the start of the run g, which follows the run `before`
unfoldable pub placed : Image → ℕ → ℕ → ℕ → ℕ → Image
placed m g before b c = set_start (set_word (set_word (take_run m g before b (word m g 0 - b)) g 0 b) g 1 c) g

-- m with another heap, other start bits and another general section
abbrev pub reheaped : Image → List ℕ → List ℕ → List ℕ → Image
reheaped m hs ss gs = record {
  width = m.width;
  k = m.k;
  heap = hs;
  starts = ss;
  marks = m.marks;
  cards = m.cards;
  counts = m.counts;
  regs = m.regs;
  packets = m.packets;
  tracers = m.tracers;
  players = m.players;
  general = gs;
}

-- the sections besides heap and general stay, and of general only the first run is written
pub record OnlyFirst (m n : Image) : Type 0 where
  pub sections : n ≡ reheaped m n.heap m.starts n.general
  pub general_word : (i : ℕ) → (i ≡ 1 → ⊥) → nth n.general i ≡ nth m.general i
  pub general_length : length n.general ≡ length m.general

-- what follows `before` once run g is taken, if that much is left of it
unfoldable pub next_of : Image → ℕ → ℕ → ℕ → ℕ
next_of m g b zero = word m g 1
next_of m g b (suc left) = g + b

-- n is m with an object of b granules and c links in the run at r; `next` follows the run `before` in place of r
pub record Carved (m n : Image) (b c r before next : ℕ) : Type 0 where
  pub same_granules : granules n ≡ granules m
  pub start_new : is_start n r ≡ true
  pub start_old : (h : ℕ) → (h ≡ r → ⊥) → is_start n h ≡ is_start m h
  pub size_new : word n r 0 ≡ b
  pub links_new : word n r 1 ≡ c
  pub left_next : b < word m r 0 → next ≡ r + b
  pub left_size : b < word m r 0 → word n (r + b) 0 + b ≡ word m r 0
  pub left_pointer : b < word m r 0 → word n (r + b) 1 ≡ word m r 1
  pub none_left : word m r 0 ≡ b → next ≡ word m r 1
  pub pointer : (before ≡ 0 → ⊥) → word n before 1 ≡ next
  pub others : (x : ℕ) → (x ≡ 4 * r → ⊥) → (x ≡ 4 * r + 1 → ⊥) → (1 ≤ before → x ≡ 4 * before + 1 → ⊥) → (b < word m r 0 → (x ≡ 4 * (r + b) → ⊥) × (x ≡ 4 * (r + b) + 1 → ⊥))
      → nth n.heap x ≡ nth m.heap x

-- what follows the run `last`, where it was `now`
abbrev pub following : ℕ → ℕ → ℕ → ℕ → ℕ
following before next last now = cond (eqb last before) next now

-- n is what a new of b granules and c links leaves of m, with its object at g in register r of player p
pub record NewMade (m n : Image) (p r b c g : ℕ) : Type 0 where
  pub filled : HeapFilled n
  pub sized : HeapSized n
  pub was_unused : Stretch m b g
  pub start_new : is_start n g ≡ true
  pub start_old : (h : ℕ) → (h ≡ g → ⊥) → is_start n h ≡ is_start m h
  pub size_new : size n g ≡ b
  pub links_new : links n g ≡ c
  pub zero_new : (i : ℕ) → 2 + i < 4 * b → word n g (2 + i) ≡ 0
  pub words_old : (h i : ℕ) → is_start m h ≡ true → i < 4 * size m h → word n h i ≡ word m h i
  pub granule_zero : (i : ℕ) → i < 4 → nth n.heap i ≡ nth m.heap i
  pub general_word : (i : ℕ) → (i ≡ 1 → ⊥) → nth n.general i ≡ nth m.general i
  pub general_length : length n.general ≡ length m.general
  pub starts_length : length n.starts ≡ length m.starts
  pub sections : n ≡ set_reg (reheaped m n.heap n.starts n.general) p r g

-- what an accepted new leaves
abbrev pub NewLeaves : Placing → Image → Step → Type 0
NewLeaves rule m s = refusal m s new ≡ 0 → NewMade m (new_object rule m s.who s.a s.b s.c) s.who s.a s.b s.c (room_for rule m s.b).run
