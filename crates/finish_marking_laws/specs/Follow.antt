-- Links followed from pending objects on: the cards as a work list, what each step does to an image, and what all of them give.
use Rattle.std.specs.Prelude.{ℕ, zero, suc, ◌+◌, ◌*◌, ◌/◌, ◌≤◌, ◌<◌, min, max, ◌≡◌, true, cond, List, [], ◌∷◌, ◌⊎◌, eqb}
use Rattle.model.specs.Base.{nth, test_bit}
use Rattle.model.specs.Image.{Image, marked, links, link, set_start, set_mark, set_state}
use Rattle.image_laws.specs.Bits.{clear_start}
use Rattle.image_laws.specs.Digits.{digit, mark_bit, start_bit}

-- the word of card c: while a finish marks, 0 or the rest of the work list behind c
abbrev pub card_word : Image → ℕ → ℕ
card_word m c = nth m.cards c

-- grey: marked, and its start bit taken away for the time being, since its links are still to be followed
pub record Pending (m : Image) (g : ℕ) : Type 0 where
  pub is_marked : mark_bit m g ≡ 1
  pub bare : start_bit m g ≡ 0

-- ---- the steps: an image, and the head of the work list (1 empty, c + 2 card c)

pub record Headed : Type 0 where
  pub head : ℕ
  pub image : Image

abbrev pub headed : ℕ → Image → Headed
headed h m = record { head = h; image = m }

-- a becomes pending
unfoldable pub pend : Image → ℕ → Image
pend m a = clear_start (set_mark m a) a

unfoldable pub enlisted : Image → ℕ → ℕ → Headed
enlisted m h c = cond (eqb (card_word m c) 0) (headed (c + 2) (set_state m c h)) (headed h m)

-- a link is followed: to nil or a marked object nothing, else the object becomes pending and its card is listed
unfoldable pub visited : Image → ℕ → ℕ → Headed
visited m h a = cond (eqb a 0) (headed h m) (cond (marked m a) (headed h m) (enlisted (pend m a) h (a / 64)))

-- the first n links of g
unfoldable pub visits : Image → ℕ → ℕ → ℕ → Headed
visits m h g zero = headed h m
visits m h g (suc n) = visited (visits m h g n).image (visits m h g n).head (link m g n)

-- all links of g are followed, then its start bit stands again
unfoldable pub settled : Image → ℕ → ℕ → Headed
settled m h g = headed (visits m h g (links m g)).head (set_start (visits m h g (links m g)).image g)

-- r has the pending objects of bit word i, in words of w bits: its marks without its starts
pub record PendingWord (w : ℕ) (m : Image) (i r : ℕ) : Type 0 where
  pub some : (j : ℕ) → j < w → test_bit r j ≡ true → Pending m (w * i + j)
  pub all : (j : ℕ) → j < w → Pending m (w * i + j) → test_bit r j ≡ true

-- the object at g lies in the heap, and its links lead into it
pub record LinksIn (k : ℕ) (m : Image) (g : ℕ) : Type 0 where
  pub inside : 4 * g + 2 + links m g ≤ 256 * k
  pub target : (i : ℕ) → i < links m g → link m g i < 64 * k

-- ---- what is found from the pending objects of m: all their links, and those of what is found unmarked

pub data Reach (m : Image) : ℕ → Type 0 where
  seed : (g i : ℕ) {a : ℕ} → Pending m g → i < links m g → link m g i ≡ a → (a ≡ 0 → ⊥) → Reach m a
  follow : (g i : ℕ) {a : ℕ} → Reach m g → mark_bit m g ≡ 0 → i < links m g → link m g i ≡ a → (a ≡ 0 → ⊥) → Reach m a

-- ---- what does not change: objects lie in the heap, and links are nil or objects

abbrev pub object_bit : Image → ℕ → ℕ
object_bit m g = max (start_bit m g) (mark_bit m g)

pub record World (k : ℕ) (m : Image) : Type 0 where
  pub inside : (g : ℕ) → object_bit m g ≡ 1 → 4 * g + 2 + links m g ≤ 256 * k
  pub target : (g i : ℕ) → object_bit m g ≡ 1 → i < links m g → (link m g i ≡ 0 → ⊥) → (link m g i < 64 * k) × (object_bit m (link m g i) ≡ 1)

-- ---- the work list

-- how often c stands in a list
unfoldable pub times : ℕ → List ℕ → ℕ
times c [] = 0
times c (x ∷ l) = digit (eqb x c) + times c l

-- the cards of l are chained from h
unfoldable pub Chained : List ℕ → List ℕ → ℕ → Type 0
Chained cards [] h = h ≡ 1
Chained cards (c ∷ l) h = (h ≡ c + 2) × Chained cards l (nth cards c)

-- two chains, from h the cards that wait and from l those that were listed later; a listed card stands once in one of them
pub record WorkList (cards : List ℕ) (h l : ℕ) : Type 0 where
  pub waiting : List ℕ
  pub later : List ℕ
  pub chained : Chained cards waiting h
  pub chained_later : Chained cards later l
  pub once : (c : ℕ) → times c waiting + times c later ≡ min 1 (nth cards c)

-- the cards of pending objects are listed, but for the objects of N
pub record Listed (m : Image) (N : ℕ → Type 0) (h l : ℕ) : Type 0 where
  pub list : WorkList m.cards h l
  pub holds : (g : ℕ) → Pending m g → (1 ≤ card_word m (g / 64)) ⊎ N g

abbrev pub Nowhere : ℕ → Type 0
Nowhere g = ⊥

-- ---- what following gives: the start bits stand again, and what was marked or is found is marked

-- the sections that a finish does not touch while it marks, but the heap
abbrev pub untouched : Image → List (List ℕ)
untouched m = m.regs ∷ m.packets ∷ m.tracers ∷ m.players ∷ m.general ∷ m.counts ∷ []

pub record Followed (k : ℕ) (m₀ m : Image) : Type 0 where
  pub heap : m.heap ≡ m₀.heap
  pub rest : untouched m ≡ untouched m₀
  pub starts : (g : ℕ) → start_bit m g ≡ object_bit m₀ g
  pub kept : (g : ℕ) → mark_bit m g ≡ 1 → (mark_bit m₀ g ≡ 1) ⊎ Reach m₀ g
  pub keeps : (g : ℕ) → (mark_bit m₀ g ≡ 1) ⊎ Reach m₀ g → mark_bit m g ≡ 1
  pub cards : (c : ℕ) → card_word m c ≡ 0
