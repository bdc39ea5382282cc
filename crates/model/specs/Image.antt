-- The image: its sections, the words that they are cut from, and their parts by name, read and written.
use Rattle.std.specs.Prelude.{Bool, cond, List, [], ◌∷◌, ◌++◌, ℕ, zero, suc, ◌+◌, ◌*◌, ◌-◌, ◌/◌, leb, eqb, length, get_or, take, drop}
use Rattle.model.specs.Base
use Rattle.model.specs.Base.{nth, put, every, bit, set_bit, some, how_many}

-- An image in its sections, in their order. `width` is the number of bits in a word, `k` the number of cards.
pub record Image : Type 0 where
  pub width : ℕ
  pub k : ℕ
  pub heap : List ℕ
  pub starts : List ℕ
  pub marks : List ℕ
  pub cards : List ℕ
  pub counts : List ℕ
  pub regs : List ℕ
  pub packets : List ℕ
  pub tracers : List ℕ
  pub players : List ℕ
  pub general : List ℕ

-- ---- the layout

-- "Heap: 4 × G words", G = 64 × k; "Start bits, then mark bits: G/16 words each"; "Cards, k words"; document 02, (ii), "one word per
-- card [..], placed after the card words"; "Registers: 16 players of 16 words"; "Packets: 32 of 32 words"; "Tracers: 8 of 8 words"; "Players, 16 of
-- 2 words"; "General, 8 words". (ix), of the wide store: "granules still of four words, 32 bits to a bit word, so that the length is 262 × k + 1384 words"
abbrev pub lengths : ℕ → ℕ → List ℕ
lengths w k = 256 * k ∷ 64 * k / w ∷ 64 * k / w ∷ k ∷ k ∷ 256 ∷ 1024 ∷ 64 ∷ 32 ∷ 8 ∷ []

-- the sections' numbers in this order
abbrev pub heap_at : ℕ
heap_at = 0

abbrev pub starts_at : ℕ
starts_at = suc heap_at

abbrev pub marks_at : ℕ
marks_at = suc starts_at

abbrev pub cards_at : ℕ
cards_at = suc marks_at

abbrev pub counts_at : ℕ
counts_at = suc cards_at

abbrev pub regs_at : ℕ
regs_at = suc counts_at

abbrev pub packets_at : ℕ
packets_at = suc regs_at

abbrev pub tracers_at : ℕ
tracers_at = suc packets_at

abbrev pub players_at : ℕ
players_at = suc tracers_at

abbrev pub general_at : ℕ
general_at = suc players_at

-- the sum of some lengths
abbrev pub total : List ℕ → ℕ
total [] = 0
total (n ∷ ns) = n + total ns

-- the place of section s among sections of the given lengths
abbrev pub place : List ℕ → ℕ → ℕ
place [] s = 0
place (n ∷ ns) zero = 0
place (n ∷ ns) (suc s) = n + place ns s

abbrev pub image_length : ℕ → ℕ → ℕ
image_length w k = total (lengths w k)

-- "A store has k cards, k from 1 to 512", with words of 16 bits; document 02, (ix): "a wide store of 32-bit words [..]: k from 1 to 65,536"; there is no other
abbrev pub most_cards : ℕ → ℕ
most_cards w = cond (eqb w 16) 512 (cond (eqb w 32) 65536 0)

-- the number of cards whose image has n words, where there is one
unfoldable pub cards_of : ℕ → ℕ → ℕ
cards_of w n = (n - image_length w 0) / (image_length w 1 - image_length w 0)

-- n words are the length of an image
unfoldable pub fits : ℕ → ℕ → Bool
fits w n = let k = cards_of w n in every (leb 1 k ∷ leb k (most_cards w) ∷ eqb n (image_length w k) ∷ [])

-- ---- words and sections

-- the words cut into pieces of the given lengths
unfoldable pub split : List ℕ → List ℕ → List (List ℕ)
split [] ws = []
split (n ∷ ns) ws = take n ws ∷ split ns (drop n ws)

unfoldable pub join : List (List ℕ) → List ℕ
join [] = []
join (l ∷ ls) = l ++ join ls

unfoldable pub sections : Image → List (List ℕ)
sections m = m.heap ∷ m.starts ∷ m.marks ∷ m.cards ∷ m.counts ∷ m.regs ∷ m.packets ∷ m.tracers ∷ m.players ∷ m.general ∷ []

unfoldable pub image : ℕ → ℕ → List (List ℕ) → Image
image w k s = record {
  width = w;
  k = k;
  heap = get_or s heap_at [];
  starts = get_or s starts_at [];
  marks = get_or s marks_at [];
  cards = get_or s cards_at [];
  counts = get_or s counts_at [];
  regs = get_or s regs_at [];
  packets = get_or s packets_at [];
  tracers = get_or s tracers_at [];
  players = get_or s players_at [];
  general = get_or s general_at [];
}

-- the image of k cards that some words are, and the same with k by their length
unfoldable pub image_of : ℕ → ℕ → List ℕ → Image
image_of w k ws = image w k (split (lengths w k) ws)

unfoldable pub parts : ℕ → List ℕ → Image
parts w ws = image_of w (cards_of w (length ws)) ws

-- the words of an image
unfoldable pub words : Image → List ℕ
words m = join (sections m)

-- ---- what is read

-- "1 dirty", "3 dirty and taken"
unfoldable pub is_dirty : ℕ → Bool
is_dirty x = some (eqb x 1 ∷ eqb x 3 ∷ [])

-- the entries of the first n packets
unfoldable pub entries_of : ℕ → List ℕ → List ℕ
entries_of zero ps = []
entries_of (suc n) ps = take (nth ps 0) (drop 2 ps) ++ entries_of n (drop 32 ps)

module _ (m : Image) where
  -- "G = 64 × k granules of four words"
  unfoldable pub granules : ℕ
  granules = 64 * m.k

  -- word i from granule g on
  unfoldable pub word : ℕ → ℕ → ℕ
  word g i = nth m.heap (4 * g + i)

  unfoldable pub is_start : ℕ → Bool
  is_start g = bit m.width m.starts g

  unfoldable pub marked : ℕ → Bool
  marked g = bit m.width m.marks g

  -- "An object has its size in granules, its number of links, the links, then level words."
  unfoldable pub size : ℕ → ℕ
  size g = word g 0

  unfoldable pub links : ℕ → ℕ
  links g = word g 1

  unfoldable pub link : ℕ → ℕ → ℕ
  link g i = word g (2 + i)

  -- the number of level words, and level word i
  unfoldable pub levels : ℕ → ℕ
  levels g = 4 * size g - 2 - links g

  unfoldable pub level : ℕ → ℕ → ℕ
  level g i = word g (2 + links g + i)

  -- the state of card c; "An object's card is its first granule divided by 64, rounded down."
  unfoldable pub state : ℕ → ℕ
  state c = nth m.cards c

  unfoldable pub dirty : ℕ → Bool
  dirty c = is_dirty (state c)

  -- document 02, (ii): "one word per card with the number of marked objects on it" (marked and not traced, "since an object skipped on a dirty
  -- card is marked but not traced then"): the count of card c, and the same by the mark bits of its granules
  unfoldable pub card_count : ℕ → ℕ
  card_count c = nth m.counts c

  unfoldable pub marks_on : ℕ → ℕ
  marks_on c = how_many (λ j. marked (64 * c + j)) 64

  -- register r of player p
  unfoldable pub reg : ℕ → ℕ → ℕ
  reg p r = nth m.regs (16 * p + r)

  -- "A packet is a count and 30 entries, with one zero word between"
  unfoldable pub count : ℕ → ℕ
  count p = nth m.packets (32 * p)

  unfoldable pub entry : ℕ → ℕ → ℕ
  entry p e = nth m.packets (32 * p + 2 + e)

  -- the entries of all packets
  unfoldable pub entries : List ℕ
  entries = entries_of 32 m.packets

  -- "input packet + 1, output packet + 1, object in hand, its next link, card in hand + 1, next granule on it"
  unfoldable pub input : ℕ → ℕ
  input t = nth m.tracers (8 * t)

  unfoldable pub output : ℕ → ℕ
  output t = nth m.tracers (8 * t + 1)

  unfoldable pub hand : ℕ → ℕ
  hand t = nth m.tracers (8 * t + 2)

  unfoldable pub next_link : ℕ → ℕ
  next_link t = nth m.tracers (8 * t + 3)

  unfoldable pub hand_card : ℕ → ℕ
  hand_card t = nth m.tracers (8 * t + 4)

  unfoldable pub next_granule : ℕ → ℕ
  next_granule t = nth m.tracers (8 * t + 5)

  -- "owed card + 1 or 0; scanned, 0 or 1"
  unfoldable pub owed : ℕ → ℕ
  owed p = nth m.players (2 * p)

  unfoldable pub scanned : ℕ → ℕ
  scanned p = nth m.players (2 * p + 1)

  -- "cycle running 0 or 1, first free run or 0"
  unfoldable pub running : ℕ
  running = nth m.general 0

  unfoldable pub first_run : ℕ
  first_run = nth m.general 1

-- ---- what is written: one section replaced

unfoldable pub set_section : List (List ℕ) → ℕ → List ℕ → List (List ℕ)
set_section [] i l = []
set_section (s ∷ ss) zero l = l ∷ ss
set_section (s ∷ ss) (suc i) l = s ∷ set_section ss i l

unfoldable pub replaced : Image → ℕ → List ℕ → Image
unfolding image sections set_section
replaced m i l = image m.width m.k (set_section (sections m) i l)

module _ (m : Image) where
  unfoldable pub with_heap : List ℕ → Image
  unfolding replaced
  with_heap l = replaced m heap_at l

  unfoldable pub with_starts : List ℕ → Image
  unfolding replaced
  with_starts l = replaced m starts_at l

  unfoldable pub with_marks : List ℕ → Image
  unfolding replaced
  with_marks l = replaced m marks_at l

  unfoldable pub with_cards : List ℕ → Image
  unfolding replaced
  with_cards l = replaced m cards_at l

  unfoldable pub with_counts : List ℕ → Image
  unfolding replaced
  with_counts l = replaced m counts_at l

  unfoldable pub with_regs : List ℕ → Image
  unfolding replaced
  with_regs l = replaced m regs_at l

  unfoldable pub with_packets : List ℕ → Image
  unfolding replaced
  with_packets l = replaced m packets_at l

  unfoldable pub with_tracers : List ℕ → Image
  unfolding replaced
  with_tracers l = replaced m tracers_at l

  unfoldable pub with_players : List ℕ → Image
  unfolding replaced
  with_players l = replaced m players_at l

  unfoldable pub with_general : List ℕ → Image
  unfolding replaced
  with_general l = replaced m general_at l

-- ---- what is written: one word or bit

-- "the owed card turns dirty (0 to 1, 2 to 3; 1 and 3 stay)"
unfoldable pub dirty_state : ℕ → ℕ
dirty_state zero = 1
dirty_state (suc zero) = 1
dirty_state (suc (suc x)) = 3

-- document 02, (ii): "it turns state 1 to 0 and 3 to 2"
unfoldable pub clean_state : ℕ → ℕ
clean_state zero = 0
clean_state (suc zero) = 0
clean_state (suc (suc x)) = 2

module _ (m : Image) where
  unfoldable pub set_word : ℕ → ℕ → ℕ → Image
  set_word g i v = with_heap m (put m.heap (4 * g + i) v)

  unfoldable pub set_start : ℕ → Image
  set_start g = with_starts m (set_bit m.width m.starts g)

  unfoldable pub set_mark : ℕ → Image
  set_mark g = with_marks m (set_bit m.width m.marks g)

  -- the object at g is marked, and its card counts one marked object more
  unfoldable pub mark_object : ℕ → Image
  mark_object g = with_counts (set_mark g) (put m.counts (g / 64) (suc (card_count m (g / 64))))

  unfoldable pub set_state : ℕ → ℕ → Image
  set_state c v = with_cards m (put m.cards c v)

  unfoldable pub dirty_card : ℕ → Image
  dirty_card c = set_state c (dirty_state (state m c))

  unfoldable pub undirty_card : ℕ → Image
  undirty_card c = set_state c (clean_state (state m c))

  unfoldable pub set_reg : ℕ → ℕ → ℕ → Image
  set_reg p r v = with_regs m (put m.regs (16 * p + r) v)

  unfoldable pub set_tracer : ℕ → ℕ → ℕ → Image
  set_tracer t i v = with_tracers m (put m.tracers (8 * t + i) v)

  unfoldable pub set_owed : ℕ → ℕ → Image
  set_owed p v = with_players m (put m.players (2 * p) v)

  unfoldable pub set_scanned : ℕ → Image
  set_scanned p = with_players m (put m.players (2 * p + 1) 1)

  unfoldable pub set_first_run : ℕ → Image
  set_first_run g = with_general m (put m.general 1 g)

-- opens the accessors and the setters
unfoldable pub fields_open : ℕ
unfolding granules word is_start marked size links link levels level state is_dirty dirty card_count marks_on reg count entry entries_of entries input output hand next_link hand_card next_granule owed scanned running first_run set_section replaced with_heap with_starts with_marks with_cards with_counts with_regs with_packets with_tracers with_players with_general dirty_state clean_state set_word set_start set_mark mark_object set_state dirty_card undirty_card set_reg set_tracer set_owed set_scanned set_first_run
fields_open = 0

-- opens all of these
unfoldable pub image_open : ℕ
unfolding Base.base_open fields_open cards_of fits split join sections image image_of parts words
image_open = 0
