-- "Undamaged", one named line for each clause of document 01 and for the counts of document 02, (ii); a fresh store; judging. Defined without the steps.
use Rattle.std.specs.Prelude.{Bool, true, false, not, cond, List, [], ◌∷◌, ℕ, zero, suc, ◌+◌, ◌*◌, ◌-◌, ◌/◌, ◌%◌, leb, ltb, eqb, length, drop, replicate}
use Rattle.model.specs.Base.{nth, all, any, every, some, either, implies, zeroes, elem, distinct, each_piece, first}
use Rattle.model.specs.Image
use Rattle.model.specs.Image.{Image, granules, is_start, marked, links, link, state, dirty, card_count, marks_on, reg, entries, hand, next_link, hand_card, next_granule, owed, scanned, running, first_run, fits, image_length, cards_of, image_of, parts, words, set_word, set_first_run}

-- ---- "Objects and runs fill granules 1 to G − 1 without overlap. Start bits are set at every object's first granule and nowhere else."

-- none of the granules behind the first of the s granules from g on is a start
unfoldable pub bare : (ℕ → Bool) → ℕ → ℕ → Bool
bare st g s = all (s - 1) (λ i. not (st (g + 1 + i)))

-- The piece of s granules at g, whose other words are the first of ws, is in order.
-- An object (true): "its size in granules (1 to 1,024), its number of links (0 to 4 × size − 2)".
-- A run (false): "its length and the next run's granule or 0; its other words are 0"; it is where the run before it says, and no run ends at g.
unfoldable pub piece : (ℕ → Bool) → ℕ → ℕ → List ℕ → ℕ → Bool → Bool → Bool
piece st g s ws next run true =
    every (leb 1 s ∷ leb (4 * s) (suc (length ws)) ∷ bare st g s ∷ leb s 1024 ∷ leb (nth ws 0) (4 * s - 2) ∷ [])
piece st g s ws next run false =
    every (leb 1 s ∷ leb (4 * s) (suc (length ws)) ∷ bare st g s ∷ not run ∷ eqb g next ∷ all (4 * s - 2) (λ i. eqb (nth ws (suc i)) 0) ∷ [])

-- Pieces fill the granules from g on, whose words are given, by at most n pieces. "Runs are chained in ascending order and no two touch":
-- `next` is the granule of the next run, or 0 if there is none; `run` says that a run ends at g.
unfoldable pub fill : (ℕ → Bool) → ℕ → ℕ → List ℕ → ℕ → Bool → Bool
fill st zero g ws next run = false
fill st (suc n) g [] next run = eqb next 0
fill st (suc n) g (s ∷ ws) next run =
    elim (piece st g s ws next run (st g)) [
      | false ↦ false
      | true ↦ fill st n (g + s) (drop (4 * s) (s ∷ ws)) (cond (st g) next (nth ws 0)) (not (st g))
    ]

module _ (m : Image) where
  -- "Granule 0 is all zero and never used."
  unfoldable pub zero_granule : Bool
  zero_granule = every (all 4 (λ i. eqb (nth m.heap i) 0) ∷ not (is_start m 0) ∷ [])

  unfoldable pub filled : Bool
  filled = fill (is_start m) (granules m) 1 (drop 4 m.heap) (first_run m) false

  -- ---- "Links and registers are nil or starts. Owed cards exist."

  unfoldable pub nil_or_start : ℕ → Bool
  nil_or_start a = either (eqb a 0) true (every (ltb a (granules m) ∷ is_start m a ∷ []))

  unfoldable pub links_ok : ℕ → Bool
  links_ok g = implies (is_start m g) (all (links m g) (λ i. nil_or_start (link m g i)))

  unfoldable pub reg_ok : ℕ → Bool
  reg_ok i = nil_or_start (nth m.regs i)

  -- "Players: owed card + 1 or 0; scanned, 0 or 1."
  unfoldable pub player_ok : ℕ → Bool
  player_ok p = every (leb (owed m p) m.k ∷ leb (scanned m p) 1 ∷ [])

  -- "Cards: 0 clean, 1 dirty, 2 clean and taken in this cycle, 3 dirty and taken."
  unfoldable pub card_ok : ℕ → Bool
  card_ok c = leb (state m c) 3

  -- ---- "Marks stand only on starts. Packet entries are marked, and no object is entered twice. Each packet is held in at most one place."

  unfoldable pub mark_ok : ℕ → Bool
  mark_ok g = implies (marked m g) (is_start m g)

  -- document 02, (ii): "a count that differs from the mark bits makes it damaged"
  unfoldable pub count_ok : ℕ → Bool
  count_ok c = eqb (card_count m c) (marks_on m c)

  -- "entries past the count are 0": entry word g, below the count or past it
  unfoldable pub entry_ok : Bool → ℕ → Bool
  entry_ok true g = every (ltb g (granules m) ∷ marked m g ∷ [])
  entry_ok false g = eqb g 0

  -- "A packet is a count and 30 entries, with one zero word between"; the words of one
  unfoldable pub packet_ok : List ℕ → Bool
  packet_ok ws = every (leb (nth ws 0) 30 ∷ eqb (nth ws 1) 0 ∷ all 30 (λ e. entry_ok (ltb e (nth ws 0)) (nth ws (2 + e))) ∷ [])

  -- the packet + 1 held at place x: the input (x even) or output (x odd) of tracer x / 2
  unfoldable pub held_at : ℕ → ℕ
  held_at x = nth m.tracers (8 * (x / 2) + x % 2)

  unfoldable pub held_once : ℕ → Bool
  held_once x = either (eqb (held_at x) 0) true (all x (λ y. not (eqb (held_at y) (held_at x))))

  -- ---- tracers: "0 means nothing held; what belongs to nothing held is 0"

  -- "An object in hand is marked and its next link is below its number of links."
  unfoldable pub hand_ok : ℕ → ℕ → Bool
  hand_ok g i = either (eqb g 0) (eqb i 0) (every (ltb g (granules m) ∷ marked m g ∷ ltb i (links m g) ∷ []))

  -- "A card in hand is in state 2 or 3; its next granule lies on it or just past it."
  unfoldable pub hand_card_ok : ℕ → ℕ → Bool
  hand_card_ok c g = either (eqb c 0) (eqb g 0) (every (leb c m.k ∷ leb 2 (state m (c - 1)) ∷ leb (64 * (c - 1)) g ∷ leb g (64 * c) ∷ []))

  -- "input packet + 1, output packet + 1, object in hand, its next link, card in hand + 1, next granule on it, two zeros"
  unfoldable pub tracer_ok : ℕ → Bool
  tracer_ok t =
      every
      (leb (nth m.tracers (8 * t)) 32
      ∷ leb (nth m.tracers (8 * t + 1)) 32
      ∷ hand_ok (hand m t) (next_link m t)
      ∷ hand_card_ok (hand_card m t) (next_granule m t)
      ∷ eqb (nth m.tracers (8 * t + 6)) 0
      ∷ eqb (nth m.tracers (8 * t + 7)) 0
      ∷ [])

  -- ---- "General: cycle running 0 or 1, first free run or 0, six zeros." (The first free run is the walk's, in `filled`.)

  unfoldable pub general_ok : Bool
  general_ok = every (leb (running m) 1 ∷ all 6 (λ i. eqb (nth m.general (2 + i)) 0) ∷ [])

  -- "With no cycle, marks, packets, tracers and scanned words are zero."
  unfoldable pub idle_ok : Bool
  idle_ok = implies (eqb (running m) 0) (every (zeroes m.marks ∷ zeroes m.packets ∷ zeroes m.tracers ∷ all 16 (λ p. eqb (scanned m p) 0) ∷ []))

  -- ---- every line of "undamaged" but Cover, on an image whose length fits
  unfoldable pub sound : Bool
  sound =
      every
      (zero_granule
      ∷ filled
      ∷ all (granules m) links_ok
      ∷ all 256 reg_ok
      ∷ all m.k card_ok
      ∷ all 16 player_ok
      ∷ general_ok
      ∷ all (granules m) mark_ok
      ∷ each_piece 32 32 packet_ok m.packets
      ∷ distinct (entries m)
      ∷ all 8 tracer_ok
      ∷ all 16 held_once
      ∷ idle_ok
      ∷ all m.k count_ok
      ∷ [])

  -- ---- "Cover: if a marked object O links to an unmarked A, then O's card is dirty; or O is entered; or O is in hand with that link still to
  -- come; or O lies on a card in hand, at or past the next granule; or a player owes O's card and holds A in a register."

  -- g is entered
  unfoldable pub entered : ℕ → Bool
  entered g = elem g (entries m)

  -- g is in hand with link i still to come
  unfoldable pub link_to_come : ℕ → ℕ → Bool
  link_to_come g i = any 8 (λ t. every (eqb (hand m t) g ∷ leb (next_link m t) i ∷ []))

  -- g lies on a card in hand, at or past the next granule
  unfoldable pub granule_to_come : ℕ → Bool
  granule_to_come g = any 8 (λ t. every (eqb (hand_card m t) (suc (g / 64)) ∷ leb (next_granule m t) g ∷ []))

  -- one player owes g's card and holds a in a register
  unfoldable pub owed_with : ℕ → ℕ → Bool
  owed_with g a = any 16 (λ p. every (eqb (owed m p) (suc (g / 64)) ∷ any 16 (λ r. eqb (reg m p r) a) ∷ []))

  -- link i of the marked object g
  unfoldable pub covered : ℕ → ℕ → Bool
  covered g i =
      let a : ℕ = link m g i in
      some
      (eqb a 0
      ∷ marked m a
      ∷ dirty m (g / 64)
      ∷ entered g
      ∷ link_to_come g i
      ∷ granule_to_come g
      ∷ owed_with g a
      ∷ [])

  unfoldable pub cover : Bool
  cover = all (granules m) (λ g. implies (marked m g) (all (links m g) (covered g)))

  unfoldable pub undamaged : Bool
  undamaged = every (sound ∷ cover ∷ [])

-- ---- fresh stores and judging, at a width

-- "A fresh store is all zero but for one run of G − 1 granules at 1 and the first free run, which is 1."
unfoldable pub fresh_store : ℕ → ℕ → List ℕ
fresh_store w k = words (set_first_run (set_word (image_of w k (replicate (image_length w k) 0)) 1 0 (64 * k - 1)) 1)

-- result and words of making a fresh store in a slice with the given words
pub record Made : Type 0 where
  pub result : ℕ
  pub image : List ℕ

unfoldable pub made : ℕ → List ℕ → Bool → Made
made w ws true = record { result = 0; image = fresh_store w (cards_of w (length ws)) }
made w ws false = record { result = 1; image = ws }

-- "Making one overwrites a slice of fitting length and gives 0, else gives 1 and writes nothing."
unfoldable pub fresh_at : ℕ → List ℕ → Made
fresh_at w ws = made w ws (fits w (length ws))

-- "Judging gives 0, 1 or 2 and writes nothing": 1 misfit, 2 damaged
unfoldable pub judge_at : ℕ → List ℕ → ℕ
judge_at w ws = first 1 (not (fits w (length ws)) ∷ not (undamaged (parts w ws)) ∷ [])

-- opens all of these
unfoldable pub undamaged_open : ℕ
unfolding Image.image_open bare piece fill zero_granule filled nil_or_start links_ok reg_ok player_ok card_ok mark_ok count_ok entry_ok packet_ok held_at held_once hand_ok hand_card_ok tracer_ok general_ok idle_ok sound entered link_to_come granule_to_come owed_with covered cover undamaged fresh_store made fresh_at judge_at
undamaged_open = 0
