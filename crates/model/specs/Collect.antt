-- What tracers do: reach, trace and clean.
use Rattle.std.specs.Prelude.{Bool, true, false, not, cond, List, [], ◌∷◌, ℕ, zero, suc, ◌+◌, ◌*◌, ◌-◌, ◌/◌, leb, ltb, eqb, get_or, take, drop}
use Rattle.model.specs.Base.{put, zeros, any, every, some, best, lowest_of, first}
use Rattle.model.specs.Image.{Image, links, link, marked, state, dirty, count, entry, input, output, hand, next_link, hand_card, next_granule, mark_object, set_state, dirty_card, set_tracer, set_scanned, with_packets, with_cards, with_general}

module _ (m : Image) where
  -- a tracer holds packet p
  unfoldable pub held : ℕ → Bool
  held p = any 8 (λ t. some (eqb (input m t) (suc p) ∷ eqb (output m t) (suc p) ∷ []))

  -- "the pool packet (held by no tracer) with fewest entries, below 30, lowest number": its number + 1; 0 if there is none
  unfoldable pub emptiest : ℕ
  emptiest = best (λ p q. ltb (count m p) (count m q)) (λ p. every (not (held p) ∷ ltb (count m p) 30 ∷ [])) 32

  -- "the fullest pool packet, lowest number", one with entries: its number + 1; 0 if there is none
  unfoldable pub fullest : ℕ
  fullest = best (λ p q. ltb (count m q) (count m p)) (λ p. every (not (held p) ∷ ltb 0 (count m p) ∷ [])) 32

  -- g is appended to packet p
  unfoldable pub append : ℕ → ℕ → Image
  append p g = with_packets m (put (put m.packets (32 * p + 2 + count m p) g) (32 * p) (count m p + 1))

  -- the last entry of packet p comes off
  unfoldable pub pop : ℕ → Image
  pop p = with_packets m (put (put m.packets (32 * p + 1 + count m p) 0) (32 * p) (count m p - 1))

  -- the output packet of tracer t is full or absent
  unfoldable pub no_output : ℕ → Bool
  no_output t = some (eqb (output m t) 0 ∷ leb 30 (count m (output m t - 1)) ∷ [])

-- ---- reach

-- "A full or absent output packet first goes back and the pool packet .. is taken. If there is none, no packet is held as output"
unfoldable pub take_output : Image → ℕ → Image
take_output m t = set_tracer m t 1 (cond (no_output m t) (emptiest (set_tracer m t 1 0)) (output m t))

-- "appended to the output packet", or "the object's card turns dirty"
unfoldable pub enter : Image → ℕ → ℕ → Image
enter m t g = elim (output m t) [ zero ↦ dirty_card m (g / 64) | suc p ↦ append m p g ]

-- "Reach, by a tracer: nil or marked, nothing. Else the object is marked and appended to the output packet."
unfoldable pub reach : Image → ℕ → ℕ → Image
reach m t g = elim (some (eqb g 0 ∷ marked m g ∷ [])) [ true ↦ m | false ↦ enter (take_output (mark_object m g) t) t g ]

unfoldable pub reach_all : Image → ℕ → List ℕ → Image
reach_all m t [] = m
reach_all m t (g ∷ gs) = reach_all (reach m t g) t gs

-- "scan: player a's registers are reached in rising order, and it counts as scanned"
unfoldable pub scan_player : Image → ℕ → ℕ → Image
scan_player m t p = set_scanned (reach_all m t (take 16 (drop (16 * p) m.regs))) p

-- "begin: cards become 0, the cycle runs"
unfoldable pub begin_cycle : Image → Image
begin_cycle m = with_general (with_cards m (zeros m.cards)) (put m.general 0 1)

-- ---- trace: "does the first that applies"

-- object g and its next link in hand
unfoldable pub put_hand : Image → ℕ → ℕ → ℕ → Image
put_hand m t g i = set_tracer (set_tracer m t 2 g) t 3 i

-- "it goes in hand at link 0, unless .. it has no links"
unfoldable pub take_object : Image → ℕ → ℕ → Image
take_object m t g = cond (eqb (links m g) 0) m (put_hand m t g 0)

-- 1: "The hand holds an object and the next link: that link is reached, and after the last the hand is empty."
unfoldable pub trace_hand : Image → ℕ → Image
trace_hand m t =
    let g : ℕ = hand m t in
    let i : ℕ = next_link m t in
    let r : Image = reach m t (link m g i) in
    cond (ltb (suc i) (links m g)) (put_hand r t g (suc i)) (put_hand r t 0 0)

-- 2: "Input has entries: the last comes off; it goes in hand at link 0, unless its card is dirty or it has no links."
unfoldable pub trace_input : Image → ℕ → Image
trace_input m t =
    let p : ℕ = input m t - 1 in
    let g : ℕ = entry m p (count m p - 1) in
    cond (dirty m (g / 64)) (pop m p) (take_object (pop m p) t g)

-- 3: "The pool has entries: the input goes back and the fullest pool packet, lowest number, becomes input."
unfoldable pub trace_pool : Image → ℕ → Image
trace_pool m t = set_tracer m t 0 (fullest m)

-- 4: "Own output has entries: the input goes back and the output becomes input."
unfoldable pub trace_output : Image → ℕ → Image
trace_output m t = set_tracer (set_tracer m t 0 (output m t)) t 1 0

-- a held packet, given by its number + 1, has entries
unfoldable pub has_entries : Image → ℕ → Bool
has_entries m x = every (not (eqb x 0) ∷ ltb 0 (count m (x - 1)) ∷ [])

-- the first line that applies, 1 to 4; 0 if none does
unfoldable pub trace_line : Image → ℕ → ℕ
trace_line m t = first 1 (not (eqb (hand m t) 0) ∷ has_entries m (input m t) ∷ not (eqb (fullest m) 0) ∷ has_entries m (output m t) ∷ [])

unfoldable pub trace_step : Image → ℕ → Image
trace_step m t = get_or (m ∷ trace_hand m t ∷ trace_input m t ∷ trace_pool m t ∷ trace_output m t ∷ []) (trace_line m t) m

-- ---- clean

-- card + 1 and its next granule in hand
unfoldable pub put_card : Image → ℕ → ℕ → ℕ → Image
put_card m t c n = set_tracer (set_tracer m t 4 c) t 5 n

-- the first marked granule of the n from g on: its number + 1; 0 if there is none
unfoldable pub next_marked : Image → ℕ → ℕ → ℕ
next_marked m zero g = 0
next_marked m (suc n) g = elim (marked m g) [ true ↦ suc g | false ↦ next_marked m n (suc g) ]

-- 2: "Card in hand: the next marked object from its next granule goes in hand at link 0 (unless without links) and the next granule is the
-- one after its start; if none is left, the card is let go."
unfoldable pub clean_to : Image → ℕ → ℕ → Image
clean_to m t zero = put_card m t 0 0
clean_to m t (suc g) = take_object (put_card m t (hand_card m t) (suc g)) t g

unfoldable pub clean_card : Image → ℕ → Image
clean_card m t = clean_to m t (next_marked m (64 * hand_card m t - next_granule m t) (next_granule m t))

-- 3: "Else the lowest card in state 1 becomes 2 and is in hand at its first granule."
unfoldable pub lowest_dirty : Image → ℕ
lowest_dirty m = lowest_of (λ c. eqb (state m c) 1) m.k

unfoldable pub take_card : Image → ℕ → ℕ → Image
take_card m t c = put_card (set_state m c 2) t (suc c) (64 * c)

-- the first line that applies, 1 to 3; 0 if none does. 1: "object in hand, as in trace"
unfoldable pub clean_line : Image → ℕ → ℕ
clean_line m t = first 1 (not (eqb (hand m t) 0) ∷ not (eqb (hand_card m t) 0) ∷ not (eqb (lowest_dirty m) 0) ∷ [])

unfoldable pub clean_step : Image → ℕ → Image
clean_step m t = get_or (m ∷ trace_hand m t ∷ clean_card m t ∷ take_card m t (lowest_dirty m - 1) ∷ []) (clean_line m t) m

-- opens all of these
unfoldable pub collect_open : ℕ
unfolding held emptiest fullest append pop no_output take_output enter reach reach_all scan_player begin_cycle put_hand take_object trace_hand trace_input trace_pool trace_output has_entries trace_line trace_step put_card next_marked clean_to clean_card lowest_dirty take_card clean_line clean_step
collect_open = 0
