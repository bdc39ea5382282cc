-- What a cycle still has to pop, to follow and to clean at most, as a number: how far the cycle has come, and what of that is still owed.
use Rattle.std.specs.Prelude.{◌≡◌, Bool, cond, not, List, [], ◌∷◌, ℕ, suc, ◌+◌, ◌*◌, ◌-◌, ◌/◌, ◌≤◌, ◌<◌, leb, eqb}
use Rattle.model.specs.Base.{nth, bit, any, every, sum_below}
use Rattle.model.specs.Image.{Image}
use Rattle.model.specs.Records.{Kind, trace, clean}
use Rattle.model.specs.Rows.{for_kind}
use Rattle.model.specs.Bound.{at_most_sharper}
use Rattle.theory.specs.Lines.{count_in, entry_in}

-- the number of links of the object at x
unfoldable pub links_in : List ℕ → ℕ → ℕ
links_in hs x = nth hs (4 * x + 1)

-- ---- what is done

-- a marked object: a change of input and a pop for it, and its links by trace
unfoldable pub mark_paid : ℕ → List ℕ → List ℕ → ℕ → ℕ
mark_paid w hs ms x = cond (bit w ms x) (2 + links_in hs x) 0

-- x lies on a card in hand, at or past the next granule
unfoldable pub to_come : List ℕ → ℕ → Bool
to_come ts x = any 8 (λ t. every (eqb (nth ts (8 * t + 4)) (suc (x / 64)) ∷ leb (nth ts (8 * t + 5)) x ∷ []))

-- card c was taken in this cycle
unfoldable pub taken : List ℕ → ℕ → Bool
taken cs c = leb 2 (nth cs c)

-- a marked object on a taken card, and not to come on it any more: its turn on the card, and its links by clean
unfoldable pub is_cleaned : ℕ → List ℕ → List ℕ → List ℕ → ℕ → Bool
is_cleaned w ms cs ts x = every (bit w ms x ∷ taken cs (x / 64) ∷ not (to_come ts x) ∷ [])

unfoldable pub clean_paid : ℕ → List ℕ → List ℕ → List ℕ → List ℕ → ℕ → ℕ
clean_paid w hs ms cs ts x = cond (is_cleaned w ms cs ts x) (1 + links_in hs x) 0

-- a taken card: it is taken and let go
unfoldable pub card_paid : List ℕ → ℕ → ℕ
card_paid cs c = cond (taken cs c) 2 0

-- the sums of these over the store: by mark, by clean, by card
unfoldable pub marks_paid : Image → ℕ
marks_paid m = sum_below (mark_paid m.width m.heap m.marks) (64 * m.k)

unfoldable pub cleans_paid : Image → ℕ
cleans_paid m = sum_below (clean_paid m.width m.heap m.marks m.cards m.tracers) (64 * m.k)

unfoldable pub cards_paid : Image → ℕ
cards_paid m = sum_below (card_paid m.cards) m.k

unfoldable pub work_done : Image → ℕ
unfolding marks_paid cleans_paid cards_paid
work_done m = marks_paid m + cleans_paid m + cards_paid m

-- ---- what of it is still owed

-- packet p is some tracer's input
unfoldable pub is_input : List ℕ → ℕ → Bool
is_input ts p = any 8 (λ t. eqb (nth ts (8 * t + 0)) (suc p))

-- what each entry of packet p owes for the change of input that makes p one: an input goes back only when it is empty
unfoldable pub change_owed : List ℕ → ℕ → ℕ
change_owed ts p = cond (is_input ts p) 0 1

-- entry e of packet p: its pop, its links, and f for the change of input
unfoldable pub entry_owed : List ℕ → List ℕ → ℕ → ℕ → ℕ → ℕ
entry_owed hs ps f p e = 1 + links_in hs (entry_in ps p e) + f

unfoldable pub packet_owed : List ℕ → List ℕ → List ℕ → ℕ → ℕ
packet_owed hs ps ts p = sum_below (entry_owed hs ps (change_owed ts p) p) (count_in ps p)

-- an object in hand: its links to come (0 for an empty hand, since granule 0 has no links)
unfoldable pub hand_owed : List ℕ → List ℕ → ℕ → ℕ
hand_owed hs ts t = links_in hs (nth ts (8 * t + 2)) - nth ts (8 * t + 3)

-- a card in hand: it is to be let go
unfoldable pub card_owed : List ℕ → ℕ → ℕ
card_owed ts t = cond (eqb (nth ts (8 * t + 4)) 0) 0 1

-- the sums of these: by packet, by hand, by card in hand
unfoldable pub packets_owed : List ℕ → List ℕ → List ℕ → ℕ
packets_owed hs ps ts = sum_below (packet_owed hs ps ts) 32

unfoldable pub hands_owed : List ℕ → List ℕ → ℕ
hands_owed hs ts = sum_below (hand_owed hs ts) 8

unfoldable pub cards_owed : List ℕ → ℕ
cards_owed ts = sum_below (card_owed ts) 8

unfoldable pub work_owed : Image → ℕ
unfolding packets_owed hands_owed cards_owed
work_owed m = packets_owed m.heap m.packets m.tracers + hands_owed m.heap m.tracers + cards_owed m.tracers

-- ---- what a step does to them

-- what is left at most: each accepted trace and clean step lowers it, and no step raises it, while no finish is accepted
unfoldable pub work_left : Image → ℕ
work_left m = at_most_sharper m + work_owed m - work_done m

-- a step pays d: done less owed rises by d or more from m to n (said without subtraction)
pub record Pays (d : ℕ) (m n : Image) : Type 0 where
  pub pays : work_done m + work_owed n + d ≤ work_done n + work_owed m

-- what an accepted step of a kind pays
unfoldable pub pay : Kind → ℕ
unfolding for_kind
pay n = for_kind 0 n ((trace, 1) ∷ (clean, 1) ∷ [])

-- ---- what holds from an accepted begin on, while no finish is accepted

-- no card is in hand twice
pub record CardsOnce (ts : List ℕ) : Type 0 where
  pub once : (t u c : ℕ) → t < 8 → u < 8 → nth ts (8 * t + 4) ≡ suc c → nth ts (8 * u + 4) ≡ suc c → t ≡ u

pub record Cycling (m : Image) : Type 0 where
  pub runs : nth m.general 0 ≡ 1
  pub cards_once : CardsOnce m.tracers
