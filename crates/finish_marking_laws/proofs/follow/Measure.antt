-- What is left to be marked, listed and settled (`work_left`) falls.
use mathlib.Core.Path.{◌≡◌}
use Prim.Native.Nat.{ℕ, ◌+◌, ◌<◌, min}
use native.Mathlib.Omega.{arith}
use lib.ListN.{length}
use Rattle.model.specs.Base.{sum_below}
use Rattle.model.specs.Image.{Image, with_cards, set_state}
use Rattle.model.proofs.Counts.{sum_change}
use Rattle.model.proofs.Laws.{nth_put_same, nth_put_other}
use Rattle.finish_marking_laws.specs.Follow.{card_word, Pending}
use Rattle.finish_marking_laws.specs.Marking.{weight, on_list}
use Rattle.finish_marking_laws.proofs.follow.Bits.{Pended, Settled}
use Rattle.image_laws.specs.Digits.{mark_bit}

pub weights_pend : (n : ℕ) {m m' : Image} {a : ℕ} → a < n → Pended m m' a → mark_bit m a ≡ 0 → sum_below (weight m') n + 2 ≡ sum_below (weight m) n
unfolding weight
weights_pend n {m} {m'} {a} h p u = omega (arith, sum_change (weight m) (weight m') n a h (λ j _ e. rw (p.marks j e, p.starts j e)), p.mark, p.start)

pub weights_settle : (n : ℕ) {m m' : Image} {a : ℕ} → a < n → Settled m m' a → Pending m a → sum_below (weight m') n + 1 ≡ sum_below (weight m) n
unfolding weight
weights_settle n {m} {m'} {a} h p q = omega (arith, sum_change (weight m) (weight m') n a h (λ j _ e. rw (p.marks j, p.starts j e)), q, p.marks a, p.start)

-- a card's word
pub cards_change : (k : ℕ) (m : Image) (c v : ℕ) → c < k → length m.cards ≡ k → sum_below (on_list (set_state m c v)) k + min 1 (card_word m c) ≡ sum_below (on_list m) k + min 1 v
unfolding on_list set_state with_cards
cards_change k m c v h l = rw (nth_put_same m.cards c v (omega arith)) at (sum_change (on_list m) (on_list (set_state m c v)) k c h (λ j _ e. rw nth_put_other))
