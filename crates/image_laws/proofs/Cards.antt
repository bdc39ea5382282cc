-- Card states: dirty, turned dirty, turned clean; an object marked and counted.
use mathlib.Core.Path.{◌≡◌, refl, ◌∙◌}
use mathlib.Core.Bool.{◌||◌, or-false}
use Prim.Native.Nat.{ℕ, zero, suc, ◌+◌, ◌/◌}
use lib.Dec.{eqb}
use Rattle.model.specs.Base.{some, put}
use Rattle.model.specs.Image.{Image, state, is_dirty, dirty, dirty_state, dirty_card, set_state, card_count, with_marks, with_counts, clean_state, set_mark, mark_object, undirty_card}
use native.Mathlib.Numerals.{add-one}

-- what becomes of state x: of one that is told, and of those from 2 on
module _ (f : ℕ → ℕ) (v : ℕ) where
  pub state_is : (s : ℕ) → v ≡ f s → (x : ℕ) → x ≡ s → v ≡ f x
  state_is s e x h = rw h e

  pub state_taken : ((y : ℕ) → v ≡ f (suc (suc y))) → (x : ℕ) → (x ≡ 0 → ⊥) → (x ≡ 1 → ⊥) → v ≡ f x
  state_taken h zero n o = absurd (n refl)
  state_taken h (suc zero) n o = absurd (o refl)
  state_taken h (suc (suc x)) n o = h x

pub is-dirty : (m : Image) (c x : ℕ) → x ≡ state m c → (eqb x 1 || eqb x 3) ≡ dirty m c
unfolding dirty is_dirty some
is-dirty m c x e = rw (e, or-false (eqb (state m c) 3))

pub card_dirtied : (m n : Image) (c x y : ℕ) → x ≡ state m c → y ≡ dirty_state x → n ≡ set_state m c y → n ≡ dirty_card m c
unfolding dirty_card
card_dirtied m n c x y e f h = h ∙ rw (f, e)

pub card_cleaned : (m n : Image) (c x y : ℕ) → x ≡ state m c → y ≡ clean_state x → n ≡ set_state m c y → n ≡ undirty_card m c
unfolding undirty_card
card_cleaned m n c x y e f h = h ∙ rw (f, e)

pub object_marked : (m n o : Image) (g x : ℕ) → x ≡ card_count m (g / 64) → n ≡ set_mark m g → o ≡ with_counts n (put n.counts (g / 64) (x + 1)) → o ≡ mark_object m g
unfolding mark_object set_mark with_marks
object_marked m n o g x e f h = h ∙ rw (f, e, add-one (card_count m (g / 64)))
