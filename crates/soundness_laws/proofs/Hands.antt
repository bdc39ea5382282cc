-- The ways out of the tests of tracers: packets held, objects in hand, cards in hand.
use Prim.Native.Nat.{ℕ, ◌*◌, ◌-◌, ◌≤◌, ◌<◌}
use Rattle.model.specs.Base.{all, every, either}
use Rattle.model.specs.Image.{image, image_of, granules, marked, links, state}
use Rattle.model.specs.Undamaged.{hand_ok, hand_card_ok, held_at, held_once}
use borrow.Author.Tests.{eq-eqb, ne_eqb, lt-ltb, le-ltb, le-leb, lt-leb}
use lib.Dec.{eqb, leb, ltb}
use mathlib.Core.Bool.{Bool, true, false, ◌&&◌, and-true, and_assoc}
use mathlib.Core.List.{List}
use mathlib.Core.Path.{◌≡◌, ◌∙◌}
use Rattle.soundness_laws.specs.Tests.{apart}

module _ (w k : ℕ) (l : List ℕ) where
  -- ---- places that hold packets

  module _ (x v : ℕ) (ev : v ≡ held_at (image_of w k l) x) where
    pub held_nothing : v ≡ 0 → true ≡ held_once (image_of w k l) x
    unfolding held_once either
    held_nothing h = rw (← ev, eq-eqb v 0 h)

    pub held_other : (r : Bool) → (v ≡ 0 → ⊥) → r ≡ all x (apart (image_of w k l) x) → r ≡ held_once (image_of w k l) x
    unfolding held_once either apart
    held_other r h q = rw (ne_eqb (held_at (image_of w k l) x) 0 (λ w. h (ev ∙ w))) q

  -- ---- hands

  module _ (g i : ℕ) where
    pub hand_nil : g ≡ 0 → eqb i 0 ≡ hand_ok (image_of w k l) g i
    unfolding hand_ok either
    hand_nil h = rw (eq-eqb g 0 h)

    pub hand_out : (g ≡ 0 → ⊥) → 64 * k ≤ g → false ≡ hand_ok (image_of w k l) g i
    unfolding hand_ok either every granules image_of image
    hand_out h q = rw (ne_eqb g 0 h, le-ltb g (64 * k) q)

    pub hand_marked : (t : Bool) (n : ℕ) → (g ≡ 0 → ⊥) → g < 64 * k → t ≡ marked (image_of w k l) g → n ≡ links (image_of w k l) g → (t && ltb i n) ≡ hand_ok (image_of w k l) g i
    unfolding hand_ok either every granules image_of image
    hand_marked t n h q e en = rw (ne_eqb g 0 h, lt-ltb g (64 * k) q, e, en) (simp and-true)

  module _ (c g : ℕ) where
    pub card_nil : c ≡ 0 → eqb g 0 ≡ hand_card_ok (image_of w k l) c g
    unfolding hand_card_ok either
    card_nil h = rw (eq-eqb c 0 h)

    pub card_no : (c ≡ 0 → ⊥) → k < c → false ≡ hand_card_ok (image_of w k l) c g
    unfolding hand_card_ok either every image_of image
    card_no h q = rw (ne_eqb c 0 h, lt-leb c k q)

    pub card_yes : (s : ℕ) → (c ≡ 0 → ⊥) → c ≤ k → s ≡ state (image_of w k l) (c - 1) → ((leb 2 s && leb (64 * (c - 1)) g) && leb g (64 * c)) ≡ hand_card_ok (image_of w k l) c g
    unfolding hand_card_ok either every image_of image
    card_yes s h q e = rw (ne_eqb c 0 h, le-leb c k q, e) (simp (and_assoc, and-true))
