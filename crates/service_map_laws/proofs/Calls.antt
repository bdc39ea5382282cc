-- The ways out of a call: refused by a misfit, refused as damaged, or drawn.
use mathlib.Core.Path.{◌≡◌}
use mathlib.Core.Bool.{Bool, true, false, not}
use mathlib.Core.List.{List}
use Prim.Native.Nat.{ℕ, ◌*◌}
use lib.ListN.{length}
use borrow.Author.Tests.{eq-eqb, ne_eqb}
use Rattle.model.specs.Base.{some, first}
use Rattle.model.specs.Image.{cards_of, image_of}
use Rattle.model.specs.Undamaged.{undamaged}
use Rattle.model.specs.Map.{map_lines, map_misfit, map_number, map_with, map_at}
use Rattle.image_laws.specs.Size.{extent_of}
use Rattle.std.proofs.Common.{Option, Some, None}
use Rattle.image_laws.proofs.Size.{sized_cards, misfit_fits, cards_fits, cards_sized, cards_parts}
use Rattle.service_map_laws.specs.Mapped.{mapped_of}

module _ (w : ℕ) (ws output : List ℕ) (s : Option ℕ) (e : s ≡ extent_of w (length ws)) where
  pub map-misfit : s ≡ None → mapped_of 1 output ≡ map_at w ws output
  unfolding map_at map_number map_misfit some first map_with
  map-misfit q = rw (misfit_fits w ws s e q)

  module _ (k : ℕ) (q : s ≡ Some k) where
    cards_k : cards_of w (length ws) ≡ k
    cards_k = sized_cards w k ws (cards_sized w ws s e k q)

    pub map_output : (length output ≡ 73 * k → ⊥) → mapped_of 1 output ≡ map_at w ws output
    unfolding map_at map_number map_misfit some first map_with
    map_output h = rw (cards_fits w ws s e k q, cards_k, ne_eqb)

    module _ (l : length output ≡ 73 * k) (u : Bool) (eu : u ≡ undamaged (image_of w k ws)) where
      pub map_damaged : not u ≡ true → mapped_of 2 output ≡ map_at w ws output
      unfolding map_at map_number map_misfit some first map_with
      map_damaged d = rw (cards_fits w ws s e k q, cards_k, eq-eqb, cards_parts w ws s e k q, ← eu, d)

      pub map_drawn : not u ≡ false → (out : List ℕ) → out ≡ map_lines (image_of w k ws) → mapped_of 0 out ≡ map_at w ws output
      unfolding map_at map_number map_misfit some first map_with
      map_drawn d out h = rw (cards_fits w ws s e k q, cards_k, eq-eqb, cards_parts w ws s e k q, ← eu, d, cards_parts w ws s e k q, h)
