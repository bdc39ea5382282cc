-- The lowest card in state 1, as a walk from card 0 on finds it.
use mathlib.Core.Path.{◌≡◌, refl, sym, ◌∙◌}
use mathlib.Core.Bool.{Bool, and-false}
use mathlib.Core.List.{List}
use Prim.Native.Nat.{ℕ, zero, suc, ◌+◌, ◌-◌, ◌<◌, ◌≤◌}
use native.Mathlib.Nat.{zero-add, suc-add}
use native.Mathlib.Numerals.{add-one}
use native.Mathlib.Omega.{arith}
use lib.Dec.{eqb}
use borrow.Author.Tests.{eq-eqb, ne_eqb}
use Rattle.model.specs.Base.{best, lowest_of}
use Rattle.model.specs.Image.{Image, image_of, image, state}
use Rattle.model.specs.Collect.{lowest_dirty}

-- ---- the lowest number that passes

lowest_on : (ok : ℕ → Bool) (d n p : ℕ) → lowest_of ok n ≡ suc p → lowest_of ok (d + n) ≡ suc p
unfolding lowest_of best
lowest_on ok zero n p e = rw (zero-add n) e
lowest_on ok (suc d) n p e = rw (suc-add d n, lowest_on ok d n p e, and-false (ok (d + n)), best)

-- ---- the walk over the cards

-- none of the first c cards is in state 1
pub record NoDirty (m : Image) (c : ℕ) : Type 0 where
  pub none : lowest_of (λ d. eqb (state m d) 1) c ≡ 0

pub dirty_first : (m : Image) → NoDirty m 0
unfolding lowest_of best
dirty_first m = record { none = refl }

module _ (w k : ℕ) (ws : List ℕ) (c : ℕ) (o : NoDirty (image_of w k ws) c) where
  pub dirty_end : k ≤ c → c ≤ k → 0 ≡ lowest_dirty (image_of w k ws)
  unfolding lowest_dirty image_of image
  dirty_end h l = let e : k ≡ c = omega arith in sym (rw e (rw e at o.none))

  module _ (x : ℕ) (e : x ≡ state (image_of w k ws) c) where
    pub dirty_more : (x ≡ 1 → ⊥) → NoDirty (image_of w k ws) (c + 1)
    unfolding lowest_of best
    dirty_more ne = record { none = rw (add-one c, o.none, ne_eqb (state (image_of w k ws) c) 1 (λ q. ne (e ∙ q)), best) }

    pub dirty_found : x ≡ 1 → c < k → c + 1 ≡ lowest_dirty (image_of w k ws)
    unfolding lowest_dirty lowest_of best image_of image
    dirty_found q h =
        let d : k - suc c + suc c ≡ k = omega arith in
        let r = lowest_on (λ d. eqb (state (image_of w k ws) d) 1) (k - suc c) (suc c) c (rw (o.none, eq-eqb (state (image_of w k ws) c) 1 (sym e ∙ q), best)) in
        add-one c ∙ sym (rw d at r)
