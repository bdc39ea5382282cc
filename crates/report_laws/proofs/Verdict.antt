-- Numbers 13 and 14 as the definitions have them, the scratch, and the ways out of a verdict.
use mathlib.Core.Path.{◌≡◌, refl, sym, ap, ◌∙◌}
use mathlib.Core.Logic.{⊎_elim}
use mathlib.Core.Bool.{Bool, true, false, not, ◌&&◌, ◌||◌}
use mathlib.Core.List.{List, [], ◌∷◌}
use Prim.Native.Nat.{ℕ, ◌+◌, ◌*◌, ◌-◌, ◌/◌, ◌≤◌, ◌<◌}
use native.Mathlib.Omega.{arith}
use lib.ListN.{length, get_or, replicate}
use borrow.Author.Tests.{not-false, le-leb, lt-ltb, leb-true, ltb-true}
use Rattle.model.specs.Base.{zeros, any, all, every, first, bit}
use Rattle.model.specs.Image.{granules, is_start, image, image_of}
use Rattle.model.specs.Report.{chain_set, stretch_count, stretch_start, stretch_length, stretch_end, in_stretch, covered, good_stretch, bad_stretch, held_freed, lost_missed, verdict, scratch_words}
use Rattle.model.proofs.Laws.{same_test, any_use, any_make, every_use, every_cons, every_nil}
use Rattle.model.proofs.Chains.{set_chain, chain-set}
use Rattle.theory.specs.Lines.{Sound}
use Rattle.theory.proofs.heap.Facts.{heap_filled_of}
use Rattle.theory.proofs.lines.Passing.{sited_of}
use Rattle.image_laws.specs.Sized.{Sized}
use Rattle.image_laws.proofs.Lengths.{sized_width}
use Rattle.image_laws.proofs.Parts.{any_cong}
use Rattle.image_laws.proofs.Places.{by_width}
use Rattle.image_laws.proofs.Sections.{image_fits}
use Rattle.search_laws.specs.Search.{ChainBits}
use Rattle.report_laws.specs.Stretch.{Within, Lying}
use Rattle.report_laws.specs.Plane.{some_in, Adds, bare_start}
use Rattle.report_laws.proofs.Stretch.{good_lying}

module _ (w k : ℕ) (ws : List ℕ) (z : Sized w k ws) (o : Sound (image_of w k ws)) where
  -- the plane of a search is the computed set
  bit_chain : (s : List ℕ) → ChainBits w k (image_of w k ws) s → (g : ℕ) → 1 ≤ g → g < 64 * k → bit w s g ≡ get_or (chain_set (image_of w k ws)) g false
  bit_chain s c g p h =
      let t = sited_of (image_of w k ws) (image_fits z) o in
      same_test _ _
      (λ e. ⊎_elim (λ q. absurd (omega arith)) (λ q. chain-set (image_of w k ws) t g q) (c.only g h e))
      (λ e. c.has g (set_chain (image_of w k ws) t g e))

  module _ (bs : List ℕ) (c : ℕ) (y : Lying bs c k) (s₀ : List ℕ) (b : ChainBits w k (image_of w k ws) s₀) where
    pub plane_within : Within bs c (w * length s₀)
    plane_within =
        let two : 64 * k ≤ w * (2 * (64 * k / w)) = by_width (λ w. 64 * k ≤ w * (2 * (64 * k / w))) (omega arith) (omega arith) (sized_width z) in
        record { bytes = y.within.bytes; ends = λ i h. rw b.long (omega (arith, y.within.ends i h)) }

    -- ---- 13

    held_there : any c (some_in (bit w s₀) bs) ≡ true → held_freed (image_of w k ws) bs ≡ true
    unfolding held_freed some_in covered in_stretch stretch_end granules image_of image
    held_there e =
        let u = any_use c (some_in (bit w s₀) bs) e in
        let v = any_use (stretch_length bs u.0) (λ j. bit w s₀ (stretch_start bs u.0 + j)) u.2 in
        let a : ℕ = stretch_start bs u.0 in
        let h : a + v.0 < 64 * k = omega (arith, v.1, y.within.ends u.0 u.1) in
        any_make (64 * k) _ (a + v.0) h
        (every_cons _ _ (sym (bit_chain s₀ b (a + v.0) (omega (arith, y.above u.0 u.1)) h) ∙ v.2)
        (every_cons _ _
        (any_make (stretch_count bs) _ u.0 (omega (arith, u.1, y.number))
        (every_cons _ _ (le-leb a (a + v.0) (omega arith)) (every_cons _ _ (lt-ltb (a + v.0) (a + stretch_length bs u.0) (omega (arith, v.1))) every_nil)))
        every_nil))

    held_back : held_freed (image_of w k ws) bs ≡ true → any c (some_in (bit w s₀) bs) ≡ true
    unfolding held_freed some_in covered in_stretch stretch_end granules image_of image
    held_back e =
        let u = any_use (64 * k) (λ g. every (get_or (chain_set (image_of w k ws)) g false ∷ covered bs g ∷ [])) e in
        let p = every_use _ u.2 in
        let v = any_use (stretch_count bs) (in_stretch bs u.0) (p 1) in
        let q = every_use _ v.2 in
        let l = leb-true (stretch_start bs v.0) u.0 (q 0) in
        let h = ltb-true u.0 (stretch_start bs v.0 + stretch_length bs v.0) (q 1) in
        let at : stretch_start bs v.0 + (u.0 - stretch_start bs v.0) ≡ u.0 = omega (arith, l) in
        let i : v.0 < c = omega (arith, v.1, y.number) in
        any_make c _ v.0 i
        (any_make (stretch_length bs v.0) _ (u.0 - stretch_start bs v.0) (omega (arith, l, h)) (rw at (bit_chain s₀ b u.0 (omega (arith, l, y.above v.0 i)) u.1 ∙ p 0)))

    pub held_is : (r : Bool) → r ≡ any c (some_in (bit w s₀) bs) → r ≡ held_freed (image_of w k ws) bs
    held_is r e = e ∙ same_test _ _ held_there held_back

    -- ---- 14

    not_or : (a b : Bool) → (not (a || b) && true) ≡ (not a && (not b && true))
    not_or true b = refl
    not_or false b = refl

    module _ (s : List ℕ) (d : Adds w s₀ (λ g. any c (in_stretch bs g)) s) where
      lost_at : (g : ℕ) → g < 64 * k → (t : Bool) → is_start (image_of w k ws) g ≡ t
          → (t && (not (bit w s g) && true)) ≡ (t && (not (get_or (chain_set (image_of w k ws)) g false) && (not (covered bs g) && true)))
      unfolding covered
      lost_at g h false e = refl
      lost_at g h true e = rw (d.bits g, bit_chain s₀ b g ((heap_filled_of o.lines).start_range g e).0 h, y.number) (not_or (get_or (chain_set (image_of w k ws)) g false) (any (stretch_count bs) (in_stretch bs g)))

      pub lost_is : (r : Bool) → r ≡ any (64 * k) (bare_start w (image_of w k ws) s) → r ≡ lost_missed (image_of w k ws) bs
      unfolding lost_missed bare_start every granules image_of image
      lost_is r e = e ∙ any_cong (64 * k) _ _ (λ g h. lost_at g h (is_start (image_of w k ws) g) refl)

-- ---- the scratch

-- it has the words of both planes: reports are of the store of 16-bit words alone
pub planes_long : (k n : ℕ) → n ≡ scratch_words k → n ≡ 2 * (64 * k / 16)
unfolding scratch_words
planes_long k n e = omega arith

pub scratch_zero : (s sc : List ℕ) (n : ℕ) → n ≡ length sc → s ≡ replicate n 0 → s ≡ zeros sc
unfolding zeros
scratch_zero s sc n l e = e ∙ ap (λ (j : ℕ). replicate j 0) l

-- ---- the ways out of a verdict

pub bytes_in : (bs : List ℕ) → 4 * (length bs / 4) ≤ length bs
bytes_in bs = omega arith

pub number_is : (bs : List ℕ) → length bs / 4 ≡ stretch_count bs
unfolding stretch_count
number_is bs = refl

module _ (w k : ℕ) (fs ss bs : List ℕ) (c : ℕ) (ec : c ≡ stretch_count bs) (g : Bool) (eg : g ≡ all c (good_stretch (image_of w k ss) bs)) where
  pub lying_of : not g ≡ false → Lying bs c k
  lying_of q = good_lying w k ss bs c ec (sym eg ∙ not-false g q)

  verdict_by : (h l : Bool) → h ≡ held_freed (image_of w k ss) bs → l ≡ lost_missed (image_of w k fs) bs → first 12 (not g ∷ h ∷ l ∷ []) ≡ verdict (image_of w k fs) (image_of w k ss) bs
  unfolding verdict bad_stretch
  verdict_by h l eh el = rw (← ec, ← eg, ← eh, ← el)

  pub verdict_bad : not g ≡ true → 12 ≡ verdict (image_of w k fs) (image_of w k ss) bs
  unfolding first
  verdict_bad q = rw q at (verdict_by _ _ refl refl)

  module _ (q : not g ≡ false) (h : Bool) (eh : h ≡ held_freed (image_of w k ss) bs) where
    pub verdict_held : h ≡ true → 13 ≡ verdict (image_of w k fs) (image_of w k ss) bs
    unfolding first
    verdict_held u = rw (q, u) at (verdict_by h _ eh refl)

    module _ (u : h ≡ false) (l : Bool) (el : l ≡ lost_missed (image_of w k fs) bs) where
      pub verdict_lost : l ≡ true → 14 ≡ verdict (image_of w k fs) (image_of w k ss) bs
      unfolding first
      verdict_lost v = rw (q, u, v) at (verdict_by h l eh el)

      pub verdict_fine : l ≡ false → 0 ≡ verdict (image_of w k fs) (image_of w k ss) bs
      unfolding first
      verdict_fine v = rw (q, u, v) at (verdict_by h l eh el)
