-- The fields of a stretch, the walk over its objects, and the stretches of a report one after the other.
use mathlib.Core.Path.{◌≡◌, refl, sym, ap, ◌∙◌}
use mathlib.Core.Bool.{Bool, true, false, not, and-true}
use mathlib.Core.List.{List, [], ◌∷◌}
use Prim.Native.Nat.{ℕ, zero, suc, ◌+◌, ◌*◌, ◌≤◌, ◌<◌}
use native.Mathlib.Numerals.{add-one}
use native.Mathlib.Omega.{arith}
use lib.Dec.{leb, eqb}
use lib.ListN.{take, drop}
use borrow.Author.Tests.{le-leb, lt-leb, leb-true, not-true, not-false}
use Rattle.model.specs.Base.{all, every}
use Rattle.model.specs.Image.{Image, granules, is_start, size, word, image, image_of}
use Rattle.model.specs.Records.{little}
use Rattle.model.specs.Report.{stretch_count, stretch_start, stretch_length, stretch_end, lowest_start, whole_objects, good_stretch}
use Rattle.model.proofs.Laws.{every_use, all_use}
use Rattle.theory.specs.Heap.{ObjectAt}
use Rattle.theory.specs.Lines.{Sound}
use Rattle.theory.proofs.heap.Facts.{heap_filled_of}
use Rattle.theory.proofs.heap.Walk.{object-at}
use Rattle.theory.proofs.reports.Whole.{whole_step}
use Rattle.report_laws.specs.Stretch.{Lying}

-- ---- the fields of stretch i

module _ (bs : List ℕ) (i r : ℕ) where
  pub start_is : (r ≡ little (take 2 (drop (4 * i) bs))) × (r < 65536) → (r ≡ stretch_start bs i) × (r < 65536)
  unfolding stretch_start
  start_is e = e

  pub length_is : (r ≡ little (take 2 (drop (4 * i + 2) bs))) × (r < 65536) → (r ≡ stretch_length bs i) × (r < 65536)
  unfolding stretch_length
  length_is e = e

pub end_is : (bs : List ℕ) (i a n : ℕ) → (a ≡ stretch_start bs i) × (a < 65536) → (n ≡ stretch_length bs i) × (n < 65536) → a + n ≡ stretch_end bs i
unfolding stretch_end
end_is bs i a n p q = rw (p.0, q.0)

-- ---- the objects of a stretch; `fuel` is what is left of the definition's bound

pub record Walking (m : Image) (a n e g : ℕ) : Type 0 where
  pub fuel : ℕ
  pub enough : e ≤ g + fuel
  pub same : whole_objects m n a (a + n) ≡ whole_objects m fuel g e

pub walking_none : (m : Image) (a n : ℕ) → Walking m a n (a + n) a
walking_none m a n = record { fuel = n; enough = omega arith; same = refl }

whole_out : (m : Image) (f g e : ℕ) → g < e → is_start m g ≡ false → e ≤ g + f → whole_objects m f g e ≡ false
whole_out m zero g e l s n = absurd (omega arith)
whole_out m (suc f) g e l s n = whole_step m f g e false false (lt-leb e g l) s

whole_end : (m : Image) (f g e : ℕ) → e ≤ g → whole_objects m f g e ≡ eqb g e
unfolding whole_objects
whole_end m zero g e l = refl
whole_end m (suc f) g e l = whole_step m f g e true (is_start m g) (le-leb e g l) refl

module _ (w k : ℕ) (ws : List ℕ) (o : Sound (image_of w k ws)) (a n e g : ℕ) (t : Walking (image_of w k ws) a n e g) (b : Bool) (eb : b ≡ is_start (image_of w k ws) g) where
  pub walking_out : g < e → not b ≡ true → false ≡ whole_objects (image_of w k ws) n a (a + n)
  walking_out l q = sym (t.same ∙ whole_out (image_of w k ws) t.fuel g e l (sym eb ∙ not-true b q) t.enough)

  module _ (q : not b ≡ false) (s : ℕ) (es : s ≡ word (image_of w k ws) g 0) where
    is-start : is_start (image_of w k ws) g ≡ true
    is-start = sym eb ∙ not-false b q

    object : ObjectAt (image_of w k ws) g
    object = object-at (image_of w k ws) (heap_filled_of o.lines) g is-start

    pub walking_some : 1 ≤ s
    unfolding size
    walking_some = rw es object.sized

    pub walking_more : g < e → Walking (image_of w k ws) a n e (g + s)
    unfolding size
    walking_more l = go t.fuel t.enough t.same
      where
        go : (f : ℕ) → e ≤ g + f → whole_objects (image_of w k ws) n a (a + n) ≡ whole_objects (image_of w k ws) f g e → Walking (image_of w k ws) a n e (g + s)
        go zero h x = absurd (omega arith)
        go (suc f) h x =
            record {
              fuel = f;
              enough = omega (arith, walking_some);
              same = x ∙ (whole_step (image_of w k ws) f g e false true (lt-leb e g l) is-start ∙ ap (λ (y : ℕ). whole_objects (image_of w k ws) f (g + y) e) (sym es));
            }

pub walking_end : (m : Image) (a n e g : ℕ) → Walking m a n e g → e ≤ g → eqb g e ≡ whole_objects m n a (a + n)
walking_end m a n e g t l = sym (t.same ∙ whole_end m t.fuel g e l)

-- ---- one stretch

module _ (w k : ℕ) (ws bs : List ℕ) (i low a n : ℕ) (el : low ≡ lowest_start bs i) (ea : (a ≡ stretch_start bs i) × (a < 65536)) (en : (n ≡ stretch_length bs i) × (n < 65536)) where
  good_by : good_stretch (image_of w k ws) bs i ≡ every (leb 1 n ∷ leb low a ∷ leb (a + n) (64 * k) ∷ whole_objects (image_of w k ws) n a (a + n) ∷ [])
  unfolding good_stretch stretch_end granules image_of image
  good_by = rw (el, ea.0, en.0)

  pub good_none : n ≡ 0 → false ≡ good_stretch (image_of w k ws) bs i
  unfolding every
  good_none e = sym (good_by ∙ rw (lt-leb 1 n (omega arith)))

  module _ (ne : n ≡ 0 → ⊥) where
    pub good_low : a < low → false ≡ good_stretch (image_of w k ws) bs i
    unfolding every
    good_low l = sym (good_by ∙ rw (le-leb 1 n (omega arith), lt-leb low a l))

    module _ (h : low ≤ a) where
      pub good_past : 64 * k < a + n → false ≡ good_stretch (image_of w k ws) bs i
      unfolding every
      good_past l = sym (good_by ∙ rw (le-leb 1 n (omega arith), le-leb low a h, lt-leb (a + n) (64 * k) l))

      pub good_whole : a + n ≤ 64 * k → (r : Bool) → r ≡ whole_objects (image_of w k ws) n a (a + n) → r ≡ good_stretch (image_of w k ws) bs i
      unfolding every
      good_whole l r e = sym (good_by ∙ rw (le-leb 1 n (omega arith), le-leb low a h, le-leb (a + n) (64 * k) l, ← e) (and-true r))

-- ---- all of them

pub low_first : (bs : List ℕ) → 1 ≡ lowest_start bs 0
unfolding lowest_start
low_first bs = refl

pub low_next : (bs : List ℕ) (i r : ℕ) → r ≡ stretch_end bs i → r ≡ lowest_start bs (i + 1)
unfolding lowest_start
low_next bs i r e = rw add-one e

-- good stretches lie in the store
module _ (w k : ℕ) (ws bs : List ℕ) (c : ℕ) (ec : c ≡ stretch_count bs) (g : all c (good_stretch (image_of w k ws) bs) ≡ true) where
  line : (i : ℕ) → i < c → (lowest_start bs i ≤ stretch_start bs i) × (stretch_end bs i ≤ 64 * k)
  unfolding good_stretch granules image_of image
  line i h = let u = every_use _ (all_use c _ g i h) in (leb-true _ _ (u 1), leb-true _ _ (u 2))

  above : (i : ℕ) → i < c → 1 ≤ stretch_start bs i
  unfolding lowest_start stretch_end
  above zero h = (line zero h).0
  above (suc i) h = omega (arith, (line (suc i) h).0, above i (omega arith))

  pub good_lying : Lying bs c k
  unfolding stretch_count
  good_lying = record { number = ec; within = record { bytes = omega arith; ends = λ i h. (line i h).1 }; above = above }
