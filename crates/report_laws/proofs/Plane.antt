-- Bits of a plane over stretches, and starts without a bit.
use mathlib.Core.Path.{◌≡◌, refl, sym, ap, ◌∙◌}
use mathlib.Core.Bool.{Bool, true, false, not, ◌||◌, or-true, or-false, or_assoc}
use mathlib.Core.List.{List}
use mathlib.Core.Logic.{◌⊎◌}
use Prim.Native.Nat.{ℕ, ◌+◌, ◌*◌, ◌-◌, ◌/◌, ◌%◌, ◌^◌, ◌≤◌, ◌<◌, zero-le, min}
use native.Mathlib.Numerals.{add-one}
use native.Mathlib.Nat.{mod-lt, div-add-mod}
use native.Mathlib.Omega.{arith}
use native.Mathlib.Decide.{ℕ_discrete, dec_lt}
use lib.Bits.{bit_and, and_le_l}
use lib.Count.{count_trailing_zeros}
use lib.Dec.{eqb}
use lib.ListN.{length}
use borrow.Author.Tests.{le-leb, lt-leb, lt-ltb, le-ltb, not-true, eqb-true, eqb-false}
use Rattle.model.specs.Base.{nth, any, every, test_bit, bit, set_bit}
use Rattle.model.specs.Image.{Image, is_start, image_of}
use Rattle.model.specs.Report.{stretch_start, stretch_length, stretch_end, in_stretch}
use Rattle.model.proofs.Bits.{length_set_bit, set_bit_same, set_bit_other}
use Rattle.model.proofs.Laws.{same_test, any_use, any_make, every_use, every_cons, every_nil, not_make}
use Rattle.image_laws.specs.Digits.{bit_of}
use Rattle.image_laws.specs.Sized.{Sized}
use Rattle.image_laws.proofs.Digits.{digit_le, digit_on, digit_off, on_digit, off_digit, bit_none, bit-and, bit_not}
use Rattle.image_laws.proofs.Lengths.{sized_width, width_image}
use Rattle.image_laws.proofs.Places.{by_width, place_in, words_full, word_in, some_bits}
use Rattle.image_laws.proofs.Bits.{bit_at}
use Rattle.image_laws.proofs.Trailing.{trailing_lowest}
use Rattle.report_laws.specs.Stretch.{Within}
use Rattle.report_laws.specs.Plane.{some_in, Adds, spans, bare_bit, bare_word, bare_start}

-- ---- stretches asked

pub some-in : (p : ℕ → Bool) (bs : List ℕ) (i a n : ℕ) (r : Bool) → (a ≡ stretch_start bs i) × (a < 65536) → (n ≡ stretch_length bs i) × (n < 65536) → r ≡ any n (λ j. p (a + j)) → r ≡ some_in p bs i
unfolding some_in
some-in p bs i a n r ea en e = e ∙ rw (ea.0, en.0)

pub stretch_ends : (bs : List ℕ) (c e i a n : ℕ) → Within bs c e → i < c → (a ≡ stretch_start bs i) × (a < 65536) → (n ≡ stretch_length bs i) × (n < 65536) → (a + n ≤ e) × (a + n < 131072)
unfolding stretch_end
stretch_ends bs c e i a n w l ea en = (omega (arith, w.ends i l, ea.0, en.0), omega arith)

-- ---- stretches covered

-- a granule below those that n bit words have
pub bit_in : {w g n : ℕ} → (w ≡ 16) ⊎ (w ≡ 32) → g < w * n → g / w < n
bit_in {w = w} {g = g} {n = n} = by_width (λ w. g < w * n → g / w < n) (λ h. omega arith) (λ h. omega arith)

spans_none : (a g : ℕ) → spans a (a + 0) g ≡ false
unfolding spans every
spans_none a g = elim (dec_lt g a) [ yes h ↦ rw (lt-leb a g h) | no h ↦ rw (le-leb a g (omega arith), le-ltb g (a + 0) (omega arith)) ]

spans_at : (a j : ℕ) → spans a (a + (j + 1)) (a + j) ≡ true
unfolding spans every
spans_at a j = rw (le-leb a (a + j) (omega arith), lt-ltb (a + j) (a + (j + 1)) (omega arith))

spans_other : (a j g : ℕ) → (g ≡ a + j → ⊥) → spans a (a + (j + 1)) g ≡ spans a (a + j) g
unfolding spans every
spans_other a j g n = elim (dec_lt g (a + j)) [
  | yes h ↦ rw (lt-ltb g (a + j) h, lt-ltb g (a + (j + 1)) (omega arith))
  | no h ↦ rw (le-ltb g (a + j) (omega arith), le-ltb g (a + (j + 1)) (omega arith))
]

pub record Covering (w : ℕ) (s : List ℕ) (a n : ℕ) (s' : List ℕ) (j : ℕ) : Type 0 where
  pub low : j ≤ n
  pub adds : Adds w s (spans a (a + j)) s'

module _ (w : ℕ) (s : List ℕ) (a n : ℕ) where
  pub covering_none : Covering w s a n s 0
  covering_none = record { low = zero-le; adds = record { same = refl; bits = λ g. sym (rw (spans_none a g) (or-false (bit w s g))) } }

  module _ (s' : List ℕ) (j : ℕ) (t : Covering w s a n s' j) where
    pub covering_more : j < n → (a + j) / w < length s' → (s'' : List ℕ) → s'' ≡ set_bit w s' (a + j) → Covering w s a n s'' (j + 1)
    covering_more l h s'' e =
        record { low = omega arith; adds = record { same = rw e (length_set_bit w s' (a + j)) ∙ t.adds.same; bits = λ g. rw e (go g) } }
      where
        go : (g : ℕ) → bit w (set_bit w s' (a + j)) g ≡ (bit w s g || spans a (a + (j + 1)) g)
        go g = elim (ℕ_discrete g (a + j)) [
          | yes q ↦ rw (q, spans_at a j) (set_bit_same w s' (a + j) h ∙ sym (or-true (bit w s (a + j))))
          | no q ↦ rw (spans_other a j g q) (set_bit_other w s' (a + j) g q ∙ t.adds.bits g)
        ]

    pub covering_end : n ≤ j → Adds w s (spans a (a + n)) s'
    covering_end l = let e : j ≡ n = omega (arith, t.low) in rw e at t.adds

pub record CoveringAll (w : ℕ) (s bs : List ℕ) (c : ℕ) (s' : List ℕ) (i : ℕ) : Type 0 where
  pub low : i ≤ c
  pub adds : Adds w s (λ g. any i (in_stretch bs g)) s'

module _ (w : ℕ) (s bs : List ℕ) (c : ℕ) where
  pub stretches_none : CoveringAll w s bs c s 0
  unfolding any
  stretches_none = record { low = zero-le; adds = record { same = refl; bits = λ g. sym (or-false (bit w s g)) } }

  module _ (s' : List ℕ) (i : ℕ) (t : CoveringAll w s bs c s' i) where
    pub stretches_more : i < c → (a n : ℕ) → (a ≡ stretch_start bs i) × (a < 65536) → (n ≡ stretch_length bs i) × (n < 65536)
        → (s'' : List ℕ) → Adds w s' (spans a (a + n)) s'' → CoveringAll w s bs c s'' (i + 1)
    unfolding any in_stretch stretch_end spans
    stretches_more l a n ea en s'' d = rw add-one
        (record { low = omega arith; adds = record { same = d.same ∙ t.adds.same; bits = λ g. d.bits g ∙ rw (t.adds.bits g, ea.0, en.0) (or_assoc (bit w s g) (any i (in_stretch bs g)) _) } })

    pub stretches_end : c ≤ i → Adds w s (λ g. any c (in_stretch bs g)) s'
    stretches_end l = let e : i ≡ c = omega (arith, t.low) in rw e at t.adds

-- ---- starts without a bit

bare_use : (x v j : ℕ) → bare_bit x v j ≡ true → (bit_of x j ≡ 1) × (bit_of v j ≡ 0)
unfolding bare_bit
bare_use x v j e = let u = every_use _ e in (digit_on (u 0), digit_off (not-true _ (u 1)))

bare_make : (x v j : ℕ) → bit_of x j ≡ 1 → bit_of v j ≡ 0 → bare_bit x v j ≡ true
unfolding bare_bit
bare_make x v j p q = every_cons _ _ (on_digit _ p) (every_cons _ _ (ap not (off_digit _ q)) every_nil)

-- y is the complement of v at n bits
module _ (w n x v y : ℕ) (le : w ≤ n) (hx : x < 2 ^ w) (hy : v + y + 1 ≡ 2 ^ n) where
  both : ℕ
  both = bit_and x y

  both_bit : (j : ℕ) → j < n → bit_of both j ≡ min (bit_of x j) (1 - bit_of v j)
  unfolding both
  both_bit j l = bit-and x y j ∙ ap (min (bit_of x j)) (omega (arith, bit_not n v y j hy l))

  bare_there : not (eqb both 0) ≡ true → any w (bare_bit x v) ≡ true
  unfolding both
  bare_there e =
      let q = trailing_lowest w both (omega (arith, and_le_l x y)) (eqb-false both 0 (not-true (eqb both 0) e)) in
      let t : ℕ = count_trailing_zeros w both in
      let o : bit_of both t ≡ 1 = digit_on q.is_set in
      let b = both_bit t (omega (arith, q.within)) in
      any_make w _ t q.within (bare_make x v t (omega (arith, b, o, digit_le (test_bit x t))) (omega (arith, b, o, digit_le (test_bit v t))))

  bare_back : any w (bare_bit x v) ≡ true → not (eqb both 0) ≡ true
  bare_back e = not_make _ (λ z.
      let r = any_use w _ e in
      let u = bare_use x v r.0 r.2 in
      let q : bit_of both r.0 ≡ 0 = rw (eqb-true both 0 z) (bit_none r.0) in
      omega (arith, both_bit r.0 (omega (arith, r.1)), u.0, u.1, q))

  pub bare_is : not (eqb (bit_and x y) 0) ≡ any w (bare_bit x v)
  unfolding both
  bare_is = same_test _ _ bare_there bare_back

pub word_bare : (w : ℕ) (m : Image) (s : List ℕ) (i x : ℕ) (r : Bool) → r ≡ any w (bare_bit x (nth s i)) → x ≡ nth m.starts i → r ≡ bare_word w m s i
unfolding bare_word
word_bare w m s i x r e ex = e ∙ rw ex

bare_at : (w : ℕ) (m : Image) (s : List ℕ) → m.width ≡ w → (i j : ℕ) → j < w → bare_bit (nth m.starts i) (nth s i) j ≡ bare_start w m s (w * i + j)
unfolding bare_bit bare_start is_start
bare_at w m s e i j l = rw (e, bit_at w m.starts i j l, bit_at w s i j l)

module _ (w k : ℕ) (m : Image) (s : List ℕ) (e : m.width ≡ w) (c : (w ≡ 16) ⊎ (w ≡ 32)) where
  words_there : any (64 * k / w) (bare_word w m s) ≡ true → any (64 * k) (bare_start w m s) ≡ true
  unfolding bare_word
  words_there q =
      let u = any_use (64 * k / w) (bare_word w m s) q in
      let v = any_use w (bare_bit (nth m.starts u.0) (nth s u.0)) u.2 in
      any_make (64 * k) _ (w * u.0 + v.0) (omega (arith, place_in w u.0 v.0 v.1 (64 * k / w) u.1, words_full w k c)) (sym (bare_at w m s e u.0 v.0 v.1) ∙ v.2)

  words_back : any (64 * k) (bare_start w m s) ≡ true → any (64 * k / w) (bare_word w m s) ≡ true
  unfolding bare_word
  words_back q =
      let u = any_use (64 * k) (bare_start w m s) q in
      let l : u.0 % w < w = mod-lt u.0 (some_bits w k c) in
      any_make (64 * k / w) _ (u.0 / w) (word_in w k c u.0 u.1)
      (any_make w _ (u.0 % w) l (bare_at w m s e (u.0 / w) (u.0 % w) l ∙ (ap (bare_start w m s) (div-add-mod u.0 w) ∙ u.2)))

pub bare_end : (w k : ℕ) (ws s : List ℕ) (r : Bool) → Sized w k ws → r ≡ any (64 * k / w) (bare_word w (image_of w k ws) s) → r ≡ any (64 * k) (bare_start w (image_of w k ws) s)
bare_end w k ws s r z e =
    let h = width_image w k ws in
    let c = sized_width z in
    e ∙ same_test _ _ (words_there w k (image_of w k ws) s h c) (words_back w k (image_of w k ws) s h c)
