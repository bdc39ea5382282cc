-- Objects of one granule, side by side: the tests that find them, and the walk's turns that they stand for.
use mathlib.Core.Path.{◌≡◌, refl, sym, ◌∙◌}
use mathlib.Core.Bool.{Bool, true, false, ◌&&◌, and-true, and_assoc, or-true}
use mathlib.Core.List.{List, [], ◌∷◌}
use Prim.Native.Nat.{ℕ, zero, suc, ◌+◌, ◌*◌, ◌-◌, ◌/◌, ◌%◌, ◌≤◌, ◌<◌, min, ◌^◌}
use native.Mathlib.Nat.{add-zero, mul-le-mul_left, mod-lt, div-add-mod, mul-zero, mul_comm, mul-one, div-lt_iff_lt-mul}
use native.Mathlib.Decide.{ℕ_discrete, dec_lt}
use native.Mathlib.Omega.{arith}
use lib.Dec.{eqb, leb}
use lib.ListN.{length, take, drop, length-take, length-drop}
use borrow.Author.Tests.{leb-true, eqb-true, le-leb, eq-eqb, ne_eqb}
use Rattle.model.specs.Base.{nth, all, every, either, test_bit, with_bit}
use Rattle.model.specs.Image.{Image, image_of, word, is_start, links, link, first_run, image, granules}
use Rattle.model.proofs.Laws.{all_use, every_use, every_cons, every_nil, length_put, nth_put_same, nth_put_other}
use Rattle.image_laws.specs.Sized.{Sized}
use Rattle.image_laws.specs.Compare.{between, within}
use Rattle.image_laws.specs.Digits.{digit}
use Rattle.image_laws.proofs.Lengths.{heap_words, sized_width}
use Rattle.soundness_laws.specs.Tests.{link_ok, object_ok, onward}
use Rattle.soundness_laws.specs.Small.{small_at, SmallFrom, SmallUpto, least_at, most_at, Bounds, put_four, FullUpto, LinkBounds}
use Rattle.soundness_laws.proofs.Checks.{from_use, first_two, nth_part, test_inside}
use Rattle.soundness_laws.proofs.Marks.{next_word, ones_bit}
use Rattle.soundness_laws.proofs.Pieces.{head_make, object_is, piece_object, next_of_object}
use Rattle.soundness_laws.proofs.Heap.{HeapWalk, w_start, w_more, links_object}
use Rattle.model.specs.Undamaged.{nil_or_start}
use Rattle.model.proofs.Bits.{with_bit_other}
use Rattle.image_laws.proofs.Bits.{bit_at, start_past}
use Rattle.image_laws.proofs.Places.{some_bits, word_in, words_full}

-- ---- one object

pub small_is : (m : Image) (g s n : ℕ) (r : Bool) → s ≡ word m g 0 → n ≡ links m g → r ≡ all (min 2 n) (link_ok m g) → ((eqb s 1 && leb n 2) && r) ≡ small_at m g
unfolding small_at every
small_is m g s n r es en er = rw (er, es, en) (simp (and_assoc, and-true))

-- ---- bounds written, four words at a time

module _ (l : List ℕ) (o a b c d : ℕ) where
  pub four_length : length (put_four l o a b c d) ≡ length l
  unfolding put_four
  four_length = length_put _ _ d ∙ (length_put _ _ c ∙ (length_put _ _ b ∙ length_put l o a))

  four_other : (q : ℕ) → (o ≤ q → q < o + 4 → ⊥) → nth (put_four l o a b c d) q ≡ nth l q
  unfolding put_four
  four_other q h =
      nth_put_other _ (o + 3) q d (λ e. h (omega arith) (omega arith))
      ∙ (nth_put_other _ (o + 2) q c (λ e. h (omega arith) (omega arith))
      ∙ (nth_put_other _ (o + 1) q b (λ e. h (omega arith) (omega arith))
      ∙ nth_put_other l o q a (λ e. h (omega arith) (omega arith))))

  four_at : o + 4 ≤ length l → (j : ℕ) → j < 4 → nth (put_four l o a b c d) (o + j) ≡ nth (a ∷ b ∷ c ∷ d ∷ []) j
  unfolding put_four nth
  four_at h zero q =
      rw (add-zero o)
      (nth_put_other _ (o + 3) o d (λ e. absurd (omega arith))
      ∙ (nth_put_other _ (o + 2) o c (λ e. absurd (omega arith)) ∙ (nth_put_other _ (o + 1) o b (λ e. absurd (omega arith)) ∙ nth_put_same l o a (omega arith))))
  four_at h (suc zero) q =
      nth_put_other _ (o + 3) (o + 1) d (λ e. absurd (omega arith))
      ∙ (nth_put_other _ (o + 2) (o + 1) c (λ e. absurd (omega arith)) ∙ nth_put_same _ (o + 1) b (simp length_put (omega arith)))
  four_at h (suc (suc zero)) q = nth_put_other _ (o + 3) (o + 2) d (λ e. absurd (omega arith)) ∙ nth_put_same _ (o + 2) c (simp length_put (omega arith))
  four_at h (suc (suc (suc zero))) q = nth_put_same _ (o + 3) d (simp length_put (omega arith))
  four_at h (suc (suc (suc (suc j)))) q = absurd (omega arith)

module _ (w top : ℕ) (l : List ℕ) where
  pub bounds_none : length l ≡ 8 * w → Bounds w top 0 l
  bounds_none e = record { within = omega arith; long = e; least = λ i j h q. absurd (omega arith); most = λ i j h q. absurd (omega arith) }

  module _ (n : ℕ) (b : Bounds w top n l) where
    pub bounds_more : n < w → Bounds w top (n + 1) (put_four (put_four l (4 * n) 1 0 0 0) (4 * w + 4 * n) 1 2 top top)
    unfolding least_at most_at
    bounds_more s =
        let r : List ℕ = put_four l (4 * n) 1 0 0 0 in
        let long : length r ≡ 8 * w = four_length l (4 * n) 1 0 0 0 ∙ b.long in
        let last = four_other r (4 * w + 4 * n) 1 2 top top in
        record {
          within = omega arith;
          long = four_length r (4 * w + 4 * n) 1 2 top top ∙ long;
          least = λ i j h q. last (4 * i + j) (λ x y. omega arith) ∙ elim (ℕ_discrete i n) [
            | yes e ↦ rw e (four_at l (4 * n) 1 0 0 0 (omega (arith, b.long)) j q)
            | no e ↦ four_other l (4 * n) 1 0 0 0 (4 * i + j) (λ x y. omega arith) ∙ b.least i j (omega arith) q
          ];
          most = λ i j h q. elim (ℕ_discrete i n) [
            | yes e ↦ rw e (four_at r (4 * w + 4 * n) 1 2 top top (omega arith) j q)
            | no e ↦ last (4 * w + 4 * i + j) (λ x y. omega arith) ∙ (four_other l (4 * n) 1 0 0 0 (4 * w + 4 * i + j) (λ x y. omega arith) ∙ b.most i j (omega arith) q)
          ];
        }

    pub bounds_end : w ≤ n → Bounds w top w l
    bounds_end h = let e : n ≡ w = omega (arith, b.within) in rw e at b

-- ---- bit words full of starts

module _ (w k : ℕ) (l : List ℕ) (z : Sized w k l) where
  pub full_none : FullUpto w k (image_of w k l) 0
  full_none = record { within = omega arith; starts = λ g p q. absurd (omega (arith, mul-zero w)) }

  word_start : (n g x : ℕ) → w * n ≤ g → g < w * (n + 1) → x ≡ nth (image_of w k l).starts n → is_start (image_of w k l) g ≡ test_bit x (g - w * n)
  unfolding is_start image_of image
  word_start n g x p q e =
      let s : w * (n + 1) ≡ w * n + w = next_word w n in
      let o : w * n + (g - w * n) ≡ g = omega arith in
      rw e (rw o at (bit_at w (image_of w k l).starts n (g - w * n) (omega arith)))

  -- nil's bit is none of a start
  pub full_first : (x v : ℕ) → x ≡ nth (image_of w k l).starts 0 → v ≡ with_bit x 0 → v + 1 ≡ 2 ^ w → FullUpto w k (image_of w k l) 1
  full_first x v ex ev e =
      let none : w * 0 ≡ 0 = mul-zero w in
      let one : w * 1 ≡ w = mul-one w in
      record {
        within = omega (arith, word_in w k (sized_width z) 0 (omega (arith, z.low)));
        starts = λ g p q.
            word_start 0 g x (omega arith) (omega arith) ex
            ∙ (sym (with_bit_other x (g - w * 0) 0 (λ o. absurd (omega arith))) ∙ ones_bit w (with_bit x 0) (g - w * 0) (rw ev at e) (omega arith));
      }

  module _ (n : ℕ) (f : FullUpto w k (image_of w k l) n) where
    pub full_more : (x : ℕ) → x ≡ nth (image_of w k l).starts n → x + 1 ≡ 2 ^ w → n < 64 * k / w → FullUpto w k (image_of w k l) (n + 1)
    full_more x ex e h =
        let s : w * (n + 1) ≡ w * n + w = next_word w n in
        record {
          within = omega arith;
          starts = λ g p q. elim (dec_lt g (w * n)) [
            | yes r ↦ f.starts g p r
            | no r ↦ word_start n g x (omega arith) q ex ∙ ones_bit w x (g - w * n) e (omega arith)
          ];
        }

    pub full_inside : w * n ≤ 64 * k
    full_inside = omega (arith, words_full w k (sized_width z), mul-le-mul_left w f.within)

    -- links to their granules are in order
    pub full_bounds : (top : ℕ) (bs : List ℕ) → top ≡ w * n - 1 → Bounds w top w bs → LinkBounds w (image_of w k l) bs
    unfolding nil_or_start either granules image_of image
    full_bounds top bs e b = record {
      top = top;
      targets = λ a h. elim (ℕ_discrete a 0) [
        | yes o ↦ rw o
        | no o ↦ rw (ne_eqb a 0 o, test_inside (is_start (image_of w k l)) (64 * k) a (start_past w k l z a)) (f.starts a (omega arith) (omega arith))
      ];
      bounds = b;
    }

-- ---- the granules of a bit word, from granule a on: c of them lie before it

pub all_small : (m : Image) (a e : ℕ) (r : Bool) → r ≡ all (e - a) (onward a (small_at m)) → r ≡ true → SmallFrom m a e
all_small m a e r q h = record { small = from_use a e (small_at m) (sym q ∙ h) }

module _ (w k : ℕ) (l bs : List ℕ) (z : Sized w k l) (b : LinkBounds w (image_of w k l) bs) where
  module _ (a c : ℕ) (hc : c < w) (ca : c ≤ a) (inside : a - c + w ≤ 64 * k) where
    abbrev lows : List ℕ
    lows = take (4 * w - 4 * c) (drop (4 * c) bs)

    abbrev highs : List ℕ
    highs = take (8 * w - (4 * w + 4 * c)) (drop (4 * w + 4 * c) bs)

    abbrev words : List ℕ
    words = take (4 * (a - c + w) - 4 * a) (drop (4 * a) (image_of w k l).heap)

    -- they are as many as the bounds that they are held to
    pub word_fits : (4 * (a - c + w) - 4 * a ≤ length lows) × (4 * (a - c + w) - 4 * a ≤ length highs)
    word_fits = (simp (length-take, length-drop) (omega (arith, b.bounds.long)), simp (length-take, length-drop) (omega (arith, b.bounds.long)))

    module _ (h : within lows highs words ≡ true) (d : ℕ) (hd : c + d < w) where
      word_between : (j : ℕ) → j < 4 → (least_at j ≤ word (image_of w k l) (a + d) j) × (word (image_of w k l) (a + d) j ≤ most_at b.top j)
      unfolding within between word
      word_between j q =
          let this : 4 * a + (4 * d + j) ≡ 4 * (a + d) + j = omega arith in
          let low : 4 * c + (4 * d + j) ≡ 4 * (c + d) + j = omega arith in
          let high : 4 * w + 4 * c + (4 * d + j) ≡ 4 * w + 4 * (c + d) + j = omega arith in
          let long : 4 * d + j < length words = simp (length-take, length-drop) (omega (arith, heap_words z)) in
          let p = nth_part (4 * (a - c + w) - 4 * a) (4 * a) (image_of w k l).heap (4 * d + j) (omega arith) in
          let e = rw (p, this) at (all_use (length words) _ h (4 * d + j) long) in
          let above : nth lows (4 * d + j) ≤ nth (image_of w k l).heap (4 * (a + d) + j) = leb-true _ _ (every_use _ e 0) in
          let below : nth (image_of w k l).heap (4 * (a + d) + j) ≤ nth highs (4 * d + j) = leb-true _ _ (every_use _ e 1) in
          let least : nth lows (4 * d + j) ≡ least_at j = nth_part (4 * w - 4 * c) (4 * c) bs (4 * d + j) (omega arith) ∙ rw low (b.bounds.least (c + d) j hd q) in
          let most : nth highs (4 * d + j) ≡ most_at b.top j =
          nth_part (8 * w - (4 * w + 4 * c)) (4 * w + 4 * c) bs (4 * d + j) (omega arith) ∙ rw high (b.bounds.most (c + d) j hd q) in
          (omega arith, omega arith)

      bounded_small : small_at (image_of w k l) (a + d) ≡ true
      unfolding small_at least_at most_at nth links link_ok link
      bounded_small =
          let one : (1 ≤ word (image_of w k l) (a + d) 0) × (word (image_of w k l) (a + d) 0 ≤ 1) = word_between 0 (omega arith) in
          let few : word (image_of w k l) (a + d) 1 ≤ 2 = (word_between 1 (omega arith)).1 in
          let first : link_ok (image_of w k l) (a + d) 0 ≡ true = b.targets _ (word_between 2 (omega arith)).1 in
          let last : link_ok (image_of w k l) (a + d) 1 ≡ true = b.targets _ (word_between 3 (omega arith)).1 in
          every_cons _ _ (eq-eqb (word (image_of w k l) (a + d) 0) 1 (omega arith))
          (every_cons _ _ (le-leb _ _ few)
          (every_cons _ _ (sym (first_two (link_ok (image_of w k l) (a + d)) _ true true (sym first) (sym last)) ∙ simp or-true) every_nil))

    pub word_small : (r : Bool) → r ≡ within lows highs words → r ≡ true → SmallFrom (image_of w k l) a (a - c + w)
    word_small r e h = record { small = λ g p q. let o : a + (g - a) ≡ g = omega arith in rw o at (bounded_small (sym e ∙ h) (g - a) (omega arith)) }

-- ---- bit words one after the other

module _ (w k : ℕ) (l : List ℕ) (z : Sized w k l) where
  pub upto_none : SmallUpto k (image_of w k l) 1
  upto_none = record { low = omega arith; high = omega (arith, z.low); starts = λ g p q. absurd (omega arith); objects = record { small = λ g p q. absurd (omega arith) } }

  -- the bit word of granule a ends among those that are full
  pub word_end : (n a : ℕ) → a < w * n → a - a % w + w ≤ w * n
  word_end n a h =
      let b : a / w < n = (div-lt_iff_lt-mul (some_bits w k (sized_width z))).1 (rw (mul_comm n w) h) in
      let m : w * (a / w + 1) ≤ w * n = mul-le-mul_left w (omega arith) in
      let s : w * (a / w + 1) ≡ w * (a / w) + w = next_word w (a / w) in
      let e : w * (a / w) + a % w ≡ a = div-add-mod a w in
      omega arith

  pub upto_more : (n a : ℕ) → FullUpto w k (image_of w k l) n → SmallUpto k (image_of w k l) a → a < w * n
      → SmallFrom (image_of w k l) a (a - a % w + w) → SmallUpto k (image_of w k l) (a - a % w + w)
  upto_more n a f u h s =
      let r : a % w < w = mod-lt a (some_bits w k (sized_width z)) in
      record {
        low = omega (arith, u.low);
        high = omega (arith, word_end n a h, full_inside w k l z n f);
        starts = λ g p q. f.starts g p (omega (arith, word_end n a h));
        objects = record { small = λ g p q. elim (dec_lt g a) [ yes r ↦ u.objects.small g p r | no r ↦ s.small g (omega arith) q ] };
      }

-- ---- the walk goes over them

module _ (w k : ℕ) (l : List ℕ) (z : Sized w k l) where
  one_turn : (g next seen : ℕ) → HeapWalk w k l g next 0 seen → g < 64 * k → is_start (image_of w k l) g ≡ true → small_at (image_of w k l) g ≡ true → HeapWalk w k l (g + 1) next 0 (seen + 1)
  unfolding small_at links digit
  one_turn g next seen v hg st sm =
      let one : word (image_of w k l) g 0 ≡ 1 = eqb-true _ _ (every_use _ sm 0) in
      let few : word (image_of w k l) g 1 ≤ 2 = leb-true _ _ (every_use _ sm 1) in
      let all_two : min 2 (word (image_of w k l) g 1) ≡ word (image_of w k l) g 1 = omega arith in
      let object : true ≡ object_ok (image_of w k l) g = sym (head_make k g 1 (word (image_of w k l) g 1) (record { pos = omega arith; few = omega arith; inside = omega arith; links-in = omega arith })) ∙ object_is w k l z g hg 1 (word (image_of w k l) g 1) (sym one) refl in
      w_more w k l z g next 0 seen v hg true (piece_object w k l z g hg next (eqb g 0) true (sym st) true refl object) refl 1 next 0 (seen + 1) true true (sym st)
      (links_object w k l g true (sym st) (word (image_of w k l) g 1) true refl refl (sym (rw all_two at (every_use _ sm 2)))) refl refl (next_of_object w k l z g hg next (eqb g 0) true (sym st) refl) (sym one) refl

  module _ (first : ℕ) (ef : first ≡ first_run (image_of w k l)) (free : is_start (image_of w k l) 0 ≡ false) where
    turns : (n : ℕ) → SmallUpto k (image_of w k l) (n + 1) → HeapWalk w k l (n + 1) first 0 n
    turns zero u = w_start w k l z first ef free
    turns (suc n) u =
        let e : suc n ≡ n + 1 = omega arith in
        let shorter : SmallUpto k (image_of w k l) (n + 1) = record { low = omega arith; high = omega (arith, u.high); starts = λ g p q. u.starts g p (omega arith); objects = record { small = λ g p q. u.objects.small g p (omega arith) } } in
        rw e (one_turn (n + 1) first n (turns n shorter) (omega (arith, u.high)) (u.starts (n + 1) (omega arith) (omega arith)) (u.objects.small (n + 1) (omega arith) (omega arith)))

    pub w_from : (from : ℕ) → SmallUpto k (image_of w k l) from → HeapWalk w k l from first 0 (from - 1)
    w_from from u = let e : from - 1 + 1 ≡ from = omega (arith, u.low) in rw e at (turns (from - 1) (rw e u))
