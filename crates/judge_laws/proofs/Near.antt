-- Stretches of marked granules, and bit words whose objects link to none but those of their stretch: these are covered.
use mathlib.Core.Path.{◌≡◌, refl, sym, ◌∙◌}
use mathlib.Core.Logic.{◌⊎◌, inl, inr}
use mathlib.Core.Bool.{Bool, true, false, not, ◌&&◌, ◌||◌, and-true}
use mathlib.Core.List.{List}
use Prim.Native.Nat.{ℕ, zero, suc, ◌+◌, ◌*◌, ◌-◌, ◌/◌, ◌≤◌, ◌<◌, ◌^◌}
use native.Mathlib.Nat.{mul-le-mul_left}
use native.Mathlib.Decide.{dec_lt, ℕ_discrete}
use native.Mathlib.Omega.{arith}
use lib.Dec.{eqb}
use lib.ListN.{length, take, drop, length-take, length-drop}
use borrow.Author.Tests.{leb-true, ltb-true, le-leb, lt-leb, eq-eqb, eqb-true, not-false}
use Rattle.model.specs.Base.{nth, every}
use Rattle.model.specs.Image.{Image, image_of, word, marked, links, link}
use Rattle.model.proofs.Laws.{all_use, all_make, every_use, some_use, some_nil, some_make, or_none, and_split}
use Rattle.image_laws.specs.Compare.{near, near_at}
use Rattle.image_laws.specs.Sized.{Sized}
use Rattle.image_laws.proofs.Lengths.{heap_words, sized_width}
use Rattle.image_laws.proofs.Places.{words_full}
use Rattle.soundness_laws.specs.Tests.{at_word, wordwise}
use Rattle.soundness_laws.proofs.Checks.{nth_part}
use Rattle.soundness_laws.proofs.Marks.{next_word, ones_bit}
use Rattle.judge_laws.specs.Order.{Coverable, nil_or_marked, plain, object_covered}
use Rattle.judge_laws.specs.Near.{near_word, MarkedStretch}
use Rattle.judge_laws.proofs.Objects.{object_plain}
use Rattle.judge_laws.proofs.Words.{mark_is}

-- word p of a part that is near
near-at : (f d a n : ℕ) (l : List ℕ) → near f d (take n (drop a l)) ≡ true → a + n ≤ length l → (p : ℕ) → p < n → (nth l (a + p) ≤ 2) ⊎ ((f ≤ nth l (a + p)) × (nth l (a + p) < d))
unfolding near near_at
near-at f d a n l e h p q =
    let long : p < length (take n (drop a l)) = simp (length-take, length-drop) (omega arith) in
    let t = rw (nth_part n a l p q) at (all_use (length (take n (drop a l))) (near_at f d (take n (drop a l))) e p long) in
    elim (some_use _ _ t) [
      | inl u ↦ inl (leb-true _ _ u)
      | inr u ↦ elim (some_use _ _ u) [ inl v ↦ inr (leb-true _ _ (every_use _ v 0), ltb-true _ _ (every_use _ v 1)) | inr v ↦ some_nil v ]
    ]

-- ---- stretches

-- no word
pub stretch_none : (w : ℕ) (m : Image) (i : ℕ) → MarkedStretch w m i i
stretch_none w m i = record { are_marked = λ g a b. absurd (omega arith); low = λ h. absurd (omega arith) }

-- one word more, which is full
pub stretch_more : (w k : ℕ) (l : List ℕ) (z : Sized w k l) (from i x v : ℕ) (a b : Bool) → a ≡ marked (image_of w k l) 1 → b ≡ marked (image_of w k l) 2 → x ≡ nth (image_of w k l).marks i
    → v + 1 ≡ 2 ^ w → (not (a && b) || not (eqb x v)) ≡ false → MarkedStretch w (image_of w k l) from i → MarkedStretch w (image_of w k l) from (i + 1)
stretch_more w k l z from i x v a b ea eb ex ev t s =
    let both = or_none (not (a && b)) _ t in
    let low = and_split a b (not-false (a && b) both.0) in
    let full : x + 1 ≡ 2 ^ w = rw (eqb-true x v (not-false (eqb x v) both.1)) ev in
    record {
      are_marked = λ g p q. elim (dec_lt g (w * i)) [
        | yes h ↦ s.are_marked g p h
        | no h ↦
            let r : g < w * i + w = rw (next_word w i) at q in
            let e : w * i + (g - w * i) ≡ g = omega arith in
            rw e at (sym (mark_is w k l z i x ex (g - w * i) (omega arith)) ∙ ones_bit w x (g - w * i) full (omega arith))
      ];
      low = λ _. (sym ea ∙ low.0, sym eb ∙ low.1);
    }

-- ---- the ways out of `is_near`

module _ (w : ℕ) (m : Image) (from i n : ℕ) (en : n ≡ links m (w * i + w - 1)) where
  pub near_no : 2 < n → false ≡ near_word w m from i
  unfolding near_word every
  near_no h = rw (← en, lt-leb n 2 h)

  pub near_yes : (a e f d : ℕ) (r : Bool) → n ≤ 2 → a ≡ 4 * (w * i) → e ≡ 4 * (w * i + w) → f ≡ w * from → d ≡ w * i + w → r ≡ near f d (take (e - a) (drop a m.heap)) → r ≡ near_word w m from i
  unfolding near_word every
  near_yes a e f d r h ea ee ef ed q =
      let part : e - a ≡ 4 * w = omega arith in
      rw (← en, ← ea, ← part, ← ef, ← ed, le-leb n 2 h, ← q) (sym (and-true r))

-- ---- a near word is covered

module _ (w k : ℕ) (l : List ℕ) (z : Sized w k l) (c : Coverable k (image_of w k l)) (from i : ℕ) (s : MarkedStretch w (image_of w k l) from (i + 1)) (h : from ≤ i) (hi : i < 64 * k / w)
    (r : Bool) (e : r ≡ near_word w (image_of w k l) from i) (t : r ≡ true) where
  here_marked : (j : ℕ) → j < w → marked (image_of w k l) (w * i + j) ≡ true
  here_marked j q = s.are_marked (w * i + j) (omega (arith, mul-le-mul_left w h)) (omega (arith, next_word w i))

  -- behind every object but the last stands the next
  few : (j : ℕ) → j < w → links (image_of w k l) (w * i + j) ≤ 2
  unfolding near_word
  few j q = elim (ℕ_discrete (j + 1) w) [
    | yes y ↦ let g : w * i + w - 1 ≡ w * i + j = omega arith in rw g at (leb-true (links (image_of w k l) (w * i + w - 1)) 2 (every_use _ (sym e ∙ t) 0))
    | no n ↦ let g : w * i + suc j ≡ suc (w * i + j) = omega arith in c.two_links (w * i + j) (here_marked j q) (rw g at (here_marked (suc j) (omega arith)))
  ]

  value_plain : (g p x : ℕ) → link (image_of w k l) g p ≡ x → (x ≤ 2) ⊎ ((w * from ≤ x) × (x < w * i + w)) → plain (image_of w k l) g p ≡ true
  unfolding plain nil_or_marked
  value_plain g p zero e o = some_make _ 0 (eq-eqb _ _ e)
  value_plain g p (suc zero) e o = some_make _ 1 (rw e (s.low (omega arith)).0)
  value_plain g p (suc (suc zero)) e o = some_make _ 1 (rw e (s.low (omega arith)).1)
  value_plain g p (suc (suc (suc x))) e (inl u) = absurd (omega arith)
  value_plain g p (suc (suc (suc x))) e (inr u) = some_make _ 1 (rw e (s.are_marked (suc (suc (suc x))) u.0 (omega (arith, next_word w i, u.1))))

  link_plain : (j p : ℕ) → j < w → p < 2 → plain (image_of w k l) (w * i + j) p ≡ true
  unfolding near_word link word
  link_plain j p q b =
      let full : w * i + w ≤ 64 * k = omega (arith, next_word w i, words_full w k (sized_width z), mul-le-mul_left {m = i + 1} {n = 64 * k / w} w (omega arith)) in
      let g : 4 * (w * i) + (4 * j + (2 + p)) ≡ 4 * (w * i + j) + (2 + p) = omega arith in
      value_plain (w * i + j) p _ refl
      (rw g at (near-at _ _ (4 * (w * i)) (4 * w) _ (every_use _ (sym e ∙ t) 1) (omega (arith, heap_words z)) (4 * j + (2 + p)) (omega arith)))

  pub near_covered : true ≡ wordwise w (object_covered (image_of w k l)) i
  unfolding wordwise at_word
  near_covered = sym (all_make w _ (λ j q. object_plain (image_of w k l) (w * i + j) (all_make _ _ (λ p b. link_plain j p q (omega (arith, few j q))))))
