-- The sweep by mark bits: a word from its highest bit down, a word whose bits are all set, and the loop over words.
use mathlib.Core.Path.{◌≡◌, refl, sym, ap, ◌∙◌}
use mathlib.Core.Bool.{true, false}
use mathlib.Core.List.{List}
use Prim.Native.Nat.{ℕ, suc, ◌+◌, ◌*◌, ◌-◌, ◌/◌, ◌^◌, ◌<◌, ◌≤◌}
use native.Mathlib.Nat.{sub-zero, mul-suc}
use native.Mathlib.Omega.{arith}
use native.Mathlib.Decide.{ℕ_discrete, dec_lt}
use lib.ListN.{length}
use lib.Count.{count_leading_zeros}
use lib.Pow.{pow_mono}
use Rattle.model.specs.Base.{nth, test_bit}
use Rattle.model.specs.Image.{marked, image_of, image, Image, set_first_run}
use Rattle.model.proofs.Laws.{false≢}
use Rattle.image_laws.specs.Bits.{without_bit}
use Rattle.image_laws.specs.Sized.{Sized}
use Rattle.image_laws.proofs.Bits.{bit_at, zero_bit}
use Rattle.image_laws.proofs.Digits.{on_digit, bit_none, bit_not}
use Rattle.image_laws.proofs.Lengths.{sized_as, sized_width}
use Rattle.image_laws.proofs.Masks.{without_bit_same, without_bit_less, without_bit_other}
use Rattle.image_laws.proofs.Places.{by_width, place_in, words_full}
use Rattle.runs_laws.specs.declared.Free.{Free}
use Rattle.finish_laws.specs.Gaps.{Within, Edged, edged, kept_at, swept_from, gap, closed_at, swept_all}
use Rattle.image_laws.proofs.Leading.{Leading, test_past, word_leading}
use Rattle.finish_laws.proofs.gaps.Granules.{from_marks, passed_keep, from_suc, from_unmarked, from_full, swept_none, from_add}
use Rattle.runs_laws.specs.Granules.{none_free, grown}
use native.Mathlib.Numerals.{add-one}

module _ (w k : ℕ) (ws : List ℕ) (i : ℕ) where
  -- a mark by the word that it stands in
  word_mark : (x : ℕ) → x ≡ nth (image_of w k ws).marks i → (j : ℕ) → j < w → marked (image_of w k ws) (w * i + j) ≡ test_bit x j
  unfolding marked image_of image
  word_mark x e j h = rw (bit_at w (image_of w k ws).marks i j h, e)

  pub word_full : (e : ℕ) (f : Free) (x : ℕ) → x ≡ nth (image_of w k ws).marks i → x + 1 ≡ 2 ^ w → e ≡ w * i + w → edged (w * i) f (image_of w k ws) ≡ swept_from (w * i + w) (edged e f (image_of w k ws)) w
  word_full e f x ex u ee =
      let q : w * i + w - w ≡ w * i = omega arith in
      rw ee (sym (rw q at (from_full (w * i + w) f (image_of w k ws) w (omega arith) all)))
    where
      all : (h : ℕ) → w * i + w ≤ h + w → h < w * i + w → marked (image_of w k ws) h ≡ true
      all h a b =
          let r : h ≡ w * i + (h - w * i) = omega arith in
          rw r (word_mark x ex (h - w * i) (omega arith) ∙ on_digit _ (omega (arith, bit_not w 0 x (h - w * i) (omega arith) (omega arith), bit_none (h - w * i))))

-- ---- the loop over the bits of word i: those below `at` are still to come

pub record Taking (w k i e₀ : ℕ) (f₀ : Free) (im₀ : List ℕ) (x : ℕ) (im : List ℕ) (e : ℕ) (f : Free) : Type 0 where
  pub at : ℕ
  pub high : at ≤ w
  pub fits : x < 2 ^ w
  pub above : (j : ℕ) → at ≤ j → test_bit x j ≡ false
  pub below : (j : ℕ) → j < at → marked (image_of w k im₀) (w * i + j) ≡ test_bit x j
  pub sized : Sized w k im
  pub same : length im ≡ length im₀
  pub low : w * i + at ≤ e
  pub room : Within k e f
  pub state : edged e f (image_of w k im) ≡ swept_from (w * i + w) (edged e₀ f₀ (image_of w k im₀)) (w - at)

pub taking_none : {w k i e : ℕ} {f : Free} {im : List ℕ} {x : ℕ} → Sized w k im → x ≡ nth (image_of w k im).marks i → x < 2 ^ w → w * i + w ≤ e → Within k e f → Taking w k i e f im x im e f
unfolding swept_from
taking_none {w} {k} {i} {e} {f} {im} {x} z ex hx l r =
    let q : w - w ≡ 0 = omega arith in
    record {
      at = w;
      high = omega arith;
      fits = hx;
      above = λ j p. test_past x j (omega (arith, pow_mono {i = w} {j = j} p));
      below = word_mark w k im i x ex;
      sized = z;
      same = refl;
      low = l;
      room = r;
      state = rw q;
    }

module _ {w k i e₀ : ℕ} {f₀ : Free} {im₀ : List ℕ} {x : ℕ} {im : List ℕ} {e : ℕ} {f : Free} (t : Taking w k i e₀ f₀ im₀ x im e f) where
  abbrev s₀ : Edged
  s₀ = edged e₀ f₀ (image_of w k im₀)

  -- granules of the word between two places, unmarked
  unmarked : (j : ℕ) → j ≤ t.at → ((b : ℕ) → j ≤ b → b < t.at → test_bit x b ≡ false) → swept_from (w * i + w) s₀ (w - j) ≡ edged e f (image_of w k im)
  unmarked j l c =
      let u : w - j ≡ w - t.at + (t.at - j) = omega (arith, t.high) in
      rw u (from_unmarked (w * i + w) s₀ (w - t.at) (t.at - j) (omega (arith, t.high)) none ∙ sym t.state)
    where
      none : (h : ℕ) → w * i + w ≤ h + (w - t.at + (t.at - j)) → h + (w - t.at) < w * i + w → marked (image_of w k im₀) h ≡ false
      none h a b =
          let q : h - w * i < t.at = omega (arith, t.high) in
          let r : h ≡ w * i + (h - w * i) = omega (arith, t.high) in
          rw r (t.below (h - w * i) q ∙ c (h - w * i) (omega (arith, t.high)) q)

  pub taking_end : x ≡ 0 → edged e f (image_of w k im) ≡ swept_from (w * i + w) s₀ w
  taking_end z = sym (rw sub-zero at (unmarked 0 (omega arith) (λ b l h. zero_bit x b z)))

  module _ (nz : x ≡ 0 → ⊥) where
    abbrev j : ℕ
    j = 63 - count_leading_zeros 64 x

    leading : Leading w x
    leading = word_leading w x (by_width (λ (w : ℕ). w ≤ 64) (omega arith) (omega arith) (sized_width t.sized)) t.fits nz

    pub taking_few : count_leading_zeros 64 x ≤ 63
    taking_few = leading.few

    pub taking_within : j < w
    taking_within = leading.top.within

    pub taking_less : without_bit x j < x
    taking_less = without_bit_less x j leading.top.is_set

    below_at : j < t.at
    below_at = elim (dec_lt j t.at) [ yes p ↦ p | no p ↦ false≢ (sym (t.above j (omega arith)) ∙ leading.top.is_set) ]

    pub taking_room : i < 64 * k / w → (w * i + j < 64 * k) × Within k e f × (w * i + j ≤ e)
    taking_room h = (rw (words_full w k (sized_width t.sized)) at (place_in w i j leading.top.within (64 * k / w) h), t.room, omega (arith, below_at, t.low))

    -- to the next bit, and past it
    at_bit : swept_from (w * i + w) s₀ (w - j) ≡ kept_at (w * i + j) (edged e f (image_of w k im))
    at_bit =
        let p : w - j ≡ suc (w - suc j) = omega (arith, leading.top.within) in
        let v : w * i + w - suc (w - suc j) ≡ w * i + j = omega (arith, leading.top.within) in
        rw (p, from_suc, v, unmarked (suc j) below_at (λ b l h. leading.top.clear_above b l))
        (passed_keep (edged e f (image_of w k im)) (w * i + j)
        (ap (λ (y : Edged). marked y.image (w * i + j)) t.state ∙ from_marks (w * i + w) s₀ (w - t.at) (w * i + j) ∙ t.below j below_at ∙ leading.top.is_set))

    pub taking_more : (x' : ℕ) → x' ≡ without_bit x j → (im' : List ℕ) (e' : ℕ) (f' : Free) → length im' ≡ length im → edged e' f' (image_of w k im') ≡ kept_at (w * i + j) (edged e f (image_of w k im))
        → (e' ≡ w * i + j) × Within k e' f' → Taking w k i e₀ f₀ im₀ x' im' e' f'
    taking_more x' ex im' e' f' ll s r =
        record {
          at = j;
          high = omega (arith, leading.top.within);
          fits = rw ex (omega (arith, t.fits, taking_less));
          above = λ b l. rw ex (elim (ℕ_discrete b j) [ yes u ↦ rw u (without_bit_same x j) | no u ↦ without_bit_other x b j u ∙ leading.top.clear_above b (omega arith) ]);
          below = λ b l. t.below b (omega (arith, below_at)) ∙ rw ex (sym (without_bit_other x b j (λ u. omega arith)));
          sized = sized_as t.sized ll;
          same = ll ∙ t.same;
          low = omega (arith, r.0);
          room = r.1;
          state = s ∙ sym at_bit;
        }

-- ---- the loop over words: those from i on are swept

pub record Sweeping (w k : ℕ) (im₀ im : List ℕ) (e : ℕ) (f : Free) (i : ℕ) : Type 0 where
  pub high : i ≤ 64 * k / w
  pub sized : Sized w k im
  pub same : length im ≡ length im₀
  pub low : w * i ≤ e
  pub top : w * i ≤ 64 * k
  pub room : Within k e f
  pub state : edged e f (image_of w k im) ≡ swept_from (64 * k) (edged (64 * k) none_free (image_of w k im₀)) (64 * k - w * i)

pub sweeping_none : {w k : ℕ} {im : List ℕ} → Sized w k im → Sweeping w k im im (64 * k) none_free (64 * k / w)
sweeping_none {w} {k} {im} z =
    let u : w * (64 * k / w) ≡ 64 * k = words_full w k (sized_width z) in
    let q : 64 * k - w * (64 * k / w) ≡ 0 = omega arith in
    record {
      high = omega arith;
      sized = z;
      same = refl;
      low = omega arith;
      top = omega arith;
      room = record { room = omega arith; fewer = omega arith };
      state = rw q (sym (swept_none (64 * k) (edged (64 * k) none_free (image_of w k im))));
    }

module _ {w k : ℕ} {im₀ im : List ℕ} {e : ℕ} {f : Free} {i : ℕ} (t : Sweeping w k im₀ im e f i) where
  -- the word before word i
  word_before : 0 < i → w * i ≡ w * (i - 1) + w
  word_before l = let q : i ≡ i - 1 + 1 = omega arith in ap (λ (j : ℕ). w * j) q ∙ rw (add-one (i - 1)) (mul-suc w (i - 1))

  pub sweeping_word : 0 < i → (i - 1 < 64 * k / w) × Within k e f × (w * (i - 1) + w ≤ e)
  sweeping_word l = (omega (arith, t.high), t.room, omega (arith, t.low, word_before l))

  pub sweeping_more : 0 < i → (e' : ℕ) (f' : Free) (im' : List ℕ) → length im' ≡ length im → edged e' f' (image_of w k im') ≡ swept_from (w * (i - 1) + w) (edged e f (image_of w k im)) w
      → (w * (i - 1) ≤ e') × Within k e' f' → Sweeping w k im₀ im' e' f' (i - 1)
  sweeping_more l e' f' im' ll s r =
      let b : w * i ≡ w * (i - 1) + w = word_before l in
      record {
        high = omega (arith, t.high);
        sized = sized_as t.sized ll;
        same = ll ∙ t.same;
        low = r.0;
        top = omega (arith, t.top);
        room = r.1;
        state =
            let q : 64 * k - w * (i - 1) ≡ 64 * k - w * i + w = omega (arith, t.top) in
            let p : 64 * k - (64 * k - w * i) ≡ w * (i - 1) + w = omega (arith, t.top) in
            s ∙ rw (t.state, q, from_add (64 * k) (edged (64 * k) none_free (image_of w k im₀)) (64 * k - w * i) w, p);
      }

  pub sweeping_end : (m : Image) → image_of w k im₀ ≡ set_first_run m 0 → i ≤ 0 → (im' : List ℕ) → image_of w k im' ≡ gap (image_of w k im) 1 e → (n : ℕ) → n ≡ e - 1 → (r : Free) → r ≡ grown f n → edged 0 r (image_of w k im') ≡ swept_all k m
  unfolding swept_all closed_at
  sweeping_end m em l im' s n en r er =
      let z : i ≡ 0 = omega arith in
      let q : 64 * k - w * i ≡ 64 * k = rw z (omega arith) in
      rw (s, er, en) (ap (closed_at 0 1) (rw (q, em) at t.state))
