-- Hints made of the second plane (`hint_word`, `refill`): the loop over the bits of a word, and the loop over the p words.
use mathlib.Core.Path.{◌≡◌, refl, sym, ap, ◌∙◌}
use mathlib.Core.Logic.{◌⊎◌, inl, inr}
use mathlib.Core.Bool.{true}
use mathlib.Core.List.{List}
use Prim.Native.Nat.{ℕ, ◌+◌, ◌*◌, ◌-◌, ◌/◌, ◌%◌, ◌^◌, ◌≤◌, ◌<◌}
use native.Mathlib.Omega.{arith}
use native.Mathlib.Decide.{ℕ_discrete, dec_lt}
use Rattle.std.proofs.Math.Pow.{pow_mono}
use lib.ListN.{length}
use lib.Bits.{bit_and}
use Rattle.model.specs.Base.{nth, put, test_bit}
use Rattle.model.proofs.Laws.{nth_put_same, length_put}
use Rattle.image_laws.proofs.Digits.{digit_le, digit_on, on_digit, bit-and, bit_none}
use Rattle.image_laws.proofs.Masks.{set_within}
use Rattle.image_laws.proofs.Places.{place_word, place_bit, place_in, word_in, words_full}
use Rattle.search_laws.specs.Search.{Planes, pending, LastOf, Hinted, no_granule, some_granule, LastPending, Refilled}
use Rattle.search_laws.proofs.Planes.{planes_width, pending_digit}

-- ---- the bits of word i that are in x are still to be hinted, and there are h hints

pub record Hinting (w i word : ℕ) (hints₀ : List ℕ) (n : ℕ) (hints : List ℕ) (x h : ℕ) : Type 0 where
  pub room : h ≤ length hints
  pub rest : (j : ℕ) → test_bit x j ≡ true → test_bit word j ≡ true
  pub last : ((hints ≡ hints₀) × (h ≡ n) × (x ≡ word)) ⊎ LastOf w i word hints h

pub hinting_none : (w i word : ℕ) (hints : List ℕ) (n : ℕ) → n ≤ length hints → Hinting w i word hints n hints word n
hinting_none w i word hints n l = record { room = l; rest = λ j e. e; last = inl (refl, refl, refl) }

module _ {w i word : ℕ} {hints₀ : List ℕ} {n : ℕ} {hints : List ℕ} {x h : ℕ} (t : Hinting w i word hints₀ n hints x h) where
  and_rest : (y j : ℕ) → test_bit (bit_and x y) j ≡ true → test_bit x j ≡ true
  and_rest y j e = on_digit _ (omega (arith, bit-and x y j, digit_on e, digit_le (test_bit x j)))

  -- a bit of x is one of word's
  pub hinting_bit : word < 2 ^ w → (j : ℕ) → test_bit x j ≡ true → j < w
  hinting_bit b j e = elim (dec_lt j w) [ yes l ↦ l | no l ↦ absurd (omega (arith, set_within word j (t.rest j e), pow_mono {i = w} {j = j} (omega arith))) ]

  pub hinting_more : (y : ℕ) → h < length hints → (j : ℕ) → j < w → test_bit x j ≡ true → (v : ℕ) → v ≡ w * i + j → Hinting w i word hints₀ n (put hints h v) (bit_and x y) (h + 1)
  hinting_more y l j lj e v ev =
      let back : h + 1 - 1 ≡ h = omega arith in
      record {
        room = rw (length_put hints h v) (omega arith);
        rest = λ b eb. t.rest b (and_rest y b eb);
        last = inr (record { some = omega arith; bit_number = j; within = lj; is_set = t.rest j e; named = rw back (nth_put_same hints h v l ∙ ev) });
      }

  pub hinting_full : n < length hints₀ → h ≡ length hints → Hinted w i word hints₀ n hints h
  hinting_full l e = elim t.last [ inl u ↦ absurd (omega (arith, u.1, ap length u.0)) | inr u ↦ some_granule u ]

  pub hinting_end : x ≡ 0 → Hinted w i word hints₀ n hints h
  hinting_end e = elim t.last [ inl u ↦ no_granule (sym u.2 ∙ e) u.0 u.1 | inr u ↦ some_granule u ]

-- ---- the first i words have become n hints

pub record HintsUpto (w k : ℕ) (s : List ℕ) (p : ℕ) (hints : List ℕ) (n i : ℕ) : Type 0 where
  pub planes : Planes w k s
  pub plane : p ≡ 64 * k / w
  pub low : i ≤ p
  pub none : n ≡ 0 → (j : ℕ) → j < i → nth s (p + j) ≡ 0
  pub last : 1 ≤ n → LastPending w k s hints n

pub refill_none : {w k : ℕ} {s : List ℕ} (p : ℕ) (hints : List ℕ) → Planes w k s → p ≡ 64 * k / w → HintsUpto w k s p hints 0 0
refill_none p hints t e = record { planes = t; plane = e; low = omega arith; none = λ _ j lj. absurd (omega arith); last = λ z. absurd (omega arith) }

module _ {w k : ℕ} {s : List ℕ} {p : ℕ} {hints : List ℕ} {n i : ℕ} (t : HintsUpto w k s p hints n i) where
  last_pending : i < p → {hints' : List ℕ} {r : ℕ} → LastOf w i (nth s (p + i)) hints' r → LastPending w k s hints' r
  last_pending l {hints'} {r} u =
      let g : ℕ = w * i + u.bit_number in
      let here : g < 64 * k = omega (arith, place_in w i u.bit_number u.within p l, words_full w k (planes_width t.planes), ap (λ x. w * x) t.plane) in
      let on : pending w k s g ≡ 1 = pending_digit t.planes g ∙ rw (place_word w i u.bit_number u.within, place_bit w i u.bit_number u.within, ← t.plane) (digit_on u.is_set) in
      record { here = rw u.named here; is_pending = rw u.named on }

  pub refill_more : i < p → {hints' : List ℕ} {r : ℕ} → Hinted w i (nth s (p + i)) hints n hints' r → HintsUpto w k s p hints' r (i + 1)
  refill_more l (no_granule z eh er) = rw (eh, er) (record {
    planes = t.planes;
    plane = t.plane;
    low = omega arith;
    none = λ y j lj. elim (ℕ_discrete j i) [ yes q ↦ rw q z | no q ↦ t.none y j (omega arith) ];
    last = t.last;
  })
  refill_more l (some_granule u) =
      record { planes = t.planes; plane = t.plane; low = omega arith; none = λ y. absurd (omega (arith, u.some)); last = λ _. last_pending l u }

  pub refill_full : 1 ≤ n → Refilled w k s hints n
  refill_full l = record { none = λ y. absurd (omega arith); last = t.last }

  pub refill_end : p ≤ i → Refilled w k s hints n
  refill_end l = record {
    none = λ y. record {
      none = λ g hg.
          pending_digit t.planes g ∙ rw (← t.plane, t.none y (g / w) (omega (arith, word_in w k (planes_width t.planes) g hg, t.plane))) (bit_none (g % w));
    };
    last = t.last;
  }
