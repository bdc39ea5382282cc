-- Every card is listed, the last first.
use mathlib.Core.Path.{◌≡◌, refl, ◌∙◌, sym, ap}
use mathlib.Core.List.{[]}
use mathlib.Core.Logic.{inl}
use Prim.Native.Nat.{ℕ, ◌+◌, ◌<◌, ◌*◌, ◌/◌}
use native.Mathlib.Omega.{arith}
use native.Mathlib.Decide.{ℕ_discrete, dec_lt}
use lib.ListN.{length}
use Rattle.model.specs.Image.{Image, is_start, marked, with_cards, set_state}
use Rattle.model.proofs.Laws.{nth_put_same, nth_put_other, nth_out}
use Rattle.finish_marking_laws.specs.Follow.{card_word, untouched, times, Chained, Listed, Nowhere}
use Rattle.finish_marking_laws.specs.Seeds.{ListedAll}
use Rattle.image_laws.specs.Digits.{mark_bit, start_bit}
use Rattle.finish_marking_laws.proofs.follow.Worklist.{cards_down, cards_down_out, cards_down_in, cards_down_chained}

-- the first i cards are listed, all else is as it was
pub record ListedTo (m m' : Image) (i : ℕ) : Type 0 where
  pub heap : m'.heap ≡ m.heap
  pub starts : ◌≡◌ {A = ℕ → ℕ} (start_bit m') (start_bit m)
  pub marks : ◌≡◌ {A = ℕ → ℕ} (mark_bit m') (mark_bit m)
  pub rest : untouched m' ≡ untouched m
  pub words : (c : ℕ) → c < i → card_word m' c ≡ c + 1

pub listed_none : (m : Image) → ListedTo m m 0
listed_none m = record { heap = refl; starts = refl; marks = refl; rest = refl; words = λ c l. absurd (omega arith) }

pub listed_more : (m m1 m2 : Image) (i : ℕ) → ListedTo m m1 i → i < length m1.cards → m2 ≡ set_state m1 i (i + 1) → ListedTo m m2 (i + 1)
unfolding set_state with_cards marked is_start
listed_more m m1 m2 i t l e = rw e (record {
  heap = t.heap;
  starts = t.starts;
  marks = t.marks;
  rest = t.rest;
  words = λ c h. elim (ℕ_discrete c i) [ yes q ↦ rw (q, nth_put_same) | no q ↦ rw nth_put_other (t.words c (omega arith)) ];
})

pub listed_end : {k : ℕ} {m m' : Image} → ListedTo m m' k → length m'.cards ≡ k → ListedAll k m m' (k + 1)
listed_end {k} {m} {m'} t l = record { heap = t.heap; starts = t.starts; marks = t.marks; rest = t.rest; head = refl; words = t.words; past = λ c h. nth_out m'.cards c (omega arith) }

-- ---- all cards are a work list

pub all_listed : {k : ℕ} {m m' : Image} {h : ℕ} → ((g : ℕ) → mark_bit m g ≡ 1 → g < 64 * k) → ListedAll k m m' h → Listed m' Nowhere h 1
unfolding Chained times
all_listed {k} {m} {m'} {h} s t = rw t.head (record {
  list = record {
    waiting = cards_down k;
    later = [];
    chained = cards_down_chained m'.cards k t.words;
    chained_later = refl;
    once = λ c. elim (dec_lt c k) [
      | yes l ↦ omega (arith, cards_down_in k c l, t.words c l)
      | no l ↦ omega (arith, cards_down_out k c (omega arith), t.past c (omega arith))
    ];
  };
  holds = λ g q.
      let l : g < 64 * k = s g (ap (λ (w : ℕ → ℕ). w g) (sym t.marks) ∙ q.is_marked) in
      inl (omega (arith, t.words (g / 64) (omega arith)));
})
