-- The tests on packets and tracers say what their lines say: the law each way.
use mathlib.Core.Path.{◌≡◌, refl, sym, ap, ◌∙◌}
use mathlib.Core.Bool.{Bool, true}
use mathlib.Core.Logic.{inl, inr}
use mathlib.Core.List.{List}
use Prim.Native.Nat.{ℕ, zero, suc, ◌+◌, ◌*◌, ◌-◌, ◌/◌, ◌%◌, ◌≤◌, ◌<◌}
use native.Mathlib.Decide.{ℕ_discrete, dec_lt}
use native.Mathlib.Nat.{add-zero}
use native.Mathlib.Omega.{arith}
use lib.Dec.{ltb, eqb}
use lib.ListN.{length, take, drop}
use borrow.Author.Tests.{ltb-true, ltb-false, leb-true, eqb-true, eqb-false, not-true, lt-ltb, le-ltb, le-leb, eq-eqb, ne_eqb}
use Rattle.model.specs.Base.{nth, all, either, distinct, each_piece}
use Rattle.model.specs.Image.{Image, granules, word, marked, links, state, entries, hand, next_link, hand_card, next_granule}
use Rattle.model.specs.Undamaged.{entry_ok, packet_ok, held_at, held_once, hand_ok, hand_card_ok, tracer_ok}
use Rattle.model.proofs.Laws.{bool_cases, either_yes, either_no, either_make, not_make, all_use, all_make, every_use, every_nil, every_cons}
use Rattle.model.proofs.Entries.{nth_drop, nth_take, each_piece_use, each_piece_make}
use Rattle.theory.specs.Lines.{count_in, entry_in, PacketsOk, Pair, TracersOk, Marked, InHand, CardInHand, none, one}
use Rattle.theory.proofs.lines.Distinct.{once_use, once_make}

-- ---- packets

piece_word : (ps : List ℕ) (p j : ℕ) → j < 32 → nth (take 32 (drop (32 * p) ps)) j ≡ nth ps (32 * p + j)
piece_word ps p j h = nth_take 32 (drop (32 * p) ps) j h ∙ nth_drop (32 * p) ps j

piece_count : (ps : List ℕ) (p : ℕ) → nth (take 32 (drop (32 * p) ps)) 0 ≡ count_in ps p
piece_count ps p = let e : 32 * p + 0 ≡ 32 * p = omega arith in piece_word ps p 0 (omega arith) ∙ ap (nth ps) e

piece_entry : (ps : List ℕ) (p e : ℕ) → e < 30 → nth (take 32 (drop (32 * p) ps)) (2 + e) ≡ entry_in ps p e
piece_entry ps p e h = let d : 32 * p + (2 + e) ≡ 32 * p + 2 + e = omega arith in piece_word ps p (2 + e) (omega arith) ∙ ap (nth ps) d

module _ (m : Image) where
  abbrev ps : List ℕ
  ps = m.packets

  pub packets_use : length m.packets ≡ 1024 → each_piece 32 32 (packet_ok m) m.packets ≡ true → distinct (entries m) ≡ true → PacketsOk (Marked m) m.packets
  unfolding entries packet_ok entry_ok marked
  packets_use l a d =
      record {
        sized = l;
        few = few;
        gap = λ p h. sym (piece_word ps p 1 (omega arith)) ∙ eqb-true _ _ (every_use _ (each p h) 1);
        past = λ p e h he c. eqb-true _ _ (rw (le-ltb e (count_in ps p) c) at (entry p e h he));
        full = λ p e g i. let h : e < 30 = omega (arith, few p i.is_packet) in rw i.is_entry at (every_use _ (rw (lt-ltb e _ i.below) at (entry p e i.is_packet h)) 1);
        once = λ p e q f g i j. once_use 32 ps (omega arith) few d p e q f i.is_packet j.is_packet i.below j.below (i.is_entry ∙ sym j.is_entry);
      }
    where
      each : (p : ℕ) → p < 32 → packet_ok m (take 32 (drop (32 * p) ps)) ≡ true
      each p h = each_piece_use 32 32 (packet_ok m) ps a p h

      few : (p : ℕ) → p < 32 → count_in ps p ≤ 30
      few p h = let b : nth (take 32 (drop (32 * p) ps)) 0 ≤ 30 = leb-true _ _ (every_use _ (each p h) 0) in omega (arith, piece_count ps p)

      entry : (p e : ℕ) → p < 32 → e < 30 → entry_ok m (ltb e (count_in ps p)) (entry_in ps p e) ≡ true
      entry p e h he = rw (piece_count ps p, piece_entry ps p e he) at (all_use 30 _ (every_use _ (each p h) 2) e he)

  pub packets_make : ((g : ℕ) → Marked m g → g < 64 * m.k) → PacketsOk (Marked m) m.packets → (each_piece 32 32 (packet_ok m) m.packets ≡ true) × (distinct (entries m) ≡ true)
  unfolding entries packet_ok entry_ok marked granules
  packets_make r k = (
    each_piece_make 32 32 (packet_ok m) ps
        (λ p h. let b : nth (take 32 (drop (32 * p) ps)) 0 ≤ 30 = omega (arith, k.few p h, piece_count ps p) in
        every_cons _ _ (le-leb _ _ b) (every_cons _ _ (eq-eqb _ _ (piece_word ps p 1 (omega arith) ∙ k.gap p h))
        (every_cons _ _ (all_make 30 _ (λ e he. rw (piece_count ps p, piece_entry ps p e he) (entry p e h he))) every_nil))),
    once_make 32 ps (omega (arith, k.sized)) k.few (λ p e q f hp hq he hf s. k.once p e q f (entry_in ps p e) (record { is_packet = hp; below = he; is_entry = refl }) (record { is_packet = hq; below = hf; is_entry = sym s })),
  )
    where
      entry : (p e : ℕ) → p < 32 → e < 30 → entry_ok m (ltb e (count_in ps p)) (entry_in ps p e) ≡ true
      entry p e h he = elim (bool_cases (ltb e (count_in ps p))) [
        | inl b ↦
            let k' = k.full p e (entry_in ps p e) (record { is_packet = h; below = ltb-true _ _ b; is_entry = refl }) in
            rw b (every_cons _ _ (lt-ltb _ _ (r _ k')) (every_cons _ _ k' every_nil))
        | inr b ↦ rw b (eq-eqb _ _ (k.past p e h he (ltb-false _ _ b)))
      ]

-- ---- tracers

-- two words, the second 0 where the first is, and right where it is not
pair_use : {P : ℕ → ℕ → Type 0} (x y : ℕ) (t : Bool) → either (eqb x 0) (eqb y 0) t ≡ true → (t ≡ true → P x y) → Pair P x y
pair_use {P} x y t e f = elim (ℕ_discrete x 0) [
  | yes z ↦ none z (eqb-true _ _ (either_yes _ _ _ (eq-eqb x 0 z) e))
  | no n ↦ one n (f (either_no _ _ _ (ne_eqb x 0 n) e))
]

pair_make : {P : ℕ → ℕ → Type 0} (x y : ℕ) (t : Bool) → Pair P x y → (P x y → t ≡ true) → either (eqb x 0) (eqb y 0) t ≡ true
pair_make x y t (none a b) f = either_make (eqb x 0) _ _ (λ _. eq-eqb _ _ b) (λ n. absurd (eqb-false _ _ n a))
pair_make x y t (one n p) f = either_make (eqb x 0) _ _ (λ z. absurd (n (eqb-true _ _ z))) (λ _. f p)

module _ (m : Image) where
  hand_use : (g i : ℕ) → hand_ok m g i ≡ true → Pair (InHand m) g i
  unfolding hand_ok marked links word
  hand_use g i e = pair_use g i _ e (λ r. (every_use _ r 1, ltb-true _ _ (every_use _ r 2)))

  hand_make : ((g : ℕ) → Marked m g → g < 64 * m.k) → (g i : ℕ) → Pair (InHand m) g i → hand_ok m g i ≡ true
  unfolding hand_ok marked links word granules
  hand_make r g i p = pair_make g i _ p (λ h. every_cons _ _ (lt-ltb _ _ (r g h.0)) (every_cons _ _ h.0 (every_cons _ _ (lt-ltb _ _ h.1) every_nil)))

  card_use : (c g : ℕ) → hand_card_ok m c g ≡ true → Pair (CardInHand m) c g
  unfolding hand_card_ok state
  card_use c g e = pair_use c g _ e (λ r. (leb-true _ _ (every_use _ r 0), leb-true _ _ (every_use _ r 1), leb-true _ _ (every_use _ r 2), leb-true _ _ (every_use _ r 3)))

  card_make : (c g : ℕ) → Pair (CardInHand m) c g → hand_card_ok m c g ≡ true
  unfolding hand_card_ok state
  card_make c g p = pair_make c g _ p (λ h. every_cons _ _ (le-leb _ _ h.0) (every_cons _ _ (le-leb _ _ h.1) (every_cons _ _ (le-leb _ _ h.2) (every_cons _ _ (le-leb _ _ h.3) every_nil))))

  held_at_is : (t i : ℕ) → i < 2 → held_at m (2 * t + i) ≡ nth m.tracers (8 * t + i)
  unfolding held_at
  held_at_is t i h = let a : 8 * ((2 * t + i) / 2) + (2 * t + i) % 2 ≡ 8 * t + i = omega arith in ap (nth m.tracers) a

  pub tracers_use : length m.tracers ≡ 64 → all 8 (tracer_ok m) ≡ true → all 16 (held_once m) ≡ true → TracersOk (InHand m) (CardInHand m) m.tracers
  unfolding tracer_ok held_once hand next_link hand_card next_granule
  tracers_use l a o = record {
    sized = l;
    places = record {
      held = held;
      once = λ t i u j p ht hu hi hj e f. elim (dec_lt (2 * t + i) (2 * u + j)) [
        | yes h ↦ absurd (before t i u j p hu hi hj e f h)
        | no x ↦ elim (dec_lt (2 * u + j) (2 * t + i)) [ yes h ↦ absurd (before u j t i p ht hj hi f e h) | no y ↦ (omega arith, omega arith) ]
      ];
    };
    hands = record { pair = λ t h. hand_use _ _ (every_use _ (line t h) 2) };
    hand_cards = record { pair = λ t h. card_use _ _ (every_use _ (line t h) 3) };
    spare = record { pair = λ t h. none (eqb-true _ _ (every_use _ (line t h) 4)) (eqb-true _ _ (every_use _ (line t h) 5)) };
  }
    where
      line : (t : ℕ) → t < 8 → tracer_ok m t ≡ true
      line t h = all_use 8 _ a t h

      held : (t i : ℕ) → t < 8 → i < 2 → nth m.tracers (8 * t + i) ≤ 32
      held t zero h hi = let e : 8 * t + 0 ≡ 8 * t = omega arith in rw e (leb-true _ _ (every_use _ (line t h) 0))
      held t (suc zero) h hi = leb-true _ _ (every_use _ (line t h) 1)
      held t (suc (suc i)) h hi = absurd (omega arith)

      before : (t i u j p : ℕ) → u < 8 → i < 2 → j < 2 → nth m.tracers (8 * t + i) ≡ suc p → nth m.tracers (8 * u + j) ≡ suc p → 2 * t + i < 2 * u + j → ⊥
      before t i u j p hu hi hj e f h =
          let y : held_at m (2 * u + j) ≡ suc p = held_at_is u j hj ∙ f in
          let x : held_at m (2 * t + i) ≡ suc p = held_at_is t i hi ∙ e in
          let n = either_no (eqb (held_at m (2 * u + j)) 0) true _ (ne_eqb (held_at m (2 * u + j)) 0 (omega arith)) (all_use 16 _ o (2 * u + j) (omega arith)) in
          eqb-false (held_at m (2 * t + i)) (held_at m (2 * u + j)) (not-true _ (all_use (2 * u + j) _ n (2 * t + i) h)) (x ∙ sym y)

  pub tracers_make : ((g : ℕ) → Marked m g → g < 64 * m.k) → TracersOk (InHand m) (CardInHand m) m.tracers → (all 8 (tracer_ok m) ≡ true) × (all 16 (held_once m) ≡ true)
  unfolding tracer_ok held_once held_at hand next_link hand_card next_granule
  tracers_make r k = (
    all_make 8 _ (λ t h. every_cons _ _ (le-leb _ _ (rw add-zero at (k.places.held t 0 h (omega arith))))
        (every_cons _ _ (le-leb _ _ (k.places.held t 1 h (omega arith)))
        (every_cons _ _ (hand_make r _ _ (k.hands.pair t h)) (every_cons _ _ (card_make _ _ (k.hand_cards.pair t h))
        (every_cons _ _ (eq-eqb _ _ (spare t h).0) (every_cons _ _ (eq-eqb _ _ (spare t h).1) every_nil)))))),
    all_make 16 _ (λ x h. either_make (eqb (held_at m x) 0) true _ (λ _. refl) (λ n. all_make x _ (λ y l. not_make _ (λ q. apart x y h l (eqb-false _ _ n) (eqb-true _ _ q))))),
  )
    where
      spare : (t : ℕ) → t < 8 → (nth m.tracers (8 * t + 6) ≡ 0) × (nth m.tracers (8 * t + 7) ≡ 0)
      spare t h = elim (k.spare.pair t h) [ none a b ↦ (a, b) | one n p ↦ elim p [ ] ]

      apart : (x y : ℕ) → x < 16 → y < x → (held_at m x ≡ 0 → ⊥) → held_at m y ≡ held_at m x → ⊥
      apart x y hx l n q =
          let e : held_at m x ≡ suc (held_at m x - 1) = omega arith in
          omega (arith, k.places.once (y / 2) (y % 2) (x / 2) (x % 2) _ (omega arith) (omega arith) (omega arith) (omega arith) (q ∙ e) e)
