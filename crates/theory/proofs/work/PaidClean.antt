-- Each line of clean pays for its step, where no card is in hand twice.
use mathlib.Core.Path.{◌≡◌, refl, sym, ap, subst, ◌∙◌}
use mathlib.Core.Logic.{inl, inr}
use mathlib.Core.Bool.{true, false, cond}
use mathlib.Core.List.{List}
use Prim.Native.Nat.{ℕ, suc, ◌+◌, ◌*◌, ◌-◌, ◌/◌, ◌≤◌, ◌<◌}
use native.Mathlib.Decide.{ℕ_discrete}
use native.Mathlib.Omega.{arith}
use lib.Dec.{leb, eqb}
use lib.ListN.{length}
use borrow.Author.Tests.{leb-true, eqb-true, not-true, le-leb, lt-leb, eq-eqb, ne_eqb}
use Rattle.model.specs.Base.{nth, put, every}
use Rattle.model.specs.Image.{Image, marked, state, hand_card, next_granule, with_cards, with_tracers, set_state, set_tracer}
use Rattle.model.specs.Collect.{put_card, take_object, next_marked, clean_to, clean_card, lowest_dirty, take_card, clean_line, clean_step}
use Rattle.model.proofs.Counts.{sum_more, sum_change}
use Rattle.model.proofs.Laws.{false≢, any_use, any_make, every_use, every_nil, every_cons, not_make, nth_put_same, nth_put_other, length_put}
use Rattle.theory.specs.Lines.{Lines}
use Rattle.theory.specs.Work.{links_in, to_come, taken, is_cleaned, clean_paid, card_paid, marks_paid, cleans_paid, cards_paid, work_done, card_owed, cards_owed, work_owed, Pays, CardsOnce}
use Rattle.theory.proofs.steps.Cleaning.{card_in_hand, next_some, dirty_below, dirty-state, clean_cases}
use Rattle.theory.proofs.steps.Steps.{zero_or_suc}
use Rattle.theory.proofs.work.Tracers.{SameAt, both, both_off, both_other, both_first, both_second}
use Rattle.theory.proofs.work.PaidSections.{packets_same, hands_same, clean_most, cleans_most}
use Rattle.theory.proofs.work.PaidReach.{trace_hand_pays}
use Rattle.theory.proofs.work.PaidTrace.{take_object_owes}

-- ---- what is to come on a card in hand

-- tracer u has x to come on the card in its hand
record Comes (ts : List ℕ) (x u : ℕ) : Type 0 where
  on_it : nth ts (8 * u + 4) ≡ suc (x / 64)
  past : nth ts (8 * u + 5) ≤ x

come_use : (ts : List ℕ) (x : ℕ) → to_come ts x ≡ true → (u : ℕ) × (u < 8) × Comes ts x u
unfolding to_come
come_use ts x e = let r = any_use 8 _ e in (r.0, r.1, record { on_it = eqb-true _ _ (every_use _ r.2 0); past = leb-true _ _ (every_use _ r.2 1) })

come_make : (ts : List ℕ) (x u : ℕ) → u < 8 → Comes ts x u → to_come ts x ≡ true
unfolding to_come
come_make ts x u h c = any_make 8 _ u h (every_cons _ _ (eq-eqb _ _ c.on_it) (every_cons _ _ (le-leb _ _ c.past) every_nil))

-- ---- another card in hand

module _ (m : Image) (sized : length m.tracers ≡ 64) (t : ℕ) (ht : t < 8) (c n : ℕ) where
  abbrev us : List ℕ
  us = both m.tracers t 4 c 5 n

  other_comes : (x u : ℕ) → (u ≡ t → ⊥) → Comes us x u → Comes m.tracers x u
  other_comes x u ne k = record {
    on_it = sym (both_other m.tracers t 4 c 5 n u 4 ne (omega arith)) ∙ k.on_it;
    past = rw (both_other m.tracers t 4 c 5 n u 5 ne (omega arith)) at k.past;
  }

  here_comes : (x : ℕ) → Comes us x t → (c ≡ suc (x / 64)) × (n ≤ x)
  here_comes x k = (sym (both_first m.tracers t 4 c 5 n sized ht (omega arith)) ∙ k.on_it, rw (both_second m.tracers t 4 c 5 n sized ht (omega arith)) at k.past)

  -- what comes came before, if that is so of what comes for t
  came : (x : ℕ) → (c ≡ suc (x / 64) → n ≤ x → Comes m.tracers x t) → to_come us x ≡ true → to_come m.tracers x ≡ true
  came x f e =
      let (u, h, k) = come_use us x e in
      elim (ℕ_discrete u t) [
        | yes q ↦ let r = here_comes x (subst (Comes us x) q k) in come_make m.tracers x t ht (f r.0 r.1)
        | no ne ↦ come_make m.tracers x u h (other_comes x u ne k)
      ]

  -- one more in hand, or one less
  cards_change : cards_owed us + card_owed m.tracers t ≡ cards_owed m.tracers + cond (eqb c 0) 0 1
  unfolding cards_owed card_owed
  cards_change =
      let here : card_owed us t ≡ cond (eqb c 0) 0 1 = rw (both_first m.tracers t 4 c 5 n sized ht (omega arith)) in
      omega (arith, sum_change (card_owed m.tracers) (card_owed us) 8 t ht (λ u h ne. rw (both_other m.tracers t 4 c 5 n u 4 ne (omega arith))), here)

  card-owed : work_owed (put_card m t c n) + card_owed m.tracers t ≡ work_owed m + cond (eqb c 0) 0 1
  unfolding work_owed put_card set_tracer with_tracers
  card-owed =
      let same : (j : ℕ) → j < 4 → SameAt j m.tracers us = λ j h. both_off m.tracers t 4 c 5 n j (omega arith) in
      omega (arith, packets_same m.tracers us m.heap m.packets (same 0 (omega arith)), hands_same m.tracers us m.heap (same 2 (omega arith)) (same 3 (omega arith)), cards_change)

held_one : (m : Image) (t : ℕ) → (hand_card m t ≡ 0 → ⊥) → card_owed m.tracers t ≡ 1
unfolding card_owed hand_card
held_one m t nz = rw (ne_eqb (nth m.tracers (8 * t + 4)) 0 nz)

held_none : (m : Image) (t : ℕ) → hand_card m t ≡ 0 → card_owed m.tracers t ≡ 0
unfolding card_owed hand_card
held_none m t z = rw z

-- ---- line 2: the card in hand

module _ (m : Image) (o : Lines m) (t : ℕ) (ht : t < 8) (nz : hand_card m t ≡ 0 → ⊥) where
  z : length m.tracers ≡ 64
  z = o.tracers_ok.sized

  -- none is left: the card is let go
  let_go_pays : Pays 1 m (put_card m t 0 0)
  unfolding work_done marks_paid cleans_paid cards_paid put_card set_tracer with_tracers with_cards
  let_go_pays =
      let done : cleans_paid m ≤ cleans_paid (put_card m t 0 0)
      = cleans_most m m.marks m.cards (both m.tracers t 4 0 5 0) (λ x k. k) (λ c k. k) (λ x k. came m z t ht 0 0 x (λ e l. absurd (omega arith))) in
      record { pays = omega (arith, done, card-owed m z t ht 0 0, held_one m t nz) }

  -- the next marked object, g, is passed: it is cleaned from here on
  module _ (one : CardsOnce m.tracers) (g : ℕ) (mk : marked m g ≡ true) (from : next_granule m t ≤ g) (under : g < 64 * hand_card m t) where
    abbrev onward : List ℕ
    onward = both m.tracers t 4 (hand_card m t) 5 (suc g)

    on_card : nth m.tracers (8 * t + 4) ≡ suc (g / 64)
    unfolding hand_card next_granule
    on_card = omega (arith, (card_in_hand m o t ht nz).2)

    was_coming : to_come m.tracers g ≡ true
    unfolding next_granule
    was_coming = come_make m.tracers g t ht (record { on_it = on_card; past = from })

    not_coming : to_come onward g ≡ false
    unfolding hand_card
    not_coming = not-true _ (not_make (to_come onward g) (λ e.
        let (u, hu, k) = come_use onward g e in
        elim (ℕ_discrete u t) [
          | yes s ↦ omega (arith, (here_comes m z t ht (hand_card m t) (suc g) g (subst (Comes onward g) s k)).1)
          | no ne ↦ ne (one.once u t (g / 64) hu ht (other_comes m z t ht (hand_card m t) (suc g) g u ne k).on_it on_card)
        ]))

    is_taken : taken m.cards (g / 64) ≡ true
    unfolding taken hand_card
    is_taken = let e : hand_card m t - 1 ≡ g / 64 = omega (arith, on_card) in le-leb _ _ (rw e at (card_in_hand m o t ht nz).1)

    passed_done : work_done m + (1 + links_in m.heap g) ≤ work_done (put_card m t (hand_card m t) (suc g))
    unfolding work_done marks_paid cleans_paid cards_paid clean_paid is_cleaned every put_card set_tracer with_tracers marked hand_card next_granule
    passed_done =
        let more : cleans_paid m + (1 + links_in m.heap g) ≤ cleans_paid (put_card m t (hand_card m t) (suc g))
        = sum_more _ _ (64 * m.k) g (1 + links_in m.heap g) (o.marks_ok.on_starts g mk).0
        (λ x h. clean_most m m.marks m.cards onward (λ y k. k) (λ c k. k) (λ y k. came m z t ht (hand_card m t) (suc g) y (λ e l. record { on_it = e; past = omega arith })) x)
        (rw (mk, is_taken, was_coming, not_coming) (omega arith)) in
        omega (arith, more)

    passed_pays : Pays 1 m (take_object (put_card m t (hand_card m t) (suc g)) t g)
    unfolding put_card set_tracer with_tracers
    passed_pays =
        let n : Image = put_card m t (hand_card m t) (suc g) in
        let r = take_object_owes n (simp length_put z) t ht g in
        let one_left : ◌≡◌ {A = ℕ} (cond (eqb (hand_card m t) 0) 0 1) 1 = rw (ne_eqb (hand_card m t) 0 nz) in
        record { pays = omega (arith, passed_done, card-owed m z t ht (hand_card m t) (suc g), held_one m t nz, one_left, r.same_done, r.more_owed) }

  clean_card_pays : CardsOnce m.tracers → Pays 1 m (clean_card m t)
  unfolding clean_card clean_to
  clean_card_pays one =
      elim (zero_or_suc (next_marked m (64 * hand_card m t - next_granule m t) (next_granule m t))) [
        | inl q ↦ rw q let_go_pays
        | inr (g, q) ↦ let r = next_some m _ _ g q in rw q (passed_pays one g r.is_marked r.from (omega (arith, r.under, (card_in_hand m o t ht nz).3)))
      ]

-- ---- line 3: a dirty card is taken

module _ (m : Image) (o : Lines m) (t c : ℕ) (ht : t < 8) (empty : hand_card m t ≡ 0) (hc : c < m.k) (s : state m c ≡ 1) where
  abbrev ds : List ℕ
  ds = put m.cards c 2

  abbrev begun : List ℕ
  begun = both m.tracers t 4 (suc c) 5 (64 * c)

  not_taken : taken m.cards c ≡ false
  unfolding taken state
  not_taken = lt-leb 2 (nth m.cards c) (omega arith)

  now_taken : taken ds c ≡ true
  unfolding taken
  now_taken = le-leb 2 (nth (put m.cards c 2) c) (omega (arith, nth_put_same m.cards c 2 (omega (arith, o.cards_ok.sized))))

  other_taken : (x : ℕ) → (x ≡ c → ⊥) → taken ds x ≡ taken m.cards x
  unfolding taken
  other_taken x ne = ap (leb 2) (nth_put_other m.cards c x 2 ne)

  -- no taken card is the one
  not_it : (x : ℕ) → taken m.cards x ≡ true → x ≡ c → ⊥
  not_it x k e = false≢ (sym not_taken ∙ subst (λ y. taken m.cards y ≡ true) e k)

  cards_more : cards_paid m + 2 ≡ cards_paid (take_card m t c)
  unfolding cards_paid card_paid take_card put_card set_tracer with_tracers set_state with_cards
  cards_more =
      let was : card_paid m.cards c ≡ 0 = rw not_taken in
      let now : card_paid ds c ≡ 2 = rw now_taken in
      omega (arith, sum_change (card_paid m.cards) (card_paid ds) m.k c hc (λ x h ne. rw (other_taken x ne)), was, now)

  take_done : work_done m + 2 ≤ work_done (take_card m t c)
  unfolding work_done marks_paid take_card put_card set_tracer with_tracers set_state with_cards
  take_done =
      let cleans : cleans_paid m ≤ cleans_paid (take_card m t c)
      = cleans_most m m.marks ds begun (λ x k. k) (λ x k. other_taken x (not_it x k) ∙ k)
      (λ x k. came m o.tracers_ok.sized t ht (suc c) (64 * c) x (λ e l. absurd (not_it (x / 64) k (omega arith)))) in
      omega (arith, cleans, cards_more)

  take_card_pays : Pays 1 m (take_card m t c)
  unfolding take_card set_state with_cards
  take_card_pays =
      let n : Image = set_state m c 2 in
      let same : work_owed n ≡ work_owed m = unfold work_owed in refl in
      let one : ◌≡◌ {A = ℕ} (cond (eqb (suc c) 0) 0 1) 1 = rw (ne_eqb (suc c) 0 (omega arith)) in
      record { pays = omega (arith, take_done, card-owed n o.tracers_ok.sized t ht (suc c) (64 * c), held_none m t empty, same, one) }

-- ---- clean

pub clean_pays : (m : Image) → Lines m → CardsOnce m.tracers → (t : ℕ) → t < 8 → eqb (clean_line m t) 0 ≡ false → Pays 1 m (clean_step m t)
clean_pays m o one t ht =
    clean_cases (λ x n. eqb x 0 ≡ false → Pays 1 m n) m t (λ n. false≢ (sym n))
    (λ nz n. trace_hand_pays m o t ht nz) (λ z nz n. clean_card_pays m o t ht nz one) (λ e nz n. take_card_pays m o t (lowest_dirty m - 1) ht e (dirty_below m nz) (dirty-state m nz))
