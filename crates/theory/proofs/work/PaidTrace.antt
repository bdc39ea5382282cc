-- Each line of trace pays for its step.
use mathlib.Core.Path.{◌≡◌, refl, sym, ap, subst, ◌∙◌}
use mathlib.Core.Logic.{inl, inr}
use mathlib.Core.Bool.{Bool, true, false, cond}
use mathlib.Core.List.{List}
use Prim.Native.Nat.{ℕ, zero, suc, ◌+◌, ◌*◌, ◌-◌, ◌/◌, ◌≤◌, ◌<◌}
use native.Mathlib.Decide.{ℕ_discrete}
use native.Mathlib.Omega.{arith}
use lib.Dec.{eqb}
use lib.ListN.{length}
use borrow.Author.Tests.{ltb-true, eqb-true, eqb-false, not-true, lt-ltb, eq-eqb}
use Rattle.model.specs.Base.{nth, put, sum_below}
use Rattle.model.specs.Image.{Image, links, dirty, count, entry, input, output, with_packets, with_tracers, set_tracer}
use Rattle.model.specs.Collect.{fullest, pop, take_object, trace_input, trace_pool, trace_output, has_entries, trace_line, trace_step}
use Rattle.model.proofs.Counts.{sum_most, sum_more}
use Rattle.model.proofs.Laws.{false≢, bool_cases, any_use, any_make, every_use, every_nil, every_cons, not_make, nth_put_same, nth_put_other}
use Rattle.theory.specs.Lines.{Lines, count_in}
use Rattle.theory.specs.Work.{links_in, marks_paid, cleans_paid, cards_paid, work_done, is_input, change_owed, entry_owed, packet_owed, packets_owed, work_owed, Pays}
use Rattle.theory.proofs.steps.Reaching.{packet_unheld}
use Rattle.theory.proofs.steps.Tracing.{fullest_ok, trace_cases}
use Rattle.theory.proofs.work.Tracers.{SameAt, both, both_off, both_other, both_first}
use Rattle.theory.proofs.work.PaidSections.{hands_same, held_same, tracers_done, pop_owed}
use Rattle.theory.proofs.work.PaidReach.{Owes, hand_done, hand-owed, trace_hand_pays}

-- ---- an object goes in hand

pub take_object_owes : (m : Image) → length m.tracers ≡ 64 → (t : ℕ) → t < 8 → (g : ℕ) → Owes (links_in m.heap g) m (take_object m t g)
unfolding take_object
take_object_owes m z t ht g = elim (bool_cases (eqb (links m g) 0)) [
  | inl e ↦ rw e (record { same_done = refl; more_owed = omega arith })
  | inr e ↦ rw e (record { same_done = hand_done m t g 0; more_owed = omega (arith, hand-owed m t g 0 z ht) })
]

-- ---- line 2: the last entry of the input comes off

popped_pays : (m : Image) → Lines m → (t p c : ℕ) → t < 8 → p < 32 → count m p ≡ suc c → (b : Bool) → Pays 1 m (cond b (pop m p) (take_object (pop m p) t (entry m p c)))
unfolding work_done marks_paid cleans_paid cards_paid work_owed pop with_packets count entry
popped_pays m o t p c ht hp hc b =
    let n : Image = pop m p in
    let less : work_owed n + (1 + links_in m.heap (entry m p c)) ≤ work_owed m = omega (arith, pop_owed m.heap m.packets m.tracers o.packets_ok.sized o.packets_ok.few p hp c hc) in
    let same : work_done n ≡ work_done m = refl in
    elim (bool_cases b) [
      | inl e ↦ rw e (record { pays = omega (arith, less, same) })
      | inr e ↦ let r = take_object_owes n o.tracers_ok.sized t ht (entry m p c) in rw e (record { pays = omega (arith, less, same, r.same_done, r.more_owed) })
    ]

-- a held packet that has entries, or has none
some_entries : (m : Image) (x : ℕ) → has_entries m x ≡ true → (p : ℕ) × (x ≡ suc p) × (0 < count m p)
unfolding has_entries
some_entries m zero e = absurd (eqb-false 0 0 (not-true _ (every_use _ e 0)) refl)
some_entries m (suc p) e = let z : suc p - 1 ≡ p = omega arith in (p, refl, ltb-true 0 (count m p) (rw z at (every_use _ e 1)))

no_entries : (m : Image) (x p : ℕ) → has_entries m x ≡ false → x ≡ suc p → count m p ≡ 0
unfolding has_entries
no_entries m x p e q = elim (ℕ_discrete (count m p) 0) [
  | yes z ↦ z
  | no nz ↦ let z : x - 1 ≡ p = omega arith in
      false≢ (sym e ∙ every_cons _ _ (not_make (eqb x 0) (λ (w : eqb x 0 ≡ true). absurd (omega (arith, eqb-true x 0 w)))) (every_cons _ _ (rw z (lt-ltb 0 (count m p) (omega arith))) every_nil))
]

trace_input_pays : (m : Image) → Lines m → (t : ℕ) → t < 8 → has_entries m (input m t) ≡ true → Pays 1 m (trace_input m t)
unfolding trace_input input
trace_input_pays m o t ht e =
    let h = some_entries m (input m t) e in
    let p : ℕ = input m t - 1 in
    let i : 8 * t ≡ 8 * t + 0 = omega arith in
    let few : input m t ≤ 32 = rw i (o.tracers_ok.places.held t 0 ht (omega arith)) in
    let same : p ≡ h.0 = omega (arith, h.1) in
    popped_pays m o t p (count m p - 1) ht (omega (arith, h.1)) (omega (arith, rw (← same) at h.2)) (dirty m (entry m p (count m p - 1) / 64))

-- ---- lines 3 and 4: a packet with entries becomes input, in place of none or an empty one

less_owed : (hs ps : List ℕ) (f f' p n : ℕ) → f ≤ f' → sum_below (entry_owed hs ps f p) n ≤ sum_below (entry_owed hs ps f' p) n
unfolding entry_owed
less_owed hs ps f f' p n l = sum_most _ _ n (λ e h. omega arith)

fewer_owed : (hs ps : List ℕ) (p n : ℕ) → 1 ≤ n → sum_below (entry_owed hs ps 0 p) n + 1 ≤ sum_below (entry_owed hs ps 1 p) n
unfolding entry_owed
fewer_owed hs ps p n l = sum_more _ _ n 0 1 (omega arith) (λ e h. omega arith) (omega arith)

-- tracer t's input becomes packet q, which has entries and was no input, in place of one without entries
module _ (m : Image) (us : List ℕ) (t q : ℕ) (ht : t < 8) (hq : q < 32) (now : nth us (8 * t + 0) ≡ suc q)
    (others : (u : ℕ) → (u ≡ t → ⊥) → nth us (8 * u + 0) ≡ nth m.tracers (8 * u + 0)) (rest : (j : ℕ) → (2 ≤ j) × (j < 8) → SameAt j m.tracers us)
    (has : 0 < count_in m.packets q) (empty : (p : ℕ) → nth m.tracers (8 * t + 0) ≡ suc p → count_in m.packets p ≡ 0)
    (no_input : (u : ℕ) → u < 8 → nth m.tracers (8 * u + 0) ≡ suc q → ⊥) where
  here_now : change_owed us q ≡ 0
  unfolding change_owed is_input
  here_now = ap (λ b. cond b 0 1) (any_make 8 _ t ht (eq-eqb _ _ now))

  here_was : change_owed m.tracers q ≡ 1
  unfolding change_owed is_input
  here_was =
      let none : is_input m.tracers q ≡ false = not-true _ (not_make (is_input m.tracers q) (λ e. let r = any_use 8 _ e in no_input r.0 r.1 (eqb-true _ _ r.2))) in
      ap (λ b. cond b 0 1) none

  -- a packet with entries that was input is so still
  stays_input : (p : ℕ) → (count_in m.packets p ≡ 0 → ⊥) → is_input m.tracers p ≡ true → is_input us p ≡ true
  unfolding is_input
  stays_input p nz e =
      let r = any_use 8 _ e in
      let w : nth m.tracers (8 * r.0 + 0) ≡ suc p = eqb-true _ _ r.2 in
      any_make 8 _ r.0 r.1 (eq-eqb _ _ (others r.0 (λ s. nz (empty p (subst (λ x. nth m.tracers (8 * x + 0) ≡ suc p) s w))) ∙ w))

  change_less : (p : ℕ) → (count_in m.packets p ≡ 0 → ⊥) → change_owed us p ≤ change_owed m.tracers p
  unfolding change_owed
  change_less p nz = elim (bool_cases (is_input m.tracers p)) [
    | inl e ↦ rw (e, stays_input p nz e) (omega arith)
    | inr e ↦ elim (bool_cases (is_input us p)) [ inl f ↦ rw (e, f) (omega arith) | inr f ↦ rw (e, f) (omega arith) ]
  ]

  packet_less : (p : ℕ) → packet_owed m.heap m.packets us p ≤ packet_owed m.heap m.packets m.tracers p
  unfolding packet_owed sum_below
  packet_less p = elim (ℕ_discrete (count_in m.packets p) 0) [
    | yes z ↦ rw z (omega arith)
    | no nz ↦ less_owed m.heap m.packets (change_owed us p) (change_owed m.tracers p) p (count_in m.packets p) (change_less p nz)
  ]

  packet_fewer : packet_owed m.heap m.packets us q + 1 ≤ packet_owed m.heap m.packets m.tracers q
  unfolding packet_owed
  packet_fewer = rw (here_now, here_was) (fewer_owed m.heap m.packets q (count_in m.packets q) has)

  input_pays : Pays 1 m (with_tracers m us)
  unfolding work_owed with_tracers packets_owed
  input_pays = record {
    pays = omega (
      arith,
      tracers_done m us (rest 4 (omega arith)) (rest 5 (omega arith)),
      sum_more (packet_owed m.heap m.packets us) (packet_owed m.heap m.packets m.tracers) 32 q 1 hq (λ p h. packet_less p) packet_fewer,
      hands_same m.tracers us m.heap (rest 2 (omega arith)) (rest 3 (omega arith)),
      held_same m.tracers us (rest 4 (omega arith)),
    );
  }

module _ (m : Image) (o : Lines m) (t : ℕ) (ht : t < 8) (e : has_entries m (input m t) ≡ false) where
  was_empty : (p : ℕ) → nth m.tracers (8 * t + 0) ≡ suc p → count_in m.packets p ≡ 0
  unfolding count input
  was_empty p q = let i : 8 * t ≡ 8 * t + 0 = omega arith in no_entries m (input m t) p e (ap (nth m.tracers) i ∙ q)

  pool_pays : (fullest m ≡ 0 → ⊥) → Pays 1 m (trace_pool m t)
  unfolding trace_pool set_tracer count
  pool_pays nz =
      let q : ℕ = fullest m - 1 in
      let f = fullest_ok m q (omega arith) in
      let us : List ℕ = put m.tracers (8 * t + 0) (fullest m) in
      let now : nth us (8 * t + 0) ≡ suc q = nth_put_same m.tracers (8 * t + 0) (fullest m) (omega (arith, o.tracers_ok.sized)) ∙ omega arith in
      input_pays m us t q ht f.0 now (λ u ne. nth_put_other _ _ _ _ (omega arith)) (λ j h u. nth_put_other _ _ _ _ (omega (arith, h)))
      f.2 was_empty (λ u hu. packet_unheld m q f.1 u 0 hu (omega arith))

  swap_pays : has_entries m (output m t) ≡ true → Pays 1 m (trace_output m t)
  unfolding trace_output set_tracer with_tracers output count
  swap_pays h =
      let (q, is-it, has) = some_entries m (output m t) h in
      let places = o.tracers_ok.places in
      let us : List ℕ = both m.tracers t 0 (output m t) 1 0 in
      input_pays m us t q ht (omega (arith, places.held t 1 ht (omega arith))) (both_first m.tracers t 0 (output m t) 1 0 o.tracers_ok.sized ht (omega arith) ∙ is-it)
      (λ u ne. both_other m.tracers t 0 (output m t) 1 0 u 0 ne (omega arith)) (λ j l. both_off m.tracers t 0 (output m t) 1 0 j (omega (arith, l)))
      has was_empty (λ u hu w. omega (arith, (places.once t 1 u 0 q ht hu (omega arith) (omega arith) is-it w).1))

-- ---- trace

pub trace_pays : (m : Image) → Lines m → (t : ℕ) → t < 8 → eqb (trace_line m t) 0 ≡ false → Pays 1 m (trace_step m t)
trace_pays m o t ht =
    trace_cases (λ x n. eqb x 0 ≡ false → Pays 1 m n) m t (λ n. false≢ (sym n))
    (λ nz n. trace_hand_pays m o t ht nz) (λ z e n. trace_input_pays m o t ht e) (λ e nz n. pool_pays m o t ht e nz) (λ e h n. swap_pays m o t ht e h)
