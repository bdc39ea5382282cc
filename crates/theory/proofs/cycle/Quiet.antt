-- The collector's steps but finish leave heap, start bits, registers and owed cards as they are, and mark only what they reach.
use mathlib.Core.Path.{◌≡◌, refl, sym, subst, ◌∙◌}
use mathlib.Core.Logic.{inl, inr, ⊎_elim}
use mathlib.Core.Bool.{Bool, true, false, cond}
use mathlib.Core.List.{List, [], ◌∷◌, Memᴰ}
use Prim.Native.Nat.{ℕ, zero, suc, ◌+◌, ◌*◌, ◌-◌, ◌/◌}
use native.Mathlib.Decide.{ℕ_discrete}
use native.Mathlib.Omega.{arith}
use lib.Dec.{eqb, ltb}
use lib.ListN.{take, drop}
use borrow.Author.Tests.{eqb-false}
use Rattle.model.specs.Base.{some}
use Rattle.model.specs.Image.{Image, word, is_start, marked, links, link, reg, owed, hand, next_link, hand_card, next_granule, input, entry, count, dirty, set_mark, mark_object, set_state, undirty_card, set_tracer, set_scanned, with_marks, with_counts, with_cards, with_packets, with_tracers, with_players, with_general, fields_open}
use Rattle.model.specs.Collect.{append, pop, take_output, enter, reach, reach_all, scan_player, begin_cycle, put_hand, take_object, trace_hand, trace_input, trace_pool, trace_output, trace_step, put_card, next_marked, clean_to, clean_card, take_card, clean_step}
use Rattle.model.proofs.Laws.{some_false, nth_put_other}
use Rattle.model.proofs.Bits.{set_bit_other}
use Rattle.theory.specs.Cycle.{Quiet}
use Rattle.theory.proofs.steps.Reaching.{enter_cases}
use Rattle.theory.proofs.steps.Tracing.{trace_cases}
use Rattle.theory.proofs.steps.Cleaning.{clean_cases}

-- the image with other cards, packets, tracers, players and general words
abbrev pub silent : Image → (cs ps ts ls gs : List ℕ) → Image
silent m cs ps ts ls gs = record { width = m.width; k = m.k; heap = m.heap; starts = m.starts; marks = m.marks; cards = cs; counts = m.counts; regs = m.regs; packets = ps; tracers = ts; players = ls; general = gs }

-- the next link of the object in hand, if it is an object, passes
abbrev pub NextSource : (ℕ → Type 0) → Image → ℕ → Type 0
NextSource P m t = (hand m t ≡ 0 → ⊥) → (link m (hand m t) (next_link m t) ≡ 0 → ⊥) → P (link m (hand m t) (next_link m t))

module _ {P : ℕ → Type 0} where
  pub quiet_refl : (m : Image) → Quiet P m m
  quiet_refl m = record { same_word = λ g i. refl; same_start = λ g. refl; same_reg = λ p r. refl; same_owed = λ p. refl; new_marks = λ g k. inl k }

  pub quiet_trans : {l m n : Image} → Quiet P l m → Quiet P m n → Quiet P l n
  quiet_trans x y = record {
    same_word = λ g i. y.same_word g i ∙ x.same_word g i;
    same_start = λ g. y.same_start g ∙ x.same_start g;
    same_reg = λ p r. y.same_reg p r ∙ x.same_reg p r;
    same_owed = λ p. y.same_owed p ∙ x.same_owed p;
    new_marks = λ g k. ⊎_elim (λ j. x.new_marks g j) (λ p. inr p) (y.new_marks g k);
  }

  quiet_cond : {m x y : Image} (b : Bool) → Quiet P m x → Quiet P m y → Quiet P m (cond b x y)
  quiet_cond true p q = p
  quiet_cond false p q = q

  quiet_silent : (m : Image) (cs ps ts gs : List ℕ) → Quiet P m (silent m cs ps ts m.players gs)
  unfolding word is_start reg owed marked
  quiet_silent m cs ps ts gs = record { same_word = λ g i. refl; same_start = λ g. refl; same_reg = λ p r. refl; same_owed = λ p. refl; new_marks = λ g k. inl k }

  -- ---- reach

  quiet_mark : (m : Image) (g : ℕ) → P g → Quiet P m (mark_object m g)
  unfolding word is_start reg owed marked mark_object set_mark with_marks with_counts
  quiet_mark m g ok = record {
    same_word = λ h i. refl;
    same_start = λ h. refl;
    same_reg = λ p r. refl;
    same_owed = λ p. refl;
    new_marks = λ h k. elim (ℕ_discrete h g) [ yes e ↦ inr (subst P (sym e) ok) | no ne ↦ inl (sym (set_bit_other m.width m.marks g h ne) ∙ k) ];
  }

  quiet_enter : (m : Image) (t g : ℕ) → Quiet P m (enter m t g)
  quiet_enter m t g = enter_cases (Quiet P m) m t g (unfold fields_open in quiet_silent m _ _ _ _) (λ p e. unfold append with_packets in quiet_silent m _ _ _ _)

  -- what is reached, if it is an object at all, passes
  pub quiet_reach : (m : Image) (t g : ℕ) → ((g ≡ 0 → ⊥) → P g) → Quiet P m (reach m t g)
  unfolding reach take_output set_tracer with_tracers
  quiet_reach m t g ok = go (some (eqb g 0 ∷ marked m g ∷ [])) refl
    where
      go : (b : Bool) → some (eqb g 0 ∷ marked m g ∷ []) ≡ b → Quiet P m (elim b [ true ↦ m | false ↦ enter (take_output (mark_object m g) t) t g ])
      go true e = quiet_refl m
      go false e = quiet_trans (quiet_mark m g (ok (eqb-false g 0 (some_false _ e 0)))) (quiet_trans (quiet_silent (mark_object m g) _ _ _ _) (quiet_enter (take_output (mark_object m g) t) t g))

  pub quiet_reach_all : (m : Image) (t : ℕ) (l : List ℕ) → ((g : ℕ) → Memᴰ g l → (g ≡ 0 → ⊥) → P g) → Quiet P m (reach_all m t l)
  unfolding reach_all
  quiet_reach_all m t [] ok = quiet_refl m
  quiet_reach_all m t (g ∷ l) ok = quiet_trans (quiet_reach m t g (ok g (Memᴰ.head refl))) (quiet_reach_all (reach m t g) t l (λ h k. ok h (Memᴰ.tail k)))

  -- ---- kinds

  pub quiet_undirty : (m : Image) (c : ℕ) → Quiet P m (undirty_card m c)
  unfolding undirty_card set_state with_cards
  quiet_undirty m c = quiet_silent m _ _ _ _

  pub quiet_begin : (m : Image) → Quiet P m (begin_cycle m)
  unfolding begin_cycle with_cards with_general
  quiet_begin m = quiet_silent m _ _ _ _

  quiet_scanned : (m : Image) (p : ℕ) → Quiet P m (set_scanned m p)
  unfolding set_scanned with_players word is_start reg owed marked
  quiet_scanned m p = record { same_word = λ g i. refl; same_start = λ g. refl; same_reg = λ q r. refl; same_owed = λ q. nth_put_other m.players (2 * p + 1) (2 * q) 1 (λ e. omega arith); new_marks = λ g k. inl k }

  pub quiet_scan : (m : Image) (t p : ℕ) → ((g : ℕ) → Memᴰ g (take 16 (drop (16 * p) m.regs)) → (g ≡ 0 → ⊥) → P g) → Quiet P m (scan_player m t p)
  unfolding scan_player
  quiet_scan m t p ok = quiet_trans (quiet_reach_all m t _ ok) (quiet_scanned _ p)

  quiet_hand : (m : Image) (t g i : ℕ) → Quiet P m (put_hand m t g i)
  unfolding put_hand set_tracer with_tracers
  quiet_hand m t g i = quiet_silent m _ _ _ _

  quiet_take : (m : Image) (t g : ℕ) → Quiet P m (take_object m t g)
  unfolding take_object
  quiet_take m t g = quiet_cond (eqb (links m g) 0) (quiet_refl m) (quiet_hand m t g 0)

  quiet_trace_hand : (m : Image) (t : ℕ) → NextSource P m t → (hand m t ≡ 0 → ⊥) → Quiet P m (trace_hand m t)
  unfolding trace_hand
  quiet_trace_hand m t ok h =
      let q = quiet_reach m t (link m (hand m t) (next_link m t)) (ok h) in
      quiet_cond (ltb (suc (next_link m t)) (links m (hand m t))) (quiet_trans q (quiet_hand _ t _ _)) (quiet_trans q (quiet_hand _ t 0 0))

  quiet_trace_input : (m : Image) (t : ℕ) → Quiet P m (trace_input m t)
  unfolding trace_input
  quiet_trace_input m t =
      quiet_cond (dirty m (entry m (input m t - 1) (count m (input m t - 1) - 1) / 64))
      (unfold pop fields_open in quiet_silent m _ _ _ _)
      (quiet_trans {m = pop m (input m t - 1)} (unfold pop with_packets in quiet_silent m _ _ _ _) (quiet_take (pop m (input m t - 1)) t _))

  pub quiet_trace : (m : Image) (t : ℕ) → NextSource P m t → Quiet P m (trace_step m t)
  unfolding trace_pool trace_output set_tracer with_tracers
  quiet_trace m t ok =
      trace_cases (λ x n. Quiet P m n) m t (quiet_refl m) (quiet_trace_hand m t ok) (λ z e. quiet_trace_input m t) (λ e nz. quiet_silent m _ _ _ _) (λ e h. quiet_silent m _ _ _ _)

  quiet_clean_card : (m : Image) (t : ℕ) → Quiet P m (clean_card m t)
  unfolding clean_card
  quiet_clean_card m t = go (next_marked m (64 * hand_card m t - next_granule m t) (next_granule m t))
    where
      go : (x : ℕ) → Quiet P m (clean_to m t x)
      go zero = unfold clean_to put_card fields_open in quiet_silent m _ _ _ _
      go (suc g) =
          let c : Quiet P m (put_card m t (hand_card m t) (suc g)) = unfold put_card set_tracer with_tracers in quiet_silent m _ _ _ _ in
          unfold clean_to in quiet_trans c (quiet_take _ t g)

  pub quiet_clean : (m : Image) (t : ℕ) → NextSource P m t → Quiet P m (clean_step m t)
  unfolding take_card put_card set_tracer with_tracers set_state with_cards
  quiet_clean m t ok = clean_cases (λ x n. Quiet P m n) m t (quiet_refl m) (quiet_trace_hand m t ok) (λ z nz. quiet_clean_card m t) (λ e nz. quiet_silent m _ _ _ _)
