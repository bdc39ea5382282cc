-- Every step but an accepted finish keeps start bits and what is live.
use mathlib.Core.Path.{◌≡◌, refl, sym, subst, ◌∙◌}
use mathlib.Core.Bool.{true, false}
use mathlib.Core.List.{Memᴰ}
use Prim.Native.Nat.{ℕ, ◌+◌, ◌*◌, ◌-◌, ◌<◌}
use native.Mathlib.Omega.{arith}
use lib.Dec.{ltb}
use lib.ListN.{take, drop, length-take}
use borrow.Author.Tests.{eqb-false, leb-false}
use Rattle.model.specs.Image.{Image, is_start, size, links, levels, reg, hand, next_link, set_word, set_owed, with_players, dirty_card, set_state, with_cards}
use Rattle.model.specs.Records.{Step, Kind, new, load, store, barrier, hand_over, drop_reg, read, write, begin, scan, trace, clean, finish, is_due, undirty, unknown}
use Rattle.model.specs.Mutate.{Placing}
use Rattle.model.specs.Steps.{off_desk, object, no_object, past_end, refusal, accept, act, step}
use Rattle.model.proofs.Laws.{some_false}
use Rattle.model.proofs.Entries.{nth_take, nth_drop}
use Rattle.model.proofs.Found.{place_of}
use Rattle.theory.specs.Cycle.{Facts, Source, in_reg, in_link, is_marked, Carries, NoFinish, Live}
use Rattle.theory.proofs.cycle.Quiet.{NextSource, quiet_refl, quiet_begin, quiet_scan, quiet_trace, quiet_clean, quiet_undirty}
use Rattle.theory.proofs.cycle.Carries.{quiet_carries, carries_silent, set_reg_carries, set_word_carries, new_carries}
use Rattle.theory.proofs.cycle.Live.{live_carried}
use Rattle.theory.proofs.steps.Steps.{step_number, line, step_cases, not_above, good_size}
use Rattle.theory.specs.New.{NewLeaves}

carries_refl : (m : Image) → Carries m m
carries_refl m = quiet_carries m m (quiet_refl m)

-- the link that a tracer reaches next is one of a marked object
next_source : (m : Image) → Facts m → (t : ℕ) → t < 8 → NextSource (Source m) m t
next_source m f t h hz nz = let r = f.hand-ok t h hz in in_link (hand m t) (next_link m t) (is_marked r.0) (f.proper.mark_start _ r.0) r.1 refl nz

-- what a scan reaches is in registers
scan_source : (m : Image) (p : ℕ) → p < 16 → (g : ℕ) → Memᴰ g (take 16 (drop (16 * p) m.regs)) → (g ≡ 0 → ⊥) → Source m g
unfolding reg
scan_source m p hp g k nz =
    let r = place_of g (take 16 (drop (16 * p) m.regs)) k in
    let h : r.0 < 16 = omega (arith, r.1, length-take 16 (drop (16 * p) m.regs)) in
    in_reg p r.0 hp h (sym (nth_drop (16 * p) m.regs r.0) ∙ (sym (nth_take 16 (drop (16 * p) m.regs) r.0 h) ∙ r.2)) nz

-- ---- the kinds

module _ (rule : Placing) (m : Image) (s : Step) (f : Facts m) where
  -- what a register on the desk holds
  held : (r : ℕ) → ltb 15 s.who ≡ false → ltb 15 r ≡ false → (object m s r ≡ 0 → ⊥) → Source m (object m s r)
  unfolding object
  held r hp hr nz = in_reg s.who r (not_above 15 s.who hp) (not_above 15 r hr) refl nz

  -- and where it holds something, that is an object
  held_start : (r : ℕ) → ltb 15 s.who ≡ false → ltb 15 r ≡ false → (object m s r ≡ 0 → ⊥) → is_start m (object m s r) ≡ true
  unfolding object
  held_start r hp hr nz = f.proper.reg_start s.who r (not_above 15 s.who hp) (not_above 15 r hr) nz

  act_carries : NewLeaves rule m s → (n : Kind) → refusal m s n ≡ 0 → (n ≡ finish → ⊥) → Carries m (act rule m s n).image
  unfolding act accept off_desk no_object past_end levels set_owed with_players dirty_card set_state with_cards
  act_carries np new e nf = new_carries m _ f.laid (np e) (good_size s (line m s new e 5)).2
  act_carries np load e nf =
      let d = some_false _ (line m s load e 1) in
      let nz : object m s s.b ≡ 0 → ⊥ = eqb-false _ _ (line m s load e 3) in
      set_reg_carries m s.who s.a _ (λ z. in_link (object m s s.b) s.c (held s.b (d 0) (d 2) nz) (held_start s.b (d 0) (d 2) nz) (leb-false _ _ (line m s load e 4)) refl z)
  act_carries np store e nf =
      let d = some_false _ (line m s store e 1) in
      let g : ℕ = object m s s.a in
      let nz : g ≡ 0 → ⊥ = eqb-false _ _ (line m s store e 3) in
      let st = held_start s.a (d 0) (d 1) nz in
      let l : s.b < links m g = leb-false _ _ (line m s store e 4) in
      carries_silent m (set_word m g (2 + s.b) (object m s s.c)) _ _ _ _ _
      (set_word_carries m f.laid g s.b (object m s s.c) st (omega (arith, l, (f.laid.inside g st).0)) (λ k. held s.c (d 0) (d 3)))
  act_carries np barrier e nf = carries_silent m m _ _ _ _ _ (carries_refl m)
  act_carries np hand_over e nf = let d = some_false _ (line m s hand_over e 1) in set_reg_carries m s.b s.c _ (held s.a (d 0) (d 1))
  act_carries np drop_reg e nf = set_reg_carries m s.who s.a 0 (λ z. absurd (z refl))
  act_carries np read e nf = carries_refl m
  act_carries np write e nf =
      let d = some_false _ (line m s write e 1) in
      let g : ℕ = object m s s.a in
      let nz : g ≡ 0 → ⊥ = eqb-false _ _ (line m s write e 3) in
      let l : s.b < 4 * size m g - 2 - links m g = leb-false _ _ (line m s write e 4) in
      let a : 2 + links m g + s.b ≡ 2 + (links m g + s.b) = omega arith in
      subst (λ i. Carries m (set_word m g i s.c)) (sym a)
      (set_word_carries m f.laid g (links m g + s.b) s.c (held_start s.a (d 0) (d 1) nz) (omega arith) (λ k. absurd (omega arith)))
  act_carries np begin e nf = quiet_carries m _ (quiet_begin m)
  act_carries np scan e nf = quiet_carries m _ (quiet_scan m s.who s.a (scan_source m s.a (not_above 15 s.a (some_false _ (line m s scan e 1) 1))))
  act_carries np trace e nf = quiet_carries m _ (quiet_trace m s.who (next_source m f s.who (not_above 7 s.who (some_false _ (line m s trace e 1) 0))))
  act_carries np clean e nf = quiet_carries m _ (quiet_clean m s.who (next_source m f s.who (not_above 7 s.who (some_false _ (line m s clean e 1) 0))))
  act_carries np finish e nf = absurd (nf refl)
  act_carries np is_due e nf = carries_refl m
  act_carries np undirty e nf = quiet_carries m _ (quiet_undirty m s.a)
  act_carries np unknown e nf = carries_refl m

  -- ---- every step but an accepted finish

  -- what is live stays so
  pub step_live : NewLeaves rule m s → NoFinish rule m s → (S : ℕ → Type 0) → Live S m → Live S (step rule m s).image
  step_live np nf S = live_carried S m _ (step_cases rule m s (Carries m) (carries_refl m) (λ n k e. act_carries np n e (λ q. nf (k ∙ q) (step_number rule m s k ∙ e))))
