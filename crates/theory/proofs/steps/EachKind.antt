-- Every accepted step keeps "undamaged", kind by kind.
use mathlib.Core.Path.{◌≡◌, refl, sym, ap, ◌∙◌}
use mathlib.Core.Logic.{inl, inr}
use mathlib.Core.Bool.{false}
use Prim.Native.Nat.{ℕ, ◌-◌, ◌<◌}
use native.Mathlib.Omega.{arith}
use lib.Dec.{eqb}
use borrow.Author.Tests.{leb-false, eqb-true, eqb-false, not-false}
use Rattle.model.specs.Base.{nth}
use Rattle.model.specs.Image.{Image, levels, owed, running, fields_open}
use Rattle.model.specs.Records.{Step, Kind, new, load, store, barrier, hand_over, drop_reg, read, write, begin, scan, trace, clean, finish, is_due, undirty, unknown}
use Rattle.model.specs.Collect.{begin_cycle}
use Rattle.model.specs.Finish.{finish_with, finish_step}
use Rattle.model.specs.Mutate.{Placing}
use Rattle.model.specs.Steps.{off_desk, object, owes, owing, no_object, past_end, wrong_phase, nothing_to_do, refusal, accept, finish_done, act}
use Rattle.model.proofs.Laws.{some_false}
use Rattle.theory.specs.Lines.{Start, Undamaged}
use Rattle.theory.proofs.steps.Beginning.{scan_does, begin_does}
use Rattle.theory.proofs.steps.Cleaning.{clean_does}
use Rattle.theory.proofs.heap.Facts.{reg_value, link_value}
use Rattle.theory.proofs.finish.FinishKept.{finish_keeps}
use Rattle.theory.proofs.steps.Steps.{line, not_above}
use Rattle.theory.proofs.steps.Mutating.{reg_keeps, barrier_keeps, store_keeps, write_keeps}
use Rattle.theory.proofs.steps.Undirty.{undirty_keeps}
use Rattle.theory.proofs.new.NewKept.{new_does, new_step}
use Rattle.theory.proofs.steps.Reaching.{StepStays}
use Rattle.theory.proofs.steps.Tracing.{trace_does}

-- undamaged, with the width and the number of cards that it had
abbrev pub Keeps : Image → Image → Type 0
Keeps m m' = Undamaged m' × (m'.width ≡ m.width) × (m'.k ≡ m.k)

-- a player who does not owe
owes_none : (m : Image) (s : Step) (p : ℕ) → owes m s p ≡ false → owed m p ≡ 0
unfolding owes
owes_none m s p e = eqb-true _ _ (not-false _ e)

module _ (m : Image) (s : Step) (u : Undamaged m) where
  -- what a step of the collector keeps, while a cycle runs
  stays_keeps : {m' : Image} → eqb (running m) 0 ≡ false → StepStays m m' → Keeps m m'
  unfolding running
  stays_keeps e r =
      let f = r.frame_same in
      let z : nth m.general 0 ≡ 0 → ⊥ = eqb-false (nth m.general 0) 0 e in
      (record { sound = record { lines = r.lines; idle = λ q. absurd (z (sym (ap (λ x. nth x.2 0) f) ∙ q)) }; cover = r.cover }, ap (λ x. x.0) f, ap (λ x. x.1) f)

  -- an object register that is not nil holds a start
  pub register_start : (r : ℕ) → eqb (object m s r) 0 ≡ false → Start m (object m s r)
  unfolding object
  register_start r n = elim (reg_value u.sound.lines s.who r) [ inl z ↦ absurd (eqb-false _ _ n z) | inr h ↦ h ]

-- every kind
module _ (rule : Placing) (m : Image) (s : Step) (u : Undamaged m) where
  pub kind_keeps : (n : Kind) → refusal m s n ≡ 0 → Keeps m (act rule m s n).image
  unfolding act accept object off_desk owing no_object past_end nothing_to_do wrong_phase finish_done finish_step finish_with begin_cycle fields_open
  kind_keeps new r = let e = (new_does rule m s u.sound.lines r).sections in (new_step rule m s u r, ap (λ x. x.width) e, ap (λ x. x.k) e)
  kind_keeps load r =
      let d = some_false _ (line m s load r 1) in
      let v = link_value u.sound.lines (object m s s.b) s.c (register_start m s u s.b (line m s load r 3)) (leb-false _ _ (line m s load r 4)) in
      let w = owes_none m s s.who (some_false _ (line m s load r 2) 0) in
      (reg_keeps m u s.who s.a _ (not_above 15 s.who (d 0)) (not_above 15 s.a (d 1)) w v, refl, refl)
  kind_keeps store r =
      let d = some_false _ (line m s store r 1) in
      let w = owes_none m s s.who (some_false _ (line m s store r 2) 0) in (
        store_keeps m u s.who (object m s s.a) s.b s.c (not_above 15 s.who (d 0)) (not_above 15 s.c (d 3)) w (register_start m s u s.a (line m s store r 3))
            (leb-false _ _ (line m s store r 4)),
        refl,
        refl,
      )
  kind_keeps barrier r = (
    barrier_keeps m u s.who (owed m s.who - 1) (not_above 15 s.who (some_false _ (line m s barrier r 1) 0))
        (omega (arith, eqb-false (owed m s.who) 0 (line m s barrier r 8))),
    refl,
    refl,
  )
  kind_keeps hand_over r =
      let d = some_false _ (line m s hand_over r 1) in
      let w = owes_none m s s.b (some_false _ (line m s hand_over r 2) 2) in
      (reg_keeps m u s.b s.c _ (not_above 15 s.b (d 2)) (not_above 15 s.c (d 3)) w (reg_value u.sound.lines s.who s.a), refl, refl)
  kind_keeps drop_reg r =
      let d = some_false _ (line m s drop_reg r 1) in
      let w = owes_none m s s.who (some_false _ (line m s drop_reg r 2) 0) in
      (reg_keeps m u s.who s.a 0 (not_above 15 s.who (d 0)) (not_above 15 s.a (d 1)) w (inl refl), refl, refl)
  kind_keeps read r = (u, refl, refl)
  kind_keeps write r =
      let g : ℕ = object m s s.a in
      let l : s.b < levels m g = leb-false _ _ (line m s write r 4) in
      (write_keeps m u g s.b s.c (register_start m s u s.a (line m s write r 3)) (omega arith), refl, refl)
  kind_keeps begin r =
      let z : nth m.general 0 ≡ 0 = omega (arith, u.sound.lines.general-ok.runs, eqb-false (nth m.general 0) 1 (line m s begin r 7)) in
      (begin_does m u.sound.lines (u.sound.idle z), refl, refl)
  kind_keeps scan r =
      let d = some_false _ (line m s scan r 1) in
      stays_keeps m s u (line m s scan r 7) (scan_does m u.sound.lines u.cover s.who s.a (not_above 7 s.who (d 0)) (not_above 15 s.a (d 1)))
  kind_keeps trace r = stays_keeps m s u (line m s trace r 7) (trace_does m u.sound.lines u.cover s.who (not_above 7 s.who (some_false _ (line m s trace r 1) 0)))
  kind_keeps clean r = stays_keeps m s u (line m s clean r 7) (clean_does m u.sound.lines u.cover s.who (not_above 7 s.who (some_false _ (line m s clean r 1) 0)))
  kind_keeps finish r = (finish_keeps m u, refl, refl)
  kind_keeps is_due r = (u, refl, refl)
  kind_keeps undirty r =
      let d = some_false _ (line m s undirty r 8) in
      (undirty_keeps m u s.a (leb-false _ _ (some_false _ (line m s undirty r 1) 1)) (eqb-true _ _ (not-false _ (d 1))), refl, refl)
  kind_keeps unknown r = (u, refl, refl)
