-- Which steps the plain store is fed; the others leave registers, owed cards and the words of what a chain reaches.
use mathlib.Core.Path.{◌≡◌, refl, sym, ap, ◌∙◌}
use mathlib.Core.Logic.{inl, inr}
use mathlib.Core.Bool.{true, false, not, and-false}
use Prim.Native.Nat.{ℕ}
use native.Mathlib.Omega.{arith}
use lib.Dec.{eqb}
use borrow.Author.Tests.{eqb-true, eqb-false, ne_eqb, not-true, not-false}
use Rattle.model.specs.Image.{Image, reg, owed}
use Rattle.model.specs.Records.{Step, Kind, new, load, store, barrier, hand_over, drop_reg, read, write, begin, scan, trace, clean, finish, is_due, undirty, unknown, kind_of}
use Rattle.model.specs.Finish.{finish_with, finish_step}
use Rattle.model.specs.Rows.{is}
use Rattle.model.specs.Mutate.{Placing}
use Rattle.model.specs.Steps.{Event, refusal, accept, finish_done, act, step}
use Rattle.model.specs.Plain.{Object, feeds, feeds_event, named}
use Rattle.model.proofs.Laws.{false≢, bool_cases}
use Rattle.model.proofs.Rows.{is_same}
use Rattle.theory.specs.Cycle.{Quiet}
use Rattle.theory.specs.Same.{WordsStay, KeptWords}
use Rattle.theory.proofs.steps.Steps.{step_cases}
use Rattle.theory.proofs.cycle.Quiet.{quiet_refl, quiet_begin, quiet_scan, quiet_trace, quiet_clean, quiet_undirty}
use Rattle.theory.proofs.finish.Replaced.{off_owed}
use Rattle.theory.proofs.plain.PlainAlike.{not_nine}

-- ---- which steps the plain store is fed

-- the record of a new is fed unless it is answered 9, and any other whatever it is answered
fed_new : (n : Kind) (r : ℕ) → is n new ≡ true → feeds n r ≡ not (eqb r 9)
unfolding feeds
fed_new n r e = ap (λ x. feeds x r) (is_same n new e)

pub fed_not_nine : (m : Image) (s : Step) (n : Kind) → feeds n (refusal m s n) ≡ true → refusal m s n ≡ 9 → ⊥
fed_not_nine m s n e =
    elim (bool_cases (is n new)) [ inl x ↦ eqb-false (refusal m s n) 9 (not-true _ (sym (fed_new n (refusal m s n) x) ∙ e)) | inr x ↦ not_nine m s n x ]

pub fed_zero : (n : Kind) (r : ℕ) → feeds n r ≡ true → feeds n 0 ≡ true
unfolding feeds
fed_zero n r e = elim (bool_cases (is n new)) [ inl x ↦ fed_new n 0 x | inr x ↦ rw x (rw x at e) ]

-- a step that is not fed names nothing
pub unfed_named : (name : ℕ → Object) (i : ℕ) (e : Event) → feeds_event e ≡ false → named name i e ≡ name
unfolding named feeds_event
unfed_named name i e u =
    let n : Kind = kind_of e.request.kind in
    let r : ℕ = e.done.number in
    elim (bool_cases (is n new)) [
      | inl x ↦ let k : r ≡ 9 = eqb-true r 9 (not-false _ (sym (fed_new n r x) ∙ u)) in rw (ne_eqb r 0 (λ z. omega arith), and-false)
      | inr x ↦ rw x
    ]

-- ---- what a step that is not fed leaves

quiet_kept : (m n : Image) → Quiet (λ g. Unit {0}) m n → KeptWords m n
quiet_kept m n q = record { kept_reg = q.same_reg; kept_owed = q.same_owed; kept_word = λ g i c l. q.same_word g i }

module _ (rule : Placing) (m : Image) (s : Step) (stays : refusal m s finish ≡ 0 → WordsStay m (act rule m s finish).image) where
  unfed_act : (n : Kind) → feeds n 0 ≡ false → refusal m s n ≡ 0 → KeptWords m (act rule m s n).image
  unfolding feeds act accept finish_done finish_step finish_with reg owed
  unfed_act new e z = false≢ (sym e)
  unfed_act load e z = false≢ (sym e)
  unfed_act store e z = false≢ (sym e)
  unfed_act barrier e z = false≢ (sym e)
  unfed_act hand_over e z = false≢ (sym e)
  unfed_act drop_reg e z = false≢ (sym e)
  unfed_act read e z = false≢ (sym e)
  unfed_act write e z = false≢ (sym e)
  unfed_act begin e z = quiet_kept m _ (quiet_begin m)
  unfed_act scan e z = quiet_kept m _ (quiet_scan m s.who s.a (λ g k nz. tt))
  unfed_act trace e z = quiet_kept m _ (quiet_trace m s.who (λ h nz. tt))
  unfed_act clean e z = quiet_kept m _ (quiet_clean m s.who (λ h nz. tt))
  unfed_act finish e z = record { kept_reg = λ p r. refl; kept_owed = λ p. off_owed m.players p; kept_word = stays z }
  unfed_act is_due e z = quiet_kept m _ (quiet_refl m)
  unfed_act undirty e z = quiet_kept m _ (quiet_undirty m s.a)
  unfed_act unknown e z = quiet_kept m _ (quiet_refl m)

  pub unfed_kept : feeds (kind_of s.kind) (refusal m s (kind_of s.kind)) ≡ false → KeptWords m (step rule m s).image
  unfed_kept u = step_cases rule m s (KeptWords m) (quiet_kept m m (quiet_refl m)) (λ n k z. unfed_act n (ap (feeds n) (sym z) ∙ (ap (λ x. feeds x (refusal m s x)) (sym k) ∙ u)) z)
