-- A step by its number: the lines that an accepted one has passed, and the image and value that a step leaves. Lists of steps.
use mathlib.Core.Path.{◌≡◌, refl, sym, ap, ◌∙◌}
use mathlib.Core.Logic.{◌⊎◌, inl, inr}
use mathlib.Core.Bool.{false}
use mathlib.Core.List.{[], ◌∷◌, List, ◌++◌}
use Prim.Native.Nat.{ℕ, zero, suc, ◌<◌, ◌+◌, ◌*◌, ◌-◌, ◌≤◌}
use native.Mathlib.Omega.{arith}
use lib.ListN.{get_or}
use lib.Dec.{ltb}
use borrow.Author.Tests.{ltb-false, eqb-false}
use Rattle.model.specs.Image.{Image}
use Rattle.model.specs.Records.{Step, Kind, new, load, store, barrier, hand_over, drop_reg, read, write, begin, scan, trace, clean, finish, is_due, undirty, unknown, kind_of}
use Rattle.model.specs.Mutate.{Placing}
use Rattle.model.specs.Steps.{Done, unnamed, off_desk, owing, no_object, past_end, bad_size, no_room, wrong_phase, nothing_to_do, refusal, accept, finish_done, act, outcome, step, run, after}
use Rattle.model.proofs.Laws.{first_none, some_false}

-- a number is 0, or has one before it
pub zero_or_suc : (n : ℕ) → (n ≡ 0) ⊎ ((p : ℕ) × (n ≡ suc p))
zero_or_suc zero = inl refl
zero_or_suc (suc n) = inr (n, refl)

-- a player, register or tracer that is on the desk
pub not_above : (b x : ℕ) → ltb b x ≡ false → x < suc b
not_above b x e = omega (arith, ltb-false b x e)

-- a new that 8 does not refuse
pub good_size : (s : Step) → bad_size s new ≡ false → (1 ≤ s.b) × (s.b ≤ 1024) × (s.c + 2 ≤ 4 * s.b)
unfolding bad_size
good_size s e =
    let d = some_false _ e in
    let nz : s.b ≡ 0 → ⊥ = eqb-false s.b 0 (d 0) in
    (omega arith, ltb-false 1024 s.b (d 1), omega (arith, ltb-false (4 * s.b - 2) s.c (d 2)))

-- line i of the numbers of an accepted step does not apply
pub line : (m : Image) (s : Step) (n : Kind) → refusal m s n ≡ 0 → (i : ℕ)
    → get_or (unnamed s n ∷ off_desk s m.k n ∷ owing m s n ∷ no_object m s n ∷ past_end m s n ∷ bad_size s n ∷ no_room m s n ∷ wrong_phase m s n ∷ nothing_to_do m s n ∷ []) i false ≡ false
unfolding refusal
line m s n e i = first_none 2 _ e i

module _ (rule : Placing) (m : Image) (s : Step) where
  -- ---- numbers

  pub act_number : (n : Kind) → (act rule m s n).number ≡ 0
  unfolding act accept finish_done
  act_number new = refl
  act_number load = refl
  act_number store = refl
  act_number barrier = refl
  act_number hand_over = refl
  act_number drop_reg = refl
  act_number read = refl
  act_number write = refl
  act_number begin = refl
  act_number scan = refl
  act_number trace = refl
  act_number clean = refl
  act_number finish = refl
  act_number is_due = refl
  act_number undirty = refl
  act_number unknown = refl

  pub outcome_number : (n : Kind) (r : ℕ) → (outcome rule m s n r).number ≡ r
  unfolding outcome
  outcome_number n zero = act_number n
  outcome_number n (suc r) = refl

  pub step_number : {n : Kind} → kind_of s.kind ≡ n → (step rule m s).number ≡ refusal m s n
  unfolding step
  step_number k = outcome_number (kind_of s.kind) _ ∙ ap (refusal m s) k

  -- ---- what a step leaves

  -- an accepted step does what its kind does
  pub accepted : {n : Kind} → kind_of s.kind ≡ n → refusal m s n ≡ 0 → step rule m s ≡ act rule m s n
  unfolding step outcome
  accepted {n} k e = ap (λ x. outcome rule m s x (refusal m s x)) k ∙ ap (outcome rule m s n) e

  pub accepted_image : {n : Kind} → kind_of s.kind ≡ n → (step rule m s).number ≡ 0 → (step rule m s).image ≡ (act rule m s n).image
  accepted_image k e = ap (λ (d : Done). d.image) (accepted k (sym (step_number k) ∙ e))

  -- "the others refuse one step, with value 0"
  pub refused_same : ((step rule m s).number ≡ 0 → ⊥) → ((step rule m s).image ≡ m) × ((step rule m s).value ≡ 0)
  unfolding step outcome
  refused_same nz = elim (zero_or_suc (refusal m s (kind_of s.kind))) [ inl e ↦ absurd (nz (step_number refl ∙ e)) | inr (r, e) ↦ rw e (refl, refl) ]

  -- the image is as it was, or as an accepted step of the kind leaves it
  pub step_cases : (P : Image → Type 0) → P m → ((n : Kind) → kind_of s.kind ≡ n → refusal m s n ≡ 0 → P (act rule m s n).image) → P (step rule m s).image
  unfolding step outcome
  step_cases P same f = elim (zero_or_suc (refusal m s (kind_of s.kind))) [ inl e ↦ rw e (f (kind_of s.kind) refl e) | inr (r, e) ↦ rw e same ]

-- ---- lists of steps

pub run_append : (rule : Placing) (m : Image) (ss ts : List Step) → run rule m (ss ++ ts) ≡ run rule m ss ++ run rule (after m (run rule m ss)) ts
unfolding run after
run_append rule m [] ts = refl
run_append rule m (s ∷ ss) ts = ap (λ l. record { got = m; request = s; done = step rule m s } ∷ l) (run_append rule (step rule m s).image ss ts)

-- what every step keeps, a list of steps keeps
pub run-ok : (rule : Placing) (P : Image → Type 0) → ((m : Image) (s : Step) → P m → P (step rule m s).image) → (m : Image) (ss : List Step) → P m → P (after m (run rule m ss))
unfolding run after
run-ok rule P f m [] o = o
run-ok rule P f m (s ∷ ss) o = run-ok rule P f (step rule m s).image ss (f m s o)
