-- Begin and finish as steps: their numbers, what is live after a begin, and what an accepted finish keeps.
use mathlib.Core.Path.{◌≡◌, refl, sym, subst, ◌∙◌}
use mathlib.Core.Bool.{Bool, true, false, cond}
use mathlib.Core.List.{[], ◌∷◌}
use Prim.Native.Nat.{ℕ, ◌+◌, ◌*◌, ◌/◌, ◌%◌}
use native.Mathlib.Omega.{arith}
use lib.Dec.{eqb}
use borrow.Author.Tests.{eqb-false, lt-ltb}
use Rattle.model.specs.Base.{first}
use Rattle.model.specs.Image.{Image, is_start, reg, running}
use Rattle.model.specs.Undamaged.{nil_or_start}
use Rattle.model.specs.Records.{Step, begin, finish, kind_of}
use Rattle.model.specs.Finish.{kept_set, Kept, finish_step}
use Rattle.model.specs.Mutate.{Placing}
use Rattle.model.specs.Steps.{wrong_phase, refusal, numbers_open, accept, act, step}
use Rattle.model.specs.Claim.{any_field, Same, Finishes}
use Rattle.model.proofs.Laws.{every_cons, every_nil, either_make}
use Rattle.model.proofs.Sited.{Sited}
use Rattle.model.proofs.Found.{set_kept, kept-set}
use Rattle.theory.specs.Cover.{Cover}
use Rattle.theory.specs.Cycle.{Facts, Live, Since}
use Rattle.theory.specs.Finish.{FinishMade}
use Rattle.theory.proofs.finish.Safe.{chain_start, start_below, safe}
use Rattle.theory.proofs.cycle.Live.{live_begin, live_carried}
use Rattle.theory.proofs.cycle.Quiet.{quiet_begin}
use Rattle.theory.proofs.cycle.Carries.{quiet_carries}
use Rattle.theory.proofs.steps.Steps.{step_number, line, accepted_image}

-- ---- numbers

-- of all lines, only 3 and 10 can apply
two_lines : (a b : Bool) → first 3 (a ∷ false ∷ false ∷ false ∷ false ∷ false ∷ false ∷ b ∷ false ∷ []) ≡ cond a 3 (cond b 10 0)
unfolding first
two_lines true b = refl
two_lines false true = refl
two_lines false false = refl

pub begin_number : (rule : Placing) (m : Image) (s : Step) → kind_of s.kind ≡ begin → (step rule m s).number ≡ cond (any_field s) 3 (cond (eqb (running m) 1) 10 0)
unfolding numbers_open any_field
begin_number rule m s k = step_number rule m s k ∙ two_lines (any_field s) (eqb (running m) 1)

pub finish_number : (rule : Placing) (m : Image) (s : Step) → kind_of s.kind ≡ finish → (step rule m s).number ≡ cond (any_field s) 3 (cond (eqb (running m) 0) 10 0)
unfolding numbers_open any_field
finish_number rule m s k = step_number rule m s k ∙ two_lines (any_field s) (eqb (running m) 0)

-- ---- begin

pub begin_live : (rule : Placing) (m : Image) (s : Step) → Facts m → kind_of s.kind ≡ begin → (step rule m s).number ≡ 0 → Live (Since m) (step rule m s).image
unfolding act accept wrong_phase
begin_live rule m s f k e =
    let r : refusal m s begin ≡ 0 = sym (step_number rule m s k) ∙ e in
    subst (Live (Since m)) (sym (accepted_image rule m s k e))
    (live_carried (Since m) m _ (quiet_carries m _ (quiet_begin m)) (live_begin m (f.idle (eqb-false (running m) 1 (line m s begin r 7)))))

-- ---- finish

start_ok : (m : Image) → Facts m → (a : ℕ) → ((a ≡ 0 → ⊥) → is_start m a ≡ true) → nil_or_start m a ≡ true
unfolding nil_or_start
start_ok m f a h =
    either_make (eqb a 0) true _ (λ _. refl) (λ n. let st = h (eqb-false a 0 n) in every_cons _ _ (lt-ltb _ _ (start_below m f.laid a st)) (every_cons _ _ st every_nil))

facts_sited : (m : Image) → Facts m → Sited m
unfolding reg
facts_sited m f = record {
  regs_length = f.regs_length;
  packets_length = f.counted.packets_length;
  counts = f.counted.counts;
  reg_in = λ i h.
      let place : 16 * (i / 16) + i % 16 ≡ i = omega arith in
      start_ok m f _ (rw place at (f.proper.reg_start (i / 16) (i % 16) (omega arith) (omega arith)));
  link_in = λ g i h s l. start_ok m f _ (λ nz. f.proper.link_start g i s l nz);
  start_in = start_below m f.laid;
  mark_start = λ g h k. f.proper.mark_start g k;
}

pub finishes : (m : Image) → Facts m → Cover m → FinishMade m (kept_set m) (finish_step m) → Finishes m (finish_step m).image
finishes m f c w = record {
  kept_stay = stay;
  only_kept = λ g h. set_kept m (facts_sited m f) g (sym (w.starts g) ∙ h);
  reached_stay = λ g ch. stay g (chain_start m f.proper ch) (safe m c f.proper f.laid g ch);
}
  where
    stay : (g : ℕ) → is_start m g ≡ true → Kept m g → Same m (finish_step m).image g
    stay g h k = let i = kept-set m (facts_sited m f) g h k in record { stays = w.starts g ∙ i; same_words = λ j l. w.words g j i l }
