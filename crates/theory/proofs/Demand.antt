-- Demand 3: for every undamaged image and every list of batches, the claim holds.
use mathlib.Core.Path.{◌≡◌}
use mathlib.Core.List.{List}
use Prim.Native.Nat.{ℕ}
use Rattle.model.specs.Image.{Image}
use Rattle.model.specs.Undamaged.{judge_at}
use Rattle.model.specs.Records.{Step, finish}
use Rattle.model.specs.Mutate.{Placing}
use Rattle.model.specs.Steps.{act, accept, finish_done, run}
use Rattle.model.specs.Plain.{SameAnswers}
use Rattle.model.specs.Claim.{Lent, Claim}
use Rattle.theory.specs.Lines.{Undamaged, Passes}
use Rattle.theory.specs.Same.{WordsStay}
use Rattle.theory.proofs.Claim.{claim}
use Rattle.theory.proofs.finish.FinishKept.{facts_of, finish_does}
use Rattle.theory.proofs.new.NewKept.{new_does}
use Rattle.theory.proofs.steps.Kept.{step_passes}
use Rattle.theory.proofs.lines.Passing.{judge_use, judge_make}
use Rattle.theory.proofs.plain.PlainList.{plain_store}
use Rattle.theory.proofs.InOrder.{steady}

-- a finish leaves the words of what a chain reaches
finish_stays : (rule : Placing) (m : Image) (s : Step) → Undamaged m → WordsStay m (act rule m s finish).image
unfolding act accept finish_done
finish_stays rule m s u g i c l = ((finish_does m u).reached_stay g c).same_words i l

-- the players' answers over one list of steps
pub plain_answers : (rule : Placing) (w : ℕ) (m : Image) (ss : List Step) → Passes w m → SameAnswers m (run rule m ss)
plain_answers rule w =
    plain_store rule (Passes w) (step_passes rule w) (λ m p. facts_of p.is_undamaged.sound) (λ m s p e. new_does rule m s p.is_undamaged.sound.lines e) (λ m s p z. finish_stays rule m s p.is_undamaged)

-- no other hypothesis, for every width and either rule of placing
pub demand_three : (rule : Placing) (w : ℕ) (ws : List ℕ) (bs : List Lent) → judge_at w ws ≡ 0 → Claim rule w ws bs
demand_three rule w ws bs e = claim rule w (Passes w) (steady rule w) (judge_make w) (plain_answers rule w) ws bs e (judge_use w ws e)
