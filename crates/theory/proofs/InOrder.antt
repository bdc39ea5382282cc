-- Images that pass are in order, as the claim over histories asks it: every step keeps them so, and keeps the number of cards.
use mathlib.Core.Path.{◌≡◌, ◌∙◌}
use Prim.Native.Nat.{ℕ}
use Rattle.model.specs.Image.{Image}
use Rattle.model.specs.Mutate.{Placing}
use Rattle.theory.specs.Events.{Steady}
use Rattle.theory.specs.Lines.{Passes}
use Rattle.theory.proofs.finish.FinishKept.{facts_of}
use Rattle.theory.proofs.finish.FinishMade.{finish_made}
use Rattle.theory.proofs.heap.Facts.{heap_filled_of, heap_sized_of}
use Rattle.theory.proofs.steps.Kept.{step_stays, step_passes}
use Rattle.theory.proofs.new.NewKept.{new_does}

pub steady : (rule : Placing) (w : ℕ) → Steady rule (Passes w)
steady rule w = record {
  step_ok = step_passes rule w;
  facts = λ m p. facts_of p.is_undamaged.sound;
  covers = λ m p. p.is_undamaged.cover;
  new_leaves = λ m s p e. new_does rule m s p.is_undamaged.sound.lines e;
  swept = λ m p. let o = p.is_undamaged.sound.lines in finish_made m (heap_filled_of o) (heap_sized_of o);
}

-- it passes, and has k cards
abbrev pub OfCards : ℕ → ℕ → Image → Type 0
OfCards w k m = Passes w m × (m.k ≡ k)

pub steady_cards : (rule : Placing) (w k : ℕ) → Steady rule (OfCards w k)
steady_cards rule w k = record {
  step_ok = λ m s o. (step_passes rule w m s o.0, (step_stays rule m s o.0.is_undamaged).2 ∙ o.1);
  facts = λ m o. (steady rule w).facts m o.0;
  covers = λ m o. (steady rule w).covers m o.0;
  new_leaves = λ m s o. (steady rule w).new_leaves m s o.0;
  swept = λ m o. (steady rule w).swept m o.0;
}
