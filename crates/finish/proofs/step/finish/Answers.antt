use borrow.Author.Rules.{rules}
use Rattle.std.proofs.Common.{ap, ◌∙◌}
use Rattle.runs_laws.specs.declared.Free.{Free}
use Rattle.finish_laws.proofs.Step.{finish_idle, finish_accepted}
use Rattle.finish.proofs.step.finish.Goals as goal

pub returns-then-value-eq0 : goal.returns-then-value-eq0
returns-then-value-eq0 g c = record { im_after = finish_idle _ _ (c.value.ensures.value ∙ c.running.ensures) c.if-value-eq0.true; free_value_2 = search rules }

pub finish-freed-requires : goal.finish-freed-requires
finish-freed-requires g c = let q = c.requires in record { sized = q.sized; sound = q.sound; before_value = ap (λ (f : Free). f.granules) q.free_value }

pub returns : goal.returns
returns g c = record { im_after = finish_accepted _ _ (c.value.ensures.value ∙ c.running.ensures) c.if-value-eq0.false _ _ c.finish-freed.ensures.im_after; free_value_2 = c.finish-freed.ensures.free_value }
