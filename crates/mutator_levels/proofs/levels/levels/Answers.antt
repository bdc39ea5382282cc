use borrow.Author.Rules.{rules}
use Rattle.model.specs.Image.{size, levels}
use Rattle.mutator_laws.proofs.Objects.{object_below}
use native.Mathlib.Omega.{arith}
use Rattle.mutator_levels.proofs.levels.levels.Goals as goal

pub word-requires : goal.word-requires
unfolding size levels
word-requires g c = record { sized = search rules; i_bound = omega (arith, object_below _ _ _ c.requires.object_at) }

pub links-n-requires : goal.links-n-requires
unfolding size levels
links-n-requires g c = record { sized = search rules; g_bound = object_below _ _ _ c.requires.object_at }

pub overflow_sub-result : goal.overflow_sub-result
unfolding size levels
overflow_sub-result g c = omega (arith, c.requires.object_at.links-in)

pub overflow_sub-result-2 : goal.overflow_sub-result-2
unfolding size levels
overflow_sub-result-2 g c = omega (arith, c.requires.object_at.links-in)

pub returns : goal.returns
unfolding size levels
returns g c = search rules
