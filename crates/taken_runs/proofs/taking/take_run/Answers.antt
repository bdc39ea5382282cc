use native.Mathlib.Omega.{arith}
use borrow.Author.Rules.{rules}
use Rattle.image_laws.proofs.Places.{granule_fits}
use Rattle.mutator_laws.proofs.Taking.{take_whole, take_part, counted_first, left_whole, left_part, left_few}
use Rattle.taken_runs.proofs.taking.take_run.Goals as goal

pub overflow_sub-others : goal.overflow_sub-others
overflow_sub-others g c = search (rules, counted_first)

pub returns-then-length-b : goal.returns-then-length-b
returns-then-length-b g c = record { im_after = search (rules, take_whole); value = search (rules, left_whole) }

pub of-requires : goal.of-requires
of-requires g c = granule_fits g.met.W.Word.laws.one_of_two c.requires.sized.high (omega (arith, c.requires.run_for))

pub of-requires-2 : goal.of-requires-2
of-requires-2 g c = granule_fits g.met.W.Word.laws.one_of_two c.requires.sized.high (omega (arith, c.requires.run_for))

pub overflow_add-result : goal.overflow_add-result
overflow_add-result g c = record { fits = omega (arith, left_few _ _ _ _ _ c.args.f c.run_length-length.ensures c.usable_of.ensures c.requires.b_le_granules.1 _ c.usable_of-2.ensures) }

pub returns : goal.returns
returns g c = record {
  im_after = take_part _ _ _ _ _ _ c.run_length-length.ensures c.word-next.ensures c.if-length-b.false (omega arith) _ _ _ (rw c.of.ensures at c.set_word.ensures) c.set_word-2.ensures (rw c.of-2.ensures at c.set_next-2.ensures);
  value = search (rules, left_part);
}
