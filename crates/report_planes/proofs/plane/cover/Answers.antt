use borrow.Author.Rules.{rules}
use native.Mathlib.Omega.{arith}
use Rattle.image.proofs.Words.{words_length}
use Rattle.report_laws.proofs.Plane.{bit_in, covering_none, covering_more, covering_end}
use Rattle.report_planes.proofs.plane.cover.Goals as goal

pub loop-j-init : goal.loop-j-init
loop-j-init g c = covering_none _ _ _ _

pub add-requires : goal.add-requires
add-requires g c = rw c.loop-j.auto.s (bit_in g.met.W.Word.laws.one_of_two (omega (arith, c.requires.0, c.loop-j-test.true)))

pub loop-j-preserved : goal.loop-j-preserved
loop-j-preserved g c =
    covering_more _ _ _ _ _ _ c.loop-j.invariant c.loop-j-test.true
    (rw (words_length g.met.W.Word.laws.by_value c.loop-j.s, c.loop-j.auto.s) (bit_in g.met.W.Word.laws.one_of_two (omega (arith, c.requires.0, c.loop-j-test.true)))) _ c.add.ensures

pub returns : goal.returns
returns g c = search (rules, covering_end)
