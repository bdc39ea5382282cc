use borrow.Author.Rules.{rules}
use native.Mathlib.Omega.{arith}
use mathlib.Core.Path.{◌∙◌}
use lib.Pow.{pow_pos}
use Rattle.soundness_laws.proofs.Checks.{checked_none, checked_more, checked_end}
use Rattle.judge_laws.proofs.Words.{cover_end}
use Rattle.judge_laws.proofs.Near.{stretch_none, stretch_more}
use Rattle.cover.proofs.words.all_covered.Goals as goal
use Rattle.cover.proofs.words.all_covered.Goals.{then-low-value, else-low-value}

pub loop-i-init : goal.loop-i-init
loop-i-init g c = (checked_none, stretch_none _ _ _)

pub stretch_covered-ok-requires-clause-marked_stretch : goal.stretch_covered-ok-requires-clause-marked_stretch
stretch_covered-ok-requires-clause-marked_stretch g c =
    elim c.if-low-value.branch [
      | then-low-value u ↦ rw u.from-is (stretch_none _ _ _)
      | else-low-value u ↦
          rw u.from-is
          (stretch_more _ _ _ c.requires.sized _ _ _ _ _ _ c.is_marked.ensures c.is_marked-2.ensures (c.value.ensures.value ∙ c.mark_word.ensures)
          (rw (c.VALUES.ensures, g.met.W.Word.laws.values) (omega (arith, pow_pos g.W.Word.BITS))) u.if-low-value.false c.loop-i.invariant.1)
    ]

pub loop-i-preserved : goal.loop-i-preserved
loop-i-preserved g c = (
  checked_more _ _ _ _ _ c.loop-i.invariant.0 (search rules) c.stretch_covered-ok.ensures,
  elim c.if-low-value.branch [
    | then-low-value u ↦ rw u.from-is (stretch_none _ _ _)
    | else-low-value u ↦
        rw u.from-is
        (stretch_more _ _ _ c.requires.sized _ _ _ _ _ _ c.is_marked.ensures c.is_marked-2.ensures (c.value.ensures.value ∙ c.mark_word.ensures)
        (rw (c.VALUES.ensures, g.met.W.Word.laws.values) (omega (arith, pow_pos g.W.Word.BITS))) u.if-low-value.false c.loop-i.invariant.1)
  ],
)

pub returns : goal.returns
returns g c = cover_end g.W.Word.BITS _ _ _ c.requires.sized (checked_end _ _ _ _ c.loop-i.invariant.0 (search rules))
