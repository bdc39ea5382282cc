use Rattle.std.proofs.Common.{◌≡◌, ◌∙◌, refl, arith, length}
use mathlib.Core.List.{append-nil}
use lib.ListN.{length-set}
use lib.Seq.{drop-length}
use Rattle.image.proofs.Words.{words_length}
use Rattle.stretches.proofs.Words.{cleared_more}
use Rattle.stretches.proofs.clearing.clear.Goals as goal

pub loop-i-init : goal.loop-i-init
loop-i-init g c = (refl, refl, refl)

pub loop-i-preserved : goal.loop-i-preserved
loop-i-preserved g c =
    let by = g.met.W.Word.laws.by_value in (
      cleared_more by _ _ _ _ c.loop-i.invariant.0 (omega (arith, words_length by c.args.s.now)) c.of.ensures,
      simp length-set c.loop-i.invariant.1,
      c.loop-i.invariant.2,
    )

pub shape_of-s : goal.shape_of-s
shape_of-s g c = c.loop-i.invariant.1

pub returns : goal.returns
returns g c =
    let e : c.loop-i.i ≡ length (g.W.Word.words c.args.s.now) = omega (arith, words_length g.met.W.Word.laws.by_value c.args.s.now) in
    c.loop-i.invariant.0 ∙ rw (e, drop-length) (append-nil _)
