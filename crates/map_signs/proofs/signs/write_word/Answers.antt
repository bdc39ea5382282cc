use borrow.Author.Rules.{rules}
use native.Mathlib.Omega.{arith}
use Rattle.service_map_laws.proofs.Signs.{signs_none, sign_by_bits, signs_carried, signs_end}
use Rattle.map_signs.proofs.signs.write_word.Goals as goal

pub loop-j-init : goal.loop-j-init
loop-j-init g c = search (rules, signs_none)

pub loop-j-preserved : goal.loop-j-preserved
loop-j-preserved g c =
    sign_by_bits _ _ _ _ c.loop-j.invariant _ _ c.start_word-starts.ensures c.mark_word-marks.ensures _ _ _ _
    (search rules) c.has_bit-start.ensures c.has_bit-mark.ensures (rw c.BITS.ensures at c.furthest-last.ensures) (rw c.BITS.ensures at c.sign.ensures)

pub shape_of-out : goal.shape_of-out
shape_of-out g c = c.loop-j.invariant.signs.same

pub returns : goal.returns
returns g c = record { value = signs_carried c.loop-j.invariant (omega arith) (search rules); out_after = signs_end c.loop-j.invariant (omega arith) (search rules) }
