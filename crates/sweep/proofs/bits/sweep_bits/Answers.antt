use Rattle.std.proofs.Common.{◌≡◌, ℕ, ◌*◌, ◌^◌, ◌%◌, ◌-◌, ◌<◌, ◌≤◌, bit_and, arith}
use lib.Count.{count_leading_zeros}
use borrow.Author.Rules.{rules}
use Rattle.image.proofs.Words.{same_length}
use Rattle.image_laws.specs.Bits.{without_bit}
use Rattle.image_laws.proofs.Masks.{one_shl, and_not_pow}
use Rattle.finish_laws.proofs.gaps.Bits.{taking_none, taking_few, taking_less, taking_room, taking_more, taking_end}
use Rattle.sweep.proofs.bits.sweep_bits.Goals as goal

-- the highest bit of x taken out by a mask of 64 bits
top_out : (x : ℕ) → x < 18446744073709551616 → count_leading_zeros 64 x ≤ 63
    → bit_and x (18446744073709551615 - 1 * 2 ^ (63 - count_leading_zeros 64 x) % 18446744073709551616) ≡ without_bit x (63 - count_leading_zeros 64 x)
top_out x hx few =
    let h : 63 - count_leading_zeros 64 x < 64 = omega arith in
    rw (one_shl 64 (63 - count_leading_zeros 64 x) h) (and_not_pow 64 x (63 - count_leading_zeros 64 x) hx h)

pub loop-x-init : goal.loop-x-init
loop-x-init g c = let P = c.requires in taking_none P.sized (search rules) c.value-x.ensures.fits P.i_bound.2 P.i_bound.1

pub keep_at-t-requires-clause-h_bound : goal.keep_at-t-requires-clause-h_bound
keep_at-t-requires-clause-h_bound g c = rw c.BITS.ensures (taking_room c.loop-x.invariant c.loop-x-test.true c.requires.i_bound.0)

pub loop-x-smaller : goal.loop-x-smaller
loop-x-smaller g c =
    let I = c.loop-x.invariant in
    let n = c.loop-x-test.true in
    rw (top_out c.loop-x.x (omega arith) (taking_few I n)) (taking_less I n)

pub loop-x-preserved : goal.loop-x-preserved
loop-x-preserved g c =
    let I = c.loop-x.invariant in
    let n = c.loop-x-test.true in
    let K = rw c.BITS.ensures at c.keep_at-t.ensures in
    taking_more I n _ (top_out c.loop-x.x (omega arith) (taking_few I n)) _ _ _ (same_length g.met.W.Word.laws.by_value c.loop-x.im _ (search rules)) K.im_after K.start_value

pub returns-clause-im_after : goal.returns-clause-im_after
returns-clause-im_after g c = taking_end c.loop-x.invariant c.loop-x-test.false
