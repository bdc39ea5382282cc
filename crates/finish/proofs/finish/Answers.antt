use Rattle.std.proofs.Common.{arith}
use borrow.Author.Rules.{rules}
use Rattle.image.proofs.Words.{same_length}
use Rattle.image_laws.proofs.Lengths.{sized_as}
use Rattle.image_laws.proofs.Places.{granule_fits}
use Rattle.finish_laws.proofs.Finish.{value_fits, finish_whole, finish_free}
use Rattle.finish.proofs.finish.Goals as goal

pub overflow_sub-after : goal.overflow_sub-after
overflow_sub-after g c =
    let S = c.requires in
    let z = sized_as S.sized (same_length g.met.W.Word.laws.by_value c.args.im.now c.mark_found.new.im (search rules)) in
    value_fits S.sized z S.sound c.mark_found.ensures _ _ _ S.before_value c.sweep_all-after.ensures.im_after

pub of-requires : goal.of-requires
of-requires g c = granule_fits g.met.W.Word.laws.one_of_two c.requires.sized.high (omega (arith, c.sweep_all-after.ensures.within.room))

pub returns : goal.returns
returns g c =
    let S = c.requires in
    let z = sized_as S.sized (same_length g.met.W.Word.laws.by_value c.args.im.now c.mark_found.new.im (search rules)) in
    let swept = c.sweep_all-after.ensures.im_after in
    record {
      im_after = rw c.of.ensures (finish_whole S.sized z S.sound c.mark_found.ensures _ _ _ _ _ S.before_value swept c.keep_starts.ensures c.end_cycle.ensures);
      free_value = finish_free S.sized z S.sound c.mark_found.ensures _ _ _ _ _ S.before_value swept c.keep_starts.ensures c.end_cycle.ensures;
    }
