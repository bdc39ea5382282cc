use Rattle.image.proofs.Words.{same_length, slice_length}
use Rattle.image_laws.proofs.Loops.{looped_none, looped_more, looped_end}
use Rattle.finish_laws.proofs.Ending.{off_none, off_more}
use native.Mathlib.Omega.{arith}
use borrow.Author.Rules.{rules}
use Rattle.ended_cycle.proofs.ending.unscan.Goals as goal

pub loop-p-init : goal.loop-p-init
loop-p-init g c = looped_none c.requires (off_none _)

pub set_player_word-requires : goal.set_player_word-requires
set_player_word-requires g c = record { sized = c.loop-p.invariant.sized; i_bound = omega arith }

pub loop-p-preserved : goal.loop-p-preserved
loop-p-preserved g c =
    let L = c.loop-p in
    looped_more L.invariant (omega arith) (same_length g.met.W.Word.laws.by_value L.im _ (search rules)) (off_more _ _ _ _ L.invariant.state (rw c.of.ensures at c.set_player_word.ensures))

pub shape_of-im : goal.shape_of-im
shape_of-im g c = slice_length g.met.W.Word.laws.by_value c.args.im.now _ c.loop-p.invariant.same

pub returns : goal.returns
returns g c = looped_end c.loop-p.invariant (omega arith)
