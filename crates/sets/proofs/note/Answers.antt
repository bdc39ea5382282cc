use borrow.Author.Rules.{rules}
use Rattle.std.proofs.Common.{◌∙◌}
use Rattle.image.proofs.Words.{words_length}
use Rattle.image_laws.proofs.Masks.{or_pow}
use Rattle.model.specs.Base.{nth, put}
use Rattle.soundness_laws.proofs.Joined.{cards_full}
use Rattle.soundness_laws.proofs.Sets.{filled_none, filled_more, filled_end}
use Rattle.sets.proofs.note.Goals as goal

pub loop-c-init : goal.loop-c-init
loop-c-init g c = filled_none _ _ _ _ c.requires.table_value

pub loop-c-preserved : goal.loop-c-preserved
unfolding nth put
loop-c-preserved g c = search (rules, filled_more)

pub returns : goal.returns
unfolding nth put
returns g c =
    let L = g.met.W.Word.laws in
    let n = words_length L.by_value c.args.bits.now ∙ c.requires.bits_length ∙ cards_full _ L.one_of_two _ L.bits_of_card _ in
    filled_end _ _ _ _ _ c.loop-c.invariant _ _ n c.least-c-end.ensures c.loop-c-test.false (or_pow _ 0)
