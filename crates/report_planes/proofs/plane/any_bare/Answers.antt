use Rattle.soundness_laws.proofs.Checks.{sought_none, sought_more, sought_end}
use Rattle.report_laws.proofs.Plane.{word_bare, bare_end}
use Rattle.image.proofs.Words.{word_read}
use borrow.Author.Rules.{rules}
use Rattle.report_planes.proofs.plane.any_bare.Goals as goal

pub loop-i-init : goal.loop-i-init
loop-i-init g c = (sought_none, search rules)

pub loop-i-preserved : goal.loop-i-preserved
loop-i-preserved g c =
    let I = c.loop-i.invariant in
    let e = word_read g.met.W.Word.laws.by_value c.args.s.now _ _ (search rules) c.index-s-i.is in
    (sought_more _ _ _ _ _ I.0 (search rules) (word_bare _ _ _ _ _ _ (rw e at c.is_bare-found.ensures) c.start_word.ensures), search rules)

pub returns : goal.returns
returns g c = bare_end _ _ _ _ _ c.requires.sized (sought_end _ _ _ _ c.loop-i.invariant.0 (search rules))
