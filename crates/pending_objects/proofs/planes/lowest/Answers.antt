use borrow.Author.Rules.{rules}
use Rattle.image_laws.proofs.Trailing.{trailing_lowest, word_lowest}
use Rattle.pending_objects.proofs.planes.lowest.Goals as goal

pub returns : goal.returns
returns c =
    let q = trailing_lowest 64 c.args.x (search rules) c.requires in
    record { within = λ n l h. (word_lowest n c.args.x l h c.requires).within; below = q.within; set = q.is_set }
