use Rattle.std.proofs.Common.{refl, arith, ◌∙◌}
use borrow.Author.Rules.{rules}
use Rattle.model.specs.Image.{image_of}
use Rattle.collector_laws.proofs.Pool.{fullest_choice, greater}
use Rattle.packet_pool.proofs.pool.fullest.Goals as goal

pub returns : goal.returns
returns g c = c.choose.ensures greater (λ n e r a b p. search rules) ∙ fullest_choice (image_of g.W.Word.BITS c.args.k (g.W.Word.words c.args.im.now)) 32 _ refl (omega arith) (omega arith)
