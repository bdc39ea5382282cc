use Rattle.std.proofs.Common.{refl, arith, ◌∙◌}
use borrow.Author.Rules.{rules}
use lib.Dec.{ltb}
use Rattle.model.specs.Image.{image_of}
use Rattle.collector_laws.proofs.Pool.{emptiest_choice}
use Rattle.packet_pool.proofs.pool.emptiest.Goals as goal

pub returns : goal.returns
returns g c = c.choose.ensures ltb (λ n e r a b p. search rules) ∙ emptiest_choice (image_of g.W.Word.BITS c.args.k (g.W.Word.words c.args.im.now)) 32 _ refl (omega arith) (omega arith)
