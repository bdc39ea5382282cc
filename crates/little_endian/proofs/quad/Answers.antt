use borrow.Author.Rules.{rules}
use Rattle.image_laws.proofs.Pairs.{quad_is}
use Rattle.little_endian.proofs.quad.Goals as goal

pub returns : goal.returns
returns c =
    let A = c.args in
    quad_is A.bytes.now A.at _ _ (search rules) c.pair-low.ensures.0 c.pair-high.ensures.0 c.pair-low.ensures.1 c.pair-high.ensures.1
