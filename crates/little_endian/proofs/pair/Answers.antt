use borrow.Author.Rules.{rules}
use Rattle.image_laws.proofs.Pairs.{pair_is}
use Rattle.little_endian.proofs.pair.Goals as goal

pub returns : goal.returns
returns c =
    let A = c.args in
    pair_is A.bytes.now A.at _ _ (search rules) c.wide-low.ensures.0 c.wide-high.ensures.0 c.wide-low.ensures.1 c.wide-high.ensures.1
