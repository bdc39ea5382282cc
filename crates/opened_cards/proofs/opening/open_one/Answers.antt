use borrow.Author.Rules.{rules}
use Rattle.finish_marking_laws.proofs.follow.Bits.{image_shape}
use Rattle.finish_marking_laws.proofs.seeds.Opening.{one_nil, one_some}
use Rattle.opened_cards.proofs.opening.open_one.Goals as goal

pub returns-then-a-eq0 : goal.returns-then-a-eq0
returns-then-a-eq0 g c = search (rules, one_nil)

pub returns : goal.returns
returns g c = search (rules, one_some, image_shape)
