use borrow.Author.Rules.{rules}
use Rattle.image_laws.proofs.Bits.{mark_set}
use Rattle.bits_and_cards.proofs.bits.set_mark.Goals as goal

pub returns : goal.returns
returns g c = search (rules, mark_set)
