use borrow.Author.Rules.{rules}
use Rattle.image_laws.proofs.Cards.{object_marked}
use Rattle.bits_and_cards.proofs.cards.mark_object.Goals as goal

pub returns : goal.returns
returns g c = search (rules, object_marked)
