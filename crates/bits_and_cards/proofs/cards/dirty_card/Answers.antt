use borrow.Author.Rules.{rules}
use Rattle.image_laws.proofs.Cards.{card_dirtied}
use Rattle.bits_and_cards.proofs.cards.dirty_card.Goals as goal

pub returns : goal.returns
returns g c = search (rules, card_dirtied)
