use borrow.Author.Rules.{rules}
use Rattle.image_laws.proofs.Cards.{is-dirty}
use Rattle.bits_and_cards.proofs.cards.is_dirty.Goals as goal

pub returns : goal.returns
returns g c = search (rules, is-dirty)
