use borrow.Author.Rules.{rules}
use Rattle.image_laws.proofs.Size.{cards_few, cards_many, cards_odd, cards_fit}
use Rattle.size.proofs.cards.Goals as goal

pub returns-then-n-per_card : goal.returns-then-n-per_card
returns-then-n-per_card g c = search (rules, g.met.W.Word.laws, cards_few)

pub returns-then-MOST_CARDS-k : goal.returns-then-MOST_CARDS-k
returns-then-MOST_CARDS-k g c = search (rules, g.met.W.Word.laws, cards_many)

pub returns-then-per_card-k : goal.returns-then-per_card-k
returns-then-per_card-k g c = search (rules, g.met.W.Word.laws, cards_odd)

pub returns : goal.returns
returns g c = search (rules, g.met.W.Word.laws, cards_fit)
