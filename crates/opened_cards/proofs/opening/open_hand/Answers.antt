use borrow.Author.Rules.{rules}
use Rattle.finish_marking_laws.proofs.seeds.Opening.{hand_object, hand_both}
use Rattle.opened_cards.proofs.opening.open_hand.Goals as goal

pub returns-then-c-eq0 : goal.returns-then-c-eq0
returns-then-c-eq0 g c = search (rules, hand_object)

pub returns : goal.returns
returns g c = hand_both _ _ _ _ _ (search rules) (search rules) c.open_one.ensures c.if-c-eq0.false _ c.open_card.ensures
