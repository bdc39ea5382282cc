use borrow.Author.Rules.{rules}
use mathlib.Core.Path.{refl}
use Rattle.model.specs.Image.{dirty_state}
use Rattle.image_laws.proofs.Cards.{state_is, state_taken}
use Rattle.bits_and_cards.proofs.cards.dirtied.Goals as goal

pub returns-in-0 : goal.returns-in-0
unfolding dirty_state
returns-in-0 g c = search (rules, state_is dirty_state 1 0 refl)

pub returns-in-1 : goal.returns-in-1
unfolding dirty_state
returns-in-1 g c = search (rules, state_is dirty_state 1 1 refl)

pub returns-in_default : goal.returns-in_default
unfolding dirty_state
returns-in_default g c = search (rules, state_taken dirty_state 3 (λ y. refl))
