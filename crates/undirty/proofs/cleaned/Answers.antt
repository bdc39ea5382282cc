use Rattle.std.proofs.Common.{refl}
use borrow.Author.Rules.{rules}
use Rattle.model.specs.Image.{clean_state}
use Rattle.image_laws.proofs.Cards.{state_is, state_taken}
use Rattle.undirty.proofs.cleaned.Goals as goal

pub returns-in-0 : goal.returns-in-0
unfolding clean_state
returns-in-0 g c = search (rules, state_is clean_state 0 0 refl)

pub returns-in-1 : goal.returns-in-1
unfolding clean_state
returns-in-1 g c = search (rules, state_is clean_state 0 1 refl)

pub returns-in_default : goal.returns-in_default
unfolding clean_state
returns-in_default g c = search (rules, state_taken clean_state 2 (λ y. refl))
