use borrow.Author.Rules.{rules}
use Rattle.judge_laws.proofs.Objects.{coming_dirty, coming_entered, coming_card}
use Rattle.covered_objects.proofs.objects.is_coming.Goals as goal

pub returns-then-is_dirty : goal.returns-then-is_dirty
returns-then-is_dirty g c = search (rules, coming_dirty)

pub returns-then-is_entered : goal.returns-then-is_entered
returns-then-is_entered g c = search (rules, coming_entered)

pub returns : goal.returns
returns g c = search (rules, coming_card)
