use borrow.Author.Rules.{rules}
use Rattle.model.specs.Image.{size}
use Rattle.service_map_laws.proofs.Signs.{own_further, own_before}
use Rattle.map_signs.proofs.signs.furthest.Goals as goal

pub returns-then-end-own : goal.returns-then-end-own
unfolding size
returns-then-end-own g c = search (rules, own_further)

pub returns : goal.returns
unfolding size
returns g c = search (rules, own_before)
