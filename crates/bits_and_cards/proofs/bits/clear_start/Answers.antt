use borrow.Author.Rules.{rules}
use Rattle.image_laws.proofs.Bits.{start_cleared}
use Rattle.bits_and_cards.proofs.bits.clear_start.Goals as goal

pub returns : goal.returns
returns g c = search (rules, start_cleared)
