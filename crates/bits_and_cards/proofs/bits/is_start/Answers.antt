use borrow.Author.Rules.{rules}
use Rattle.image_laws.proofs.Bits.{start_read}
use Rattle.bits_and_cards.proofs.bits.is_start.Goals as goal

pub returns : goal.returns
returns g c = search (rules, start_read)
