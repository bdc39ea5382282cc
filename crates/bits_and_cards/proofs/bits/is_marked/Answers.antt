use Rattle.image_laws.proofs.Bits.{mark_read}
use borrow.Author.Rules.{rules}
use Rattle.bits_and_cards.proofs.bits.is_marked.Goals as goal

pub returns : goal.returns
returns g c = search (rules, mark_read)
