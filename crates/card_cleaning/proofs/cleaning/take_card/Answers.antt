use Rattle.std.proofs.Common.{arith}
use Rattle.image_laws.proofs.Places.{granule_fits}
use Rattle.collector_laws.proofs.Cleaning.{card-taken}
use Rattle.card_cleaning.proofs.cleaning.take_card.Goals as goal

pub card_taken-y-requires : goal.card_taken-y-requires
card_taken-y-requires g c = rw c.of-2.ensures (granule_fits g.met.W.Word.laws.one_of_two c.requires.sized.high (omega arith))

pub returns : goal.returns
returns g c =
    let set = rw c.of.ensures at c.set_card.ensures in
    let y = rw c.of-2.ensures at c.card_taken-y.ensures in
    card-taken _ _ _ c.requires.sized _ _ c.requires.t_bound.0 _ _ _ _ set c.read_tracer-x.ensures y c.write_tracer.ensures
