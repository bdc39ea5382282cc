use Rattle.std.proofs.Common.{arith, refl}
use Rattle.image_laws.proofs.Places.{granule_fits}
use Rattle.collector_laws.proofs.Cleaning.{next_in, card-let-go, card_object, card_in, card_from}
use Rattle.card_cleaning.proofs.cleaning.clean_card.Goals as goal

pub next_marked-requires-clause-c_le_k : goal.next_marked-requires-clause-c_le_k
next_marked-requires-clause-c_le_k g c =
    let R = c.requires in
    let card = c.value-card.ensures.value in (
      card_in _ _ _ R.lines _ R.t_bound.0 _ R.t_bound.1 R.t_bound.2 _ card,
      card_from _ _ _ R.lines _ R.t_bound.0 _ R.t_bound.1 R.t_bound.2 _ card _ c.value-from.ensures.value,
    )

pub of-object-requires : goal.of-object-requires
of-object-requires g c =
    let R = c.requires in
    let found = rw (c.value-card.ensures.value, c.value-from.ensures.value) at c.in-Some.ensures in
    let far = next_in _ _ _ R.lines _ R.t_bound.0 _ R.t_bound.1 R.t_bound.2 _ found in
    granule_fits g.met.W.Word.laws.one_of_two R.sized.high (omega arith)

pub granule_moves_on-y-requires : goal.granule_moves_on-y-requires
granule_moves_on-y-requires g c =
    let R = c.requires in
    let found = rw (c.value-card.ensures.value, c.value-from.ensures.value) at c.in-Some.ensures in
    let far = next_in _ _ _ R.lines _ R.t_bound.0 _ R.t_bound.1 R.t_bound.2 _ found in
    rw c.of-object.ensures (granule_fits g.met.W.Word.laws.one_of_two R.sized.high (omega arith))

pub take_object-requires-clause-t_bound : goal.take_object-requires-clause-t_bound
take_object-requires-clause-t_bound g c =
    let R = c.requires in
    let found = rw (c.value-card.ensures.value, c.value-from.ensures.value) at c.in-Some.ensures in
    let far = next_in _ _ _ R.lines _ R.t_bound.0 _ R.t_bound.1 R.t_bound.2 _ found in
    (R.t_bound.0, rw c.of-object.ensures (omega arith))

pub returns : goal.returns
returns g c =
    let R = c.requires in
    let found = rw (c.value-card.ensures.value, c.value-from.ensures.value) at c.in-Some.ensures in
    let y = rw c.of-object.ensures at c.granule_moves_on-y.ensures in
    let n = rw c.of-object.ensures at c.take_object.ensures in
    card_object _ _ _ R.lines _ R.t_bound.0 _ R.t_bound.1 R.t_bound.2 _ found _ refl _ _ _ y c.write_tracer-2.ensures n

pub returns-in_default : goal.returns-in_default
returns-in_default g c =
    let R = c.requires in
    let found = rw (c.value-card.ensures.value, c.value-from.ensures.value) at c.in_default.ensures in
    card-let-go _ _ _ R.lines _ R.t_bound.0 _ R.t_bound.1 R.t_bound.2 _ found refl _ _ c.card_let_go-gone.ensures c.write_tracer.ensures
