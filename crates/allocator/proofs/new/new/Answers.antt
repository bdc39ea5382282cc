use native.Mathlib.Omega.{arith}
use Rattle.image_laws.proofs.Places.{granule_fits}
use Rattle.runs_laws.proofs.Sound.{sound_linked}
use Rattle.mutator_laws.proofs.New.{run_for, new_empty, new_too_large, new_overlinked, new_no_room, new_done, run_counted, new_counted}
use Rattle.allocator.proofs.new.new.Goals as goal
use Rattle.allocator.proofs.new.new.Goals.{then-b-eq0-via-then-b-eq0, then-b-eq0-via-else-b-eq0+then-b-gt1024, then-b-eq0-via-else-b-eq0+else-b-gt1024+then-b-c}

pub returns-then-b-eq0-clause-im_after : goal.returns-then-b-eq0-clause-im_after
returns-then-b-eq0-clause-im_after g c =
    let P = c.requires in
    elim c.then-b-eq0.branch [
      | then-b-eq0-via-then-b-eq0 w ↦ new_empty _ _ _ _ _ P.p_bound P.p_value w.if-b-eq0.true
      | then-b-eq0-via-else-b-eq0+then-b-gt1024 w ↦ new_too_large _ _ _ _ _ P.p_bound P.p_value w.if-b-gt1024.true
      | then-b-eq0-via-else-b-eq0+else-b-gt1024+then-b-c w ↦ new_overlinked _ _ _ _ _ P.p_bound P.p_value w.if-b-c.true
    ]

pub find_room-room-requires-clause-linked : goal.find_room-room-requires-clause-linked
find_room-room-requires-clause-linked g c = sound_linked _ c.requires.sound

pub returns-then-g-eq0-clause-im_after : goal.returns-then-g-eq0-clause-im_after
returns-then-g-eq0-clause-im_after g c =
    let P = c.requires in
    new_no_room _ _ _ _ _ P.p_bound P.p_value c.if-b-eq0.false c.if-b-gt1024.false c.if-b-c.false _ _ c.find_room-room.ensures c.if-g-eq0.true

pub take_run-free-requires-clause-run_for : goal.take_run-free-requires-clause-run_for
take_run-free-requires-clause-run_for g c = run_for _ _ _ c.requires.sound _ _ _ (omega arith) c.find_room-room.ensures c.if-g-eq0.false

pub take_run-free-requires-clause-b_le_granules : goal.take_run-free-requires-clause-b_le_granules
take_run-free-requires-clause-b_le_granules g c =
    let P = c.requires in
    run_counted _ _ _ _ c.args.c P.p_bound P.p_value c.if-b-eq0.false c.if-b-gt1024.false c.if-b-c.false _ _ c.find_room-room.ensures P.sound c.if-g-eq0.false _ P.free_value
    (run_for _ _ _ P.sound _ _ _ (omega arith) c.find_room-room.ensures c.if-g-eq0.false).suffices

pub make_object-requires-clause-object_fits : goal.make_object-requires-clause-object_fits
make_object-requires-clause-object_fits g c =
    record { some_granules = omega arith; few_granules = omega arith; links_fit = omega arith; inside = omega (arith, run_for _ _ _ c.requires.sound _ _ _ (omega arith) c.find_room-room.ensures c.if-g-eq0.false) }

pub of-requires : goal.of-requires
of-requires g c =
    granule_fits g.met.W.Word.laws.one_of_two c.requires.sized.high (omega (arith, run_for _ _ _ c.requires.sound _ _ _ (omega arith) c.find_room-room.ensures c.if-g-eq0.false))

pub returns-clause-im_after : goal.returns-clause-im_after
returns-clause-im_after g c =
    let P = c.requires in
    rw c.of.ensures
    (new_done _ _ _ _ _ P.p_bound P.p_value c.if-b-eq0.false c.if-b-gt1024.false c.if-b-c.false _ _ c.find_room-room.ensures c.if-g-eq0.false _ _ c.take_run-free.ensures.im_after c.make_object.ensures)

pub returns-clause-free_value_2 : goal.returns-clause-free_value_2
returns-clause-free_value_2 g c =
    let P = c.requires in
    new_counted _ _ _ _ _ P.p_bound P.p_value c.if-b-eq0.false c.if-b-gt1024.false c.if-b-c.false _ _ c.find_room-room.ensures P.sound c.if-g-eq0.false _ P.free_value
    (run_for _ _ _ P.sound _ _ _ (omega arith) c.find_room-room.ensures c.if-g-eq0.false).suffices _ _ _ c.take_run-free.ensures.value c.take_run-free.ensures.im_after c.make_object.ensures
