use Rattle.finish_marking_laws.proofs.Dues.{entries_in, hands_in, regs_in, all_due}
use Rattle.finish_marking_laws.proofs.Fits.{sound_fit}
use Rattle.finish_marking_laws.proofs.Found.{world5, marks_in, all_kept}
use Rattle.finish_marking_laws.proofs.seeds.Bared.{same_section}
use Rattle.finish_marking_laws.proofs.seeds.Listing.{all_listed}
use Rattle.finish_marking.proofs.mark_found.Goals as goal

pub open_entries-requires-clause-entries_in : goal.open_entries-requires-clause-entries_in
open_entries-requires-clause-entries_in g c = entries_in c.requires.sized.low (sound_fit _ _ _ c.requires.sound)

pub open_hands-requires-clause-hands_in : goal.open_hands-requires-clause-hands_in
open_hands-requires-clause-hands_in g c = rw (same_section c.open_entries.ensures.rest 2) (hands_in c.requires.sized.low (sound_fit _ _ _ c.requires.sound))

pub hold_all-requires-clause-regs_in : goal.hold_all-requires-clause-regs_in
hold_all-requires-clause-regs_in g c =
    let d = all_due c.open_entries.ensures c.open_hands.ensures c.open_dirties.ensures in
    rw (same_section d.rest 0) (regs_in c.requires.sized.low (sound_fit _ _ _ c.requires.sound))

pub mark_all-requires-clause-world : goal.mark_all-requires-clause-world
mark_all-requires-clause-world g c =
    let d = all_due c.open_entries.ensures c.open_hands.ensures c.open_dirties.ensures in
    world5 (sound_fit _ _ _ c.requires.sound) d c.hold_all.ensures c.list_all-head.ensures

pub mark_all-requires-clause-listed : goal.mark_all-requires-clause-listed
mark_all-requires-clause-listed g c =
    let d = all_due c.open_entries.ensures c.open_hands.ensures c.open_dirties.ensures in
    all_listed (marks_in (sound_fit _ _ _ c.requires.sound) d c.hold_all.ensures c.list_all-head.ensures) c.list_all-head.ensures

pub returns : goal.returns
returns g c =
    let d = all_due c.open_entries.ensures c.open_hands.ensures c.open_dirties.ensures in
    let f = sound_fit _ _ _ c.requires.sound in
    all_kept f d c.hold_all.ensures c.list_all-head.ensures _ c.mark_all.ensures
