use Rattle.std.proofs.Common.{◌∙◌}
use Rattle.soundness_laws.proofs.Entered.{entry_new, entry_hit, entry_look}
use Rattle.entries.proofs.entered.add_entry.Goals as goal

pub returns-then-first_time : goal.returns-then-first_time
returns-then-first_time g c =
    let P = c.requires in
    let F = c.first_time.ensures in
    let e = c.value-g.ensures.value ∙ c.packet_word.ensures in
    entry_new _ _ _ P.sized P.packed _ _ _ _ _ P.holding_once P.p_bound.0 P.p_bound.1 e _ _ F.0 F.1 c.if-first_time.true

pub returns-then-k-le-FEW_CARDS : goal.returns-then-k-le-FEW_CARDS
returns-then-k-le-FEW_CARDS g c =
    let P = c.requires in
    let F = c.first_time.ensures in
    let e = c.value-g.ensures.value ∙ c.packet_word.ensures in
    entry_hit _ _ _ P.sized P.packed _ _ _ _ _ P.holding_once P.p_bound.0 P.p_bound.1 e _ _ F.0 F.1 c.if-first_time.false c.if-k-le-FEW_CARDS.true

pub returns : goal.returns
returns g c =
    let P = c.requires in
    let F = c.first_time.ensures in
    let e = c.value-g.ensures.value ∙ c.packet_word.ensures in
    entry_look _ _ _ P.sized P.packed _ _ _ _ _ P.holding_once P.p_bound.0 P.p_bound.1 e _ _ F.0 F.1 _ _ c.in_packets.ensures c.in_packet.ensures
