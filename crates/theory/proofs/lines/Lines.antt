-- The lines where one section is replaced: one law for each, which asks only for the lines that read it.
use mathlib.Core.Path.{◌≡◌}
use mathlib.Core.Bool.{true}
use mathlib.Core.List.{List}
use Prim.Native.Nat.{ℕ, ◌+◌, ◌*◌, ◌-◌, ◌≤◌, ◌<◌}
use Rattle.model.specs.Base.{nth, put, bit}
use Rattle.model.specs.Image.{Image, with_heap, with_marks, with_cards, with_counts, with_regs, with_packets, with_tracers, with_players, with_general}
use Rattle.theory.specs.Lines.{PacketsOk, TracersOk, CardsOk, PlayersOk, RegsOk, MarksOk, GeneralOk, HeapOk, Start, Marked, InHand, CardInHand, Lines}
use Rattle.theory.proofs.lines.Packets.{packets_mono}
use Rattle.theory.proofs.lines.Sections.{tracers_mono, Changes, state_ok, taken_on}

-- ---- one law for each section that is replaced: only the lines that read it are asked for

module _ {m : Image} (o : Lines m) where
  pub put_regs : (l : List ℕ) → RegsOk (Start m) l → Lines (with_regs m l)
  unfolding with_regs
  put_regs l k = search

  pub put_packets : (l : List ℕ) → PacketsOk (Marked m) l → Lines (with_packets m l)
  unfolding with_packets
  put_packets l k = search

  pub put_tracers : (l : List ℕ) → TracersOk (InHand m) (CardInHand m) l → Lines (with_tracers m l)
  unfolding with_tracers
  put_tracers l k = search

  pub put_players : (l : List ℕ) → PlayersOk m.k l → Lines (with_players m l)
  unfolding with_players
  put_players l k = search

  -- marks may only grow, and their counts are written with them
  pub put_marks : (l cs : List ℕ) → MarksOk m.width m.k (Start m) l cs → ((g : ℕ) → Marked m g → bit m.width l g ≡ true) → Lines (with_counts (with_marks m l) cs)
  unfolding with_marks with_counts
  put_marks l cs k up = record { heap_ok = o.heap_ok; regs_ok = o.regs_ok; cards_ok = o.cards_ok; marks_ok = k; packets_ok = packets_mono up o.packets_ok; tracers_ok = tracers_mono (λ g i h. (up g h.0, h.1)) (λ c n h. h) o.tracers_ok; players_ok = o.players_ok; general-ok = o.general-ok }

  -- cards: those in hand stay taken
  pub put_cards : (l : List ℕ) → CardsOk m.k l → ((c : ℕ) → 2 ≤ nth m.cards c → 2 ≤ nth l c) → Lines (with_cards m l)
  unfolding with_cards
  put_cards l k up = record { heap_ok = o.heap_ok; regs_ok = o.regs_ok; cards_ok = k; marks_ok = o.marks_ok; packets_ok = o.packets_ok; tracers_ok = tracers_mono (λ g i h. h) (λ c n h. (h.0, up (c - 1) h.1, h.2, h.3)) o.tracers_ok; players_ok = o.players_ok; general-ok = o.general-ok }

  -- one card's state changed
  pub put_state : (f : ℕ → ℕ) → Changes f → (c : ℕ) → c < m.k → Lines (with_cards m (put m.cards c (f (nth m.cards c))))
  put_state f q c h = put_cards _ (state_ok o.cards_ok c _ h (q _).0) (λ d. taken_on o.cards_ok c _ d h (q _).1)

  -- the heap: numbers of links of marked objects stay
  pub put_heap : (l : List ℕ) → HeapOk m.width m.k l m.starts (nth m.general 1) → ((g : ℕ) → Marked m g → nth l (4 * g + 1) ≡ nth m.heap (4 * g + 1)) → Lines (with_heap m l)
  unfolding with_heap
  put_heap l k same = record { heap_ok = k; regs_ok = o.regs_ok; cards_ok = o.cards_ok; marks_ok = o.marks_ok; packets_ok = o.packets_ok; tracers_ok = tracers_mono (λ g i h. (h.0, rw (same g h.0) h.1)) (λ c n h. h) o.tracers_ok; players_ok = o.players_ok; general-ok = o.general-ok }

  pub put_general : (l : List ℕ) → GeneralOk l → nth l 1 ≡ nth m.general 1 → Lines (with_general m l)
  unfolding with_general
  put_general l k e = record { heap_ok = rw e o.heap_ok; regs_ok = o.regs_ok; cards_ok = o.cards_ok; marks_ok = o.marks_ok; packets_ok = o.packets_ok; tracers_ok = o.tracers_ok; players_ok = o.players_ok; general-ok = k }
