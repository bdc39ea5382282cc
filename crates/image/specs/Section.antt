-- The sections of an image by name.
use Rattle.std.specs.Prelude.{ℕ, List, get_or}
use Rattle.model.specs.Image.{Image, lengths, heap_at, starts_at, marks_at, cards_at, counts_at, regs_at, packets_at, tracers_at, players_at, general_at, with_heap, with_starts, with_marks, with_cards, with_counts, with_regs, with_packets, with_tracers, with_players, with_general}
use Rattle.image.specs.declared.section.Section.{Section}
use Rattle.image.specs.declared.section.Section.TheVariants.{Heap, Starts, Marks, Cards, Counts, Regs, Packets, Tracers, Players, General}

-- the section's number in the order of the image
abbrev pub number_of : Section → ℕ
number_of Heap = heap_at
number_of Starts = starts_at
number_of Marks = marks_at
number_of Cards = cards_at
number_of Counts = counts_at
number_of Regs = regs_at
number_of Packets = packets_at
number_of Tracers = tracers_at
number_of Players = players_at
number_of General = general_at

-- how many words it has in an image of k cards, in words of w bits
abbrev pub section_length : ℕ → ℕ → Section → ℕ
section_length w k s = get_or (lengths w k) (number_of s) 0

-- its words, and the image with others there
abbrev pub part : Section → Image → List ℕ
part Heap m = m.heap
part Starts m = m.starts
part Marks m = m.marks
part Cards m = m.cards
part Counts m = m.counts
part Regs m = m.regs
part Packets m = m.packets
part Tracers m = m.tracers
part Players m = m.players
part General m = m.general

abbrev pub with_part : Section → Image → List ℕ → Image
with_part Heap m l = with_heap m l
with_part Starts m l = with_starts m l
with_part Marks m l = with_marks m l
with_part Cards m l = with_cards m l
with_part Counts m l = with_counts m l
with_part Regs m l = with_regs m l
with_part Packets m l = with_packets m l
with_part Tracers m l = with_tracers m l
with_part Players m l = with_players m l
with_part General m l = with_general m l
