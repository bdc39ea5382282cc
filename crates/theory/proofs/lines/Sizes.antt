-- The sizes of the sections of an image that fits, and that an image with the lines fits.
use mathlib.Core.Path.{◌≡◌, ap, ◌∙◌}
use mathlib.Core.Logic.{inl, inr}
use mathlib.Core.List.{map}
use Prim.Native.Nat.{ℕ, ◌≤◌, ◌*◌}
use native.Mathlib.Omega.{arith}
use lib.ListN.{length, get_or}
use Rattle.model.specs.Image.{heap_at, starts_at, marks_at, cards_at, counts_at, regs_at, packets_at, tracers_at, players_at, general_at, lengths, most_cards, Image, sections}
use Rattle.model.proofs.Words.{Fits, width_cases}
use Rattle.model.proofs.Bits.{bit_within}
use Rattle.theory.specs.Lines.{Sizes, Lines}
use Rattle.theory.proofs.heap.Facts.{some_card}

-- ---- sizes from lengths

pub fits_sizes : (m : Image) → Fits m → Sizes m
unfolding sections
fits_sizes m f = record {
  heap_size = here heap_at ∙ omega arith;
  starts_size = here starts_at;
  marks_size = here marks_at;
  starts_in = λ g e. bit_within m.width (64 * m.k) m.starts g (here starts_at) e;
  marks_in = λ g e. bit_within m.width (64 * m.k) m.marks g (here marks_at) e;
  marks_room = λ g h. rw (here marks_at) (elim (width_cases m.width m.k f.some_card f.few_cards) [ inl e ↦ rw e (omega arith) | inr e ↦ rw e (omega arith) ]);
  cards_size = here cards_at;
  counts_size = here counts_at;
  regs_size = here regs_at;
  packets_size = here packets_at;
  tracers_size = here tracers_at;
  players_size = here players_at;
  general_size = here general_at;
}
  where
    here : (i : ℕ) → get_or (map length (sections m)) i 0 ≡ get_or (lengths m.width m.k) i 0
    here i = ap (λ l. get_or l i 0) f.section_lengths

-- the lines give the lengths
pub lines_fits : {m : Image} → Lines m → m.k ≤ most_cards m.width → Fits m
unfolding sections
lines_fits {m} o h = record {
  some_card = some_card o;
  few_cards = h;
  section_lengths = let e : 4 * (64 * m.k) ≡ 256 * m.k = omega arith in cc;
}
