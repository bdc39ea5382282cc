-- What the lines give of the heap: it is filled, objects lie apart, links and registers are nil or starts.
use mathlib.Core.Path.{◌≡◌, sym, ◌∙◌}
use mathlib.Core.Logic.{inl, inr}
use mathlib.Core.Bool.{true, false}
use Prim.Native.Nat.{ℕ, ◌+◌, ◌*◌, ◌≤◌, ◌<◌}
use native.Mathlib.Decide.{ℕ_discrete}
use native.Mathlib.Omega.{arith}
use lib.ListN.{drop}
use Rattle.model.specs.Base.{nth, bit}
use Rattle.model.specs.Image.{Image, granules, word, is_start, marked, links, link, reg, first_run}
use Rattle.model.specs.Undamaged.{fill}
use Rattle.model.proofs.Laws.{false≢}
use Rattle.theory.specs.Heap.{HeapFilled, HeapSized, Laid, Proper}
use Rattle.theory.specs.Lines.{NilOr, Start, Lines}
use Rattle.theory.proofs.heap.Walk.{fill_use, laid}

module _ {m : Image} (o : Lines m) where
  pub start_pos : (g : ℕ) → bit m.width m.starts g ≡ true → 1 ≤ g
  start_pos g s = elim (ℕ_discrete g 0) [ yes e ↦ false≢ (sym o.heap_ok.unused ∙ (rw e at s)) | no n ↦ omega arith ]

  pub heap_filled_of : HeapFilled m
  unfolding granules is_start first_run
  heap_filled_of = record {
    heap_words = o.heap_ok.sized;
    heap_filled = fill_use (bit m.width m.starts) (64 * m.k) 1 (drop 4 m.heap) (nth m.general 1) false o.heap_ok.filled;
    start_range = λ g s. (start_pos g s, o.heap_ok.within g s);
  }

  pub some_card : 1 ≤ m.k
  unfolding fill
  some_card = elim (ℕ_discrete m.k 0) [ yes e ↦ false≢ (rw e at o.heap_ok.filled) | no n ↦ omega arith ]

  pub heap_sized_of : HeapSized m
  unfolding granules
  heap_sized_of = record {
    some_granules = omega (arith, some_card);
    start_words = λ g h. rw (o.heap_ok.starts_sized, ← o.marks_ok.exact) (o.marks_ok.sized g h);
    general_words = omega (arith, o.general-ok.sized);
  }

  pub laid_of : Laid m
  unfolding marked is_start
  laid_of = laid m heap_filled_of (λ g k. (o.marks_ok.on_starts g k).1)

  pub reg_value : (p r : ℕ) → NilOr (Start m) (reg m p r)
  unfolding reg
  reg_value p r = o.regs_ok.values (16 * p + r)

  pub link_value : (g i : ℕ) → Start m g → i < links m g → NilOr (Start m) (link m g i)
  unfolding links link word
  link_value g i sg l = o.heap_ok.links-ok g i sg.0 sg.1 l

  pub start_at : (g : ℕ) → is_start m g ≡ true → Start m g
  unfolding is_start
  start_at g e = (o.heap_ok.within g e, e)

  pub proper_of : Proper m
  unfolding is_start marked
  proper_of = record {
    reg_start = λ p r hp hr n. elim (reg_value p r) [ inl z ↦ absurd (n z) | inr s ↦ s.1 ];
    link_start = λ g i s l n. elim (link_value g i (start_at g s) l) [ inl z ↦ absurd (n z) | inr s ↦ s.1 ];
    mark_start = λ g k. (o.marks_ok.on_starts g k).1;
  }
