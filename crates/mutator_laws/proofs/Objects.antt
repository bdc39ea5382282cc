-- Kinds 2, 3, 7 and 8 by the word that the record means: no object, no such word, or done; and where the words of an object lie.
use mathlib.Core.Path.{◌≡◌, ◌∙◌}
use mathlib.Core.Logic.{⊎_elim}
use mathlib.Core.Bool.{false}
use mathlib.Core.List.{List}
use Prim.Native.Nat.{ℕ, ◌+◌, ◌*◌, ◌≤◌, ◌<◌}
use native.Mathlib.Omega.{arith}
use lib.Dec.{leb, eqb}
use borrow.Author.Tests.{le-leb, lt-leb, eq-eqb, ne_eqb}
use Rattle.model.specs.Image.{Image, image_of, is_start, links, levels, reg}
use Rattle.model.specs.Records.{Step, Kind}
use Rattle.model.specs.Rows.{Target, row_of, at_target}
use Rattle.model.specs.Mutate.{tightest}
use Rattle.model.specs.Steps.{object, no_object, past_end, bad_size, no_room, wrong_phase, nothing_to_do, act, step}
use Rattle.theory.specs.Heap.{ObjectAt}
use Rattle.theory.specs.Lines.{Start, Sound}
use Rattle.theory.proofs.heap.Walk.{object-at}
use Rattle.theory.proofs.heap.Facts.{heap_filled_of, reg_value}
use Rattle.image_laws.proofs.Sections.{granules_image}
use Rattle.request_laws.specs.Answer.{done}
use Rattle.request_laws.specs.Passed.{Passed}
use Rattle.request_laws.proofs.Numbers.{number_6, number_7, number_0}
use Rattle.mutator_laws.specs.Objects.{Means, means_link, means_level}

-- ---- the word that a record means

module _ {m : Image} {s : Step} where
  none_by : {x : Target} {g l i : ℕ} → Means m s x g l i → at_target s (λ r j. eqb (object m s r) 0) (λ r j. eqb (object m s r) 0) x ≡ eqb g 0
  unfolding at_target object
  none_by (means_link e f h) = rw e
  none_by (means_level e f h) = rw e

  past_by : {x : Target} {g l i : ℕ} → Means m s x g l i → at_target s (λ r j. leb (links m (object m s r)) j) (λ r j. leb (levels m (object m s r)) j) x ≡ leb l i
  unfolding at_target object
  past_by (means_link e f h) = rw (f, e, h)
  past_by (means_level e f h) = rw (f, e, h)

  module _ {n : Kind} {g l i : ℕ} (q : Passed m s n) (t : Means m s (row_of n).target g l i) where
    pub object_nil : g ≡ 0 → done 6 0 m ≡ step tightest m s
    unfolding no_object
    object_nil z = number_6 q (none_by t ∙ eq-eqb g 0 z)

    module _ (nz : g ≡ 0 → ⊥) where
      some_object : no_object m s n ≡ false
      unfolding no_object
      some_object = none_by t ∙ ne_eqb g 0 nz

      pub word_past : l ≤ i → done 7 0 m ≡ step tightest m s
      unfolding past_end
      word_past h = number_7 q some_object (past_by t ∙ le-leb l i h)

      pub word_acts : i < l → bad_size s n ≡ false → no_room m s n ≡ false → wrong_phase m s n ≡ false → nothing_to_do m s n ≡ false → act tightest m s n ≡ step tightest m s
      unfolding past_end
      word_acts h = number_0 q some_object (past_by t ∙ lt-leb l i h)

-- ---- where the words of the object in a register lie

module _ (w k : ℕ) (ws : List ℕ) {g : ℕ} where
  pub reg_object : Sound (image_of w k ws) → (p r : ℕ) → g ≡ reg (image_of w k ws) p r → (g ≡ 0 → ⊥) → ObjectAt (image_of w k ws) g
  unfolding is_start
  reg_object s p r e nz = ⊎_elim (λ z. absurd (nz (e ∙ z))) (λ (t : Start (image_of w k ws) (reg (image_of w k ws) p r)). rw e (object-at _ (heap_filled_of s.lines) _ t.1)) (reg_value s.lines p r)

  module _ (o : ObjectAt (image_of w k ws) g) where
    pub object_below : g < 64 * k
    object_below = omega (arith, o.sized, o.in_heap, granules_image w k ws)

    pub link_below : {l i : ℕ} → l ≡ links (image_of w k ws) g → i < l → 4 * g + (2 + i) < 256 * k
    link_below e h = omega (arith, o.links-in, o.in_heap, granules_image w k ws)

    pub level_below : {l n i : ℕ} → l ≡ levels (image_of w k ws) g → n ≡ links (image_of w k ws) g → i < l → 4 * g + (2 + n + i) < 256 * k
    unfolding levels
    level_below e f h = omega (arith, o.links-in, o.in_heap, granules_image w k ws)
