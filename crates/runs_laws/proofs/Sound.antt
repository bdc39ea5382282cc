-- The chain of free runs in a sound image ascends.
use mathlib.Core.Path.{◌≡◌, refl}
use mathlib.Core.Logic.{◌⊎◌, inl, inr, ⊎_elim}
use mathlib.Core.Bool.{Bool}
use Prim.Native.Nat.{ℕ, ◌≤◌}
use native.Mathlib.Omega.{arith}
use Rattle.model.specs.Image.{Image, first_run}
use Rattle.theory.specs.Lines.{Sound}
use Rattle.theory.specs.Pieces.{at_end, at_object, at_run, PiecesIn}
use Rattle.theory.proofs.heap.Pieces.{image_pieces}
use Rattle.theory.proofs.heap.Facts.{heap_filled_of, heap_sized_of}
use Rattle.runs_laws.specs.Chain.{Linked, linked_end, linked_run}

pieces_linked : (m : Image) {g next : ℕ} {b : Bool} → PiecesIn m g next b → 1 ≤ g → ((next ≡ 0) ⊎ (g ≤ next)) × Linked m next
pieces_linked m at_end h = (inl refl, linked_end)
pieces_linked m (at_object o p) h = let r = pieces_linked m p (omega arith) in (⊎_elim (λ e. inl e) (λ l. inr (omega (arith, o.long))) r.0, r.1)
pieces_linked m (at_run o p) h =
    let r = pieces_linked m p (omega arith) in
    (inr (omega arith), linked_run h (omega (arith, o.long, o.ends)) (⊎_elim (λ e. inl e) (λ l. inr (omega (arith, o.long))) r.0) r.1)

pub sound_linked : (m : Image) → Sound m → Linked m (first_run m)
sound_linked m s = (pieces_linked m (image_pieces m (heap_filled_of s.lines) (heap_sized_of s.lines)) (omega arith)).1
