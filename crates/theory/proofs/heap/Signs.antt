-- The signs of the map say what document 02, (iii), says: each granule shows its sign and no other.
use mathlib.Core.Path.{◌≡◌, sym, subst, ◌∙◌}
use mathlib.Core.Logic.{◌⊎◌, inl, inr}
use mathlib.Core.Bool.{true, false}
use Prim.Native.Nat.{ℕ, ◌+◌, ◌≤◌, ◌<◌}
use native.Mathlib.Decide.{ℕ_discrete}
use native.Mathlib.Omega.{arith}
use Rattle.model.specs.Image.{Image, granules, is_start, marked, size}
use Rattle.model.specs.Map.{in_object, sign_of, sign}
use Rattle.model.proofs.Laws.{false≢, bool_cases}
use Rattle.theory.specs.Lines.{Lines}
use Rattle.theory.specs.Map.{Shows, is_free, is_unmarked, is_marked, is_rest}
use Rattle.theory.specs.Pieces.{InRun}
use Rattle.theory.proofs.heap.Facts.{heap_filled_of, heap_sized_of, laid_of}
use Rattle.theory.proofs.heap.Outside.{object_inside, none_inside, inside_object}
use Rattle.theory.proofs.heap.Unused.{run_unused, unused_in_run}

module _ (m : Image) (o : Lines m) (g : ℕ) where
  -- what is in an object and no start is behind the start of that object
  rest_of : is_start m g ≡ false → in_object m g ≡ true → Shows m g 45
  rest_of n i =
      let u = inside_object m g i in
      is_rest u.0 u.1 (elim (ℕ_discrete u.0 g) [ yes e ↦ false≢ (sym n ∙ subst (λ x. is_start m x ≡ true) e u.1) | no q ↦ omega (arith, u.2) ]) u.3

  free-of : g < granules m → in_object m g ≡ false → Shows m g 46
  free-of h n = is_free (elim (ℕ_discrete g 0) [
    | yes e ↦ inl e
    | no q ↦ inr (unused_in_run m (heap_filled_of o) (heap_sized_of o) g (record {
      in_range = (omega arith, h);
      in_no_object = λ s e l b. false≢ (sym n ∙ object_inside m s g e l b);
    }))
  ])

  pub shows_sign : g < granules m → Shows m g (sign m g)
  unfolding sign sign_of
  shows_sign h = elim (bool_cases (is_start m g)) [
    | inl e ↦ elim (bool_cases (marked m g)) [ inl b ↦ rw (e, b) (is_marked e b) | inr b ↦ rw (e, b) (is_unmarked e b) ]
    | inr e ↦ elim (bool_cases (in_object m g)) [ inl i ↦ rw (e, i) (rest_of e i) | inr i ↦ rw (e, i) (free-of h i) ]
  ]

  -- granule 0 and the granules of a run are in no object
  free_in_none : (g ≡ 0) ⊎ InRun m g → (s : ℕ) → is_start m s ≡ true → s ≤ g → g < s + size m s → ⊥
  free_in_none (inl z) s e l b = omega (arith, (heap_filled_of o).start_range s e)
  free_in_none (inr r) s e l b = (run_unused m r.run g r.run_apart r.inside.0 r.inside.1).in_no_object s e l b

  no_start : ((s : ℕ) → is_start m s ≡ true → s ≤ g → g < s + size m s → ⊥) → is_start m g ≡ false
  no_start f = elim (bool_cases (is_start m g)) [ inl e ↦ absurd (f g e (omega arith) (omega (arith, (laid_of o).inside g e))) | inr e ↦ e ]

  pub shows_only : (x : ℕ) → Shows m g x → x ≡ sign m g
  unfolding sign sign_of
  shows_only x (is_free f) = rw (no_start (free_in_none f), none_inside m g (free_in_none f))
  shows_only x (is_unmarked e b) = rw (e, b)
  shows_only x (is_marked e b) = rw (e, b)
  shows_only x (is_rest s e l b) = rw (behind, object_inside m s g e (omega arith) b)
    where
      behind : is_start m g ≡ false
      behind = elim (bool_cases (is_start m g)) [ inl q ↦ absurd (omega (arith, (laid_of o).apart s g e q l)) | inr q ↦ q ]
