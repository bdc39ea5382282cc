-- Runs lie apart from objects; unused granules lie in joined runs, and are zero but for a run's two words.
use mathlib.Core.Path.{◌≡◌, sym, ap, ◌∙◌}
use mathlib.Core.Logic.{◌⊎◌, inl, inr}
use mathlib.Core.Bool.{Bool, true}
use Prim.Native.Nat.{ℕ, ◌+◌, ◌*◌, ◌-◌, ◌≤◌, ◌<◌}
use native.Mathlib.Decide.{ℕ_discrete, dec_lt}
use native.Mathlib.Omega.{arith}
use Rattle.model.specs.Base.{nth}
use Rattle.model.specs.Image.{Image, granules, word, is_start, size}
use Rattle.model.proofs.Laws.{false≢}
use Rattle.theory.specs.Heap.{HeapFilled, HeapSized}
use Rattle.theory.specs.Pieces.{at_end, at_object, at_run, ObjectIn, RunIn, PiecesIn, RunApart, Clear, Unused, InRun}
use Rattle.theory.proofs.heap.Pieces.{start_beside, behind_run, image_pieces}

module _ (m : Image) where
  pub clear_object : (x : ℕ) → ObjectIn m x → Clear m x → Clear m (x + word m x 0)
  unfolding size
  clear_object x o c h e l = elim (start_beside (is_start m) x (word m x 0) o.alone h e) [
    | inl y ↦ elim (ℕ_discrete h x) [ yes q ↦ rw q (omega arith) | no q ↦ omega (arith, c h e (omega arith)) ]
    | inr y ↦ absurd (omega arith)
  ]

  -- a start lies before a run or behind it
  run_beside : (x : ℕ) → RunIn m x → (h : ℕ) → is_start m h ≡ true → (h < x) ⊎ (x + word m x 0 ≤ h)
  run_beside x o h e = elim (start_beside (is_start m) x (word m x 0) o.alone h e) [
    | inl y ↦ elim (ℕ_discrete h x) [ yes q ↦ false≢ (sym o.no_start ∙ (rw q at e)) | no q ↦ inl (omega arith) ]
    | inr y ↦ inr y
  ]

  pub clear_run : (x : ℕ) → RunIn m x → Clear m x → Clear m (x + word m x 0)
  clear_run x o c h e l = elim (run_beside x o h e) [ inl y ↦ omega (arith, c h e y) | inr y ↦ absurd (omega arith) ]

  pub run_apart : (x : ℕ) → 1 ≤ x → RunIn m x → Clear m x → RunApart m x
  run_apart x hx o c = record { not_nil = hx; is_run = o; apart = λ h e. elim (run_beside x o h e) [ inl y ↦ inl (c h e y) | inr y ↦ inr y ] }

  -- the granules of a run are unused
  pub run_unused : (r y : ℕ) → RunApart m r → r ≤ y → y < r + word m r 0 → Unused m y
  run_unused r y a l q = record {
    in_range = (omega (arith, a.not_nil), omega (arith, a.is_run.ends));
    in_no_object = λ h e u v. elim (a.apart h e) [ inl k ↦ omega arith | inr k ↦ omega arith ];
  }

  pub clear_one : HeapFilled m → Clear m 1
  clear_one o h e l = absurd (omega (arith, (o.start_range h e).0))

  -- ---- unused granules

  -- a granule of the run at x, behind which stand more pieces
  abbrev pub run_here : (x y : ℕ) {next : ℕ} → RunApart m x → PiecesIn m (x + word m x 0) next true → x ≤ y → y < x + word m x 0 → InRun m y
  run_here x y a p l q = record { run = x; run_apart = a; inside = (l, q); joined = elim (behind_run (is_start m) (word m) (granules m) p) [ inl e ↦ inl e | inr o ↦ inr o.starts ] }

  in_run : {x next : ℕ} {f : Bool} (y : ℕ) → Unused m y → 1 ≤ x → PiecesIn m x next f → Clear m x → x ≤ y → InRun m y
  in_run y u h at_end c l = absurd (omega (arith, u.in_range))
  in_run {x} y u h (at_object o p) c l = elim (dec_lt y (x + word m x 0)) [
    | yes k ↦ absurd (u.in_no_object x o.starts l (unfold size in k))
    | no k ↦ in_run y u (omega arith) p (clear_object x o c) (omega arith)
  ]
  in_run {x} y u h (at_run o p) c l = elim (dec_lt y (x + word m x 0)) [
    | yes k ↦ run_here x y (run_apart x h o c) p l k
    | no k ↦ in_run y u (omega arith) p (clear_run x o c) (omega arith)
  ]

  pub unused_in_run : HeapFilled m → HeapSized m → (y : ℕ) → Unused m y → InRun m y
  unused_in_run o z y u = in_run y u (omega arith) (image_pieces m o z) (clear_one o) u.in_range.0

  -- word i of a granule in a run is 0, unless it is one of the run's two words
  pub in_run_zero : (y i : ℕ) (k : InRun m y) → i < 4 → ((y ≡ k.run) × (i < 2)) ⊎ (word m y i ≡ 0)
  unfolding word
  in_run_zero y i k l = elim (dec_lt (4 * (y - k.run) + i) 2) [
    | yes q ↦ inl (omega arith, omega arith)
    | no q ↦
        let j : 4 * y + i ≡ 4 * k.run + (2 + (4 * (y - k.run) + i - 2)) = omega arith in
        inr (ap (nth m.heap) j ∙ k.run_apart.is_run.zero_words (4 * (y - k.run) + i - 2) (omega arith))
  ]
