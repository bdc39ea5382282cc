-- The code that makes a gap a run, case by case.
use mathlib.Core.Path.{◌≡◌, refl, sym, ◌∙◌}
use Prim.Native.Nat.{ℕ, ◌+◌, ◌*◌, ◌-◌, ◌<◌, ◌≤◌}
use native.Mathlib.Omega.{arith}
use lib.ListN.{take-append-drop}
use borrow.Author.Tests.{eq-eqb, ne_eqb}
use Rattle.model.specs.Image.{Image, word, size, first_run, with_heap, set_first_run, set_word}
use Rattle.model.specs.Mutate.{usable_run}
use Rattle.theory.proofs.heap.Sums.{no_more}
use Rattle.image_laws.specs.Clearing.{zeroed}
use Rattle.runs_laws.specs.declared.Free.{Free}
use Rattle.runs_laws.specs.Granules.{grown}
use Rattle.finish_laws.specs.Gaps.{Within, edged, head_at, run_from, gap, closed_at, kept_at}
use Rattle.finish_laws.proofs.gaps.Runs.{gap_zero, gap_suc}

-- ---- a run

pub head_set : (m : Image) (a x y : ℕ) (m1 m2 m3 m4 : Image) → m1 ≡ set_word m a 0 x → m2 ≡ set_word m1 a 1 y → m3 ≡ set_word m2 a 2 0 → m4 ≡ set_word m3 a 3 0 → m4 ≡ head_at m a x y
unfolding head_at
head_set m a x y m1 m2 m3 m4 e1 e2 e3 e4 = rw (e4, e3, e2, e1)

pub behind_none : (m : Image) (a e : ℕ) → a < e → e ≤ a + 1 → m ≡ with_heap m (zeroed (4 * a + 4) (4 * e) m.heap)
unfolding with_heap zeroed
behind_none m a e l h =
    let q : 4 * e ≡ 4 * a + 4 = omega arith in
    let p : 4 * a + 4 - (4 * a + 4) ≡ 0 = omega arith in
    rw (q, p, take-append-drop (4 * a + 4) m.heap)

pub run_done : (m : Image) (a e n : ℕ) → n ≡ first_run m → (m1 m2 m3 : Image) → m1 ≡ head_at m a (e - a) n → m2 ≡ with_heap m1 (zeroed (4 * a + 4) (4 * e) m1.heap) → m3 ≡ set_first_run m2 a → m3 ≡ run_from m a e
unfolding run_from
run_done m a e n en m1 m2 m3 e1 e2 e3 = rw (e3, e2, e1, en)

pub gap_some : (m m' : Image) (a e : ℕ) → a < e → m' ≡ run_from m a e → m' ≡ gap m a e
gap_some m m' a e l q = q ∙ sym (gap_suc m a e l)

pub gap_none : (m : Image) (a e : ℕ) → e ≤ a → m ≡ gap m a e
gap_none m a e l = sym (gap_zero m a e l)

-- ---- a kept object

module _ (m : Image) (h e : ℕ) (f : Free) where
  pub keep_next : e ≡ h + 1 → edged h f m ≡ kept_at h (edged e f m)
  unfolding kept_at
  keep_next q = rw (eq-eqb e (h + 1) q)

  pub keep_behind : (e ≡ h + 1 → ⊥) → (s : ℕ) → s ≡ word m h 0 → (m' : Image) → m' ≡ gap m (h + s) e → (n : ℕ) → n ≡ e - (h + s) → (r : Free) → r ≡ grown f n → edged h r m' ≡ kept_at h (edged e f m)
  unfolding kept_at closed_at size
  keep_behind q s es m' em n en r er = rw (ne_eqb e (h + 1) q, ← es, em, er, en)

-- ---- a run more

-- it lies in the heap, as those before it
module _ (k h e : ℕ) (f : Free) (t : Within k e f) (l : h ≤ e) where
  pub within_none : Within k h f
  within_none = record { room = omega (arith, t.room); fewer = t.fewer }

  pub within_grown : (a : ℕ) → h ≤ a → (n : ℕ) → n ≡ e - a → (r : Free) → r ≡ grown f n → Within k h r
  unfolding grown
  within_grown a q n en r er = rw er (record { room = omega (arith, t.room); fewer = omega (arith, t.fewer, no_more usable_run n _ refl) })
