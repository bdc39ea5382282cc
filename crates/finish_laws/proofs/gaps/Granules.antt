-- Granules passed one after the other: marks stay, an unmarked one changes nothing, and kept objects of one granule leave no gap.
use mathlib.Core.Path.{◌≡◌, refl, ap, ◌∙◌}
use mathlib.Core.Bool.{true, false}
use mathlib.Core.Logic.{⊎_elim}
use Prim.Native.Nat.{ℕ, zero, suc, ◌+◌, ◌-◌, ◌<◌, ◌≤◌}
use native.Mathlib.Nat.{add-zero, sub-zero}
use native.Mathlib.Omega.{arith}
use Rattle.model.proofs.Laws.{bool_cases}
use lib.Dec.{ltb, eqb}
use borrow.Author.Tests.{eq-eqb}
use Rattle.model.specs.Image.{Image, marked, size, with_heap, with_general, set_first_run, set_word}
use Rattle.runs_laws.specs.declared.Free.{Free}
use Rattle.finish_laws.specs.Gaps.{Edged, edged, head_at, run_from, gap, closed_at, kept_at, passed, swept_from}

-- ---- marks stay

gap_marks : (m : Image) (a e g : ℕ) → marked (gap m a e) g ≡ marked m g
unfolding gap run_from head_at set_word set_first_run with_heap with_general marked
gap_marks m a e g = ⊎_elim (λ q. rw q) (λ q. rw q) (bool_cases (ltb a e))

kept_marks : (h : ℕ) (s : Edged) (g : ℕ) → marked (kept_at h s).image g ≡ marked s.image g
unfolding kept_at closed_at
kept_marks h s g = ⊎_elim (λ q. rw q) (λ q. rw q (gap_marks s.image (h + size s.image h) s.start g)) (bool_cases (eqb s.start (h + 1)))

passed_marks : (s : Edged) (h g : ℕ) → marked (passed s h).image g ≡ marked s.image g
unfolding passed
passed_marks s h g = ⊎_elim (λ q. rw q (kept_marks h s g)) (λ q. rw q) (bool_cases (marked s.image h))

pub from_marks : (n : ℕ) (s : Edged) (i g : ℕ) → marked (swept_from n s i).image g ≡ marked s.image g
unfolding swept_from
from_marks n s zero g = refl
from_marks n s (suc i) g = passed_marks (swept_from n s i) (n - suc i) g ∙ from_marks n s i g

-- ---- one granule, by what its mark says

pub passed_none : (s : Edged) (h : ℕ) → marked s.image h ≡ false → passed s h ≡ s
unfolding passed
passed_none s h u = rw u

pub passed_keep : (s : Edged) (h : ℕ) → marked s.image h ≡ true → passed s h ≡ kept_at h s
unfolding passed
passed_keep s h u = rw u

-- ---- several

pub swept_none : (n : ℕ) (s : Edged) → swept_from n s 0 ≡ s
unfolding swept_from
swept_none n s = refl

pub from_suc : (n : ℕ) (s : Edged) (i : ℕ) → swept_from n s (suc i) ≡ passed (swept_from n s i) (n - suc i)
unfolding swept_from
from_suc n s i = refl

pub from_unmarked : (n : ℕ) (s : Edged) (i j : ℕ) → i + j ≤ n → ((h : ℕ) → n ≤ h + (i + j) → h + i < n → marked s.image h ≡ false) → swept_from n s (i + j) ≡ swept_from n s i
from_unmarked n s i zero l f = rw add-zero
from_unmarked n s i (suc j) l f =
    let q : i + suc j ≡ suc (i + j) = omega arith in
    rw (q, from_suc, passed_none (swept_from n s (i + j)) (n - suc (i + j)) (from_marks n s (i + j) _ ∙ f (n - suc (i + j)) (omega arith) (omega arith)))
    (from_unmarked n s i j (omega arith) (λ h p q. f h (omega arith) q))

pub from_add : (n : ℕ) (s : Edged) (i j : ℕ) → swept_from n s (i + j) ≡ swept_from (n - i) (swept_from n s i) j
from_add n s i zero = rw (add-zero, swept_none)
from_add n s i (suc j) =
    let q : i + suc j ≡ suc (i + j) = omega arith in
    let p : n - suc (i + j) ≡ n - i - suc j = omega arith in
    rw (q, from_suc n s (i + j), from_suc (n - i) (swept_from n s i) j, p) (ap (λ (t : Edged). passed t (n - i - suc j)) (from_add n s i j))

-- ---- kept objects of one granule, right before another kept object

kept_next : (h : ℕ) (f : Free) (m : Image) → kept_at h (edged (h + 1) f m) ≡ edged h f m
unfolding kept_at
kept_next h f m = rw (eq-eqb (h + 1) (h + 1) refl)

pub from_full : (n : ℕ) (f : Free) (m : Image) (i : ℕ) → i ≤ n → ((h : ℕ) → n ≤ h + i → h < n → marked m h ≡ true) → swept_from n (edged n f m) i ≡ edged (n - i) f m
from_full n f m zero l u = rw (swept_none, sub-zero)
from_full n f m (suc i) l u =
    let q : n - i ≡ n - suc i + 1 = omega arith in
    rw from_suc
    (ap (λ (t : Edged). passed t (n - suc i)) (from_full n f m i (omega arith) (λ h p q. u h (omega arith) q))
    ∙ rw (q, passed_keep (edged (n - suc i + 1) f m) (n - suc i) (u (n - suc i) (omega arith) (omega arith))) (kept_next (n - suc i) f m))
