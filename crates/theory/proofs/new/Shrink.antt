-- New takes the first granules of one run: the sum of any v over the chain loses what that run counted and gets what the rest of it counts.
use mathlib.Core.Path.{◌≡◌, refl, sym, ◌∙◌}
use mathlib.Core.Logic.{inl, inr}
use mathlib.Core.Bool.{Bool, true}
use Prim.Native.Nat.{ℕ, zero, suc, ◌+◌, ◌-◌, ◌≤◌, ◌<◌}
use native.Mathlib.Decide.{ℕ_discrete}
use native.Mathlib.Omega.{arith}
use Rattle.model.specs.Image.{Image, granules, word}
use Rattle.model.specs.Mutate.{sum_runs}
use Rattle.theory.specs.Pieces.{at_end, at_object, at_run, past_object, past_run, place_here, PiecesIn, PlaceIn}
use Rattle.theory.specs.New.{Carved, following}
use Rattle.theory.proofs.heap.Sums.{sum_end, sum_next}
use Rattle.theory.proofs.new.Carve.{place_order, word_before, word_after, other_last, same_last, run_points}

module _ (m n : Image) (b c r before next : ℕ) (w : Carved m n b c r before next) (hb : 1 ≤ b) (below : before < r) (v : ℕ → ℕ) where
  -- behind the run nothing changes, however many runs are asked, if only they are enough
  sum_behind : {x nx : ℕ} {f : Bool} (i j : ℕ) → b ≤ word m r 0 → PiecesIn m x nx f → 1 ≤ x → r + word m r 0 ≤ x → granules m ≤ x + i → granules m ≤ x + j → sum_runs v n i nx ≡ sum_runs v m j nx
  sum_behind i j lb at_end h l p q = sum_end v n i ∙ sym (sum_end v m j)
  sum_behind i j lb (at_object o s) h l p q = sum_behind i j lb s (omega arith) (omega arith) (omega (arith, o.long)) (omega (arith, o.long))
  sum_behind zero j lb (at_run o s) h l p q = absurd (omega (arith, o.long, o.ends))
  sum_behind (suc i) zero lb (at_run o s) h l p q = absurd (omega (arith, o.long, o.ends))
  sum_behind {x} (suc i) (suc j) lb (at_run o s) h l p q =
      rw (sum_next v n i x h, sum_next v m j x h, word_after m n b c r before next w hb below x 0 l lb, word_after m n b c r before next w hb below x 1 l lb)
      (omega (arith, sum_behind i j lb s (omega arith) (omega arith) (omega (arith, o.long)) (omega (arith, o.long))))

  -- the run's rest stands in the chain in its place, if there is any
  rest_sum : (i : ℕ) → b ≤ word m r 0 → v 0 ≡ 0 → PiecesIn m (r + word m r 0) (word m r 1) true → granules m ≤ r + suc i → sum_runs v n (suc i) next ≡ sum_runs v m i (word m r 1) + v (word m r 0 - b)
  rest_sum i lb z s l = elim (ℕ_discrete (word m r 0) b) [
    | yes q ↦
        let none : word m r 0 - b ≡ 0 = omega arith in
        rw (w.none_left q, none, z) (omega (arith, sum_behind (suc i) i lb s (omega arith) (omega arith) (omega arith) (omega arith)))
    | no q ↦
        let some : b < word m r 0 = omega arith in
        let left : word n (r + b) 0 ≡ word m r 0 - b = omega (arith, w.left_size some) in
        rw (w.left_next some, sum_next v n i (r + b) (omega arith), w.left_pointer some, left)
        (omega (arith, sum_behind i i lb s (omega arith) (omega arith) (omega arith) (omega arith)))
  ]

  -- the chain from granule x on, behind the run `last`: what its other runs count, and what the run counts before and after
  pub shrink : {x nx last : ℕ} {f : Bool} (i : ℕ) → v 0 ≡ 0 → PlaceIn m b x nx f last r before → last < x → granules m ≤ x + i
      → (rest : ℕ) × (sum_runs v m i nx ≡ rest + v (word m r 0)) × (sum_runs v n i (following before next last nx) ≡ rest + v (word m r 0 - b))
  shrink i z (past_object o p) h l = shrink i z p (omega arith) (omega (arith, o.long))
  shrink zero z (past_run o p) h l = absurd (omega (arith, o.long, o.ends))
  shrink {x} {last = last} (suc i) z (past_run o p) h l =
      let d = shrink i z p (omega (arith, o.long)) (omega (arith, o.long)) in
      let e : word n x 0 ≡ word m x 0 = word_before m n b c r before next w hb below x 0 (omega (arith, o.long, (place_order m p).0)) (omega arith) in
      let not_last : last ≡ before → ⊥ = λ q. elim (place_order m p).1 [ inl y ↦ omega arith | inr y ↦ omega (arith, o.long) ] in (
        v (word m x 0) + d.0,
        omega (arith, d.1, sum_next v m i x (omega arith)),
        rw (other_last m n b c r before next w hb below last x not_last, sum_next v n i x (omega arith), e, run_points m n b c r before next w hb below x p (omega arith) o.long) (omega (arith, d.2)),
      )
  shrink zero z (place_here o s p) h l = absurd (omega (arith, o.long, o.ends))
  shrink {last = last} (suc i) z (place_here o s p) h l = (
    sum_runs v m i (word m r 1),
    omega (arith, sum_next v m i r (omega arith)),
    rw (same_last m n b c r before next w hb below last r refl) (rest_sum i s z p l),
  )
