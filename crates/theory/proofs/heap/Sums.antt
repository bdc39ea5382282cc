-- Sums along the chain of free runs, and what a run counts where only long ones do.
use mathlib.Core.Path.{◌≡◌, refl}
use Prim.Native.Nat.{ℕ, zero, suc, ◌+◌, ◌≤◌, ◌<◌}
use native.Mathlib.Decide.{dec_lt}
use native.Mathlib.Omega.{arith}
use borrow.Author.Tests.{le-leb, lt-leb}
use Rattle.model.specs.Image.{Image, word}
use Rattle.model.specs.Mutate.{sum_runs, if_long}

-- ---- along the chain

pub sum_end : (v : ℕ → ℕ) (m : Image) (n : ℕ) → sum_runs v m n 0 ≡ 0
unfolding sum_runs
sum_end v m zero = refl
sum_end v m (suc n) = refl

pub sum_next : (v : ℕ → ℕ) (m : Image) (n g : ℕ) → 1 ≤ g → sum_runs v m (suc n) g ≡ v (word m g 0) + sum_runs v m n (word m g 1)
unfolding sum_runs
sum_next v m n zero h = absurd (omega arith)
sum_next v m n (suc g) h = refl

-- where the words of two images are the same
pub sum_alike : (v : ℕ → ℕ) (m n : Image) → ((g i : ℕ) → word n g i ≡ word m g i) → (k g : ℕ) → sum_runs v n k g ≡ sum_runs v m k g
unfolding sum_runs
sum_alike v m n e zero g = refl
sum_alike v m n e (suc k) zero = refl
sum_alike v m n e (suc k) (suc g) = rw (e (suc g) 0, e (suc g) 1, sum_alike v m n e k (word m (suc g) 1))

-- ---- a run that is long enough counts, another does not

pub long_counts : (least n : ℕ) → least ≤ n → n ≡ if_long least n
unfolding if_long
long_counts least n l = rw (le-leb least n l)

pub short_counts : (least n : ℕ) → n < least → 0 ≡ if_long least n
unfolding if_long
short_counts least n l = rw (lt-leb least n l)

-- no more than it has
pub no_more : (least n s : ℕ) → s ≡ if_long least n → s ≤ n
no_more least n s e = elim (dec_lt n least) [ yes l ↦ omega (arith, short_counts least n l) | no l ↦ omega (arith, long_counts least n (omega arith)) ]

pub long_zero : (least : ℕ) → if_long least 0 ≡ 0
long_zero least = omega (arith, no_more least 0 (if_long least 0) refl)

-- and no fewer where it has as many or more
pub long_more : (least a b : ℕ) → a ≤ b → if_long least a ≤ if_long least b
long_more least a b l = elim (dec_lt a least) [
  | yes q ↦ omega (arith, short_counts least a q)
  | no q ↦ omega (arith, long_counts least a (omega arith), long_counts least b (omega arith))
]
