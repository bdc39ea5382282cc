-- Sums, and how many numbers below a bound pass a test.
use mathlib.Core.Path.{◌≡◌, refl, sym, ap, ◌∙◌}
use mathlib.Core.Logic.{inl, inr}
use mathlib.Core.Bool.{Bool, true, false, cond}
use Prim.Native.Nat.{ℕ, zero, suc, ◌+◌, ◌*◌, ◌≤◌, ◌<◌}
use native.Mathlib.Decide.{ℕ_discrete}
use native.Mathlib.Omega.{arith}
use Rattle.model.specs.Base.{sum_below, how_many}
use Rattle.model.proofs.Laws.{false≢, bool_cases}

-- the same summands
pub sum_same : (v u : ℕ → ℕ) (n : ℕ) → ((i : ℕ) → i < n → v i ≡ u i) → sum_below v n ≡ sum_below u n
unfolding sum_below
sum_same v u zero f = refl
sum_same v u (suc n) f = rw (f n (omega arith), sum_same v u n (λ i h. f i (omega arith))) refl

-- one summand changes
pub sum_change : (v u : ℕ → ℕ) (n a : ℕ) → a < n → ((i : ℕ) → i < n → (i ≡ a → ⊥) → u i ≡ v i) → sum_below u n + v a ≡ sum_below v n + u a
unfolding sum_below
sum_change v u zero a h f = absurd (omega arith)
sum_change v u (suc n) a h f = elim (ℕ_discrete a n) [
  | yes e ↦ rw (e, sum_same u v n (λ i l. f i (omega arith) (λ z. omega arith))) (omega arith)
  | no e ↦ omega (arith, sum_change v u n a (omega arith) (λ i l. f i (omega arith)), f n (omega arith) (λ z. e (sym z)))
]

-- no summand is more
pub sum_most : (v u : ℕ → ℕ) (n : ℕ) → ((i : ℕ) → i < n → v i ≤ u i) → sum_below v n ≤ sum_below u n
unfolding sum_below
sum_most v u zero f = omega arith
sum_most v u (suc n) f = omega (arith, f n (omega arith), sum_most v u n (λ i h. f i (omega arith)))

-- and one is less by d
pub sum_more : (v u : ℕ → ℕ) (n a d : ℕ) → a < n → ((i : ℕ) → i < n → v i ≤ u i) → v a + d ≤ u a → sum_below v n + d ≤ sum_below u n
unfolding sum_below
sum_more v u zero a d h f l = absurd (omega arith)
sum_more v u (suc n) a d h f l = elim (ℕ_discrete a n) [
  | yes e ↦ omega (arith, sum_most v u n (λ i h. f i (omega arith)), rw e at l)
  | no e ↦ omega (arith, sum_more v u n a d (omega arith) (λ i h. f i (omega arith)) l, f n (omega arith))
]

pub sum_zero : (v : ℕ → ℕ) (n : ℕ) → ((i : ℕ) → i < n → v i ≡ 0) → sum_below v n ≡ 0
unfolding sum_below
sum_zero v zero f = refl
sum_zero v (suc n) f = rw (f n (omega arith), sum_zero v n (λ i h. f i (omega arith))) refl

pub sum_add : (v u : ℕ → ℕ) (n : ℕ) → sum_below (λ i. v i + u i) n ≡ sum_below v n + sum_below u n
unfolding sum_below
sum_add v u zero = refl
sum_add v u (suc n) = omega (arith, sum_add v u n)

pub sum_times : (c : ℕ) (v : ℕ → ℕ) (n : ℕ) → sum_below (λ i. c * v i) n ≡ c * sum_below v n
unfolding sum_below
sum_times c v zero = omega arith
sum_times c v (suc n) = omega (arith, sum_times c v n)

-- what counts for a test that passes no more often, and is no more, is no more
pub cond_most : (a b : Bool) (x y : ℕ) → (a ≡ true → b ≡ true) → x ≤ y → cond a x 0 ≤ cond b y 0
cond_most true true x y f l = l
cond_most true false x y f l = false≢ (f refl)
cond_most false b x y f l = omega arith

-- the same numbers pass
pub how_many_same : (p q : ℕ → Bool) (n : ℕ) → ((i : ℕ) → i < n → p i ≡ q i) → how_many p n ≡ how_many q n
unfolding how_many
how_many_same p q n f = sum_same _ _ n (λ i h. ap (λ b. cond b 1 0) (f i h))

-- one number more passes
pub how_many_more : (p q : ℕ → Bool) (n a : ℕ) → a < n → p a ≡ false → q a ≡ true → ((i : ℕ) → (i ≡ a → ⊥) → q i ≡ p i) → how_many q n ≡ suc (how_many p n)
unfolding how_many
how_many_more p q n a h x y f =
    let one : how_many q n + cond (p a) 1 0 ≡ how_many p n + cond (q a) 1 0 = sum_change _ _ n a h (λ i _ e. ap (λ b. cond b 1 0) (f i e)) in
    omega (arith, rw (x, y) at one)

-- where none passes, and where some number does
pub how_many_none : (p : ℕ → Bool) (n : ℕ) → ((i : ℕ) → i < n → p i ≡ false) → how_many p n ≡ 0
unfolding how_many
how_many_none p n f = sum_zero _ n (λ i h. ap (λ b. cond b 1 0) (f i h))

pub none_how_many : (p : ℕ → Bool) (n : ℕ) → how_many p n ≡ 0 → (i : ℕ) → i < n → p i ≡ true → ⊥
unfolding how_many
none_how_many p zero e i h x = omega arith
none_how_many p (suc n) e i h x = go (λ z l. none_how_many p n z i l x) (ℕ_discrete n i) (p n) refl e
  where
    go : (how_many p n ≡ 0 → i < n → ⊥) → Dec (n ≡ i) → (b : Bool) → p n ≡ b → how_many p n + cond b 1 0 ≡ 0 → ⊥
    go ih d true q z = omega arith
    go ih (yes s) false q z = false≢ (sym q ∙ (ap p s ∙ x))
    go ih (no s) false q z = ih (omega arith) (omega arith)

pub some_how_many : (p : ℕ → Bool) (n : ℕ) → (how_many p n ≡ 0 → ⊥) → (i : ℕ) × (i < n) × (p i ≡ true)
unfolding how_many
some_how_many p zero e = absurd (e refl)
some_how_many p (suc n) e = go (λ z. some_how_many p n z) (p n) refl e
  where
    go : ((how_many p n ≡ 0 → ⊥) → (i : ℕ) × (i < n) × (p i ≡ true)) → (b : Bool) → p n ≡ b → (how_many p n + cond b 1 0 ≡ 0 → ⊥) → (i : ℕ) × (i < suc n) × (p i ≡ true)
    go ih true q z = (n, omega arith, q)
    go ih false q z = let r = ih (λ y. z (omega arith)) in (r.0, omega (arith, r.1), r.2)

-- no more than all pass, and fewer where one does not
pub how_many_most : (p : ℕ → Bool) (n : ℕ) → how_many p n ≤ n
unfolding how_many
how_many_most p zero = omega arith
how_many_most p (suc n) = elim (bool_cases (p n)) [ inl e ↦ rw e (omega (arith, how_many_most p n)) | inr e ↦ rw e (omega (arith, how_many_most p n)) ]

pub how_many_below : (p : ℕ → Bool) (n a : ℕ) → a < n → p a ≡ false → how_many p n < n
unfolding how_many
how_many_below p zero a h e = absurd (omega arith)
how_many_below p (suc n) a h e = elim (ℕ_discrete n a) [
  | yes s ↦ rw (ap p s ∙ e) (omega (arith, how_many_most p n))
  | no s ↦ elim (bool_cases (p n)) [ inl x ↦ rw x (omega (arith, how_many_below p n a (omega arith) e)) | inr x ↦ rw x (omega (arith, how_many_below p n a (omega arith) e)) ]
]
