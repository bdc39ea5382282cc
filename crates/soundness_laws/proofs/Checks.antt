-- Loops that test every number below n, as `all n p` or `any n p`; laws of these tests.
use mathlib.Core.Path.{◌≡◌, refl, sym, ◌∙◌}
use mathlib.Core.Logic.{inl, inr}
use mathlib.Core.Bool.{Bool, true, false, ◌&&◌, ◌||◌, and-true, and_assoc, and_comm}
use Prim.Native.Nat.{ℕ, zero, suc, ◌+◌, ◌≤◌, ◌<◌, min, ◌-◌}
use native.Mathlib.Numerals.{add-one}
use native.Mathlib.Nat.{add-zero, add-suc}
use native.Mathlib.Decide.{ℕ_discrete, dec_lt}
use native.Mathlib.Omega.{arith}
use lib.Dec.{ltb}
use borrow.Author.Tests.{le-ltb, lt-ltb}
use lib.ListN.{take, drop}
use Rattle.model.specs.Base.{nth, all, any, every}
use Rattle.model.proofs.Entries.{nth_drop, nth_take}
use Rattle.image_laws.proofs.Parts.{all_cong}
use Rattle.model.proofs.Laws.{false≢, bool_cases, all_use}
use Rattle.soundness_laws.specs.Tests.{onward}
use mathlib.Core.List.{List, [], ◌∷◌}

-- ---- `ok` says whether all below i pass

pub record Checked (n : ℕ) (p : ℕ → Bool) (ok : Bool) (i : ℕ) : Type 0 where
  pub within : i ≤ n
  pub so_far : ok ≡ all i p

pub checked_none : {n : ℕ} {p : ℕ → Bool} → Checked n p true 0
unfolding all
checked_none {n} = record { within = omega arith; so_far = refl }

-- the first two at once
pub first_two : (p : ℕ → Bool) (n : ℕ) (a b : Bool) → a ≡ p 0 → b ≡ p 1 → ((ltb n 1 || a) && (ltb n 2 || b)) ≡ all (min 2 n) p
unfolding all
first_two p zero a b ea eb = refl
first_two p (suc zero) a b ea eb = rw ea (and-true (p 0))
first_two p (suc (suc n)) a b ea eb =
    let e : min 2 (suc (suc n)) ≡ 2 = omega arith in
    rw (e, ea, eb, le-ltb (suc (suc n)) 1 (omega arith), le-ltb (suc (suc n)) 2 (omega arith))

pub after_two : (n : ℕ) (p : ℕ → Bool) (ok : Bool) (i : ℕ) → i ≡ min 2 n → ok ≡ all (min 2 n) p → Checked n p ok i
after_two n p ok i h e = record { within = omega arith; so_far = rw (← h) at e }

pub checked_more : (n : ℕ) (p : ℕ → Bool) (ok : Bool) (i : ℕ) (t : Bool) → Checked n p ok i → i < n → t ≡ p i → Checked n p (ok && t) (i + 1)
unfolding all
checked_more n p ok i t s h e = rw add-one (record { within = omega arith; so_far = rw (s.so_far, e) })

pub checked_end : (n : ℕ) (p : ℕ → Bool) (ok : Bool) (i : ℕ) → Checked n p ok i → n ≤ i → ok ≡ all n p
checked_end n p ok i s h = let e : i ≡ n = omega (arith, s.within) in rw e at s.so_far

-- those below n stand for all below m
pub checked_enough : (m n : ℕ) (p : ℕ → Bool) (ok : Bool) (i : ℕ) → all m p ≡ all n p → Checked n p ok i → n ≤ i → ok ≡ all m p
checked_enough m n p ok i e s h = checked_end n p ok i s h ∙ sym e

pub checked_stop : (n : ℕ) (p : ℕ → Bool) (i : ℕ) → i < n → p i ≡ false → false ≡ all n p
checked_stop n p i h e = elim (bool_cases (all n p)) [ inl q ↦ false≢ (sym e ∙ all_use n p q i h) | inr q ↦ sym q ]

-- ---- the same from a to e - 1

pub record CheckedFrom (a e : ℕ) (p : ℕ → Bool) (ok : Bool) (g : ℕ) : Type 0 where
  pub low : a ≤ g
  pub passed : Checked (e - a) (onward a p) ok (g - a)

module _ (a e : ℕ) (p : ℕ → Bool) where
  pub from_none : CheckedFrom a e p true a
  from_none = let o : a - a ≡ 0 = omega arith in record { low = omega arith; passed = rw o checked_none }

  module _ (ok : Bool) (g : ℕ) (s : CheckedFrom a e p ok g) where
    pub from_more : (t : Bool) → g < e → t ≡ p g → CheckedFrom a e p (ok && t) (g + 1)
    unfolding onward
    from_more t h q =
        let low : a ≤ g = s.low in
        let o : g + 1 - a ≡ g - a + 1 = omega arith in
        let i : a + (g - a) ≡ g = omega arith in
        record { low = omega arith; passed = rw o (checked_more (e - a) (onward a p) ok (g - a) t s.passed (omega arith) (rw i q)) }

    pub from_end : e ≤ g → ok ≡ all (e - a) (onward a p)
    from_end h = checked_end (e - a) (onward a p) ok (g - a) s.passed (omega arith)

pub from_use : (a e : ℕ) (p : ℕ → Bool) → all (e - a) (onward a p) ≡ true → (g : ℕ) → a ≤ g → g < e → p g ≡ true
unfolding onward
from_use a e p h g l q = let i : a + (g - a) ≡ g = omega arith in rw i at (all_use (e - a) (onward a p) h (g - a) (omega arith))

-- ---- `found` says whether some below i passes

pub record Sought (n : ℕ) (p : ℕ → Bool) (found : Bool) (i : ℕ) : Type 0 where
  pub within : i ≤ n
  pub so_far : found ≡ any i p

pub sought_none : {n : ℕ} {p : ℕ → Bool} → Sought n p false 0
unfolding any
sought_none {n} = record { within = omega arith; so_far = refl }

pub sought_more : (n : ℕ) (p : ℕ → Bool) (found : Bool) (i : ℕ) (t : Bool) → Sought n p found i → i < n → t ≡ p i → Sought n p (found || t) (i + 1)
unfolding any
sought_more n p found i t s h e = rw add-one (record { within = omega arith; so_far = rw (s.so_far, e) })

pub sought_end : (n : ℕ) (p : ℕ → Bool) (found : Bool) (i : ℕ) → Sought n p found i → n ≤ i → found ≡ any n p
sought_end n p found i s h = let e : i ≡ n = omega (arith, s.within) in rw e at s.so_far

-- ---- more tests

-- word i of n that stand from a on
pub nth_part : (n a : ℕ) (l : List ℕ) (i : ℕ) → i < n → nth (take n (drop a l)) i ≡ nth l (a + i)
nth_part n a l i h = nth_take n (drop a l) i h ∙ nth_drop a l i

pub all_append : (a b : ℕ) (p : ℕ → Bool) → all (a + b) p ≡ (all a p && all b (λ i. p (a + i)))
unfolding all
all_append a zero p = rw add-zero (sym (and-true (all a p)))
all_append a (suc b) p = rw (add-suc, all_append a b p) (and_assoc (all a p) _ _)

-- number j apart from the others: b passes it, and is a elsewhere
pub all_pick : (n : ℕ) (a b : ℕ → Bool) (j : ℕ) → j < n → ((i : ℕ) → (i ≡ j → ⊥) → a i ≡ b i) → b j ≡ true → all n a ≡ (a j && all n b)
unfolding all
all_pick zero a b j h f e = absurd (omega arith)
all_pick (suc n) a b j h f e = elim (ℕ_discrete n j) [
  | yes q ↦ rw (q, e, all_cong j a b (λ i l. f i (λ (z : i ≡ j). omega arith)), and-true) (and_comm (all j b) (a j))
  | no q ↦ rw (all_pick n a b j (omega arith) f e, f n q) (and_assoc (a j) (all n b) (b n))
]

-- below the end is no further condition, where none behind it passes
pub test_inside : (p : ℕ → Bool) (n a : ℕ) → (n ≤ a → p a ≡ false) → every (ltb a n ∷ p a ∷ []) ≡ p a
unfolding every
test_inside p n a past = elim (dec_lt a n) [ yes h ↦ rw (lt-ltb a n h) (and-true (p a)) | no h ↦ rw (le-ltb a n (omega arith), past (omega arith)) ]

-- the same where the test is made of a granule below the end
pub clamped : (p : ℕ → Bool) (n a b : ℕ) (t : Bool) → (n ≤ a → p a ≡ false) → b ≡ min a (n - 1) → t ≡ p b → (ltb a n && t) ≡ p a
clamped p n a b t past eb et = elim (dec_lt a n) [
  | yes h ↦ let e : b ≡ a = omega arith in rw (lt-ltb a n h, et, e)
  | no h ↦ rw (le-ltb a n (omega arith), past (omega arith))
]
