-- A loop that copies s into x, one element a turn: the first j are alike.
use mathlib.Core.Path.{◌≡◌, refl, sym, ◌∙◌}
use mathlib.Core.List.{List, [], ◌∷◌}
use Prim.Native.Nat.{ℕ, suc, ◌+◌, ◌≤◌, ◌<◌}
use native.Mathlib.Omega.{arith}
use native.Mathlib.Numerals.{add-one}
use borrow.Author.Tests.{eqb-false}
use lib.ListN.{length, set, get_or, take}
use lib.Seq.{take-suc, take-suc-set, take_all}

pub alike_more : (s x : List ℕ) (j : ℕ) → take j x ≡ take j s → j < length x → j < length s → take (j + 1) (set x j (get_or s j 0)) ≡ take (j + 1) s
alike_more s x j e hx hs = rw (add-one, take-suc-set x j (get_or s j 0) hx, take-suc s j 0 hs, e)

pub alike_done : (s x : List ℕ) (j n : ℕ) → take j x ≡ take j s → length x ≡ n → n ≤ j → j ≤ n → x ≡ take n s
alike_done s x j n e l h h' =
    let q : j ≡ n = omega arith in
    sym (take_all j x (omega arith)) ∙ e ∙ rw q

-- the same behind a head of two words that stand already
pub headed_more : (a b : ℕ) (s x : List ℕ) (j : ℕ) → take (j + 2) x ≡ a ∷ b ∷ take j s → j + 2 < length x → j < length s → take (j + 1 + 2) (set x (j + 2) (get_or s j 0)) ≡ a ∷ b ∷ take (j + 1) s
headed_more a b s x j e hx hs =
    let q : j + 1 + 2 ≡ suc (j + 2) = omega arith in
    rw (q, take-suc-set x (j + 2) (get_or s j 0) hx, e, add-one, take-suc s j 0 hs)

pub headed_first : (a b : ℕ) (x : List ℕ) → length x ≡ 32 → take 2 (set (set x 0 a) 1 b) ≡ a ∷ b ∷ []
headed_first a b [] h = absurd (eqb-false 0 32 refl h)
headed_first a b (y ∷ []) h = absurd (eqb-false 1 32 refl h)
headed_first a b (y ∷ z ∷ x) h = refl

pub headed_done : (a b : ℕ) (s x : List ℕ) (j : ℕ) → take (j + 2) x ≡ a ∷ b ∷ take j s → length x ≡ 32 → length s ≡ 30 → 30 ≤ j → x ≡ a ∷ b ∷ s
headed_done a b s x j e lx ls h = sym (take_all (j + 2) x (omega arith)) ∙ e ∙ rw (take_all j s (omega arith))
