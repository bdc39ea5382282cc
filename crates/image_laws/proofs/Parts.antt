-- Parts of the slice read as a whole: words that are 0, gathered by a loop.
use Rattle.image_laws.specs.Parts.{is_zero, both_zero}
use Rattle.image_laws.proofs.Compare.{part_words}
use Rattle.image_laws.proofs.Split.{split_is}
use Rattle.model.specs.Base.{nth, all, any, zeroes}
use Rattle.model.specs.Image.{place, lengths, split}
use Prim.Native.Nat.{ℕ, zero, suc, ◌+◌, ◌-◌, ◌≤◌, ◌<◌}
use mathlib.Core.Path.{◌≡◌, refl, sym, ap, ◌∙◌}
use mathlib.Core.Bool.{Bool, true, ◌&&◌, and-true, and_assoc}
use mathlib.Core.List.{List, [], ◌∷◌}
use native.Mathlib.Omega.{arith}
use lib.Dec.{eqb}
use lib.ListN.{length, get_or, take, drop, length-drop}
use lib.Seq.{length-take-le}
use borrow.Author.Tests.{eq-eqb, eqb-true}
use lib.Bits.{bit_or, and_le_l, and_le_r, or_add_and}
use native.Mathlib.Numerals.{add-one}
use native.Mathlib.Decide.{dec_lt}
use Rattle.model.proofs.Entries.{nth_drop, nth_take}
use Rattle.model.proofs.Laws.{and_split, same_test, all_use, all_make}

-- ---- all of the numbers below n

pub all_none : (p : ℕ → Bool) → true ≡ all 0 p
unfolding all
all_none p = refl

pub all_first : (n : ℕ) (p : ℕ → Bool) → all (suc n) p ≡ (p 0 && all n (λ i. p (suc i)))
unfolding all
all_first zero p = sym (and-true (p 0))
all_first (suc n) p = rw (all_first n p) (and_assoc (p 0) _ _)

pub all_cong : (n : ℕ) (p q : ℕ → Bool) → ((i : ℕ) → i < n → p i ≡ q i) → all n p ≡ all n q
unfolding all
all_cong zero p q f = refl
all_cong (suc n) p q f = rw (all_cong n p q (λ i h. f i (omega arith)), f n (omega arith))

pub any_cong : (n : ℕ) (p q : ℕ → Bool) → ((i : ℕ) → i < n → p i ≡ q i) → any n p ≡ any n q
unfolding any
any_cong zero p q f = refl
any_cong (suc n) p q f = rw (any_cong n p q (λ i h. f i (omega arith)), f n (omega arith))

-- ---- `bad` is 0 as long as all below i passed

pub record Gathered (n : ℕ) (p : ℕ → Bool) (bad i : ℕ) : Type 0 where
  pub within : i ≤ n
  pub so_far : eqb bad 0 ≡ all i p

pub g_none : {n : ℕ} {p : ℕ → Bool} → Gathered n p 0 0
unfolding all
g_none = record { within = omega arith; so_far = eq-eqb 0 0 refl }

or_zero : (a b : ℕ) → eqb (bit_or a b) 0 ≡ (eqb a 0 && eqb b 0)
or_zero a b =
    let o = or_add_and a b in
    same_test _ _
    (λ e. let z = eqb-true (bit_or a b) 0 e in rw (eq-eqb a 0 (omega (arith, and_le_r a b)), eq-eqb b 0 (omega (arith, and_le_l a b))))
    (λ e. let s = and_split (eqb a 0) (eqb b 0) e in eq-eqb (bit_or a b) 0 (omega (arith, eqb-true a 0 s.0, eqb-true b 0 s.1)))

pub g_more : (n : ℕ) (p : ℕ → Bool) (bad i x : ℕ) → Gathered n p bad i → i < n → eqb x 0 ≡ p i → Gathered n p (bit_or bad x) (i + 1)
unfolding all
g_more n p bad i x s h e = rw add-one (record { within = omega arith; so_far = rw (or_zero bad x, s.so_far, e) })

pub g_end : {n : ℕ} {p : ℕ → Bool} {bad i : ℕ} → Gathered n p bad i → n ≤ i → eqb bad 0 ≡ all n p
g_end {n} {p} {bad} {i} s h = let e : i ≡ n = omega (arith, s.within) in rw e at s.so_far

-- ---- words that are 0

pub zeroes_all : (l : List ℕ) → all (length l) (is_zero l) ≡ zeroes l
unfolding zeroes is_zero nth
zeroes_all [] = sym (all_none _)
zeroes_all (x ∷ l) = all_first (length l) (is_zero (x ∷ l)) ∙ ap (λ b. eqb x 0 && b) (zeroes_all l)

-- words taken by twos, h apart
pub or_both : (l : List ℕ) (h i : ℕ) → eqb (bit_or (nth l i) (nth l (h + i))) 0 ≡ both_zero l h i
unfolding both_zero is_zero
or_both l h i = or_zero (nth l i) (nth l (h + i))

-- every word is one of the first n, or of the n behind the first h
pub zeroes_both : (l : List ℕ) (n h : ℕ) → h + n ≡ length l → h ≤ n → all n (both_zero l h) ≡ zeroes l
unfolding both_zero
zeroes_both l n h e q =
    same_test _ _
    (λ t. all_make (length l) (is_zero l) (λ i b. elim (dec_lt i n) [
      | yes p ↦ (and_split (is_zero l i) (is_zero l (h + i)) (all_use n (both_zero l h) t i p)).0
      | no p ↦
          let z : h + (i - h) ≡ i = omega arith in
          rw z at (and_split (is_zero l (i - h)) (is_zero l (h + (i - h))) (all_use n (both_zero l h) t (i - h) (omega arith))).1
    ]))
    (λ t. let u = all_use (length l) (is_zero l) t in all_make n (both_zero l h) (λ i p. rw (u i (omega arith), u (h + i) (omega arith))))
    ∙ zeroes_all l

-- ---- sections, and parts of them, by their stretch of the slice

-- words o to e - 1 are section s
pub section_zero : (w k : ℕ) (ws : List ℕ) (r : Bool) (s o e : ℕ) → place (lengths w k) s ≡ o → o + get_or (lengths w k) s 0 ≡ e → r ≡ zeroes (take (e - o) (drop o ws)) → r ≡ zeroes (get_or (split (lengths w k) ws) s [])
section_zero w k ws r s o e p q h =
    let n : e - o ≡ get_or (lengths w k) s 0 = omega arith in
    rw (split_is (lengths w k) ws s, p) (rw n at h)

-- words o to e - 1 are n words of section s from word i on
pub part_zero : (w k : ℕ) (ws : List ℕ) (r : Bool) (s i n o e : ℕ) → i + n ≤ get_or (lengths w k) s 0 → place (lengths w k) s + i ≡ o → o + n ≡ e → r ≡ zeroes (take (e - o) (drop o ws)) → r ≡ zeroes (take n (drop i (get_or (split (lengths w k) ws) s [])))
part_zero w k ws r s i n o e l p q h = h ∙ ap zeroes (part_words w k ws s i n o e l p q)

-- n words of a list from word a on, one by one
pub zero_stretch : (ws : List ℕ) (a n : ℕ) → a + n ≤ length ws → zeroes (take n (drop a ws)) ≡ all n (λ i. eqb (nth ws (a + i)) 0)
unfolding is_zero
zero_stretch ws a n h =
    let e : length (take n (drop a ws)) ≡ n = length-take-le n (drop a ws) (simp length-drop (omega arith)) in
    (rw e at (sym (zeroes_all (take n (drop a ws)))))
    ∙ all_cong n _ _ (λ i q. rw (nth_take n (drop a ws) i q, nth_drop a ws i))
