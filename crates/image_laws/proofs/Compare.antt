-- Words held to bounds, all of a list at once: the loop that does it, and the list's stretch of the slice.
use Rattle.image_laws.specs.Compare.{between, near_at}
use Rattle.image_laws.proofs.Split.{split_part}
use Rattle.model.specs.Base.{nth, all, every, some}
use Rattle.model.specs.Image.{place, lengths, split}
use Prim.Native.Nat.{ℕ, ◌+◌, ◌-◌, ◌≤◌, ◌<◌}
use mathlib.Core.Path.{◌≡◌, refl}
use mathlib.Core.Bool.{Bool, true, ◌&&◌, ◌||◌, and_assoc, and-true, or-false}
use mathlib.Core.List.{List, []}
use native.Mathlib.Omega.{arith}
use native.Mathlib.Numerals.{add-one}
use lib.Dec.{leb, ltb}
use lib.ListN.{length, get_or, take, drop}

-- ---- `ok` is true as long as all below i passed

pub record Held (n : ℕ) (p : ℕ → Bool) (ok : Bool) (i : ℕ) : Type 0 where
  pub within : i ≤ n
  pub so_far : ok ≡ all i p

pub held_none : {n : ℕ} {p : ℕ → Bool} → Held n p true 0
unfolding all
held_none {n} = record { within = omega arith; so_far = refl }

pub held_more : (n : ℕ) (p : ℕ → Bool) (ok : Bool) (i : ℕ) (ok' : Bool) → Held n p ok i → i < n → ok' ≡ (ok && p i) → Held n p ok' (i + 1)
unfolding all
held_more n p ok i ok' s h e = rw add-one (record { within = omega arith; so_far = rw (e, s.so_far) })

pub held_end : {n : ℕ} {p : ℕ → Bool} {ok : Bool} {i : ℕ} → Held n p ok i → n ≤ i → ok ≡ all n p
held_end {n} {p} {ok} {i} s h = let e : i ≡ n = omega (arith, s.within) in rw e at s.so_far

-- ---- one word more

module _ (s : List ℕ) (ok : Bool) (i : ℕ) (h : i < length s) where
  pub within_more : (low high : List ℕ) → Held (length s) (between low high s) ok i → Held (length s) (between low high s) ((ok && leb (nth low i) (nth s i)) && leb (nth s i) (nth high i)) (i + 1)
  unfolding between every
  within_more low high v = held_more _ _ ok i _ v h (simp (and_assoc, and-true))

  pub near_more : (from end : ℕ) → Held (length s) (near_at from end s) ok i → Held (length s) (near_at from end s) (ok && (leb (nth s i) 2 || (leb from (nth s i) && ltb (nth s i) end))) (i + 1)
  unfolding near_at some every
  near_more from end v = held_more _ _ ok i _ v h (simp (and-true, or-false))

-- ---- words o to e - 1 of the slice are n words of section s from word i on

pub part_words : (w k : ℕ) (ws : List ℕ) (s i n o e : ℕ) → i + n ≤ get_or (lengths w k) s 0 → place (lengths w k) s + i ≡ o → o + n ≡ e → take (e - o) (drop o ws) ≡ take n (drop i (get_or (split (lengths w k) ws) s []))
part_words w k ws s i n o e l p q =
    let c : e - o ≡ n = omega arith in
    rw (split_part (lengths w k) ws s i n l, p, c)
