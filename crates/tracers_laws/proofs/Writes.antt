-- Words written in a stretch that is read out of a list and put back are words written in the list.
use mathlib.Core.Path.{◌≡◌}
use mathlib.Core.List.{List, [], ◌∷◌}
use Prim.Native.Nat.{ℕ, ◌+◌, ◌<◌}
use native.Mathlib.Omega.{arith}
use lib.ListN.{set, take, drop}
use lib.Seq.{take-set-le, take-set-lt, drop-set-lt, drop-set-add}
use borrow.Rule.Slice.PartMut.{mid_of, put_mid, put_same}

-- one word to be written: its place in the stretch, and what is written
pub record Write : Type 0 where
  pub place : ℕ
  pub value : ℕ

abbrev pub write : ℕ → ℕ → Write
write i v = record { place = i; value = v }

abbrev pub Below : ℕ → List Write → Type 0
Below n [] = Unit {0}
Below n (w ∷ r) = (w.place < n) × Below n r

-- written in a stretch, and in a list that has it from o on
abbrev pub in_stretch : List ℕ → List Write → List ℕ
in_stretch l [] = l
in_stretch l (w ∷ r) = in_stretch (set l w.place w.value) r

abbrev pub in_list : ℕ → List ℕ → List Write → List ℕ
in_list o l [] = l
in_list o l (w ∷ r) = in_list o (set l (o + w.place) w.value) r

pub writes : (o n : ℕ) (l : List ℕ) (r : List Write) → Below n r → put_mid o n l (in_stretch (mid_of o n l) r) ≡ in_list o l r
writes o n l [] b = put_same o n l
writes o n l (w ∷ r) b =
    let i : ℕ = w.place in
    let v : ℕ = w.value in
    let d : drop o (set l (o + i) v) ≡ set (drop o l) i v = drop-set-add o l i v in
    let mid : mid_of o n (set l (o + i) v) ≡ set (mid_of o n l) i v = rw d (take-set-lt n (drop o l) i v b.0) in
    let back : drop n (drop o (set l (o + i) v)) ≡ drop n (drop o l) = rw d (drop-set-lt n (drop o l) i v b.0) in
    let front : take o (set l (o + i) v) ≡ take o l = take-set-le o l (o + i) v (omega arith) in
    rw (← mid, ← back, ← front) (writes o n (set l (o + i) v) r b.1)
