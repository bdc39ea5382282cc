-- Stretches of the slice that were lent on and came back zero, seen in the section that holds them.
use borrow.Rule.Slice.PartMut.{mid_of, put_mid, mid_len}
use mathlib.Core.List.{append_assoc, append-nil, List, []}
use Rattle.image_laws.specs.Clearing.{zeroed}
use Rattle.image_laws.specs.Sized.{Sized}
use Rattle.image_laws.proofs.Split.{split_length, split_sets}
use Rattle.model.specs.Base.{zeros}
use Rattle.model.specs.Image.{place, lengths, split, image, image_of, with_heap}
use Prim.Native.Nat.{ℕ, ◌+◌, ◌*◌, ◌-◌, ◌≤◌}
use mathlib.Core.Path.{◌≡◌, sym, ap, ◌∙◌}
use native.Mathlib.Omega.{arith}
use lib.ListN.{length, get_or, take, drop, set, replicate, length-replicate}
use lib.Seq.{sets-eq, drop-length, drop-drop, sets}

put-mid : (v l : List ℕ) (i n : ℕ) → length v ≡ n → i + n ≤ length l → put_mid i n l v ≡ sets l i v
put-mid v l i n e h = rw (drop-drop n i l, ← e) (sym (sets-eq v l i (omega arith) ∙ append_assoc (take i l) v (drop (i + length v) l)))

-- words a to e - 1, which are n words from word i of section s on, came back as v
module _ (w k : ℕ) (ws : List ℕ) (s i n a e : ℕ) (h : i + n ≤ get_or (lengths w k) s 0) (at_place : place (lengths w k) s + i ≡ a) (end : a + n ≡ e) (long : place (lengths w k) s + get_or (lengths w k) s 0 ≤ length ws) where
  pub mid_section : (v : List ℕ) → length v ≡ n → image_of w k (put_mid a (e - a) ws v) ≡ image w k (set (split (lengths w k) ws) s (put_mid i n (get_or (split (lengths w k) ws) s []) v))
  unfolding image_of
  mid_section v l =
      let x : List ℕ = get_or (split (lengths w k) ws) s [] in
      let lx = split_length (lengths w k) ws s long in
      rw (put-mid v ws a (e - a) (omega arith) (omega arith), put-mid v x i n l (omega arith), ← at_place)
      (ap (image w k) (split_sets (lengths w k) ws s i v (omega arith)))

  zero_section : (v : List ℕ) → v ≡ replicate (length (mid_of a (e - a) ws)) 0 → image_of w k (put_mid a (e - a) ws v) ≡ image w k (set (split (lengths w k) ws) s (zeroed i (i + n) (get_or (split (lengths w k) ws) s [])))
  unfolding zeroed
  zero_section v ew =
      let m : length (mid_of a (e - a) ws) ≡ n = omega (arith, mid_len a e ws (omega arith)) in
      let z : v ≡ replicate n 0 = rw m at ew in
      let en : i + n - i ≡ n = omega arith in
      mid_section v (ap length z ∙ length-replicate n 0) ∙ rw (en, ← z, drop-drop n i (get_or (split (lengths w k) ws) s []))

-- the same for the whole of section s
module _ (w k : ℕ) (ws : List ℕ) (s a e : ℕ) (at_place : place (lengths w k) s + 0 ≡ a) (end : a + get_or (lengths w k) s 0 ≡ e) (long : place (lengths w k) s + get_or (lengths w k) s 0 ≤ length ws) where
  pub zero_whole : (v : List ℕ) → v ≡ replicate (length (mid_of a (e - a) ws)) 0 → image_of w k (put_mid a (e - a) ws v) ≡ image w k (set (split (lengths w k) ws) s (zeros (get_or (split (lengths w k) ws) s [])))
  unfolding zeroed zeros
  zero_whole v q =
      let x : List ℕ = get_or (split (lengths w k) ws) s [] in
      let n : ℕ = get_or (lengths w k) s 0 in
      let t : 0 + n ≡ length x = omega (arith, split_length (lengths w k) ws s long) in
      let z : length x - 0 ≡ length x = omega arith in
      zero_section w k ws s 0 n a e (omega arith) at_place end long v q ∙ rw (t, z, drop-length x, append-nil {A = ℕ})

-- words a to e - 1 of the heap
module _ (w k : ℕ) (ws v : List ℕ) (z : Sized w k ws) where
  pub zero_heap : (a e : ℕ) → a ≤ e → e ≤ 256 * k → v ≡ replicate (length (mid_of a (e - a) ws)) 0 → image_of w k (put_mid a (e - a) ws v) ≡ with_heap (image_of w k ws) (zeroed a e (image_of w k ws).heap)
  unfolding image_of image split with_heap
  zero_heap a e h l q =
      let s : a + (e - a) ≡ e = omega arith in
      rw s at (zero_section w k ws 0 a (e - a) a e (omega arith) (omega arith) (omega arith) (omega (arith, z.long)) v q)
