-- A number of 16 bits from its two bytes, and one of 32 bits from two of 16.
use mathlib.Core.Path.{◌≡◌, refl}
use mathlib.Core.List.{List, ◌∷◌}
use Prim.Native.Nat.{ℕ, suc, ◌+◌, ◌*◌, ◌<◌, ◌≤◌}
use native.Mathlib.Omega.{arith}
use native.Mathlib.Numerals.{add-one}
use lib.ListN.{length, get_or, take, drop}
use lib.Seq.{drop-cons}
use Rattle.model.specs.Records.{little}

pub pair_is : (l : List ℕ) (at x y : ℕ) → at + 2 ≤ length l → x ≡ get_or l at 0 → y ≡ get_or l (at + 1) 0 → x < 256 → y < 256
    → (x + 256 * y ≡ little (take 2 (drop at l))) × (x + 256 * y < 65536)
unfolding little
pair_is l at x y h e f p q = (rw (drop-cons l at 0 (omega arith), drop-cons l (suc at) 0 (omega arith)) (omega (arith, rw add-one at f)), omega arith)

pub quad_is : (l : List ℕ) (at x y : ℕ) → at + 4 ≤ length l → x ≡ little (take 2 (drop at l)) → y ≡ little (take 2 (drop (at + 2) l)) → x < 65536 → y < 65536
    → (x + 65536 * y ≡ little (take 4 (drop at l))) × (x + 65536 * y < 4294967296)
unfolding little
quad_is l at x y h e f p q =
    let d : at + 2 ≡ suc (suc at) = omega arith in
    let s : drop at l ≡ get_or l at 0 ∷ get_or l (suc at) 0 ∷ drop (suc (suc at)) l = rw (drop-cons l at 0 (omega arith), drop-cons l (suc at) 0 (omega arith)) refl in
    let t : drop (suc (suc at)) l ≡ get_or l (suc (suc at)) 0 ∷ get_or l (suc (suc (suc at))) 0 ∷ drop (suc (suc (suc (suc at)))) l = rw (drop-cons l (suc (suc at)) 0 (omega arith), drop-cons l (suc (suc (suc at))) 0 (omega arith)) refl in
    (rw (s, t) (omega (arith, rw s at e, rw (d, t) at f)), omega arith)
