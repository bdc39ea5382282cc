-- The decoder of records: what it makes of their bytes is the model's record, with n bytes to a word of w bits.
use mathlib.Core.Path.{◌≡◌, refl, sym, ◌∙◌}
use mathlib.Core.List.{List}
use Prim.Native.Nat.{ℕ, ◌+◌, ◌*◌, ◌/◌, ◌^◌, ◌<◌, ◌≤◌}
use native.Mathlib.Omega.{arith}
use native.Mathlib.Nat.{add-zero}
use lib.ListN.{get_or, take, drop, length-take, drop_of_length-le}
use lib.Seq.{drop-drop, get_or-drop, get_or-take}
use Rattle.image_laws.proofs.Split.{drop_take, part_take}
use Rattle.model.specs.Base.{nth}
use Rattle.model.specs.Records.{little, step_of}
use Rattle.request_laws.specs.Request.{requested, InRange}

-- ---- the zero bytes: a word of 16 bits has none, one of 32 bits has two

pub no_zeros : (l : List ℕ) → 0 ≡ little (drop 2 (take 2 l))
unfolding little
no_zeros l = rw (drop_of_length-le (take 2 l) {i = 2} (omega (arith, length-take 2 l))) refl

pub two_zeros : (l : List ℕ) (at z : ℕ) → z ≡ little (take 2 (drop (at + 2) l)) → z ≡ little (drop 2 (take 4 (drop at l)))
two_zeros l at z e = rw (drop_take 2 2 (drop at l), drop-drop 2 at l) e

-- ---- the record

module _ (w n : ℕ) (whole : w / 8 ≡ n) (pair : 2 ≤ n) where
  -- the first four words of a list of bytes, as a record
  fields : (l : List ℕ)
      → step_of w (take (4 * n) l) ≡ record { kind = get_or l 0 0; who = get_or l 1 0; zeros = little (drop 2 (take n l)); a = little (take n (drop n l)); b = little (take n (drop (2 * n) l)); c = little (take n (drop (3 * n) l)) }
  unfolding step_of nth
  fields l =
      let part : (i : ℕ) → i + n ≤ 4 * n → take n (drop i (take (4 * n) l)) ≡ take n (drop i l) = λ i. part_take i n (4 * n) l in
      rw (whole, part 0 (omega arith), get_or-take (4 * n) l 0 0 (omega arith), get_or-take (4 * n) l 1 0 (omega arith), part n (omega arith), part (2 * n) (omega arith), part (3 * n) (omega arith)) refl

  module _ (l : List ℕ) (at x y z a b c : ℕ)
      (ex : x ≡ get_or l at 0) (ey : y ≡ get_or l (at + 1) 0) (ez : z ≡ little (drop 2 (take n (drop at l)))) (ea : a ≡ little (take n (drop (at + n) l))) (eb : b ≡ little (take n (drop (at + 2 * n) l))) (ec : c ≡ little (take n (drop (at + 3 * n) l)))
      (hy : y < 2 ^ w) (ha : a < 2 ^ w) (hb : b < 2 ^ w) (hc : c < 2 ^ w) where
    pub record_is : (requested (record { kind = x; who = y; zeros = z; a = a; b = b; c = c }) ≡ step_of w (take (4 * n) (drop at l))) × InRange w (record { kind = x; who = y; zeros = z; a = a; b = b; c = c })
    unfolding requested
    record_is = (
      sym (fields (drop at l) ∙ rw (get_or-drop at l 0 0, get_or-drop at l 1 0, ← ez, drop-drop n at l, drop-drop (2 * n) at l, drop-drop (3 * n) at l, add-zero at, ← ex, ← ey, ← ea, ← eb, ← ec) refl),
      record { who_small = hy; a_small = ha; b_small = hb; c_small = hc },
    )
