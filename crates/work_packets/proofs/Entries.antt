-- Words lent from a slice and put back, as numbers; and the room that a packet takes.
use Rattle.std.proofs.Common.{◌≡◌, sym, ℕ, ◌+◌, ◌*◌, ◌-◌, ◌^◌, ◌%◌, ◌<◌, ◌≤◌, List, map, length, get_or, arith}
use Rattle.std.proofs.lemmas.List.{map-append, take-map, drop-map, get_or-map}
use Prim.Native.Nat.{max}
use native.Mathlib.Nat.{mod-lt}
use borrow.Rule.Slice.PartMut.{put_mid}
use mir.Syntax.{Ty, Width, w8, w16, w32, w64, w128}
use mir.Val.{bytes}
use prog.Memory.{size, align, up}
use prog.Align.{align_w, align-bytes, align_pos}
use Rattle.model.specs.Base.{nth}
use Rattle.image_laws.specs.Sized.{Sized}
use Rattle.image.proofs.Words.{words_length}

-- no type is aligned to more than 16
few_bytes : (w : Width) → bytes w ≤ 16
few_bytes w8 = omega arith
few_bytes w16 = omega arith
few_bytes w32 = omega arith
few_bytes w64 = omega arith
few_bytes w128 = omega arith

few_aligned : (t : Ty) → align t ≤ 16
few_aligned t = rw (align-bytes t) (few_bytes (align_w t))

little_padded : (k e : ℕ) → 0 < k → up k e ≤ e + k
little_padded k e h = omega (arith, mod-lt (k - e % k) h)

-- a count and thirty words of s bytes, at alignment a
thirty_fit : (a s n : ℕ) → 0 < a → a ≤ 16 → 1024 ≤ n → n * s < 2 ^ 63 → up (max 8 (max a 1)) (up a 8 + 30 * s) < 2 ^ 63
thirty_fit a s n p f l h =
    let i : up a 8 ≤ 8 + a = little_padded a 8 p in
    let m : 0 < max 8 (max a 1) = omega arith in
    let o : up (max 8 (max a 1)) (up a 8 + 30 * s) ≤ up a 8 + 30 * s + max 8 (max a 1) = little_padded (max 8 (max a 1)) (up a 8 + 30 * s) m in
    let q : 1024 * s ≤ n * s = grind arith in
    omega arith

module _ {A : Type 0} {value : A → ℕ} {words : List A → List ℕ} (by_value : (l : List A) → words l ≡ map value l) (l : List A) where
  pub words_put : (s : List A) (a n : ℕ) → words (put_mid a n l s) ≡ put_mid a n (words l) (words s)
  words_put s a n = simp (by_value, map-append, take-map, drop-map)

  pub entry_read : (i : ℕ) (r : A) → i < length l → value (get_or l i r) ≡ nth (words l) i
  unfolding nth
  entry_read i r h = rw (by_value l) (sym (get_or-map value l i r 0 h))

  -- A store's slice, which fits in memory, has more words than a packet.
  pub packet_fits : (t : Ty) (w k : ℕ) → Sized w k (words l) → length l * size t < 2 ^ 63 → up (max 8 (max (align t) 1)) (up (align t) 8 + 30 * size t) < 2 ^ 63
  packet_fits t w k z h = thirty_fit (align t) (size t) (length l) (align_pos t) (few_aligned t) (omega (arith, z.long, words_length by_value l)) h
