-- Bytes written one behind the other; a loop that does so.
use mathlib.Core.Path.{◌≡◌, refl, sym, ap, ◌∙◌}
use mathlib.Core.List.{List, [], ◌∷◌, ◌++◌, append_assoc}
use Prim.Native.Nat.{ℕ, suc, ◌+◌, ◌≤◌, ◌<◌, zero-le}
use native.Mathlib.Numerals.{add-one}
use native.Mathlib.Omega.{arith}
use lib.ListN.{length, set, length-set, length-append}
use lib.Seq.{set-append_seam}
use Rattle.service_map_laws.specs.Pasted.{pasted}

pub pasted_length : (bs out : List ℕ) (at : ℕ) → length (pasted out at bs) ≡ length out
unfolding pasted
pasted_length [] out at = refl
pasted_length (b ∷ bs) out at = pasted_length bs (set out at b) (suc at) ∙ length-set out at b

pub pasted_then : (xs bs out : List ℕ) (at : ℕ) → pasted (pasted out at xs) (at + length xs) bs ≡ pasted out at (xs ++ bs)
unfolding pasted
pasted_then [] bs out at = let e : at + 0 ≡ at = omega arith in rw e
pasted_then (x ∷ xs) bs out at = let e : at + suc (length xs) ≡ suc at + length xs = omega arith in rw e (pasted_then xs bs (set out at x) (suc at))

pasted_behind : (pre bs out : List ℕ) → length bs ≡ length out → pasted (pre ++ out) (length pre) bs ≡ pre ++ bs
unfolding pasted
pasted_behind pre [] [] e = refl
pasted_behind pre [] (x ∷ out) e = absurd (omega (arith, e))
pasted_behind pre (b ∷ bs) [] e = absurd (omega (arith, e))
pasted_behind pre (b ∷ bs) (x ∷ out) e =
    let l : length (pre ++ (b ∷ [])) ≡ suc (length pre) = length-append pre (b ∷ []) ∙ omega arith in
    let h = pasted_behind (pre ++ (b ∷ [])) bs out (omega (arith, e)) in
    rw (set-append_seam pre x out b, ← append_assoc pre (b ∷ []) out, ← l, h, append_assoc pre (b ∷ []) bs)

-- as many bytes as the list has
pub pasted_whole : (bs out : List ℕ) → length bs ≡ length out → pasted out 0 bs ≡ bs
pasted_whole bs out e = pasted_behind [] bs out e

-- ---- a loop: after i turns the bytes R i are written from place `at` on

pub record Pasting (n at : ℕ) (R : ℕ → List ℕ) (out₀ out : List ℕ) (i : ℕ) : Type 0 where
  pub low : i ≤ n
  pub same : length out ≡ length out₀
  pub written : out ≡ pasted out₀ at (R i)

pub pasting_none : {n at : ℕ} {R : ℕ → List ℕ} {out : List ℕ} → R 0 ≡ [] → Pasting n at R out out 0
unfolding pasted
pasting_none e = record { low = zero-le; same = refl; written = rw e }

module _ {n at : ℕ} {R : ℕ → List ℕ} {out₀ out : List ℕ} {i : ℕ} (t : Pasting n at R out₀ out i) where
  pub pasting_more : {out' : List ℕ} (bs : List ℕ) → i < n → out' ≡ pasted out (at + length (R i)) bs → R (suc i) ≡ R i ++ bs → Pasting n at R out₀ out' (i + 1)
  pasting_more bs h e r = record {
    low = omega arith;
    same = ap length e ∙ (pasted_length bs out _ ∙ t.same);
    written = e ∙ (ap (λ l. pasted l (at + length (R i)) bs) t.written ∙ (pasted_then (R i) bs out₀ at ∙ (ap (pasted out₀ at) (sym r) ∙ ap (λ n. pasted out₀ at (R n)) (sym (add-one i)))));
  }

  pub pasting_end : n ≤ i → out ≡ pasted out₀ at (R n)
  pasting_end h = let e : i ≡ n = omega (arith, t.low) in rw e at t.written
