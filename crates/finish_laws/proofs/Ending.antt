-- The end of a finish: mark bits copied to the start bits, scanned words off, and all that becomes 0.
use mathlib.Core.Path.{◌≡◌, refl, sym, ap, ◌∙◌}
use mathlib.Core.List.{List}
use Prim.Native.Nat.{ℕ, zero, suc, ◌+◌, ◌*◌, ◌/◌, ◌%◌, ◌^◌, ◌<◌, ◌≤◌}
use native.Mathlib.Omega.{arith}
use native.Mathlib.Decide.{ℕ_discrete, dec_lt}
use lib.Pow.{pow_pos}
use lib.ListN.{length}
use Rattle.model.specs.Base.{nth, put, zeros}
use Rattle.model.specs.Finish.{scanned_off}
use Rattle.model.proofs.Laws.{nth_put_same, nth_put_other, length_put, nth_out}
use Rattle.theory.proofs.finish.Replaced.{off_length, off_owed, off_scanned}
use native.Mathlib.Numerals.{add-one}
use Rattle.model.specs.Image.{Image, with_starts, with_marks, with_counts, with_packets, with_tracers, with_players, with_general}
use Rattle.finish_laws.specs.Ending.{copied, StartsKept, scanned_off_to, ended}
use Rattle.image_laws.proofs.Words.{nth_ext}

-- ---- copies

length_copied : (from to : List ℕ) (n : ℕ) → length (copied from to n) ≡ length to
unfolding copied
length_copied from to zero = refl
length_copied from to (suc n) = length_put (copied from to n) n (nth from n) ∙ length_copied from to n

nth_copied : (from to : List ℕ) (n i : ℕ) → i < n → n ≤ length to → nth (copied from to n) i ≡ nth from i
unfolding copied
nth_copied from to zero i h l = absurd (omega arith)
nth_copied from to (suc n) i h l = elim (ℕ_discrete i n) [
  | yes e ↦ rw e (nth_put_same (copied from to n) n (nth from n) (omega (arith, length_copied from to n)))
  | no e ↦ rw nth_put_other (nth_copied from to n i (omega arith) (omega arith))
]

pub copied_all : (from to : List ℕ) (n : ℕ) → length to ≡ n → length from ≡ n → copied from to n ≡ from
copied_all from to n e f = nth_ext (copied from to n) from (omega (arith, length_copied from to n)) (λ i h. nth_copied from to n i (omega (arith, length_copied from to n)) (omega arith))

-- ---- scanned words off

length_scanned_off_to : (l : List ℕ) (p : ℕ) → length (scanned_off_to l p) ≡ length l
unfolding scanned_off_to
length_scanned_off_to l zero = refl
length_scanned_off_to l (suc p) = length_put (scanned_off_to l p) (2 * p + 1) 0 ∙ length_scanned_off_to l p

off_to_even : (l : List ℕ) (n p : ℕ) → nth (scanned_off_to l n) (2 * p) ≡ nth l (2 * p)
unfolding scanned_off_to
off_to_even l zero p = refl
off_to_even l (suc n) p = nth_put_other (scanned_off_to l n) (2 * n + 1) (2 * p) 0 (omega arith) ∙ off_to_even l n p

off_to_odd : (l : List ℕ) (n p : ℕ) → p < n → 2 * n ≤ length l → nth (scanned_off_to l n) (2 * p + 1) ≡ 0
unfolding scanned_off_to
off_to_odd l zero p h e = absurd (omega arith)
off_to_odd l (suc n) p h e = elim (ℕ_discrete p n) [
  | yes q ↦ rw q (nth_put_same (scanned_off_to l n) (2 * n + 1) 0 (omega (arith, length_scanned_off_to l n)))
  | no q ↦ nth_put_other (scanned_off_to l n) (2 * n + 1) (2 * p + 1) 0 (omega arith) ∙ off_to_odd l n p (omega arith) (omega arith)
]

pub off_to_all : (l : List ℕ) (n : ℕ) → length l ≡ 2 * n → scanned_off_to l n ≡ scanned_off l
off_to_all l n e = nth_ext (scanned_off_to l n) (scanned_off l) (length_scanned_off_to l n ∙ sym (off_length l)) (λ i h.
    let s : i < 2 * n = omega (arith, length_scanned_off_to l n) in
    elim (ℕ_discrete (i % 2) 0) [
      | yes z ↦ let q : i ≡ 2 * (i / 2) = omega arith in rw q (off_to_even l n (i / 2) ∙ sym (off_owed l (i / 2)))
      | no z ↦ let q : i ≡ 2 * (i / 2) + 1 = omega arith in rw q (off_to_odd l n (i / 2) (omega arith) (omega arith) ∙ sym (off_scanned l (i / 2)))
    ])

-- ---- the loops

-- after i words
pub record StartsCopied (w : ℕ) (m m' : Image) (i : ℕ) : Type 0 where
  pub state : m' ≡ with_starts m (copied m.marks m.starts i)
  pub small : (j : ℕ) → j < i → nth m.marks j < 2 ^ w

pub copied_none : (w : ℕ) (m : Image) → StartsCopied w m m 0
unfolding copied with_starts
copied_none w m = record { state = refl; small = λ i h. absurd (omega arith) }

pub copied_more : {w : ℕ} {m m1 m2 : Image} {i : ℕ} → StartsCopied w m m1 i → (v : ℕ) → v ≡ nth m1.marks i → v < 2 ^ w → m2 ≡ with_starts m1 (put m1.starts i v) → StartsCopied w m m2 (i + 1)
unfolding copied with_starts
copied_more {m = m} {i = i} t v ev hv e =
    let word : v ≡ nth m.marks i = ev ∙ ap (λ (m : Image). nth m.marks i) t.state in
    record {
      state = e ∙ ap (λ (m : Image). with_starts m (put m.starts i v)) t.state ∙ rw (add-one, word);
      small = λ j h. elim (ℕ_discrete j i) [ yes q ↦ rw (q, ← word) hv | no q ↦ t.small j (omega arith) ];
    }

pub copied_end : {w n : ℕ} {m m' : Image} → length m.starts ≡ n → length m.marks ≡ n → StartsCopied w m m' n → StartsKept w m m'
copied_end {w} {n} {m} {m'} ls lm t = record {
  image = t.state ∙ ap (with_starts m) (copied_all m.marks m.starts n ls lm);
  small = λ i. elim (dec_lt i n) [ yes h ↦ t.small i h | no h ↦ rw (nth_out m.marks i (omega arith)) (pow_pos w) ];
}

pub off_none : (m : Image) → m ≡ with_players m (scanned_off_to m.players 0)
unfolding scanned_off_to with_players
off_none m = refl

pub off_more : (m m1 m2 : Image) (p : ℕ) → m1 ≡ with_players m (scanned_off_to m.players p) → m2 ≡ with_players m1 (put m1.players (2 * p + 1) 0) → m2 ≡ with_players m (scanned_off_to m.players (p + 1))
unfolding scanned_off_to with_players
off_more m m1 m2 p t e = e ∙ ap (λ (m : Image). with_players m (put m.players (2 * p + 1) 0)) t ∙ rw (add-one p)

-- ---- the end

pub end_done : (m m1 m2 m3 m4 m5 m6 : Image) → m1 ≡ with_marks m (zeros m.marks) → m2 ≡ with_counts m1 (zeros m1.counts) → m3 ≡ with_packets m2 (zeros m2.packets)
    → m4 ≡ with_tracers m3 (zeros m3.tracers) → m5 ≡ with_players m4 (scanned_off_to m4.players 16) → m6 ≡ with_general m5 (put m5.general 0 0) → m6 ≡ ended m
unfolding ended
end_done m m1 m2 m3 m4 m5 m6 e1 e2 e3 e4 e5 e6 = rw (e6, e5, e4, e3, e2, e1)
