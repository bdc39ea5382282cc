-- The lines that read the packets, where an entry is appended or popped.
use mathlib.Core.Path.{◌≡◌, refl, sym, ◌∙◌}
use mathlib.Core.Logic.{◌⊎◌, inl, inr}
use mathlib.Core.List.{List}
use Prim.Native.Nat.{ℕ, suc, ◌+◌, ◌*◌, ◌-◌, ◌≤◌, ◌<◌}
use native.Mathlib.Decide.{ℕ_discrete}
use native.Mathlib.Omega.{arith}
use lib.ListN.{length}
use Rattle.model.specs.Base.{nth, put}
use Rattle.model.proofs.Laws.{nth_put_same, nth_put_other, length_put}
use Rattle.theory.specs.Lines.{count_in, entry_in, Enters, PacketsOk}

-- x is v where C holds, else o
abbrev pub Wrote : Type 0 → ℕ → ℕ → ℕ → Type 0
Wrote C x v o = (C × (x ≡ v)) ⊎ ((C → ⊥) × (x ≡ o))

-- a word after a write: the written one, or the old one
pub nth_put : (l : List ℕ) (i j v : ℕ) → i < length l → Wrote (j ≡ i) (nth (put l i v) j) v (nth l j)
nth_put l i j v h = elim (ℕ_discrete j i) [ yes e ↦ inl (e, rw e (nth_put_same l i v h)) | no ne ↦ inr (ne, nth_put_other l i j v ne) ]

pub packets_mono : {Mk Mk' : ℕ → Type 0} {ps : List ℕ} → ((g : ℕ) → Mk g → Mk' g) → PacketsOk Mk ps → PacketsOk Mk' ps
packets_mono f k = record { sized = k.sized; few = k.few; gap = k.gap; past = k.past; full = λ p e g i. f g (k.full p e g i); once = k.once }

-- ---- one entry and the count written

abbrev pub edited : List ℕ → ℕ → ℕ → ℕ → ℕ → List ℕ
edited ps p e v c = put (put ps (32 * p + 2 + e) v) (32 * p) c

abbrev Near : ℕ → ℕ → Type 0
Near x n = (x ≤ n) × (n ≤ suc x)

-- packet p has x entries or one more, and so it has after: entry x is written
module _ {Mk : ℕ → Type 0} {ps : List ℕ} (k : PacketsOk Mk ps) (p x v c : ℕ) (at : (p < 32) × (x < 30) × Near x (count_in ps p) × Near x c) where
  count_edited : (q : ℕ) → Wrote (q ≡ p) (count_in (edited ps p x v c) q) c (count_in ps q)
  count_edited q = elim (nth_put (put ps (32 * p + 2 + x) v) (32 * p) (32 * q) c (simp length_put (omega (arith, k.sized)))) [
    | inl (e, w) ↦ inl (omega arith, w)
    | inr (n, w) ↦ inr (omega arith, w ∙ nth_put_other ps (32 * p + 2 + x) (32 * q) v (omega arith))
  ]

  entry_edited : (q e : ℕ) → e < 30 → Wrote (32 * q + e ≡ 32 * p + x) (entry_in (edited ps p x v c) q e) v (entry_in ps q e)
  entry_edited q e h =
      rw (nth_put_other (put ps (32 * p + 2 + x) v) (32 * p) (32 * q + 2 + e) c (omega arith))
      (elim (nth_put ps (32 * p + 2 + x) (32 * q + 2 + e) v (omega (arith, k.sized))) [ inl (n, w) ↦ inl (omega arith, w) | inr (n, w) ↦ inr (omega arith, w) ])

  few_edited : (q : ℕ) → q < 32 → count_in (edited ps p x v c) q ≤ 30
  few_edited q h = elim (count_edited q) [ inl (s, w) ↦ omega arith | inr (s, w) ↦ omega (arith, k.few q h) ]

  -- what was entered stays so, but for entry x
  edited_on : (q e g : ℕ) → Enters ps q e g → ((q ≡ p) × (e ≡ x)) ⊎ Enters (edited ps p x v c) q e g
  edited_on q e g i =
      let he : e < 30 = omega (arith, k.few q i.is_packet) in
      let b : (32 * q + e ≡ 32 * p + x → ⊥) → e < count_in (edited ps p x v c) q =
      λ n. elim (count_edited q) [ inl (t, u) ↦ omega (arith, rw t at i.below) | inr (t, u) ↦ omega arith ] in
      elim (entry_edited q e he) [
        | inl (s, w) ↦ inl (omega arith, omega arith)
        | inr (s, w) ↦ inr (record { is_packet = i.is_packet; below = b s; is_entry = w ∙ i.is_entry })
      ]

  -- what is entered was so, or is entry x, which is new
  edited_back : (q e g : ℕ) → Enters (edited ps p x v c) q e g → ((q ≡ p) × (e ≡ x) × (g ≡ v) × (c ≡ suc x)) ⊎ Enters ps q e g
  edited_back q e g i =
      let he : e < 30 = omega (arith, few_edited q i.is_packet) in
      let b : (32 * q + e ≡ 32 * p + x → ⊥) → e < count_in ps q = λ n. elim (count_edited q) [ inl (t, u) ↦ rw t (omega arith) | inr (t, u) ↦ omega arith ] in
      elim (entry_edited q e he) [
        | inl (s, w) ↦ elim (count_edited q) [ inl (t, u) ↦ inl (t, omega arith, sym i.is_entry ∙ w, omega arith) | inr (t, u) ↦ absurd (t (omega arith)) ]
        | inr (s, w) ↦ inr (record { is_packet = i.is_packet; below = b s; is_entry = sym w ∙ i.is_entry })
      ]

  edited_ok : (c ≡ x → v ≡ 0) → (c ≡ suc x → Mk v × ((q e : ℕ) → Enters ps q e v → ⊥)) → PacketsOk Mk (edited ps p x v c)
  edited_ok z f = record {
    sized = simp length_put k.sized;
    few = few_edited;
    gap = λ q h. rw (
      nth_put_other (put ps (32 * p + 2 + x) v) (32 * p) (32 * q + 1) c (omega arith),
      nth_put_other ps (32 * p + 2 + x) (32 * q + 1) v (omega arith),
    ) (k.gap q h);
    past = λ q e h he l. elim (entry_edited q e he) [
      | inl (s, w) ↦ elim (count_edited q) [ inl (t, u) ↦ w ∙ z (omega arith) | inr (t, u) ↦ absurd (t (omega arith)) ]
      | inr (s, w) ↦ w ∙ k.past q e h he (elim (count_edited q) [ inl (t, u) ↦ rw t (omega arith) | inr (t, u) ↦ omega arith ])
    ];
    full = λ q e g i. elim (edited_back q e g i) [ inl (_, _, s, y) ↦ rw s (f y).0 | inr j ↦ k.full q e g j ];
    once = λ q e r d g i j. elim (edited_back q e g i) [
      | inl (s, t, w, y) ↦ elim (edited_back r d g j) [ inl (s', t', w', y') ↦ (omega arith, omega arith) | inr l ↦ absurd ((f y).1 r d (rw w at l)) ]
      | inr i' ↦ elim (edited_back r d g j) [ inl (s, t, w, y) ↦ absurd ((f y).1 q e (rw w at i')) | inr j' ↦ k.once q e r d g i' j' ]
    ];
  }

-- ---- append

abbrev pub appended : List ℕ → ℕ → ℕ → List ℕ
appended ps p a = edited ps p (count_in ps p) a (count_in ps p + 1)

module _ {Mk : ℕ → Type 0} {ps : List ℕ} (k : PacketsOk Mk ps) (p a : ℕ) (hp : p < 32) (hc : count_in ps p < 30) where
  pub append_new : Enters (appended ps p a) p (count_in ps p) a
  append_new = record {
    is_packet = hp;
    below = elim (count_edited k p (count_in ps p) a (count_in ps p + 1) (omega arith) p) [ inl (_, w) ↦ omega arith | inr (n, w) ↦ absurd (n refl) ];
    is_entry = elim (entry_edited k p (count_in ps p) a (count_in ps p + 1) (omega arith) p (count_in ps p) hc) [ inl (_, w) ↦ w | inr (n, w) ↦ absurd (n refl) ];
  }

  -- what was entered stays so
  pub append_on : (q e g : ℕ) → Enters ps q e g → Enters (appended ps p a) q e g
  append_on q e g i =
      elim (edited_on k p (count_in ps p) a (count_in ps p + 1) (omega arith) q e g i) [ inl (s, t) ↦ absurd (omega (arith, rw s at i.below)) | inr j ↦ j ]

  -- a marked object that is not yet entered is appended
  pub append_ok : Mk a → ((q e : ℕ) → Enters ps q e a → ⊥) → PacketsOk Mk (appended ps p a)
  append_ok ma un = edited_ok k p (count_in ps p) a (count_in ps p + 1) (omega arith) (λ z. absurd (omega arith)) (λ _. (ma, un))

-- ---- pop

abbrev pub popped : List ℕ → ℕ → List ℕ
popped ps p = put (put ps (32 * p + 1 + count_in ps p) 0) (32 * p) (count_in ps p - 1)

module _ {Mk : ℕ → Type 0} {ps : List ℕ} (k : PacketsOk Mk ps) (p c : ℕ) (hp : p < 32) (hc : count_in ps p ≡ suc c) where
  popped_is : popped ps p ≡ edited ps p c 0 c
  popped_is = let a : 32 * p + 1 + count_in ps p ≡ 32 * p + 2 + c = omega arith in let b : count_in ps p - 1 ≡ c = omega arith in rw (a, b)

  -- what was entered stays so, but for the last of the packet
  pub pop_on : (q e g : ℕ) → Enters ps q e g → ((q ≡ p) × (e ≡ c)) ⊎ Enters (popped ps p) q e g
  pop_on q e g i = rw popped_is (edited_on k p c 0 c (omega (arith, k.few p hp)) q e g i)

  pub pop_ok : PacketsOk Mk (popped ps p)
  pop_ok = rw popped_is (edited_ok k p c 0 c (omega (arith, k.few p hp)) (λ _. refl) (λ z. absurd (omega arith)))
