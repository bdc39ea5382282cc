-- The choice of a packet by a walk is the model's `best`; the packets that tracers hold, as bits.
use mathlib.Core.Path.{◌≡◌, refl, sym, ap, ◌∙◌}
use mathlib.Core.Bool.{Bool, true, false, not, cond, ◌&&◌, ◌||◌, and-true, and-false, or-false, or-true, or_assoc}
use mathlib.Core.List.{[], ◌∷◌}
use Prim.Native.Nat.{ℕ, zero, suc, ◌+◌, ◌≤◌, ◌^◌, ◌*◌, ◌-◌, ◌%◌, ◌<◌}
use native.Mathlib.Omega.{arith}
use native.Mathlib.Decide.{ℕ_discrete}
use lib.Dec.{ltb, eqb, lit<, leb}
use borrow.Author.Tests.{ltb-true, lt-ltb, eq-eqb, ne_eqb}
use Rattle.model.specs.Base.{best, every, any, some, test_bit, nth}
use Rattle.model.specs.Image.{Image, count, input, output}
use Rattle.model.specs.Collect.{held, emptiest, has_entries, fullest}
use Rattle.model.proofs.Laws.{bool_cases, best_ok, every_use}
use Rattle.model.proofs.Bits.{with_bit_same, with_bit_other}
use Rattle.collector_laws.specs.Pool.{Choice, choice, chosen_by, held_with, held_set, lacks_space}
use native.Mathlib.Numerals.{add-one}
use native.Mathlib.Nat.{one-mul}
use Rattle.image_laws.proofs.Masks.{or_pow}
use lib.Bits.{bit_or}
use lib.Pow.{shl_exact}
use Rattle.theory.specs.Lines.{HeldOk}
use Rattle.image_laws.proofs.Bits.{zero_bit}
use mathlib.Core.Logic.{inl, inr}

-- ---- the choice, for any order

module _ (less : ℕ → ℕ → Bool) (key : ℕ → ℕ) (free : ℕ → Bool) (bound : ℕ) where
  abbrev better : ℕ → ℕ → Bool
  better p q = less (key p) (key q)

  abbrev suits : ℕ → Bool
  suits p = every (free p ∷ less (key p) bound ∷ [])

  -- number b - 1 chosen, or none
  abbrev at_best : ℕ → Choice
  at_best zero = record { packet = 0; entries = bound }
  at_best (suc q) = record { packet = suc q; entries = key q }

  chosen : (n q : ℕ) (b c : Bool) → b ≡ c → chosen_by b n (key n) (at_best q) ≡ at_best (cond c (suc n) q)
  unfolding chosen_by
  chosen n q b true e = rw e
  chosen n q b false e = rw e

  pub choice_best : ((a b : ℕ) → less a b ≡ true → less b bound ≡ true → less a bound ≡ true) → (n : ℕ) → choice less key free bound n ≡ at_best (best better suits n)
  unfolding choice best every
  choice_best trans zero = refl
  choice_best trans (suc n) = rw (choice_best trans n) (go (best better suits n) refl)
    where
      go : (b : ℕ) → best better suits n ≡ b → chosen_by (free n && less (key n) (at_best b).entries) n (key n) (at_best b) ≡ at_best (elim b [ zero ↦ cond (suits n) (suc n) 0 | suc q ↦ cond (suits n && better n q) (suc n) (suc q) ])
      go zero e = chosen n 0 (free n && less (key n) bound) (suits n) (simp and-true)
      go (suc q) e = chosen n (suc q) (free n && better n q) (suits n && better n q) (elim (bool_cases (less (key n) (key q))) [
        | inl x ↦ rw (x, trans (key n) (key q) x (every_use (free q ∷ less (key q) bound ∷ []) (best_ok better suits n q e).1 1)) (simp and-true)
        | inr x ↦ rw x (simp and-false)
      ])

  choice_packet : ((a b : ℕ) → less a b ≡ true → less b bound ≡ true → less a bound ≡ true) → (n : ℕ) → (choice less key free bound n).packet ≡ best better suits n
  choice_packet trans n = rw (choice_best trans n) (elim (best better suits n) as (λ b. (at_best b).packet ≡ b) [ zero ↦ refl | suc q ↦ refl ])

  -- one turn of the walk
  pub choice_more : (n x : ℕ) (f : Bool) (c d : Choice) → c ≡ choice less key free bound n → f ≡ free n → x ≡ key n → d ≡ chosen_by (f && less x c.entries) n x c → d ≡ choice less key free bound (n + 1)
  unfolding choice
  choice_more n x f c d e g h i = rw (add-one n) (i ∙ rw (e, g, h))

-- ---- one turn of the walk, and the packets of one word

module _ (b : Bool) (p n : ℕ) (c : Choice) where
  pub chosen_yes : b ≡ true → record { packet = p + 1; entries = n } ≡ chosen_by b p n c
  unfolding chosen_by
  chosen_yes e = rw (e, add-one p)

  pub chosen_no : b ≡ false → c ≡ chosen_by b p n c
  unfolding chosen_by
  chosen_no e = rw e

pub held_none : (s x : ℕ) → x ≡ 0 → s ≡ held_with s x
unfolding held_with
held_none s x e = rw e

pub held_one : (s x : ℕ) → (x ≡ 0 → ⊥) → x ≤ 32 → bit_or s (1 * 2 ^ (x - 1) % 4294967296) ≡ held_with s x
unfolding held_with
held_one s zero ne h = absurd (ne refl)
held_one s (suc p) ne h =
    let q : suc p - 1 ≡ p = omega arith in
    rw (q, shl_exact {a = 1} 1 p 32 (lit< tt) (omega arith), one-mul (2 ^ p)) (or_pow s p)

module _ (m : Image) (x : ℕ) where
  pub no_entries : x ≡ 0 → false ≡ has_entries m x
  unfolding has_entries every
  no_entries e = rw e

  pub some_entries : (n : ℕ) → (x ≡ 0 → ⊥) → n ≡ count m (x - 1) → ltb 0 n ≡ has_entries m x
  unfolding has_entries every
  some_entries n ne e = rw (ne_eqb x 0 ne, e) (sym (and-true (ltb 0 (count m (x - 1)))))

  pub absent : x ≡ 0 → true ≡ lacks_space m x
  unfolding lacks_space some
  absent e = rw e

  pub present : (n : ℕ) → (x ≡ 0 → ⊥) → n ≡ count m (x - 1) → leb 30 n ≡ lacks_space m x
  unfolding lacks_space some
  present n ne e = rw (ne_eqb x 0 ne, e) (sym (or-false (leb 30 (count m (x - 1)))))

-- ---- the packets that tracers hold

held-with : (s x p : ℕ) → test_bit (held_with s x) p ≡ (test_bit s p || eqb x (suc p))
unfolding held_with
held-with s zero p = rw (ne_eqb 0 (suc p) (λ e. omega arith)) (sym (or-false (test_bit s p)))
held-with s (suc q) p = elim (ℕ_discrete p q) [
  | yes e ↦ rw (e, with_bit_same s q, eq-eqb (suc q) (suc q) refl) (sym (or-true (test_bit s q)))
  | no ne ↦ rw (with_bit_other s p q ne, ne_eqb (suc q) (suc p) (λ e. ne (omega arith))) (sym (or-false (test_bit s p)))
]

-- one of the first n tracers holds packet p
held-set : (m : Image) (n p : ℕ) → test_bit (held_set m n) p ≡ any n (λ t. some (eqb (input m t) (suc p) ∷ eqb (output m t) (suc p) ∷ []))
unfolding held_set any some
held-set m zero p = zero_bit 0 p refl
held-set m (suc n) p =
    rw (held-with (held_with (held_set m n) (input m n)) (output m n) p, held-with (held_set m n) (input m n) p, held-set m n p) (simp (or_assoc, or-false))

module _ (m : Image) (t : ℕ) where
  pub held_more : (s a b u r : ℕ) → s ≡ held_set m t → a ≡ nth m.tracers (8 * t) → b ≡ nth m.tracers (8 * t + 1) → u ≡ held_with s a → r ≡ held_with u b → r ≡ held_set m (t + 1)
  unfolding held_set input output
  held_more s a b u r e f g h i = rw (add-one t) (i ∙ rw (h, e, f, g))

  pub held_all : (s : ℕ) → s ≡ held_set m t → 8 ≤ t → t ≤ 8 → s ≡ held_set m 8
  held_all s e h l = let q : t ≡ 8 = omega arith in e ∙ ap (held_set m) q

  module _ (o : HeldOk m.tracers) (h : t < 8) (x : ℕ) where
    pub input_few : x ≡ nth m.tracers (8 * t) → x ≤ 32
    input_few e = let q : 8 * t ≡ 8 * t + 0 = omega arith in rw (e, q) (o.held t 0 h (omega arith))

    pub output_few : x ≡ nth m.tracers (8 * t + 1) → x ≤ 32
    output_few e = rw e (o.held t 1 h (omega arith))

pub in_pool : (m : Image) (s p : ℕ) (b : Bool) → s ≡ held_set m 8 → b ≡ not (test_bit s p) → b ≡ not (held m p)
unfolding held
in_pool m s p b e f = f ∙ rw e (ap not (held-set m 8 p))

-- ---- the two choices

-- a packet of the pool: held by no tracer
abbrev pub unheld : Image → ℕ → Bool
unheld m p = not (held m p)

abbrev pub greater : ℕ → ℕ → Bool
greater a b = ltb b a

pub emptiest_choice : (m : Image) (n : ℕ) (c : Choice) → c ≡ choice ltb (count m) (unheld m) 30 n → 32 ≤ n → n ≤ 32 → c.packet ≡ emptiest m
unfolding emptiest
emptiest_choice m n c e l h =
    let q : n ≡ 32 = omega arith in
    rw (e, q) (choice_packet ltb (count m) (unheld m) 30 (λ a b x y. lt-ltb a 30 (omega (arith, ltb-true a b x, ltb-true b 30 y))) 32)

pub fullest_choice : (m : Image) (n : ℕ) (c : Choice) → c ≡ choice greater (count m) (unheld m) 0 n → 32 ≤ n → n ≤ 32 → c.packet ≡ fullest m
unfolding fullest
fullest_choice m n c e l h =
    let q : n ≡ 32 = omega arith in
    rw (e, q) (choice_packet greater (count m) (unheld m) 0 (λ a b x y. lt-ltb 0 a (omega (arith, ltb-true b a x, ltb-true 0 b y))) 32)
