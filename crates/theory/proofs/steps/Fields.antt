-- Numbers 3 and 4 as tests of the fields against their limits, for every kind at once; and what a field is where 3, 4 and 5 do not apply.
use mathlib.Core.Path.{◌≡◌, refl, sym, ap, ◌∙◌}
use mathlib.Core.Bool.{Bool, true, false, not, ◌&&◌, ◌||◌, and-false, or-true, or-false}
use mathlib.Core.List.{[], ◌∷◌}
use Prim.Native.Nat.{ℕ, zero, suc, ◌^◌, ◌<◌}
use native.Mathlib.Omega.{arith}
use lib.Dec.{leb, ltb, eqb}
use lib.Pow.{pow_pos}
use borrow.Author.Tests.{eqb-true, ne_eqb, leb-false, lt-leb, not-false}
use Rattle.model.specs.Base.{some}
use Rattle.model.specs.Image.{Image, owed}
use Rattle.model.specs.Records.{Step, Kind, unknown}
use Rattle.model.specs.Rows.{Role, unused, player, tracer, register, card, number, row_of, is, is_unused, is_player, below, limit, reaches, fields}
use Rattle.model.specs.Steps.{unnamed, off_desk, owes, owing}
use Rattle.model.proofs.Laws.{or_none, some_false}
use Rattle.theory.specs.Fields.{field_at, role_at, bound, is_card, beyond_limit, no_card}

-- ---- tests of four fields

-- what each of the four fields has
pub four : (P : ℕ → Type 0) → P 0 → P 1 → P 2 → P 3 → (i : ℕ) → i < 4 → P i
four P a b c d zero h = a
four P a b c d (suc zero) h = b
four P a b c d (suc (suc zero)) h = c
four P a b c d (suc (suc (suc zero))) h = d
four P a b c d (suc (suc (suc (suc i)))) h = absurd (omega arith)

-- an unused field that is not 0
abbrev stray : Role → ℕ → Bool
stray r x = is_unused r && not (eqb x 0)

module _ (s : Step) (n : Kind) (f : Role → ℕ → Bool) where
  no_test : some (fields s f (row_of n)) ≡ false → (i : ℕ) → i < 4 → f (role_at n i) (field_at s i) ≡ false
  unfolding fields role_at field_at
  no_test e = let d = some_false _ e in four (λ i. f (role_at n i) (field_at s i) ≡ false) (d 0) (d 1) (d 2) (d 3)

-- ---- numbers 3 and 4, with words of w bits and k cards

or_pairs : (a b c d : Bool) → ((a || b) || (c || d)) ≡ ((a || c) || (b || d))
or_pairs true b c d = refl
or_pairs false true c d = sym (or-true c)
or_pairs false false c d = refl

-- one of four has the one or the other
some_either : (a b c d a' b' c' d' : Bool) → some ((a || a') ∷ (b || b') ∷ (c || c') ∷ (d || d') ∷ []) ≡ (some (a ∷ b ∷ c ∷ d ∷ []) || some (a' ∷ b' ∷ c' ∷ d' ∷ []))
unfolding some
some_either a b c d a' b' c' d' = rw (or_pairs d d' false false, or_pairs c c', or_pairs b b', or_pairs a a') refl

module _ (w : ℕ) where
  -- a role by its limit
  unused_by : (r : Role) → is_unused r ≡ eqb (bound w r) 0
  unfolding is_unused bound
  unused_by unused = refl
  unused_by player = refl
  unused_by tracer = refl
  unused_by register = refl
  unused_by card = sym (ne_eqb (2 ^ w) 0 (λ e. omega (arith, pow_pos w)))
  unused_by number = sym (ne_eqb (2 ^ w) 0 (λ e. omega (arith, pow_pos w)))

  any_number : (x : ℕ) → x < 2 ^ w → (ltb 0 (2 ^ w) && leb (2 ^ w) x) ≡ false
  any_number x h = ap (λ b. ltb 0 (2 ^ w) && b) (lt-leb (2 ^ w) x h) ∙ and-false (ltb 0 (2 ^ w))

  reaches_by : (k : ℕ) (r : Role) (x : ℕ) → x < 2 ^ w → reaches (limit k r) x ≡ ((ltb 0 (bound w r) && leb (bound w r) x) || (is_card r && leb k x))
  unfolding reaches limit bound is_card
  reaches_by k unused x h = refl
  reaches_by k player x h = sym (or-false (leb 16 x))
  reaches_by k tracer x h = sym (or-false (leb 8 x))
  reaches_by k register x h = sym (or-false (leb 16 x))
  reaches_by k card x h = rw (any_number x h) refl
  reaches_by k number x h = rw (any_number x h) refl

  module _ (s : Step) (n : Kind) where
    -- 3, as one test of the kind, the zero bytes and four fields
    pub unnamed_by : unnamed s n ≡ some (is n unknown ∷ not (eqb s.zeros 0) ∷ fields s (λ r x. eqb (bound w r) 0 && not (eqb x 0)) (row_of n))
    unfolding unnamed is fields some
    unnamed_by = λ j. (is n unknown || some (not (eqb s.zeros 0) ∷ fields s (λ r x. unused_by r j && not (eqb x 0)) (row_of n)))

    -- 4, as two tests of four fields
    pub off_by : (k : ℕ) → ((i : ℕ) → i < 4 → field_at s i < 2 ^ w) → off_desk s k n ≡ (beyond_limit w s n || no_card k s n)
    unfolding off_desk fields field_at beyond_limit no_card
    off_by k f =
        (λ j. some
        (reaches_by k (row_of n).who s.who (f 0 (omega arith)) j
        ∷ reaches_by k (row_of n).a s.a (f 1 (omega arith)) j
        ∷ reaches_by k (row_of n).b s.b (f 2 (omega arith)) j
        ∷ reaches_by k (row_of n).c s.c (f 3 (omega arith)) j
        ∷ []))
        ∙ some_either _ _ _ _ _ _ _ _

-- ---- what they say of a field where they do not apply

module _ (s : Step) (n : Kind) where
  module _ (e : unnamed s n ≡ false) where
    none_set : (eqb s.zeros 0 ≡ true) × (some (fields s stray (row_of n)) ≡ false)
    unfolding unnamed is some
    none_set =
        let q = or_none (not (eqb s.zeros 0)) (some (fields s stray (row_of n))) (or_none (is n unknown) (some (not (eqb s.zeros 0) ∷ fields s stray (row_of n))) e).1 in
        (not-false _ q.0, q.1)

    pub zeros_zero : s.zeros ≡ 0
    zeros_zero = eqb-true _ _ none_set.0

    pub field_zero : (i : ℕ) → i < 4 → role_at n i ≡ unused → field_at s i ≡ 0
    unfolding is_unused
    field_zero i h z = eqb-true _ _ (not-false _ (sym (ap (λ r. stray r (field_at s i)) z) ∙ no_test s n stray none_set.1 i h))

  pub field_below : (k : ℕ) → off_desk s k n ≡ false → (i : ℕ) → i < 4 → (l : ℕ) → limit k (role_at n i) ≡ below l → field_at s i < l
  unfolding off_desk reaches
  field_below k e i h l b = leb-false _ _ (sym (ap (λ y. reaches y (field_at s i)) b) ∙ no_test s n (λ r x. reaches (limit k r) x) e i h)

-- ---- number 5

module _ (m : Image) (s : Step) where
  abbrev debtor : Role → ℕ → Bool
  debtor r x = is_player r && owes m s x

  module _ (n : Kind) where
    -- what it says of a field where it does not apply
    pub field_paid : owing m s n ≡ false → (row_of n).unowing ≡ true → (i : ℕ) → i < 4 → role_at n i ≡ player → owed m (field_at s i) ≡ 0
    unfolding owing owes
    field_paid e u i h p =
        eqb-true _ _ (not-false _ (sym (ap (λ r. debtor r (field_at s i)) p) ∙ no_test s n debtor (sym (ap (λ b. b && some (fields s debtor (row_of n))) u) ∙ e) i h))
