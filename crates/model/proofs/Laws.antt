-- What a passed test says, and how to pass one; words of a list after a write; tables.
use mathlib.Core.Path.{◌≡◌, refl, sym, ap, subst, fun_ext, ◌∙◌}
use mathlib.Core.Logic.{◌⊎◌, inl, inr}
use mathlib.Core.Bool.{Bool, true, false, not, cond, ◌&&◌, ◌||◌}
use mathlib.Core.List.{List, [], ◌∷◌, ◌++◌}
use Prim.Native.Nat.{ℕ, zero, suc, ◌+◌, ◌≤◌, ◌<◌}
use native.Mathlib.Nat.{zero-add, suc-add}
use native.Mathlib.Decide.{ℕ_discrete}
use native.Mathlib.Omega.{arith}
use lib.Dec.{T, eqb}
use lib.ListN.{get_or, set, replicate, length, length-set, get_or-eq_default}
use lib.Seq.{get_or-set_same, get_or-set_other, set_out}
use borrow.Author.Tests.{eqb-true, eq-eqb}
use Rattle.model.specs.Base.{first, nth, put, every, some, either, implies, all, any, table, best, zeroes}

pub false≢ : {P : Type 0} → false ≡ true → P
false≢ e = absurd (subst T (sym e) tt)

pub and_split : (a b : Bool) → (a && b) ≡ true → (a ≡ true) × (b ≡ true)
and_split true b e = (refl, e)
and_split false b e = false≢ e

pub and_join : (a b : Bool) → a ≡ true → b ≡ true → (a && b) ≡ true
and_join a b p q = rw (p, q)

pub or_split : (a b : Bool) → (a || b) ≡ true → (a ≡ true) ⊎ (b ≡ true)
or_split true b e = inl refl
or_split false b e = inr e

pub or_none : (a b : Bool) → (a || b) ≡ false → (a ≡ false) × (b ≡ false)
or_none true b e = false≢ (sym e)
or_none false b e = (refl, e)

-- two tests that pass together
pub same_test : (a b : Bool) → (a ≡ true → b ≡ true) → (b ≡ true → a ≡ true) → a ≡ b
same_test true b f g = sym (f refl)
same_test false true f g = g refl
same_test false false f g = refl

pub or_left : (a b : Bool) → a ≡ true → (a || b) ≡ true
or_left a b p = rw p

pub or_right : (a b : Bool) → b ≡ true → (a || b) ≡ true
or_right true b p = refl
or_right false b p = p

pub imp_use : (a b : Bool) → implies a b ≡ true → a ≡ true → b ≡ true
unfolding implies
imp_use a b e p = rw p at e

pub imp_make : (a b : Bool) → (a ≡ true → b ≡ true) → implies a b ≡ true
unfolding implies
imp_make true b f = f refl
imp_make false b f = refl

-- ---- choosing by a test

pub either_yes : (b x y : Bool) → b ≡ true → either b x y ≡ true → x ≡ true
unfolding either
either_yes b x y p e = rw p at e

pub either_no : (b x y : Bool) → b ≡ false → either b x y ≡ true → y ≡ true
unfolding either
either_no b x y p e = rw p at e

pub either_make : (b x y : Bool) → (b ≡ true → x ≡ true) → (b ≡ false → y ≡ true) → either b x y ≡ true
unfolding either
either_make true x y f g = f refl
either_make false x y f g = g refl

pub not_make : (b : Bool) → (b ≡ true → ⊥) → not b ≡ true
not_make true f = absurd (f refl)
not_make false f = refl

-- ---- quantifiers

pub bool_cases : (b : Bool) → (b ≡ true) ⊎ (b ≡ false)
bool_cases true = inl refl
bool_cases false = inr refl

pub all_use : (n : ℕ) (p : ℕ → Bool) → all n p ≡ true → (i : ℕ) → i < n → p i ≡ true
unfolding all
all_use zero p e i h = absurd (omega arith)
all_use (suc n) p e i h = let s = and_split (all n p) (p n) e in elim (ℕ_discrete i n) [ yes q ↦ rw q s.1 | no q ↦ all_use n p s.0 i (omega arith) ]

pub all_make : (n : ℕ) (p : ℕ → Bool) → ((i : ℕ) → i < n → p i ≡ true) → all n p ≡ true
unfolding all
all_make zero p f = refl
all_make (suc n) p f = and_join (all n p) (p n) (all_make n p (λ i h. f i (omega arith))) (f n (omega arith))

pub any_use : (n : ℕ) (p : ℕ → Bool) → any n p ≡ true → (i : ℕ) × (i < n) × (p i ≡ true)
unfolding any
any_use zero p e = false≢ e
any_use (suc n) p e = elim (or_split (any n p) (p n) e) [ inl q ↦ let r = any_use n p q in (r.0, omega (arith, r.1), r.2) | inr q ↦ (n, omega arith, q) ]

pub any_make : (n : ℕ) (p : ℕ → Bool) (i : ℕ) → i < n → p i ≡ true → any n p ≡ true
unfolding any
any_make zero p i h e = absurd (omega arith)
any_make (suc n) p i h e = elim (ℕ_discrete i n) [ yes q ↦ or_right (any n p) (p n) (rw q at e) | no q ↦ rw (any_make n p i (omega arith) e) ]

-- the same tests
pub any_same : (n : ℕ) (p q : ℕ → Bool) → ((i : ℕ) → i < n → p i ≡ q i) → any n p ≡ any n q
unfolding any
any_same zero p q f = refl
any_same (suc n) p q f = rw (f n (omega arith), any_same n p q (λ i h. f i (omega arith)))

pub every_use : (l : List Bool) → every l ≡ true → (i : ℕ) → get_or l i true ≡ true
unfolding every
every_use [] e i = refl
every_use (b ∷ l) e zero = (and_split b (every l) e).0
every_use (b ∷ l) e (suc i) = every_use l (and_split b (every l) e).1 i

pub every_nil : every [] ≡ true
unfolding every
every_nil = refl

pub every_cons : (b : Bool) (l : List Bool) → b ≡ true → every l ≡ true → every (b ∷ l) ≡ true
unfolding every
every_cons b l p q = and_join b (every l) p q

pub some_use : (b : Bool) (l : List Bool) → some (b ∷ l) ≡ true → (b ≡ true) ⊎ (some l ≡ true)
unfolding some
some_use b l e = or_split b (some l) e

pub some_nil : {P : Type 0} → some [] ≡ true → P
unfolding some
some_nil e = false≢ e

pub some_make : (l : List Bool) (i : ℕ) → get_or l i false ≡ true → some l ≡ true
unfolding some
some_make [] i e = e
some_make (b ∷ l) zero e = or_left b (some l) e
some_make (b ∷ l) (suc i) e = or_right b (some l) (some_make l i e)

pub some_false : (l : List Bool) → some l ≡ false → (i : ℕ) → get_or l i false ≡ false
unfolding some
some_false [] e i = refl
some_false (true ∷ l) e i = false≢ (sym e)
some_false (false ∷ l) e zero = refl
some_false (false ∷ l) e (suc i) = some_false l e i

-- ---- words of a list

-- past the end they are 0
pub nth_out : (l : List ℕ) (i : ℕ) → length l ≤ i → nth l i ≡ 0
unfolding nth
nth_out l i h = get_or-eq_default l 0 h

pub nth_replicate : (n i : ℕ) → nth (replicate n 0) i ≡ 0
unfolding nth
nth_replicate zero i = refl
nth_replicate (suc n) zero = refl
nth_replicate (suc n) (suc i) = nth_replicate n i

-- ---- words after a write

pub nth_put_same : (l : List ℕ) (i v : ℕ) → i < length l → nth (put l i v) i ≡ v
unfolding nth put
nth_put_same l i v h = get_or-set_same l i v 0 h

pub nth_put_other : (l : List ℕ) (i j v : ℕ) → (j ≡ i → ⊥) → nth (put l i v) j ≡ nth l j
unfolding nth put
nth_put_other l i j v ne = get_or-set_other l i j v 0 ne

pub put_out : (l : List ℕ) (i v : ℕ) → length l ≤ i → put l i v ≡ l
unfolding put
put_out l i v h = set_out l i v h

pub length_put : (l : List ℕ) (i v : ℕ) → length (put l i v) ≡ length l
unfolding put
length_put l i v = length-set l i v

-- ---- choices

-- of the choices up to n, v is n, which passes; or it is x, that of those before, and n fails where x is none
abbrev Turn : ℕ → ℕ → ℕ → Bool → Type 0
Turn v n x b = ((v ≡ suc n) × (b ≡ true)) ⊎ ((v ≡ x) × (x ≡ 0 → b ≡ false))

best_turn : (better : ℕ → ℕ → Bool) (ok : ℕ → Bool) (n : ℕ) → Turn (best better ok (suc n)) n (best better ok n) (ok n)
unfolding best
best_turn better ok n = go (best better ok n) (ok n)
  where
    go : (x : ℕ) (b : Bool) → Turn (elim x [ zero ↦ cond b (suc n) 0 | suc q ↦ cond (b && better n q) (suc n) (suc q) ]) n x b
    go zero true = inl (refl, refl)
    go zero false = inr (refl, λ e. refl)
    go (suc q) true = elim (bool_cases (better n q)) [ inl e ↦ inl (rw e, refl) | inr e ↦ inr (rw e, λ z. absurd (omega arith)) ]
    go (suc q) false = inr (refl, λ e. refl)

-- what `best` returns passes
pub best_ok : (better : ℕ → ℕ → Bool) (ok : ℕ → Bool) (n p : ℕ) → best better ok n ≡ suc p → (p < n) × (ok p ≡ true)
unfolding best
best_ok better ok zero p e = absurd (omega arith)
best_ok better ok (suc n) p e =
    elim (best_turn better ok n) [
      | inl h ↦ let s : p ≡ n = omega arith in (omega arith, rw s h.1)
      | inr h ↦ let r = best_ok better ok n p (sym h.0 ∙ e) in (omega (arith, r.0), r.1)
    ]

-- and where it returns nothing, none passes
pub best_none : (better : ℕ → ℕ → Bool) (ok : ℕ → Bool) (n : ℕ) → best better ok n ≡ 0 → (i : ℕ) → i < n → ok i ≡ false
best_none better ok zero e i h = absurd (omega arith)
best_none better ok (suc n) e i h =
    elim (best_turn better ok n) [
      | inl q ↦ absurd (omega arith)
      | inr q ↦ let z = sym q.0 ∙ e in elim (ℕ_discrete i n) [ yes s ↦ rw s (q.1 z) | no s ↦ best_none better ok n z i (omega arith) ]
    ]

-- ---- tables

pub table_length : {A : Type 0} (n : ℕ) (f : ℕ → A) → length (table n f) ≡ n
unfolding table
table_length zero f = refl
table_length (suc n) f = ap suc (table_length n (λ i. f (suc i)))

pub table_more : {A : Type 0} (n : ℕ) (f : ℕ → A) → table (suc n) f ≡ table n f ++ (f n ∷ [])
unfolding table
table_more zero f = refl
table_more (suc n) f = ap (λ l. f zero ∷ l) (table_more n (λ i. f (suc i)))

pub table_add : {A : Type 0} (a b : ℕ) (f : ℕ → A) → table (a + b) f ≡ table a f ++ table b (λ i. f (a + i))
unfolding table
table_add zero b f = ap (λ n. table n f) (zero-add b) ∙ ap (table b) (fun_ext (λ i. ap f (sym (zero-add i))))
table_add (suc a) b f =
    ap (λ n. table n f) (suc-add a b)
    ∙ (ap (λ l. f zero ∷ l) (table_add a b (λ i. f (suc i)))
    ∙ ap (λ g. f zero ∷ (table a (λ i. f (suc i)) ++ table b g)) (fun_ext (λ i. ap f (sym (suc-add a i)))))

-- ---- the first line of a table that passes

-- no line passed
pub first_none : (n : ℕ) (l : List Bool) → first (suc n) l ≡ 0 → (i : ℕ) → get_or l i false ≡ false
unfolding first
first_none n [] e i = refl
first_none n (true ∷ l) e i = absurd (omega arith)
first_none n (false ∷ l) e zero = refl
first_none n (false ∷ l) e (suc i) = first_none (suc n) l e i

-- a line taken off, where it is not the one that is given
pub first_off : (n : ℕ) (l : List Bool) (i : ℕ) → (first n l ≡ n + i → ⊥) → first n l ≡ first n (set l i false)
unfolding first
first_off n [] i ne = refl
first_off n (true ∷ l) zero ne = absurd (ne (omega arith))
first_off n (true ∷ l) (suc i) ne = refl
first_off n (false ∷ l) zero ne = refl
first_off n (false ∷ l) (suc i) ne = first_off (suc n) l i (λ e. ne (omega arith))

-- the tables agree on a line, and on the rest where it does not apply
pub first_cons : (n : ℕ) (b b' : Bool) (l l' : List Bool) → b ≡ b' → (b ≡ false → first (suc n) l ≡ first (suc n) l') → first n (b ∷ l) ≡ first n (b' ∷ l')
unfolding first
first_cons n true b' l l' e h = ap (λ z. first n (z ∷ l')) e
first_cons n false b' l l' e h = h refl ∙ ap (λ z. first n (z ∷ l')) e

first_low : (n : ℕ) (l : List Bool) → (first n l ≡ 0) ⊎ (n ≤ first n l)
unfolding first
first_low n [] = inl refl
first_low n (true ∷ l) = inr (omega arith)
first_low n (false ∷ l) = elim (first_low (suc n) l) [ inl e ↦ inl e | inr h ↦ inr (omega arith) ]

-- the line that is given passes
pub first_passes : (n : ℕ) (l : List Bool) (i : ℕ) → first (suc n) l ≡ suc n + i → get_or l i false ≡ true
unfolding first
first_passes n [] i e = absurd (omega arith)
first_passes n (true ∷ l) zero e = refl
first_passes n (true ∷ l) (suc i) e = absurd (omega arith)
first_passes n (false ∷ l) zero e = elim (first_low (suc (suc n)) l) [ inl z ↦ absurd (omega arith) | inr z ↦ absurd (omega arith) ]
first_passes n (false ∷ l) (suc i) e = first_passes (suc n) l i (omega arith)

-- ---- words that are all 0

pub zeroes_use : (l : List ℕ) → zeroes l ≡ true → (i : ℕ) → nth l i ≡ 0
unfolding zeroes nth
zeroes_use [] e i = refl
zeroes_use (x ∷ l) e zero = eqb-true x 0 (and_split (eqb x 0) (zeroes l) e).0
zeroes_use (x ∷ l) e (suc i) = zeroes_use l (and_split (eqb x 0) (zeroes l) e).1 i

pub zeroes_make : (l : List ℕ) → ((i : ℕ) → nth l i ≡ 0) → zeroes l ≡ true
unfolding zeroes nth
zeroes_make [] f = refl
zeroes_make (x ∷ l) f = and_join (eqb x 0) (zeroes l) (eq-eqb x 0 (f zero)) (zeroes_make l (λ i. f (suc i)))
