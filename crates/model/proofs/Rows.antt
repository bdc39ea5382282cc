-- A kind is known by its number in the table, and the numbers 1 to 15 by their kinds.
use mathlib.Core.Path.{◌≡◌, refl, sym, ap, ◌∙◌}
use mathlib.Core.Bool.{true, false}
use mathlib.Core.List.{[], ◌∷◌}
use Prim.Native.Nat.{ℕ, ◌≤◌, ◌<◌}
use native.Mathlib.Decide.{dec_lt}
use native.Mathlib.Omega.{arith}
use lib.Dec.{eqb}
use lib.ListN.{get_or-eq_default}
use borrow.Author.Tests.{eqb-true, ne_eqb}
use Rattle.model.specs.Base.{all}
use Rattle.model.specs.Records.{Kind, new, load, store, barrier, hand_over, drop_reg, read, write, begin, scan, trace, clean, finish, is_due, undirty, unknown, kind_of}
use Rattle.model.specs.Rows.{row_of, is}
use Rattle.model.proofs.Laws.{all_use}

pub kind_code : (n : Kind) → kind_of (row_of n).code ≡ n
unfolding kind_of row_of
kind_code new = refl
kind_code load = refl
kind_code store = refl
kind_code barrier = refl
kind_code hand_over = refl
kind_code drop_reg = refl
kind_code read = refl
kind_code write = refl
kind_code begin = refl
kind_code scan = refl
kind_code trace = refl
kind_code clean = refl
kind_code finish = refl
kind_code is_due = refl
kind_code undirty = refl
kind_code unknown = refl

pub is_same : (n x : Kind) → is n x ≡ true → n ≡ x
unfolding is
is_same n x e = sym (kind_code n) ∙ (ap kind_of (eqb-true (row_of n).code (row_of x).code e) ∙ kind_code x)

code_kind : (x : ℕ) → x < 16 → (row_of (kind_of x)).code ≡ x
unfolding all kind_of row_of
code_kind x h = eqb-true _ _ (all_use 16 (λ y. eqb (row_of (kind_of y)).code y) refl x h)

pub kind_known : (x : ℕ) → 1 ≤ x → x < 16 → is (kind_of x) unknown ≡ false
unfolding is row_of
kind_known x l h = ne_eqb (row_of (kind_of x)).code 0 (λ e. omega (arith, code_kind x h))

pub kind_unknown : (x : ℕ) → 16 ≤ x → kind_of x ≡ unknown
unfolding kind_of
kind_unknown x h = get_or-eq_default (unknown ∷ new ∷ load ∷ store ∷ barrier ∷ hand_over ∷ drop_reg ∷ read ∷ write ∷ begin ∷ scan ∷ trace ∷ clean ∷ finish ∷ is_due ∷ undirty ∷ []) unknown h

-- only one number is a known kind's
pub kind_number : (x : ℕ) (n : Kind) → kind_of x ≡ n → ((row_of n).code ≡ 0 → ⊥) → x ≡ (row_of n).code
kind_number x n e nz = elim (dec_lt x 16) [
  | yes h ↦ sym (code_kind x h) ∙ ap (λ y. (row_of y).code) e
  | no h ↦ absurd (nz (ap (λ y. (row_of y).code) (sym e ∙ kind_unknown x (omega arith)) ∙ (unfold row_of in refl)))
]
