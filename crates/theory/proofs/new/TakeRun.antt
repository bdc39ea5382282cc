-- The words that new writes besides the object's: the pointer of the run before, and what is left of the run.
use mathlib.Core.Path.{◌≡◌, refl, ◌∙◌}
use Prim.Native.Nat.{ℕ, zero, suc, ◌+◌, ◌*◌, ◌≤◌, ◌<◌}
use native.Mathlib.Omega.{arith}
use lib.ListN.{length}
use borrow.Author.Tests.{ne_eqb}
use Rattle.model.specs.Base.{nth, put}
use Rattle.model.specs.Image.{Image, word, first_run, with_heap, with_general, set_word, set_first_run}
use Rattle.model.specs.Mutate.{set_next, take_run}
use Rattle.model.proofs.Laws.{nth_put_same, nth_put_other, length_put}
use Rattle.theory.specs.New.{OnlyFirst, next_of, following}

-- ---- the pointer of the run before

next_nth : (m : Image) (before v x : ℕ) → (1 ≤ before → x ≡ 4 * before + 1 → ⊥) → nth (set_next m before v).heap x ≡ nth m.heap x
unfolding set_next set_first_run set_word with_general with_heap
next_nth m zero v x ne = refl
next_nth m (suc p) v x ne = nth_put_other m.heap (4 * suc p + 1) x v (ne (omega arith))

next_length : (m : Image) (before v : ℕ) → length (set_next m before v).heap ≡ length m.heap
unfolding set_next set_first_run set_word with_general with_heap
next_length m zero v = refl
next_length m (suc p) v = length_put m.heap (4 * suc p + 1) v

next_pointer : (m : Image) (before v : ℕ) → (before ≡ 0 → ⊥) → 4 * before + 1 < length m.heap → nth (set_next m before v).heap (4 * before + 1) ≡ v
unfolding set_next set_word with_heap
next_pointer m zero v nz l = absurd (nz refl)
next_pointer m (suc p) v nz l = nth_put_same m.heap (4 * suc p + 1) v l

next_first : (m : Image) (before v : ℕ) → 2 ≤ length m.general → first_run (set_next m before v) ≡ following before v 0 (first_run m)
unfolding set_next set_first_run set_word with_general with_heap first_run
next_first m zero v l = nth_put_same m.general 1 v (omega arith)
next_first m (suc p) v l = rw (ne_eqb 0 (suc p) (omega arith))

next_only : (m : Image) (before v : ℕ) → OnlyFirst m (set_next m before v)
unfolding set_next set_first_run set_word with_general with_heap
next_only m zero v = record { sections = refl; general_word = λ i ne. nth_put_other m.general 1 i v ne; general_length = length_put m.general 1 v }
next_only m (suc p) v = record { sections = refl; general_word = λ i ne. refl; general_length = refl }

-- ---- the first two words of granule h

abbrev pub head_put : Image → ℕ → ℕ → ℕ → Image
head_put m h x y = set_word (set_word m h 0 x) h 1 y

module _ (m : Image) (h x y : ℕ) where
  pub head_put_nth : (i : ℕ) → (i ≡ 4 * h → ⊥) → (i ≡ 4 * h + 1 → ⊥) → nth (head_put m h x y).heap i ≡ nth m.heap i
  unfolding set_word with_heap
  head_put_nth i n₀ n₁ = nth_put_other (put m.heap (4 * h + 0) x) (4 * h + 1) i y n₁ ∙ nth_put_other m.heap (4 * h + 0) i x (λ e. n₀ (omega arith))

  pub head_put_length : length (head_put m h x y).heap ≡ length m.heap
  unfolding set_word with_heap
  head_put_length = length_put (put m.heap (4 * h + 0) x) (4 * h + 1) y ∙ length_put m.heap (4 * h + 0) x

  pub head_put_words : 4 * h + 1 < length m.heap → (word (head_put m h x y) h 0 ≡ x) × (word (head_put m h x y) h 1 ≡ y)
  unfolding set_word with_heap word
  head_put_words l = (
    nth_put_other (put m.heap (4 * h + 0) x) (4 * h + 1) (4 * h + 0) y (omega arith) ∙ nth_put_same m.heap (4 * h + 0) x (omega arith),
    nth_put_same (put m.heap (4 * h + 0) x) (4 * h + 1) y (rw (length_put m.heap (4 * h + 0) x) l),
  )

-- ---- the run taken

module _ (m : Image) (g before b : ℕ) where
  -- what is left of it, a run of `left` granules at g + b
  abbrev leftover : ℕ → Image
  leftover left = head_put m (g + b) left (word m g 1)

  pub take_nth : (left x : ℕ) → (1 ≤ before → x ≡ 4 * before + 1 → ⊥) → (1 ≤ left → (x ≡ 4 * (g + b) → ⊥) × (x ≡ 4 * (g + b) + 1 → ⊥)) → nth (take_run m g before b left).heap x ≡ nth m.heap x
  unfolding take_run
  take_nth zero x nb nl = next_nth m before (word m g 1) x nb
  take_nth (suc l) x nb nl = let k = nl (omega arith) in next_nth (leftover (suc l)) before (g + b) x nb ∙ head_put_nth m (g + b) (suc l) (word m g 1) x k.0 k.1

  pub take_length : (left : ℕ) → length (take_run m g before b left).heap ≡ length m.heap
  unfolding take_run
  take_length zero = next_length m before (word m g 1)
  take_length (suc l) = next_length (leftover (suc l)) before (g + b) ∙ head_put_length m (g + b) (suc l) (word m g 1)

  pub take_pointer : (left : ℕ) → (before ≡ 0 → ⊥) → 4 * before + 1 < length m.heap → nth (take_run m g before b left).heap (4 * before + 1) ≡ next_of m g b left
  unfolding take_run next_of
  take_pointer zero nz l = next_pointer m before (word m g 1) nz l
  take_pointer (suc x) nz l = next_pointer (leftover (suc x)) before (g + b) nz (rw (head_put_length m (g + b) (suc x) (word m g 1)) l)

  pub take_left : (left : ℕ) → 1 ≤ left → before < g + b → 4 * (g + b) + 1 < length m.heap
      → (word (take_run m g before b left) (g + b) 0 ≡ left) × (word (take_run m g before b left) (g + b) 1 ≡ word m g 1)
  unfolding take_run word
  take_left zero h l q = absurd (omega arith)
  take_left (suc x) h l q =
      let k = head_put_words m (g + b) (suc x) (word m g 1) q in
      (next_nth (leftover (suc x)) before (g + b) (4 * (g + b) + 0) (λ u. omega arith) ∙ k.0, next_nth (leftover (suc x)) before (g + b) (4 * (g + b) + 1) (λ u. omega arith) ∙ k.1)

  pub take_first : (left : ℕ) → 2 ≤ length m.general → first_run (take_run m g before b left) ≡ following before (next_of m g b left) 0 (first_run m)
  unfolding take_run next_of
  take_first zero l = next_first m before (word m g 1) l
  take_first (suc x) l = next_first (leftover (suc x)) before (g + b) (unfold set_word with_heap in l) ∙ (unfold set_word with_heap first_run in refl)

  pub take_only : (left : ℕ) → OnlyFirst m (take_run m g before b left)
  unfolding take_run
  take_only zero = next_only m before (word m g 1)
  take_only (suc x) = let k = next_only (leftover (suc x)) before (g + b) in unfold set_word with_heap in record { sections = k.sections; general_word = k.general_word; general_length = k.general_length }
