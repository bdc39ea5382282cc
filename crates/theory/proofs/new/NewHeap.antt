-- The words that new writes for an object of b granules in a run of at least as many.
use mathlib.Core.Path.{◌≡◌, refl, sym, ap, subst, ◌∙◌}
use Prim.Native.Nat.{ℕ, suc, ◌+◌, ◌*◌, ◌-◌, ◌≤◌, ◌<◌}
use native.Mathlib.Omega.{arith}
use lib.ListN.{length}
use Rattle.model.specs.Base.{nth, bit, set_bit}
use Rattle.model.specs.Image.{Image, granules, word, is_start, first_run, with_heap, with_starts, set_word, set_start}
use Rattle.model.specs.Mutate.{take_run}
use Rattle.model.proofs.Laws.{length_put}
use Rattle.model.proofs.Bits.{set_bit_same, set_bit_other}
use Rattle.theory.specs.Heap.{HeapSized}
use Rattle.theory.specs.Pieces.{RunIn}
use Rattle.theory.specs.New.{placed, reheaped, next_of, Carved, following}
use Rattle.theory.proofs.new.TakeRun.{head_put_nth, head_put_length, head_put_words, take_nth, take_length, take_pointer, take_left, take_first, take_only}

-- ---- the words that are written, for a run of at least b granules at g

-- the object's two words and start bit, on any image
on : Image → ℕ → ℕ → ℕ → Image
on m g b c = set_start (set_word (set_word m g 0 b) g 1 c) g

module _ (m : Image) (g before b c : ℕ) where
  abbrev pub run_left : ℕ
  run_left = word m g 0 - b

  abbrev taken : Image
  taken = take_run m g before b run_left

  pub placed_sections : placed m g before b c ≡ reheaped m (placed m g before b c).heap (set_bit m.width m.starts g) (placed m g before b c).general
  unfolding placed on set_start set_word with_heap with_starts
  placed_sections =
      subst (λ x. on x g b c ≡ reheaped m (on x g b c).heap (set_bit m.width m.starts g) x.general) (sym (take_only m g before b run_left).sections) refl

  pub placed_granules : granules (placed m g before b c) ≡ granules m
  placed_granules = ap granules placed_sections ∙ (unfold granules in refl)

  pub placed_first : 2 ≤ length m.general → first_run (placed m g before b c) ≡ following before (next_of m g b run_left) 0 (first_run m)
  placed_first l =
      let same : first_run (placed m g before b c) ≡ first_run taken = unfold placed first_run set_start set_word with_heap with_starts in refl in
      same ∙ take_first m g before b run_left l

  pub placed_general : ((i : ℕ) → (i ≡ 1 → ⊥) → nth (placed m g before b c).general i ≡ nth m.general i)
      × (length (placed m g before b c).general ≡ length m.general)
  unfolding placed set_start set_word with_heap with_starts
  placed_general = let k = take_only m g before b run_left in (k.general_word, k.general_length)

  pub placed_starts_length : length (placed m g before b c).starts ≡ length m.starts
  placed_starts_length = ap (λ x. length x.starts) placed_sections ∙ (unfold set_bit in length_put m.starts _ _)

  pub placed_sized : HeapSized m → HeapSized (placed m g before b c)
  placed_sized z = record {
    some_granules = rw placed_granules z.some_granules;
    start_words = λ h l. rw (ap (λ x. x.width) placed_sections, placed_starts_length) (z.start_words h (rw placed_granules at l));
    general_words = rw placed_general.1 z.general_words;
  }

  placed_start : (h : ℕ) → is_start (placed m g before b c) h ≡ bit m.width (set_bit m.width m.starts g) h
  placed_start h = ap (λ x. is_start x h) placed_sections ∙ (unfold is_start in refl)

  placed_nth : (x : ℕ) → (x ≡ 4 * g → ⊥) → (x ≡ 4 * g + 1 → ⊥) → nth (placed m g before b c).heap x ≡ nth taken.heap x
  unfolding placed set_start set_word with_heap with_starts
  placed_nth x n₀ n₁ = head_put_nth taken g b c x n₀ n₁

  pub placed_length : length (placed m g before b c).heap ≡ length m.heap
  unfolding placed set_start set_word with_heap with_starts
  placed_length = head_put_length taken g b c ∙ take_length m g before b run_left

  module _ (o : RunIn m g) (lb : b ≤ word m g 0) (hb : 1 ≤ b) (below : before < g) (len : length m.heap ≡ 4 * granules m) (z : HeapSized m) where
    placed_words : (word (placed m g before b c) g 0 ≡ b) × (word (placed m g before b c) g 1 ≡ c)
    unfolding placed set_start set_word with_heap with_starts word
    placed_words = head_put_words taken g b c (omega (arith, take_length m g before b run_left))

    some_left : b < word m g 0 → (word (placed m g before b c) (g + b) 0 ≡ run_left) × (word (placed m g before b c) (g + b) 1 ≡ word m g 1)
    unfolding word
    some_left l =
        let k = take_left m g before b (word m g 0 - b) (omega arith) (omega arith) (omega arith) in
        (placed_nth (4 * (g + b) + 0) (omega arith) (omega arith) ∙ k.0, placed_nth (4 * (g + b) + 1) (omega arith) (omega arith) ∙ k.1)

    pub placed_carved : Carved m (placed m g before b c) b c g before (next_of m g b run_left)
    unfolding next_of
    placed_carved = record {
      same_granules = placed_granules;
      start_new = placed_start g ∙ set_bit_same m.width m.starts g (z.start_words g (omega arith));
      start_old = λ h ne. placed_start h ∙ (set_bit_other m.width m.starts g h ne ∙ (unfold is_start in refl));
      size_new = placed_words.0;
      links_new = placed_words.1;
      left_next = λ l. let e : run_left ≡ suc (run_left - 1) = omega arith in rw e;
      left_size = λ l. omega (arith, (some_left l).0);
      left_pointer = λ l. (some_left l).1;
      none_left = λ q. let e : run_left ≡ 0 = omega arith in rw e;
      pointer = λ nz. unfold word in placed_nth (4 * before + 1) (omega arith) (omega arith) ∙ take_pointer m g before b run_left nz (omega arith);
      others = λ x n₀ n₁ nb nl. placed_nth x n₀ n₁ ∙ take_nth m g before b run_left x nb (λ l. nl (omega arith));
    }
