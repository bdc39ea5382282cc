-- The ways out of a batch: refused by a misfit, refused as damaged, or run to its end.
use mathlib.Core.Path.{◌≡◌, sym, ap, ◌∙◌}
use mathlib.Core.Bool.{Bool, true, false}
use mathlib.Core.List.{List}
use Prim.Native.Nat.{ℕ, ◌*◌, ◌/◌, ◌%◌}
use lib.ListN.{length}
use borrow.Author.Tests.{eq-eqb, ne_eqb}
use Rattle.model.specs.Base.{some, first}
use Rattle.model.specs.Image.{image_of, words}
use Rattle.model.specs.Undamaged.{undamaged}
use Rattle.model.specs.Records.{record_bytes, records}
use Rattle.model.specs.Mutate.{tightest}
use Rattle.model.specs.Steps.{run, after, answers_of}
use Rattle.model.specs.Batch.{misfit, call_number, events, batch_with, batch_at}
use Rattle.theory.specs.Lines.{Undamaged}
use Rattle.theory.proofs.lines.Passing.{parts_pass}
use Rattle.image_laws.specs.Size.{extent_of}
use Rattle.std.proofs.Common.{Option, Some, None}
use Rattle.image_laws.proofs.Sections.{words_image}
use Rattle.image_laws.proofs.Size.{misfit_fits, cards_fits, cards_sized, cards_parts}
use Rattle.show_store_laws.specs.Run.{batched}

module _ (w : ℕ) (ws bytes answers : List ℕ) (s : Option ℕ) (e : s ≡ extent_of w (length ws)) where
  pub batch_misfit : s ≡ None → batched 1 ws answers ≡ batch_at tightest w ws bytes answers
  unfolding batch_at call_number misfit some first batch_with
  batch_misfit q = rw (misfit_fits w ws s e q)

  module _ (k : ℕ) (q : s ≡ Some k) where
    pub batch_part : (length bytes % record_bytes w ≡ 0 → ⊥) → batched 1 ws answers ≡ batch_at tightest w ws bytes answers
    unfolding batch_at call_number misfit some first batch_with
    batch_part h = rw (cards_fits w ws s e k q, ne_eqb)

    module _ (h : length bytes % record_bytes w ≡ 0) where
      pub batch_answers : (length answers ≡ 2 * (length bytes / record_bytes w) → ⊥) → batched 1 ws answers ≡ batch_at tightest w ws bytes answers
      unfolding batch_at call_number misfit some first batch_with
      batch_answers l = rw (cards_fits w ws s e k q, eq-eqb, ne_eqb)

      module _ (l : length answers ≡ 2 * (length bytes / record_bytes w)) (u : Bool) (eu : u ≡ undamaged (image_of w k ws)) where
        pub batch_damaged : u ≡ false → batched 2 ws answers ≡ batch_at tightest w ws bytes answers
        unfolding batch_at call_number misfit some first batch_with
        batch_damaged d = rw (cards_fits w ws s e k q, eq-eqb, eq-eqb, cards_parts w ws s e k q, ← eu, d)

        pub batch_run : u ≡ true → (vs out : List ℕ) → length vs ≡ length ws
            → image_of w k vs ≡ after (image_of w k ws) (run tightest (image_of w k ws) (records w bytes)) → out ≡ answers_of (run tightest (image_of w k ws) (records w bytes))
            → batched 0 vs out ≡ batch_at tightest w ws bytes answers
        unfolding batch_at call_number misfit some first batch_with events
        batch_run d vs out n i a =
            let z = cards_sized w ws s e k q in
            let left : vs ≡ words (after (image_of w k ws) (run tightest (image_of w k ws) (records w bytes))) = sym (words_image (record { low = z.low; high = z.high; long = n ∙ z.long })) ∙ ap words i in
            rw (cards_fits w ws s e k q, eq-eqb, eq-eqb, cards_parts w ws s e k q, ← eu, d, cards_parts w ws s e k q, left, a)

-- what the loop asks for
pub judged_undamaged : (w : ℕ) (ws : List ℕ) (s : Option ℕ) (k : ℕ) (u : Bool) → s ≡ extent_of w (length ws) → s ≡ Some k → u ≡ undamaged (image_of w k ws) → u ≡ true → Undamaged (image_of w k ws)
judged_undamaged w ws s k u e q eu d =
    rw (← cards_parts w ws s e k q) (parts_pass w ws (cards_fits w ws s e k q) (ap undamaged (cards_parts w ws s e k q) ∙ (sym eu ∙ d))).is_undamaged
