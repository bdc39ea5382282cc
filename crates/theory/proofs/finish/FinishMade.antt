-- What a finish leaves of the heap, for the set of starts that its rule keeps.
use mathlib.Core.Path.{◌≡◌, ◌∙◌}
use mathlib.Core.Bool.{Bool, false}
use mathlib.Core.List.{List}
use mathlib.Core.Logic.{◌⊎◌}
use Prim.Native.Nat.{ℕ, ◌<◌}
use native.Mathlib.Omega.{arith}
use lib.ListN.{length, get_or, replicate, length-replicate}
use Rattle.model.specs.Base.{put, zeros}
use Rattle.model.specs.Image.{Image, granules, word}
use Rattle.model.specs.Finish.{Finish, kept_set, finish_with, finish_step}
use Rattle.model.proofs.Laws.{nth_put_same, nth_put_other, length_put}
use Rattle.model.proofs.Bits.{length_add_bits}
use Rattle.theory.specs.Heap.{HeapFilled, HeapSized}
use Rattle.theory.specs.Pieces.{Unused, InRun}
use Rattle.theory.specs.Finish.{FinishMade}
use Rattle.theory.proofs.finish.FinishHeap.{kept_start, finish_starts, finish_filled, finish_words, finish_zero, finish_sized}
use Rattle.theory.proofs.heap.Free.{finish_value}
use Rattle.theory.proofs.heap.Unused.{unused_in_run, in_run_zero}

pub finish_made : (m : Image) → HeapFilled m → HeapSized m → FinishMade m (kept_set m) (finish_step m)
unfolding finish_step finish_with zeros
finish_made m o z =
    let keep : List Bool = kept_set m in
    record {
      filled = finish_filled m keep o z (kept_start m);
      sized = finish_sized m keep o z (kept_start m);
      starts = finish_starts m keep o z (kept_start m);
      words = finish_words m keep o z (kept_start m);
      grown = finish_value m keep o z (kept_start m);
      granule_zero = finish_zero m keep o z (kept_start m);
      starts_length = length_add_bits m.width (λ g. get_or keep g false) (granules m) (replicate (length m.starts) 0) ∙ length-replicate (length m.starts) 0;
      general_length = length_put (put m.general 0 0) 1 _ ∙ length_put m.general 0 0;
      general_word = λ i n₀ n₁. nth_put_other (put m.general 0 0) 1 i _ n₁ ∙ nth_put_other m.general 0 i 0 n₀;
      not_running = nth_put_other (put m.general 0 0) 1 0 _ (λ e. omega arith) ∙ nth_put_same m.general 0 0 (omega (arith, z.general_words));
    }

-- ---- "neighbouring runs joined, and freed granules are zeroed but for a run's two words"

pub freed_run : {m : Image} {keep : List Bool} {f : Finish} → FinishMade m keep f → (y : ℕ) → Unused f.image y → InRun f.image y
freed_run {f = f} k y u = unused_in_run f.image k.filled k.sized y u

pub freed_zero : {m : Image} {keep : List Bool} {f : Finish} (k : FinishMade m keep f) (y i : ℕ) (u : Unused f.image y) → i < 4 → ((y ≡ (freed_run k y u).run) × (i < 2)) ⊎ (word f.image y i ≡ 0)
freed_zero {f = f} k y i u l = in_run_zero f.image y i (freed_run k y u) l
