-- Free granules counted: one run more, and the walk along the chain with its turns.
use mathlib.Core.Path.{◌≡◌, refl, ◌∙◌}
use Prim.Native.Nat.{ℕ, ◌+◌, ◌≤◌, ◌<◌}
use native.Mathlib.Omega.{arith}
use Rattle.model.specs.Image.{Image, granules, word, first_run}
use Rattle.model.specs.Mutate.{if_long, usable_run, usable_granules}
use Rattle.theory.proofs.heap.Outside.{all_runs}
use Rattle.theory.proofs.heap.Sums.{long_counts}
use Rattle.runs_laws.specs.declared.Free.{Free}
use Rattle.runs_laws.specs.Granules.{free_of, none_free, grown}
use Rattle.runs_laws.specs.Chain.{Linked}
use Rattle.runs_laws.proofs.Chain.{Counting, count_first, count_end, count-in, count_next, chain_measure, count_less}

pub free_grown : (f : Free) (n u : ℕ) → u ≡ if_long usable_run n → ◌≡◌ {A = Free} (record { granules = f.granules + n; usable = f.usable + u }) (grown f n)
unfolding grown
free_grown f n u e = rw e

-- ---- the walk: what is counted before run g

pub record CountingFree (m : Image) (f : Free) (g : ℕ) : Type 0 where
  pub all : Counting 0 m f.granules g
  pub long : Counting usable_run m f.usable g

pub free_first : (m : Image) (g : ℕ) → g ≡ first_run m → Linked m (first_run m) → CountingFree m none_free g
free_first m g e l = record { all = count_first 0 m g e l; long = count_first usable_run m g e l }

module _ (m : Image) (f : Free) (g : ℕ) (w : CountingFree m f g) where
  pub free_end : g ≡ 0 → f ≡ free_of m
  unfolding usable_granules
  free_end e j = record { granules = (count_end 0 m f.granules g w.all e ∙ all_runs m) j; usable = count_end usable_run m f.usable g w.long e j }

  module _ (h : g ≡ 0 → ⊥) where
    pub free_in : g < granules m
    free_in = count-in 0 m f.granules g w.all h

    pub free_less : chain_measure (granules m) (word m g 1) < chain_measure (granules m) g
    free_less = count_less 0 m f.granules g w.all h

    pub free_next : (n : ℕ) → n ≡ word m g 0 → n ≤ 4294967295 → (t : Free) → t ≡ grown f n → CountingFree m t (word m g 1)
    unfolding grown
    free_next n en l t et = rw et (record {
      all = count_next 0 m f.granules g w.all h n n en l (long_counts 0 n (omega arith));
      long = count_next usable_run m f.usable g w.long h n (if_long usable_run n) en l refl;
    })
