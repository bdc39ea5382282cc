-- New: the run that it takes, its cases, and what is left of the free granules.
use mathlib.Core.Path.{◌≡◌, refl, sym, ap, ◌∙◌}
use mathlib.Core.Bool.{true, false, not}
use mathlib.Core.List.{List}
use Prim.Native.Nat.{ℕ, zero, suc, ◌+◌, ◌*◌, ◌-◌, ◌≤◌, ◌<◌}
use native.Mathlib.Omega.{arith}
use lib.Dec.{eqb}
use borrow.Author.Tests.{lt-ltb, le-ltb, eq-eqb, ne_eqb}
use Rattle.model.specs.Image.{Image, word, first_run, owed, set_word, set_start, set_reg, image_of}
use Rattle.model.specs.Mutate.{tightest, Room, room_for, has_room, take_run, new_object, free_granules, if_long, granules_in_runs, usable_run, usable_granules}
use Rattle.model.specs.Records.{new}
use Rattle.model.specs.Rows.{rows_open}
use Rattle.model.specs.Steps.{bad_size, numbers_open, accept, act, step}
use Rattle.model.proofs.Laws.{some_make}
use Rattle.theory.specs.Heap.{HeapFilled}
use Rattle.theory.specs.Lines.{Sound}
use Rattle.theory.specs.Pieces.{PlaceIn}
use Rattle.theory.proofs.heap.Facts.{heap_filled_of, heap_sized_of}
use Rattle.theory.proofs.heap.Outside.{all_runs}
use Rattle.theory.proofs.heap.Sums.{long_counts}
use Rattle.theory.proofs.heap.Unused.{clear_one}
use Rattle.theory.proofs.new.Carve.{place_below}
use Rattle.theory.proofs.new.NewMade.{new_runs}
use Rattle.theory.proofs.new.Room.{room_test, room_place, place_apart}
use Rattle.image_laws.proofs.Sections.{granules_image}
use Rattle.request_laws.specs.Answer.{done, asked}
use Rattle.request_laws.proofs.Numbers.{number_8, number_9, number_0}
use Rattle.runs_laws.specs.declared.Free.{Free}
use Rattle.runs_laws.specs.Granules.{free_of, shrunk}
use Rattle.mutator_laws.specs.Taking.{RunFor}
use Rattle.mutator_laws.proofs.Passed.{new_passed}

-- ---- the run found

pub run_for : (w k : ℕ) (ws : List ℕ) → Sound (image_of w k ws) → (b g before : ℕ) → 1 ≤ b → ◌≡◌ {A = Room} (record { run = g; before = before }) (room_for tightest (image_of w k ws) b) → (g ≡ 0 → ⊥) → RunFor k (image_of w k ws) b g before
run_for w k ws s b zero before h e nz = absurd (nz refl)
run_for w k ws s b (suc g) before h e nz =
    let m : Image = image_of w k ws in
    let o : HeapFilled m = heap_filled_of s.lines in
    let p : PlaceIn m b 1 (first_run m) false 0 (suc g) (room_for tightest m b).before = room_place m b o (heap_sized_of s.lines) tightest g (rw (← e)) in
    let a = place_apart m b (omega arith) p (clear_one m o) in
    record { some_granules = h; suffices = a.1; ends = omega (arith, a.0.is_run.ends, granules_image w k ws); below = rw (← e) at (place_below m p (omega arith)) }

-- ---- the cases

module _ (m : Image) (p a b c : ℕ) (h : (p < 16) × (a < 16)) (z : owed m p ≡ 0) where
  refused : bad_size (asked 1 p a b c) new ≡ true → done 8 0 m ≡ step tightest m (asked 1 p a b c)
  unfolding numbers_open
  refused x = number_8 (new_passed m p a z h b c) refl refl x

  pub new_empty : b ≡ 0 → done 8 0 m ≡ step tightest m (asked 1 p a b c)
  unfolding asked bad_size rows_open
  new_empty e = refused (some_make _ 0 (eq-eqb b 0 e))

  pub new_too_large : 1024 < b → done 8 0 m ≡ step tightest m (asked 1 p a b c)
  unfolding asked bad_size rows_open
  new_too_large x = refused (some_make _ 1 (lt-ltb 1024 b x))

  pub new_overlinked : 4 * b - 2 < c → done 8 0 m ≡ step tightest m (asked 1 p a b c)
  unfolding asked bad_size rows_open
  new_overlinked x = refused (some_make _ 2 (lt-ltb (4 * b - 2) c x))

  module _ (nz : b ≡ 0 → ⊥) (few : b ≤ 1024) (fit : c ≤ 4 * b - 2) (g before : ℕ) (er : ◌≡◌ {A = Room} (record { run = g; before = before }) (room_for tightest m b)) where
    right_size : bad_size (asked 1 p a b c) new ≡ false
    unfolding asked numbers_open
    right_size = rw (ne_eqb b 0 nz, le-ltb 1024 b few, le-ltb (4 * b - 2) c fit)

    -- whether there is room is told by the run found
    room_found : not (has_room m b) ≡ eqb g 0
    room_found = room_test tightest m b ∙ ap (λ (r : Room). eqb r.run 0) (sym er)

    pub new_no_room : g ≡ 0 → done 9 0 m ≡ step tightest m (asked 1 p a b c)
    unfolding asked numbers_open
    new_no_room e = number_9 (new_passed m p a z h b c) refl refl right_size (room_found ∙ eq-eqb g 0 e)

    pub new_done : (g ≡ 0 → ⊥) → (i j : Image) → i ≡ take_run m g before b (word m g 0 - b)
        → j ≡ set_reg (set_start (set_word (set_word i g 0 b) g 1 c) g) p a g → done 0 g j ≡ step tightest m (asked 1 p a b c)
    unfolding asked numbers_open act accept new_object
    new_done e i j ei ej = rw (ej, ei) (rw (← er) at (number_0 (new_passed m p a z h b c) refl refl right_size (room_found ∙ ne_eqb g 0 e) refl refl))

    -- the run was counted; and what is left of the free granules
    module _ (s : Sound m) (nil : g ≡ 0 → ⊥) (free : Free) (ef : free ≡ free_of m) where
      runs_with : (least : ℕ) → (rest : ℕ) × (granules_in_runs least m ≡ rest + if_long least (word m g 0)) × (granules_in_runs least (new_object tightest m p a b c) ≡ rest + if_long least (word m g 0 - b))
      runs_with least =
          let x : suc (g - 1) ≡ g = omega arith in
          rw x at (new_runs tightest m b c (g - 1) (heap_filled_of s.lines) (heap_sized_of s.lines) (omega arith) few fit (rw (← er) (omega arith)) p a least)

      -- a run of any length counts among all
      all_with : (rest : ℕ) × (free_granules m ≡ rest + word m g 0) × (free_granules (new_object tightest m p a b c) ≡ rest + (word m g 0 - b))
      all_with =
          let r = runs_with 0 in
          (r.0, sym (all_runs m) ∙ r.1 ∙ omega (arith, long_counts 0 (word m g 0) (omega arith)), sym (all_runs (new_object tightest m p a b c)) ∙ r.2 ∙ omega (arith, long_counts 0 (word m g 0 - b) (omega arith)))

      usable_with : (rest : ℕ) × (usable_granules m ≡ rest + if_long usable_run (word m g 0)) × (usable_granules (new_object tightest m p a b c) ≡ rest + if_long usable_run (word m g 0 - b))
      unfolding usable_granules
      usable_with = runs_with usable_run

      pub run_counted : b ≤ word m g 0 → (b ≤ free.granules) × (if_long usable_run (word m g 0) ≤ free.usable)
      run_counted l = rw ef (omega (arith, all_with.1), omega (arith, usable_with.1))

      pub new_counted : b ≤ word m g 0 → (i j : Image) (left : Free) → left ≡ shrunk free (word m g 0) b → i ≡ take_run m g before b (word m g 0 - b)
          → j ≡ set_reg (set_start (set_word (set_word i g 0 b) g 1 c) g) p a g → left ≡ free_of j
      unfolding shrunk
      new_counted l i j left el ei ej =
          let is : j ≡ new_object tightest m p a b c = unfold new_object in rw (ej, ei, ← er) in
          let all : free_granules m - b ≡ free_granules (new_object tightest m p a b c) = omega (arith, all_with.1, all_with.2) in
          let long : usable_granules m - if_long usable_run (word m g 0) + if_long usable_run (word m g 0 - b) ≡ usable_granules (new_object tightest m p a b c) = omega (arith, usable_with.1, usable_with.2) in
          rw (el, ef, is) (λ x. record { granules = all x; usable = long x })
