-- The granules in free runs, step by step: only a new and a finish change them.
use mathlib.Core.Path.{◌≡◌, refl, ap, ◌∙◌}
use mathlib.Core.Bool.{true, not}
use mathlib.Core.List.{[], ◌∷◌}
use Prim.Native.Nat.{ℕ, suc, ◌+◌, ◌*◌, ◌-◌, ◌<◌}
use native.Mathlib.Omega.{arith}
use lib.Dec.{leb, ltb}
use borrow.Author.Tests.{leb-false}
use Rattle.model.specs.Base.{all, any, every, how_many}
use Rattle.model.specs.Image.{Image, granules, is_start, size, word, levels, links, with_heap, set_word, fields_open}
use Rattle.model.specs.Map.{in_object}
use Rattle.model.specs.Records.{Step, Kind, new, load, store, barrier, hand_over, drop_reg, read, write, begin, scan, trace, clean, finish, is_due, undirty, unknown, kind_of}
use Rattle.model.specs.Mutate.{Placing, granules_in_runs}
use Rattle.model.specs.Steps.{object, no_object, past_end, refusal, accept, act, step}
use Rattle.model.proofs.Laws.{same_test}
use Rattle.theory.specs.Lines.{Undamaged, Start}
use Rattle.theory.specs.Pieces.{unused, is_stretch, in_stretch, granules_in_stretches}
use Rattle.theory.specs.Cycle.{Quiet}
use Rattle.theory.proofs.cycle.Quiet.{quiet_undirty, quiet_begin, quiet_scan, quiet_trace, quiet_clean}
use Rattle.theory.proofs.heap.Facts.{heap_filled_of, heap_sized_of, laid_of}
use Rattle.theory.proofs.heap.Outside.{object_inside, inside_object, stretches_counted}
use Rattle.theory.proofs.steps.EachKind.{kind_keeps, register_start}
use Rattle.theory.proofs.steps.Mutating.{is-start}
use Rattle.theory.proofs.steps.Steps.{line, step_cases}
use Rattle.theory.proofs.steps.Written.{size_written}

-- objects start where they did, each of the size that it had
record SameObjects (m n : Image) : Type 0 where
  same_start : (g : ℕ) → is_start n g ≡ is_start m g
  same_size : (g : ℕ) → is_start m g ≡ true → size n g ≡ size m g

-- ---- runs are what lies between objects

module _ (m n : Image) (o : SameObjects m n) where
  same_inside : (y : ℕ) → in_object n y ≡ in_object m y
  same_inside y = same_test _ _
      (λ e. let (x, s, l, q) = inside_object n y e in let t = o.same_start x in object_inside m x y (rw t at s) l (rw (o.same_size x (rw t at s)) at q))
      (λ e. let (x, s, l, q) = inside_object m y e in object_inside n x y (o.same_start x ∙ s) l (rw (o.same_size x s) q))

  module _ (e : granules n ≡ granules m) where
    same_unused : (y : ℕ) → unused n y ≡ unused m y
    unfolding unused
    same_unused y = rw (e, same_inside y)

    same_stretch : (x l : ℕ) → is_stretch n x l ≡ is_stretch m x l
    unfolding is_stretch
    same_stretch x l j = every (all l (λ i. same_unused (x + i) j) ∷ not (same_unused (x - 1) j) ∷ not (same_unused (x + l) j) ∷ [])

    same_runs : Undamaged m → Undamaged n → (least : ℕ) → granules_in_runs least n ≡ granules_in_runs least m
    unfolding in_stretch granules_in_stretches
    same_runs u v least =
        rw (stretches_counted n (heap_filled_of v.sound.lines) (heap_sized_of v.sound.lines) least, stretches_counted m (heap_filled_of u.sound.lines) (heap_sized_of u.sound.lines) least)
        (λ j. how_many (λ y. any (suc y) (λ x. any (e j) (λ l. every (leb least l ∷ ltb y (x + l) ∷ same_stretch x l j ∷ [])))) (e j))

-- ---- every kind but new and finish

abbrev Anything : ℕ → Type 0
Anything g = Unit

-- neither heap nor start bits are written
heap_stays : {m : Image} (n : Image) → n.heap ≡ m.heap → n.starts ≡ m.starts → n.width ≡ m.width → SameObjects m n
unfolding is_start size word
heap_stays n h s w = record { same_start = λ g. rw (s, w); same_size = λ g st. rw h }

quiet_objects : {m n : Image} → Quiet Anything m n → SameObjects m n
unfolding size
quiet_objects q = record { same_start = q.same_start; same_size = λ g s. q.same_word g 0 }

module _ (rule : Placing) (m : Image) (s : Step) (u : Undamaged m) where
  -- a word of an object past its first two
  word_objects : (g x v : ℕ) → Start m g → 2 + x < 4 * size m g → SameObjects m (set_word m g (2 + x) v)
  word_objects g x v st l = record { same_start = λ h. unfold set_word with_heap is_start in refl; same_size = size_written u.sound.lines g (2 + x) v (is-start m g st) (omega arith) l }

  same_objects : (n : Kind) → (n ≡ new → ⊥) → (n ≡ finish → ⊥) → refusal m s n ≡ 0 → SameObjects m (act rule m s n).image
  unfolding act accept object no_object past_end fields_open
  same_objects new a b r = absurd (a refl)
  same_objects load a b r = heap_stays _ refl refl refl
  same_objects store a b r =
      let g : ℕ = object m s s.a in
      let st = register_start m s u s.a (line m s store r 3) in
      let l : s.b < links m g = leb-false _ _ (line m s store r 4) in
      let w = word_objects g s.b (object m s s.c) st (omega (arith, (laid_of u.sound.lines).inside g (is-start m g st))) in
      record { same_start = w.same_start; same_size = w.same_size }
  same_objects barrier a b r = heap_stays _ refl refl refl
  same_objects hand_over a b r = heap_stays _ refl refl refl
  same_objects drop_reg a b r = heap_stays _ refl refl refl
  same_objects read a b r = heap_stays _ refl refl refl
  same_objects write a b r =
      let g : ℕ = object m s s.a in
      let l : s.b < levels m g = leb-false _ _ (line m s write r 4) in
      let e : 2 + links m g + s.b ≡ 2 + (links m g + s.b) = omega arith in
      rw e (word_objects g (links m g + s.b) s.c (register_start m s u s.a (line m s write r 3)) (omega arith))
  same_objects begin a b r = quiet_objects (quiet_begin m)
  same_objects scan a b r = quiet_objects (quiet_scan m s.who s.a (λ g k nz. tt))
  same_objects trace a b r = quiet_objects (quiet_trace m s.who (λ h nz. tt))
  same_objects clean a b r = quiet_objects (quiet_clean m s.who (λ h nz. tt))
  same_objects finish a b r = absurd (b refl)
  same_objects is_due a b r = heap_stays _ refl refl refl
  same_objects undirty a b r = quiet_objects (quiet_undirty m s.a)
  same_objects unknown a b r = heap_stays _ refl refl refl

  -- all other steps leave the granules in runs as many as they were, whatever length counts
  pub runs_stay : (kind_of s.kind ≡ new → ⊥) → (kind_of s.kind ≡ finish → ⊥) → (least : ℕ) → granules_in_runs least (step rule m s).image ≡ granules_in_runs least m
  unfolding granules
  runs_stay a b least =
      step_cases rule m s (λ n. granules_in_runs least n ≡ granules_in_runs least m) refl
      (λ n e r. let k = kind_keeps rule m s u n r in same_runs m (act rule m s n).image (same_objects n (λ q. a (e ∙ q)) (λ q. b (e ∙ q)) r) (ap (λ x. 64 * x) k.2) u k.0 least)
