-- The walks along the free runs, for the tightest that suffices and for their granules: where they stand, and each of their turns.
use mathlib.Core.Path.{◌≡◌, refl, sym, ap, ◌∙◌}
use mathlib.Core.Logic.{◌⊎◌, inl, inr, ⊎_elim}
use mathlib.Core.Bool.{Bool, true, false, cond, ◌&&◌, ◌||◌}
use Prim.Native.Nat.{ℕ, zero, suc, ◌+◌, ◌-◌, ◌≤◌, ◌<◌, ◌*◌}
use native.Mathlib.Decide.{ℕ_discrete}
use native.Mathlib.Omega.{arith}
use lib.Dec.{leb, ltb, eqb}
use borrow.Author.Tests.{eq-eqb, ne_eqb, ltb-true, not-true}
use Rattle.model.specs.Image.{Image, granules, word, first_run}
use Rattle.model.specs.Mutate.{tightest, better, takes, choose, room_for, Room, sum_runs, if_long, granules_in_runs}
use Rattle.model.proofs.Laws.{not_make}
use Rattle.runs_laws.specs.Chain.{Linked, linked_end, linked_run}
use Rattle.theory.proofs.heap.Sums.{sum_end, sum_next, no_more}
use Rattle.theory.proofs.new.Choose.{choose_end, choose_taken, choose_passed, takes_suffices, takes_better}
use native.Mathlib.Nat.{zero-add}

-- ---- a place on the chain, with as many runs left to ask as there may be

linked_in : (m : Image) (g : ℕ) → Linked m g → (g ≡ 0 → ⊥) → (g < granules m) × ((word m g 1 ≡ 0) ⊎ (g < word m g 1)) × Linked m (word m g 1)
linked_in m g linked_end h = absurd (h refl)
linked_in m g (linked_run a l n r) h = (l, n, r)

pub record OnChain (m : Image) (left g : ℕ) : Type 0 where
  pub enough : (g ≡ 0) ⊎ (granules m ≤ left + g)
  pub linked : Linked m g

-- what falls with each turn
abbrev pub chain_measure : ℕ → ℕ → ℕ
chain_measure n g = cond (eqb g 0) 0 (n - g)

on_first : (m : Image) (g : ℕ) → g ≡ first_run m → Linked m (first_run m) → OnChain m (granules m) g
on_first m g e l = record { enough = inr (omega arith); linked = rw e l }

-- a turn: run g lies in the heap, there was one left to ask, the next is on the chain, and the measure falls
on_turn : (m : Image) (left g : ℕ) → OnChain m left g → (g ≡ 0 → ⊥)
    → (g < granules m) × (0 < left) × OnChain m (left - 1) (word m g 1) × (chain_measure (granules m) (word m g 1) < chain_measure (granules m) g)
on_turn m left g o h =
    let r = linked_in m g o.linked h in
    let i : g < granules m = r.0 in
    let l : granules m ≤ left + g = ⊎_elim (λ e. absurd (h e)) (λ l. l) o.enough in
    elim r.1 [
      | inl z ↦ (i, omega arith, record { enough = inl z; linked = r.2 }, rw (ne_eqb g 0 h, eq-eqb (word m g 1) 0 z) (omega arith))
      | inr z ↦ (i, omega arith, record { enough = inr (omega arith); linked = r.2 }, rw (ne_eqb g 0 h, ne_eqb (word m g 1) 0 (λ e. omega arith)) (omega arith))
    ]

-- ---- the walk for the tightest run that suffices

module _ (m : Image) (b : ℕ) where
  -- no run is taken rather than one of just b granules: the walk may end there
  exact_stays : (best : Room) → (best.run ≡ 0 → ⊥) → word m best.run 0 ≡ b → (g : ℕ) → takes tightest m b best g ≡ false
  unfolding better
  exact_stays best nz e g = not-true _ (not_make _ (λ t.
      omega (arith, takes_suffices tightest m b best g t, ltb-true (word m g 0) (word m best.run 0) (takes_better tightest m b best g t nz))))

  choose_exact : (n before g : ℕ) (best : Room) → (best.run ≡ 0 → ⊥) → word m best.run 0 ≡ b → choose tightest m b n best before g ≡ best
  choose_exact zero before g best nz e = unfold choose in refl
  choose_exact (suc n) before zero best nz e = choose_end tightest m b (suc n) before best
  choose_exact (suc n) before (suc g) best nz e = choose_passed tightest m b n before (suc g) best (omega arith) (exact_stays best nz e (suc g)) ∙ choose_exact n (suc g) (word m (suc g) 1) best nz e

-- the runs before g are asked: of them `best` is taken, which has `least` granules, if there is one
pub record Walk (m : Image) (b : ℕ) (best : Room) (least before g : ℕ) : Type 0 where
  pub left : ℕ
  pub on : OnChain m left g
  pub same : choose tightest m b left best before g ≡ room_for tightest m b
  pub length : (best.run ≡ 0 → ⊥) → least ≡ word m best.run 0

pub walk_first : (m : Image) (b g : ℕ) → g ≡ first_run m → Linked m (first_run m) → Walk m b (record { run = 0; before = 0 }) 0 0 g
unfolding room_for
walk_first m b g e l = record { left = granules m; on = on_first m g e l; same = rw e; length = λ nz. absurd (nz refl) }

module _ (m : Image) (b : ℕ) (best : Room) (least before g : ℕ) (w : Walk m b best least before g) where
  pub walk_end : g ≡ 0 → best ≡ room_for tightest m b
  walk_end e = sym (choose_end tightest m b w.left before best) ∙ (ap (choose tightest m b w.left best before) (sym e) ∙ w.same)

  module _ (h : g ≡ 0 → ⊥) where
    pub walk_in : g < granules m
    walk_in = (on_turn m w.left g w.on h).0

    pub walk_less : chain_measure (granules m) (word m g 1) < chain_measure (granules m) g
    walk_less = (on_turn m w.left g w.on h).3

    -- the test of run g, of n granules, as code makes it
    module _ (n : ℕ) (en : n ≡ word m g 0) (t : Bool) (et : t ≡ (leb b n && (eqb best.run 0 || ltb n least))) where
      test_is : t ≡ takes tightest m b best g
      unfolding takes better
      test_is = et ∙ elim (ℕ_discrete best.run 0) [ yes z ↦ rw (z, en) | no z ↦ rw (ne_eqb best.run 0 z, w.length z, en) ]

      one_left : suc (w.left - 1) ≡ w.left
      one_left = omega (arith, (on_turn m w.left g w.on h).1)

      here_same : t ≡ true → choose tightest m b (w.left - 1) (record { run = g; before = before }) g (word m g 1) ≡ room_for tightest m b
      here_same e = sym (choose_taken tightest m b (w.left - 1) before g best (omega arith) (sym test_is ∙ e)) ∙ rw one_left w.same

      -- it is taken, and has just b granules
      pub walk_exact : t ≡ true → n ≡ b → ◌≡◌ {A = Room} (record { run = g; before = before }) (room_for tightest m b)
      walk_exact e x = sym (choose_exact m b (w.left - 1) g (word m g 1) (record { run = g; before = before }) h (sym en ∙ x)) ∙ here_same e

      pub walk_taken : t ≡ true → Walk m b (record { run = g; before = before }) n g (word m g 1)
      walk_taken e = record { left = w.left - 1; on = (on_turn m w.left g w.on h).2; same = here_same e; length = λ nz. en }

      pub walk_passed : t ≡ false → Walk m b best least g (word m g 1)
      walk_passed e = record {
        left = w.left - 1;
        on = (on_turn m w.left g w.on h).2;
        same = sym (choose_passed tightest m b (w.left - 1) before g best (omega arith) (sym test_is ∙ e)) ∙ rw one_left w.same;
        length = w.length;
      }

-- ---- the walk that counts granules

-- total granules are counted before run g, each run's fewer than the widest word can say
pub record Counting (least : ℕ) (m : Image) (total g : ℕ) : Type 0 where
  pub left : ℕ
  pub on : OnChain m left g
  pub same : total + sum_runs (if_long least) m left g ≡ granules_in_runs least m
  pub small : total ≤ 4294967295 * granules m
  pub fewer : (g ≡ 0) ⊎ (total ≤ 4294967295 * g)

pub count_first : (least : ℕ) (m : Image) (g : ℕ) → g ≡ first_run m → Linked m (first_run m) → Counting least m 0 g
unfolding granules_in_runs
count_first least m g e l = record { left = granules m; on = on_first m g e l; same = rw e (zero-add (sum_runs (if_long least) m (granules m) (first_run m))); small = omega arith; fewer = inr (omega arith) }

module _ (least : ℕ) (m : Image) (total g : ℕ) (w : Counting least m total g) where
  pub count_end : g ≡ 0 → total ≡ granules_in_runs least m
  count_end e = omega (arith, w.same, ap (sum_runs (if_long least) m w.left) e, sum_end (if_long least) m w.left)

  module _ (h : g ≡ 0 → ⊥) where
    pub count-in : g < granules m
    count-in = (on_turn m w.left g w.on h).0

    pub count_next : (n s : ℕ) → n ≡ word m g 0 → n ≤ 4294967295 → s ≡ if_long least n → Counting least m (total + s) (word m g 1)
    count_next n s en l es =
        let so_far : total ≤ 4294967295 * g = ⊎_elim (λ e. absurd (h e)) (λ l. l) w.fewer in
        let few : s ≤ 4294967295 = omega (arith, no_more least n s es) in
        let e : suc (w.left - 1) ≡ w.left = omega (arith, (on_turn m w.left g w.on h).1) in
        record {
          left = w.left - 1;
          on = (on_turn m w.left g w.on h).2;
          same = omega (arith, w.same, es, ap (if_long least) en, ap (λ x. sum_runs (if_long least) m x g) e, sum_next (if_long least) m (w.left - 1) g (omega arith));
          small = omega (arith, count-in);
          fewer = elim (linked_in m g w.on.linked h).1 [ inl z ↦ inl z | inr z ↦ inr (omega arith) ];
        }

    pub count_less : chain_measure (granules m) (word m g 1) < chain_measure (granules m) g
    count_less = (on_turn m w.left g w.on h).3
