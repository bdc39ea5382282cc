-- The run that a new takes is the one that its rule names among all runs.
use mathlib.Core.Path.{◌≡◌, sym, ap, ◌∙◌}
use mathlib.Core.Logic.{◌⊎◌, inl, inr}
use mathlib.Core.Bool.{Bool, true, false}
use Prim.Native.Nat.{ℕ, zero, suc, ◌+◌, ◌*◌, ◌-◌, ◌≤◌, ◌<◌}
use native.Mathlib.Decide.{ℕ_discrete, dec_lt}
use native.Mathlib.Omega.{arith}
use borrow.Author.Tests.{ltb-true, ltb-false, lt-ltb, not-true}
use Rattle.model.specs.Base.{nth}
use Rattle.model.specs.Image.{Image, granules, word, size}
use Rattle.model.specs.Mutate.{Placing, lowest, tightest, Room, better, takes, choose, room_for}
use Rattle.model.proofs.Laws.{false≢, bool_cases, not_make}
use Rattle.theory.specs.Heap.{HeapFilled, HeapSized}
use Rattle.theory.specs.Pieces.{at_end, at_object, at_run, RunIn, PiecesIn, RunApart}
use Rattle.theory.specs.Placing.{PlacedBy, TightestRun, LowestRun}
use Rattle.theory.proofs.heap.Pieces.{image_pieces}
use Rattle.theory.proofs.heap.Unused.{clear_one}
use Rattle.theory.proofs.heap.Outside.{apart_stretch, stretch_apart}
use Rattle.theory.proofs.new.Choose.{choose_end, choose_taken, choose_passed, takes_better, passed_worse}
use Rattle.theory.proofs.new.Room.{place_apart, room_place}

-- ---- the rules as orders

better_other : (rule : Placing) (n l : ℕ) → better rule n l ≡ true → better rule l n ≡ true → ⊥
unfolding better
better_other lowest n l e f = false≢ e
better_other tightest n l e f = omega (arith, ltb-true n l e, ltb-true l n f)

better_trans : (rule : Placing) (a b c : ℕ) → better rule a b ≡ true → better rule b c ≡ true → better rule a c ≡ true
unfolding better
better_trans lowest a b c e f = e
better_trans tightest a b c e f = lt-ltb a c (omega (arith, ltb-true a b e, ltb-true b c f))

better_past : (rule : Placing) (a b c : ℕ) → better rule a b ≡ true → better rule c b ≡ false → better rule a c ≡ true
unfolding better
better_past lowest a b c e f = false≢ e
better_past tightest a b c e f = lt-ltb a c (omega (arith, ltb-true a b e, ltb-false c b f))

-- ---- the walk keeps the best run by the rule

-- no run starts inside a run
beyond : (m : Image) (x u : ℕ) → RunIn m x → x ≤ u → RunApart m u → (u ≡ x) ⊎ (x + word m x 0 ≤ u)
unfolding word
beyond m x u o l a = elim (ℕ_discrete u x) [
  | yes e ↦ inl e
  | no e ↦ elim (dec_lt u (x + word m x 0)) [
    | no d ↦ inr (omega arith)
    | yes d ↦
        let place : 4 * u + 0 ≡ 4 * x + (2 + (4 * (u - x) - 2)) = omega arith in
        absurd (omega (arith, a.is_run.long, ap (nth m.heap) place ∙ o.zero_words (4 * (u - x) - 2) (omega arith)))
  ]
]

module _ (rule : Placing) (m : Image) (b : ℕ) where
  abbrev Better : ℕ → ℕ → Bool
  Better g h = better rule (word m g 0) (word m h 0)

  -- r is what the walk from granule x on takes, where it came with the run `best`
  record BestFrom (best x r : ℕ) : Type 0 where
    keeps : (best ≡ 0 → ⊥) → (r ≡ best) ⊎ (Better r best ≡ true)
    none_better : (u : ℕ) → x ≤ u → RunApart m u → b ≤ word m u 0 → Better u r ≡ false
    lower_worse : (u : ℕ) → x ≤ u → RunApart m u → b ≤ word m u 0 → u < r → Better r u ≡ true

  -- a run is not better than one that is the same or better
  not_better : (u r : ℕ) → (r ≡ u) ⊎ (Better r u ≡ true) → Better u r ≡ false
  not_better u r k = not-true _ (not_make _ (λ e. elim k [ inl q ↦ better_other rule _ _ (rw q at e) (rw q at e) | inr f ↦ better_other rule _ _ e f ]))

  -- the run at x is taken
  best_taken : (best : Room) (x r : ℕ) → 1 ≤ x → RunIn m x → takes rule m b best x ≡ true → BestFrom x (x + word m x 0) r → BestFrom best.run x r
  best_taken best x r h o t k =
      let q = k.keeps (omega arith) in
      record {
        keeps = λ nz. let e = takes_better rule m b best x t nz in elim q [ inl s ↦ inr (rw s e) | inr s ↦ inr (better_trans rule _ _ _ s e) ];
        none_better = λ u v a c. elim (beyond m x u o v a) [ inl e ↦ rw e (not_better x r q) | inr l ↦ k.none_better u l a c ];
        lower_worse = λ u v a c w. elim (beyond m x u o v a) [ inl e ↦ rw e (elim q [ inl s ↦ absurd (omega arith) | inr s ↦ s ]) | inr l ↦ k.lower_worse u l a c w ];
      }

  -- it is passed over
  best_passed : (best : Room) (x r : ℕ) → best.run < x → RunIn m x → takes rule m b best x ≡ false → BestFrom best.run (x + word m x 0) r → BestFrom best.run x r
  best_passed best x r h o t k = record {
    keeps = k.keeps;
    none_better = λ u v a c. elim (beyond m x u o v a) [
      | inl e ↦ let d = passed_worse rule m b best x t (rw e at c) in
          rw e (elim (k.keeps d.0) [ inl s ↦ rw s d.1 | inr s ↦ not-true _ (not_make _ (λ f. false≢ (sym d.1 ∙ better_trans rule _ _ _ f s))) ])
      | inr l ↦ k.none_better u l a c
    ];
    lower_worse = λ u v a c w. elim (beyond m x u o v a) [
      | inl e ↦ let d = passed_worse rule m b best x t (rw e at c) in
          rw e (elim (k.keeps d.0) [ inl s ↦ absurd (omega arith) | inr s ↦ better_past rule _ _ _ s d.1 ])
      | inr l ↦ k.lower_worse u l a c w
    ];
  }

  choose_best : {x next : ℕ} {f : Bool} (n last : ℕ) (best : Room) → PiecesIn m x next f → 1 ≤ x → granules m ≤ x + n → best.run < x
      → BestFrom best.run x (choose rule m b n best last next).run
  choose_best n last best at_end h l q = record {
    keeps = λ nz. inl (ap (λ (r : Room). r.run) (choose_end rule m b n last best));
    none_better = λ u v a. absurd (omega (arith, a.is_run.ends, a.is_run.long));
    lower_worse = λ u v a. absurd (omega (arith, a.is_run.ends, a.is_run.long));
  }
  choose_best {x} n last best (at_object o p) h l q =
      let r = choose_best n last best p (omega arith) (omega arith) (omega arith) in
      let past : (u : ℕ) → x ≤ u → RunApart m u → x + word m x 0 ≤ u = λ u v a. unfold size in elim (a.apart x o.starts) [ inl k ↦ k | inr k ↦ absurd (omega (arith, a.is_run.long)) ] in
      record { keeps = r.keeps; none_better = λ u v a. r.none_better u (past u v a) a; lower_worse = λ u v a. r.lower_worse u (past u v a) a }
  choose_best zero last best (at_run o p) h l q = absurd (omega (arith, o.ends, o.long))
  choose_best {x} (suc n) last best (at_run o p) h l q = elim (bool_cases (takes rule m b best x)) [
    | inl t ↦
        rw (choose_taken rule m b n last x best h t)
        (best_taken best x _ h o t (choose_best n x (record { run = x; before = last }) p (omega arith) (omega (arith, o.long)) (omega (arith, o.long))))
    | inr t ↦ rw (choose_passed rule m b n last x best h t) (best_passed best x _ q o t (choose_best n x best p (omega arith) (omega (arith, o.long)) (omega arith)))
  ]

  -- ---- the run that is taken

  pub room_placed : HeapFilled m → HeapSized m → 1 ≤ b → (g : ℕ) → (room_for rule m b).run ≡ suc g → PlacedBy rule m b (suc g)
  room_placed o z hb g e =
      let (a, l) = place_apart m b (omega arith) (room_place m b o z rule g e) (clear_one m o) in
      let k : BestFrom 0 1 (room_for rule m b).run = unfold room_for in choose_best (granules m) 0 (record { run = 0; before = 0 }) (image_pieces m o z) (omega arith) (omega arith) (omega arith) in
      let k : BestFrom 0 1 (suc g) = rw e at k in
      record {
        long = word m (suc g) 0;
        suffices = (apart_stretch m o z (suc g) a, l);
        none_better = λ h n (s, c). let (r, q) = stretch_apart m o z h n (omega arith) s in rw q at (k.none_better h r.not_nil r (omega arith));
        lower_worse = λ h n (s, c) w. let (r, q) = stretch_apart m o z h n (omega arith) s in rw q at (k.lower_worse h r.not_nil r (omega arith) w);
      }

-- "the shortest run that suffices, the lowest of equals"
pub tightest_is : (m : Image) (b g : ℕ) → PlacedBy tightest m b g → TightestRun m b g
unfolding better
tightest_is m b g p = record {
  long = p.long;
  suffices = p.suffices;
  shortest = λ h n s. ltb-false n p.long (p.none_better h n s);
  lowest_of_equals = λ h s. elim (dec_lt h g) [ yes l ↦ absurd (omega (arith, ltb-true p.long p.long (p.lower_worse h p.long s l))) | no l ↦ omega arith ];
}

-- "the lowest run that suffices"
pub lowest_is : (m : Image) (b g : ℕ) → PlacedBy lowest m b g → LowestRun m b g
unfolding better
lowest_is m b g p = record { long = p.long; suffices = p.suffices; none_lower = λ h n s. elim (dec_lt h g) [ yes l ↦ false≢ (p.lower_worse h n s l) | no l ↦ omega arith ] }
