-- The room for a new object, by either rule: a stretch of unused granules that is long enough, and none where there is no such stretch.
use mathlib.Core.Path.{◌≡◌, refl, ap, ◌∙◌}
use mathlib.Core.Logic.{◌⊎◌, inl, inr, ◌↔◌}
use mathlib.Core.Bool.{Bool, false, not}
use Prim.Native.Nat.{ℕ, zero, suc, ◌+◌, ◌≤◌, ◌<◌}
use native.Mathlib.Decide.{dec_lt}
use native.Mathlib.Omega.{arith}
use lib.Dec.{leb, eqb}
use borrow.Author.Tests.{leb-true, leb-false, eqb-true, eq-eqb, not-true}
use Rattle.model.specs.Image.{Image, granules, word, is_start, size, first_run}
use Rattle.model.specs.Mutate.{Placing, lowest, Room, takes, choose, room_for, some_run, has_room}
use Rattle.model.proofs.Laws.{bool_cases, or_none, not_make, same_test}
use Rattle.theory.specs.Heap.{HeapFilled, HeapSized}
use Rattle.theory.specs.Pieces.{at_end, at_object, at_run, past_object, past_run, place_here, ObjectIn, PiecesIn, PlaceIn, RunApart, Clear, Stretch, Blocked}
use Rattle.theory.proofs.heap.Pieces.{behind_run, image_pieces}
use Rattle.theory.proofs.heap.Unused.{clear_object, clear_run, run_apart, run_unused, clear_one}
use Rattle.theory.proofs.steps.Steps.{zero_or_suc}
use Rattle.theory.proofs.new.Choose.{choose_end, choose_taken, choose_passed, takes_suffices, passed_worse}

module _ (rule : Placing) (m : Image) (b : ℕ) where
  -- ---- what the walk of the run chain finds

  -- the run so far, or one of those from x on
  choose_place : {x next : ℕ} {f : Bool} (n last : ℕ) (best : Room) → PiecesIn m x next f → 1 ≤ x
      → (choose rule m b n best last next ≡ best) ⊎ PlaceIn m b x next f last (choose rule m b n best last next).run (choose rule m b n best last next).before
  choose_place n last best at_end h = inl (choose_end rule m b n last best)
  choose_place n last best (at_object o p) h = elim (choose_place n last best p (omega arith)) [ inl e ↦ inl e | inr k ↦ inr (past_object o k) ]
  choose_place zero last best (at_run o p) h = inl (unfold choose in refl)
  choose_place {x} (suc n) last best (at_run o p) h = elim (bool_cases (takes rule m b best x)) [
    | inl t ↦
        rw (choose_taken rule m b n last x best h t)
        (elim (choose_place n x (record { run = x; before = last }) p (omega arith)) [ inl e ↦ inr (rw e (place_here o (takes_suffices rule m b best x t) p)) | inr k ↦ inr (past_run o k) ])
    | inr t ↦ rw (choose_passed rule m b n last x best h t) (elim (choose_place n x best p (omega arith)) [ inl e ↦ inl e | inr k ↦ inr (past_run o k) ])
  ]

  -- where no run suffices, the run so far is it
  choose_none : (n last g : ℕ) (best : Room) → some_run m b n g ≡ false → choose rule m b n best last g ≡ best
  unfolding choose some_run takes
  choose_none zero last g best e = refl
  choose_none (suc n) last zero best e = refl
  choose_none (suc n) last (suc g) best e =
      let d = or_none (leb b (word m (suc g) 0)) (some_run m b n (word m (suc g) 1)) e in
      rw (d.0, choose, takes) (choose_none n (suc g) (word m (suc g) 1) best d.1)

  -- where none is found, there was none so far and none suffices
  choose_nothing : (n last g : ℕ) (best : Room) → (choose rule m b n best last g).run ≡ 0 → (best.run ≡ 0) × (some_run m b n g ≡ false)
  unfolding some_run
  choose_nothing zero last g best e = (unfold choose in e, refl)
  choose_nothing (suc n) last zero best e = (unfold choose in e, refl)
  choose_nothing (suc n) last (suc g) best e = elim (bool_cases (takes rule m b best (suc g))) [
    | inl t ↦ absurd (omega (arith, (choose_nothing n (suc g) (word m (suc g) 1) (record { run = suc g; before = last }) (rw (choose_taken rule m b n last (suc g) best (omega arith) t) at e)).0))
    | inr t ↦
        let r = choose_nothing n (suc g) (word m (suc g) 1) best (rw (choose_passed rule m b n last (suc g) best (omega arith) t) at e) in
        let short : leb b (word m (suc g) 0) ≡ false = not-true _ (not_make _ (λ l. (passed_worse rule m b best (suc g) t (leb-true _ _ l)).0 r.0)) in
        (r.0, rw short r.1)
  ]

  -- number 9 exactly where the rule finds no run, whichever rule it is
  pub room_test : not (has_room m b) ≡ eqb (room_for rule m b).run 0
  unfolding has_room room_for
  room_test = same_test _ _
      (λ e. eq-eqb _ _ (ap (λ (r : Room). r.run) (choose_none (granules m) 0 (first_run m) _ (not-true _ e))))
      (λ e. ap not (choose_nothing (granules m) 0 (first_run m) _ (eqb-true _ _ e)).1)

module _ (m : Image) (b : ℕ) where
  -- ---- no stretch starts from x on

  blocked_object : (x : ℕ) → 1 ≤ b → ObjectIn m x → Blocked m b (x + word m x 0) → Blocked m b x
  unfolding size
  blocked_object x hb o rest u l s = elim (dec_lt u (x + word m x 0)) [
    | yes y ↦ (s u (omega arith) (omega arith)).in_no_object x o.starts l y
    | no y ↦ rest u (omega arith) s
  ]

  blocked_run : (x : ℕ) → word m x 0 < b → (x + word m x 0 ≡ granules m) ⊎ ObjectIn m (x + word m x 0) → Blocked m b (x + word m x 0) → Blocked m b x
  unfolding size
  blocked_run x hb k rest u l s = elim (dec_lt u (x + word m x 0)) [
    | yes y ↦
        let a = s (x + word m x 0) (omega arith) (omega arith) in
        elim k [ inl e ↦ omega (arith, a.in_range) | inr o ↦ a.in_no_object (x + word m x 0) o.starts (omega arith) (omega arith) ]
    | no y ↦ rest u (omega arith) s
  ]

  none_blocked : {x next : ℕ} {f : Bool} (n : ℕ) → 1 ≤ b → PiecesIn m x next f → 1 ≤ x → granules m ≤ x + n → some_run m b n next ≡ false → Blocked m b x
  unfolding some_run
  none_blocked n hb at_end h l e = λ u p s. omega (arith, (s u (omega arith) (omega arith)).in_range)
  none_blocked {x} n hb (at_object o p) h l e = blocked_object x hb o (none_blocked n hb p (omega arith) (omega arith) e)
  none_blocked zero hb (at_run o p) h l e = absurd (omega arith)
  none_blocked {x = zero} (suc n) hb (at_run o p) h l e = absurd (omega arith)
  none_blocked {x = suc x} (suc n) hb (at_run o p) h l e =
      let d = or_none (leb b (word m (suc x) 0)) (some_run m b n (word m (suc x) 1)) e in
      blocked_run (suc x) (leb-false _ _ d.0) (behind_run (is_start m) (word m) (granules m) p) (none_blocked n hb p (omega arith) (omega arith) d.1)

  -- ---- the run that is found is a stretch

  pub place_apart : {x next last r before : ℕ} {f : Bool} → 1 ≤ x → PlaceIn m b x next f last r before → Clear m x → RunApart m r × (b ≤ word m r 0)
  place_apart {x} hx (past_object o p) c = place_apart (omega arith) p (clear_object m x o c)
  place_apart {x} hx (past_run o p) c = place_apart (omega arith) p (clear_run m x o c)
  place_apart {x} hx (place_here o l p) c = (run_apart m x hx o c, l)

  -- so is the run before it, if there is one
  pub before_apart : {x next last r before : ℕ} {f : Bool} → 1 ≤ x → PlaceIn m b x next f last r before → Clear m x → (last ≡ 0) ⊎ RunApart m last → (before ≡ 0) ⊎ RunApart m before
  before_apart {x} hx (past_object o p) c k = before_apart (omega arith) p (clear_object m x o c) k
  before_apart {x} hx (past_run o p) c k = before_apart (omega arith) p (clear_run m x o c) (inr (run_apart m x hx o c))
  before_apart hx (place_here o l p) c k = k

  -- ---- demand 2 on number 9: "no b neighbouring granules free"

  module _ (o : HeapFilled m) (z : HeapSized m) where
    -- the run that is found, and the runs before it
    pub room_place : (rule : Placing) (g : ℕ) → (room_for rule m b).run ≡ suc g → PlaceIn m b 1 (first_run m) false 0 (suc g) (room_for rule m b).before
    unfolding room_for
    room_place rule g e = elim (choose_place rule m b (granules m) 0 (record { run = 0; before = 0 }) (image_pieces m o z) (omega arith)) [
      | inl k ↦ absurd (omega (arith, e, ap (λ (r : Room). r.run) k))
      | inr k ↦ rw e at k
    ]

    -- it is a stretch
    pub room_stretch : (rule : Placing) (g : ℕ) → (room_for rule m b).run ≡ suc g → Stretch m b (suc g)
    room_stretch rule g e = let a = place_apart (omega arith) (room_place rule g e) (clear_one m o) in λ y p q. run_unused m (suc g) y a.0 p (omega (arith, a.1))

    -- there is room exactly where there is a stretch
    pub no-room : 1 ≤ b → (has_room m b ≡ false) ↔ ((u : ℕ) → Stretch m b u → ⊥)
    no-room hb = (
      λ e u s. none_blocked (granules m) hb (image_pieces m o z) (omega arith) (omega arith) (unfold has_room in e) u (s u (omega arith) (omega arith)).in_range.0 s,
      λ f. elim (zero_or_suc (room_for lowest m b).run) [
        | inl q ↦ not-true _ (room_test lowest m b ∙ eq-eqb _ _ q)
        | inr (g, q) ↦ absurd (f (suc g) (room_stretch lowest g q))
      ],
    )
