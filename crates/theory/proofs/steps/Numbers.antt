-- Numbers 9 and 11 over steps: each is given exactly where the documents' condition holds, and else the step is accepted.
use mathlib.Core.Path.{◌≡◌, refl, sym, ap, ◌∙◌}
use mathlib.Core.Logic.{inl, inr}
use mathlib.Core.Bool.{Bool, true, false, not, and-true, and-false}
use mathlib.Core.List.{List, [], ◌∷◌}
use Prim.Native.Nat.{ℕ, suc, ◌+◌, ◌*◌, ◌-◌, ◌/◌, ◌<◌}
use native.Mathlib.Decide.{ℕ_discrete}
use native.Mathlib.Omega.{arith}
use lib.Dec.{eqb}
use borrow.Author.Tests.{eqb-true, eqb-false, eq-eqb, ne_eqb, ltb-true, ltb-false, le-ltb, lt-leb, not-true, not-false}
use Rattle.model.specs.Base.{every, first, lowest_of}
use Rattle.model.specs.Image.{Image, marked, dirty, card_count, count, owed, scanned}
use Rattle.model.specs.Records.{Step, new, barrier, scan, trace, clean, undirty, kind_of}
use Rattle.model.specs.Mutate.{Placing, tightest, room_for, has_room}
use Rattle.model.specs.Collect.{held, fullest, has_entries, trace_line, lowest_dirty, clean_line}
use Rattle.model.specs.Steps.{no_room, nothing_to_do, refusal, accept, act, step, numbers_open}
use Rattle.model.proofs.Laws.{false≢, some_use, some_nil, some_make, every_use, any_use, any_make, best_ok, best_none, first_none, not_make}
use Rattle.theory.specs.Lines.{Undamaged}
use Rattle.theory.specs.Pieces.{Stretch}
use Rattle.theory.specs.Placing.{PlacedBy, TightestRun}
use Rattle.theory.specs.Numbers.{RefusedWhere, GoodNew, GoodBarrier, GoodScan, GoodTracer, NoEntries, InPool, NoTraceLine, NoCleanLine, GoodUndirty, NothingToWipe}
use Rattle.theory.proofs.heap.Facts.{heap_filled_of, heap_sized_of}
use Rattle.theory.proofs.new.Room.{room_test, no-room}
use Rattle.theory.proofs.new.Placing.{room_placed, tightest_is}
use Rattle.model.proofs.Counts.{some_how_many}
use Rattle.theory.proofs.steps.Undirty.{none_marked}
use Rattle.theory.proofs.steps.Steps.{zero_or_suc, step_number, line, accepted, good_size}

-- ---- from the test of one line to the number

-- n is given where b passes, and else 0; b passes exactly where P holds
refused_where : (rule : Placing) (m : Image) (s : Step) (n : ℕ) {P : Type 0} (b : Bool) → (step rule m s).number ≡ elim b [ true ↦ suc n | false ↦ 0 ]
    → (b ≡ true → P) → (P → b ≡ true) → RefusedWhere rule m s (suc n) P
refused_where rule m s n true e f g = record { refused_if = λ p. e; only_if = λ q. f refl; else_accepted = λ np. absurd (np (f refl)) }
refused_where rule m s n false e f g = record { refused_if = λ p. false≢ (g p); only_if = λ q. absurd (omega arith); else_accepted = λ np. e }

-- ---- 9: "no b neighbouring granules free"

module _ (rule : Placing) (m : Image) (s : Step) (u : Undamaged m) (k : kind_of s.kind ≡ new) where
  -- number 9 exactly where no stretch of b unused granules starts anywhere
  pub no_room_number : GoodNew m s → RefusedWhere rule m s 9 ((v : ℕ) → Stretch m s.b v → ⊥)
  unfolding numbers_open first
  no_room_number f =
      let r = no-room m s.b (heap_filled_of u.sound.lines) (heap_sized_of u.sound.lines) f.some_granules in
      refused_where rule m s 8 (not (has_room m s.b))
      (step_number rule m s k
      ∙ (rw (
        f.zero_bytes,
        le-ltb 15 s.who (omega arith),
        le-ltb 15 s.a (omega arith),
        eq-eqb (owed m s.who) 0 f.owes_none,
        ne_eqb s.b 0 (λ z. omega arith),
        le-ltb 1024 s.b (omega arith),
        le-ltb (4 * s.b - 2) s.c (omega arith),
      )))
      (λ e. r.0 (not-true _ e)) (λ p. ap not (r.1 p))

  -- the value of an accepted new is the start of the run that the rule takes
  pub room_value : (step rule m s).number ≡ 0 → PlacedBy rule m s.b (step rule m s).value
  unfolding no_room act accept
  room_value e =
      let r : refusal m s new ≡ 0 = sym (step_number rule m s k) ∙ e in
      let o = heap_filled_of u.sound.lines in
      let z = heap_sized_of u.sound.lines in
      let value_is : (step rule m s).value ≡ (room_for rule m s.b).run = ap (λ d. d.value) (accepted rule m s k r) in
      elim (zero_or_suc (room_for rule m s.b).run) [
        | inl q ↦ absurd (eqb-false _ _ (sym (room_test rule m s.b) ∙ line m s new r 6) q)
        | inr (g, q) ↦ rw (value_is, q) (room_placed rule m s.b o z (good_size s (line m s new r 5)).0 g q)
      ]

-- document 02, (v): "the start of the shortest run that suffices, the lowest of equals"
pub tightest_value : (m : Image) (s : Step) → Undamaged m → kind_of s.kind ≡ new → (step tightest m s).number ≡ 0 → TightestRun m s.b (step tightest m s).value
tightest_value m s u k e = tightest_is m s.b _ (room_value tightest m s u k e)

-- ---- 11: "barrier with none owed; player scanned already"

module _ (rule : Placing) (m : Image) (s : Step) where
  pub barrier_nothing : kind_of s.kind ≡ barrier → GoodBarrier s → RefusedWhere rule m s 11 (owed m s.who ≡ 0)
  unfolding numbers_open first
  barrier_nothing k f =
      refused_where rule m s 10 (eqb (owed m s.who) 0)
      (step_number rule m s k ∙ (rw (f.zero_bytes, f.no_fields.0, f.no_fields.1, f.no_fields.2, le-ltb 15 s.who (omega arith))))
      (λ e. eqb-true _ _ e) (λ p. eq-eqb _ _ p)

  pub scan_nothing : kind_of s.kind ≡ scan → GoodScan m s → RefusedWhere rule m s 11 (scanned m s.a ≡ 1)
  unfolding numbers_open first
  scan_nothing k f =
      refused_where rule m s 10 (eqb (scanned m s.a) 1)
      (step_number rule m s k ∙ (rw (f.zero_bytes, f.no_fields.0, f.no_fields.1, le-ltb 7 s.who (omega arith), le-ltb 15 s.a (omega arith), f.in_cycle)))
      (λ e. eqb-true _ _ e) (λ p. eq-eqb _ _ p)

-- ---- 11: "trace or clean where no line applies"

module _ (m : Image) where
  -- a test that fails: the packet is absent or empty
  entries_none : (x : ℕ) → has_entries m x ≡ false → NoEntries m x
  unfolding has_entries every
  entries_none x e = elim (ℕ_discrete x 0) [ yes z ↦ inl z | no z ↦ inr (omega (arith, ltb-false 0 (count m (x - 1)) (rw (ne_eqb x 0 z, and-true) at e))) ]

  none_entries : (x : ℕ) → NoEntries m x → has_entries m x ≡ false
  unfolding has_entries every
  none_entries x n = elim n [ inl z ↦ rw z | inr c ↦ rw (c, and-false) ]

  -- the pool: packets that no tracer holds
  held_none : (p : ℕ) → held m p ≡ false → InPool m p
  unfolding held
  held_none p e t h = (λ q. false≢ (sym e ∙ any_make 8 _ t h (some_make _ 0 (eq-eqb _ _ q))), λ q. false≢ (sym e ∙ any_make 8 _ t h (some_make _ 1 (eq-eqb _ _ q))))

  none_held : (p : ℕ) → InPool m p → held m p ≡ false
  unfolding held
  none_held p f =
      not-true (held m p) (not_make (held m p) (λ e.
      let r = any_use 8 _ e in
      let n = f r.0 r.1 in
      elim (some_use _ _ r.2) [ inl q ↦ n.0 (eqb-true _ _ q) | inr q ↦ elim (some_use _ _ q) [ inl x ↦ n.1 (eqb-true _ _ x) | inr x ↦ some_nil x ] ]))

  none_pool : ((p : ℕ) → p < 32 → InPool m p → count m p ≡ 0) → fullest m ≡ 0
  unfolding fullest
  none_pool f =
      elim (zero_or_suc (fullest m)) [
        | inl e ↦ e
        | inr (p, e) ↦ let r = best_ok _ _ 32 p e in
            absurd (omega (arith, f p r.0 (held_none p (not-true _ (every_use _ r.1 0))), ltb-true 0 (count m p) (every_use _ r.1 1)))
      ]

  -- a word that is held or not
  none_held_word : (x : ℕ) → not (eqb x 0) ≡ false → x ≡ 0
  none_held_word x e = eqb-true x 0 (not-false _ e)

  trace_none : (t : ℕ) → trace_line m t ≡ 0 → NoTraceLine m t
  unfolding trace_line fullest every
  trace_none t e = record {
    hand-empty = none_held_word _ (first_none 0 _ e 0);
    no_input = entries_none _ (first_none 0 _ e 1);
    no_pool = λ p h f. omega (arith, ltb-false 0 (count m p) (rw (none_held p f, and-true) at (best_none _ _ 32 (none_held_word _ (first_none 0 _ e 2)) p h)));
    no_output = entries_none _ (first_none 0 _ e 3);
  }

  none_trace : (t : ℕ) → NoTraceLine m t → trace_line m t ≡ 0
  unfolding trace_line first
  none_trace t n = rw (n.hand-empty, none_entries _ n.no_input, none_pool n.no_pool, none_entries _ n.no_output) refl

  clean_none : (t : ℕ) → clean_line m t ≡ 0 → NoCleanLine m t
  unfolding clean_line lowest_dirty lowest_of
  clean_none t e = record {
    hand-empty = none_held_word _ (first_none 0 _ e 0);
    no-card = none_held_word _ (first_none 0 _ e 1);
    none_dirty = λ c h q. false≢ (sym (best_none _ _ m.k (none_held_word _ (first_none 0 _ e 2)) c h) ∙ eq-eqb _ _ q);
  }

  none_clean : (t : ℕ) → NoCleanLine m t → clean_line m t ≡ 0
  unfolding clean_line first lowest_dirty lowest_of
  none_clean t n =
      elim (zero_or_suc (lowest_dirty m)) [
        | inl e ↦ rw (n.hand-empty, n.no-card, e)
        | inr (c, e) ↦ let r = best_ok _ _ m.k c e in absurd (n.none_dirty c r.0 (eqb-true _ _ r.1))
      ]

module _ (rule : Placing) (m : Image) (s : Step) (f : GoodTracer m s) where
  pub trace_nothing : kind_of s.kind ≡ trace → RefusedWhere rule m s 11 (NoTraceLine m s.who)
  unfolding numbers_open first
  trace_nothing k =
      refused_where rule m s 10 (eqb (trace_line m s.who) 0)
      (step_number rule m s k ∙ (rw (f.zero_bytes, f.no_fields.0, f.no_fields.1, f.no_fields.2, le-ltb 7 s.who (omega arith), f.in_cycle)))
      (λ e. trace_none m s.who (eqb-true _ _ e)) (λ p. eq-eqb _ _ (none_trace m s.who p))

  pub clean_nothing : kind_of s.kind ≡ clean → RefusedWhere rule m s 11 (NoCleanLine m s.who)
  unfolding numbers_open first
  clean_nothing k =
      refused_where rule m s 10 (eqb (clean_line m s.who) 0)
      (step_number rule m s k ∙ (rw (f.zero_bytes, f.no_fields.0, f.no_fields.1, f.no_fields.2, le-ltb 7 s.who (omega arith), f.in_cycle)))
      (λ e. clean_none m s.who (eqb-true _ _ e)) (λ p. eq-eqb _ _ (none_clean m s.who p))

-- ---- 11: "if the card isn't dirty or its count isn't 0"

module _ (rule : Placing) (m : Image) (s : Step) (u : Undamaged m) (f : GoodUndirty m s) where
  -- a count that is not 0 has an object
  some_marked : (card_count m s.a ≡ 0 → ⊥) → (g : ℕ) × (g / 64 ≡ s.a) × (marked m g ≡ true)
  unfolding card_count marked
  some_marked n =
      let r = some_how_many (λ j. marked m (64 * s.a + j)) 64 (λ z. n (u.sound.lines.marks_ok.counted s.a f.card ∙ z)) in
      (64 * s.a + r.0, omega (arith, r.1), r.2)

  pub undirty_nothing : kind_of s.kind ≡ undirty → RefusedWhere rule m s 11 (NothingToWipe m s.a)
  unfolding numbers_open first
  undirty_nothing k =
      let counted : List Bool = not (eqb (card_count m s.a) 0) ∷ [] in
      refused_where rule m s 10 (nothing_to_do m s undirty)
      (step_number rule m s k ∙ (rw (f.zero_bytes, f.no_fields.0, f.no_fields.1, f.no_fields.2, lt-leb m.k s.a f.card, f.in_cycle)))
      (λ e. elim (some_use (not (dirty m s.a)) counted e) [
        | inl q ↦ inl (not-true _ q)
        | inr q ↦ elim (some_use (not (eqb (card_count m s.a) 0)) [] q) [ inl z ↦ inr (some_marked (eqb-false _ _ (not-true _ z))) | inr z ↦ some_nil z ]
      ])
      (λ p. elim p [
        | inl q ↦ some_make (not (dirty m s.a) ∷ counted) 0 (ap not q)
        | inr (g, e, q) ↦ some_make (not (dirty m s.a) ∷ counted) 1 (ap not (ne_eqb _ _ (λ z. none_marked m u.sound.lines s.a f.card z g e q)))
      ])
