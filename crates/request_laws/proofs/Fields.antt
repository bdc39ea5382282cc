-- Numbers 3 to 5 as four tests of fields, and what the three say together.
use mathlib.Core.Path.{◌≡◌, refl, sym, ap, ◌∙◌}
use mathlib.Core.Logic.{inl, inr}
use mathlib.Core.Bool.{Bool, true, false, not, ◌&&◌, ◌||◌, or_assoc, or-false}
use mathlib.Core.List.{[], ◌∷◌}
use Prim.Native.Nat.{ℕ, ◌^◌, ◌≤◌, ◌<◌}
use lib.Dec.{leb, ltb, eqb}
use Rattle.model.specs.Base.{some}
use Rattle.model.specs.Image.{Image, owed}
use Rattle.model.specs.Records.{Step, Kind, unknown, kind_of}
use Rattle.model.specs.Rows.{Role, unused, player, tracer, register, card, number, row_of, is_player, below, limit, fields}
use Rattle.model.specs.Mutate.{tightest}
use Rattle.model.specs.Steps.{unnamed, off_desk, owes, owing, step}
use Rattle.model.proofs.Laws.{false≢, bool_cases, and_split}
use Rattle.model.proofs.Rows.{kind_known, kind_unknown}
use Rattle.theory.specs.Fields.{field_at, role_at, bound, bound_at, beyond_limit, no_card}
use Rattle.theory.proofs.steps.Fields.{four, unnamed_by, off_by, field_below}
use Rattle.request_laws.specs.Answer.{done, refusal_number}
use Rattle.request_laws.specs.Passed.{Passed}
use Rattle.request_laws.specs.Request.{requested, InRange, admission_by, admission_of, asks_debt}
use Rattle.request_laws.specs.declared.Request.{Request}
use Rattle.std.proofs.Common.{Result, Ok, Err}
use Rattle.request_laws.specs.declared.Refusal.{Refusal}
use Rattle.request_laws.specs.declared.Refusal.TheVariants.{Unknown, OffDesk, Owing, NoObject, PastEnd, BadSize, NoRoom, WrongPhase, NothingToDo}
use Rattle.request_laws.proofs.Numbers.{number_3, number_4, number_5}

some_four : (a b c d : Bool) → (((a || b) || c) || d) ≡ some (a ∷ b ∷ c ∷ d ∷ [])
unfolding some
some_four a b c d = simp (or_assoc, or-false)

-- ---- the three tests, as code makes them: l is a field's limit, the others what was found of each

module _ (w : ℕ) (r : Request) where
  abbrev n : Kind
  n = kind_of r.kind

  abbrev s : Step
  s = requested r

  pub in_range : InRange w r → (i : ℕ) → i < 4 → field_at s i < 2 ^ w
  unfolding requested field_at
  in_range q = four (λ i. field_at s i < 2 ^ w) q.who_small q.a_small q.b_small q.c_small

  -- the tests of four fields by their limits
  module _ (f : ℕ → ℕ → Bool) {l₀ l₁ l₂ l₃ : ℕ} {t u v x : Bool} where
    found : l₀ ≡ bound_at w n 0 → l₁ ≡ bound_at w n 1 → l₂ ≡ bound_at w n 2 → l₃ ≡ bound_at w n 3 → t ≡ f l₀ r.who → u ≡ f l₁ r.a → v ≡ f l₂ r.b → x ≡ f l₃ r.c
        → (((t || u) || v) || x) ≡ some (fields s (λ x y. f (bound w x) y) (row_of n))
    unfolding requested fields bound_at role_at
    found e₀ e₁ e₂ e₃ f₀ f₁ f₂ f₃ = some_four t u v x ∙ rw (f₀, f₁, f₂, f₃, e₀, e₁, e₂, e₃)

  module _ {l₀ l₁ l₂ l₃ : ℕ} {t u v x : Bool} (e₀ : l₀ ≡ bound_at w n 0) (e₁ : l₁ ≡ bound_at w n 1) (e₂ : l₂ ≡ bound_at w n 2) (e₃ : l₃ ≡ bound_at w n 3) where
    pub stray_found : 1 ≤ r.kind → r.kind < 16 → t ≡ (eqb l₀ 0 && not (eqb r.who 0)) → u ≡ (eqb l₁ 0 && not (eqb r.a 0)) → v ≡ (eqb l₂ 0 && not (eqb r.b 0)) → x ≡ (eqb l₃ 0 && not (eqb r.c 0))
        → (not (eqb r.zeros 0) || (((t || u) || v) || x)) ≡ unnamed (requested r) (kind_of r.kind)
    unfolding requested some
    stray_found l h f₀ f₁ f₂ f₃ =
        ap (λ b. not (eqb r.zeros 0) || b) (found (λ y z. eqb y 0 && not (eqb z 0)) e₀ e₁ e₂ e₃ f₀ f₁ f₂ f₃)
        ∙ sym (unnamed_by w s n ∙ ap (λ b. b || some (not (eqb r.zeros 0) ∷ fields s (λ y z. eqb (bound w y) 0 && not (eqb z 0)) (row_of n))) (kind_known r.kind l h))

    pub beyond_found : t ≡ (ltb 0 l₀ && leb l₀ r.who) → u ≡ (ltb 0 l₁ && leb l₁ r.a) → v ≡ (ltb 0 l₂ && leb l₂ r.b) → x ≡ (ltb 0 l₃ && leb l₃ r.c)
        → (((t || u) || v) || x) ≡ beyond_limit w (requested r) (kind_of r.kind)
    unfolding beyond_limit
    beyond_found f₀ f₁ f₂ f₃ = found (λ y z. ltb 0 y && leb y z) e₀ e₁ e₂ e₃ f₀ f₁ f₂ f₃

  -- both parts of number 4
  pub off_found : (k : ℕ) → InRange w r → {t u : Bool} → t ≡ beyond_limit w (requested r) (kind_of r.kind) → u ≡ no_card k (requested r) (kind_of r.kind) → (t || u) ≡ off_desk (requested r) k (kind_of r.kind)
  off_found k q e f = rw (e, f) (sym (off_by w s n k (in_range q)))

-- a field that must owe nothing is a player's number
pub debtor_below : (k : ℕ) (r : Request) → off_desk (requested r) k (kind_of r.kind) ≡ false → (i : ℕ) → i < 4 → asks_debt (kind_of r.kind) i ≡ true → field_at (requested r) i < 16
unfolding asks_debt is_player limit
debtor_below k r e i h d =
    let n : Kind = kind_of r.kind in
    field_below (requested r) n k e i h 16 (is_limit (role_at n i) (and_split (row_of n).unowing (is_player (role_at n i)) d).1)
  where
    is_limit : (x : Role) → is_player x ≡ true → limit k x ≡ below 16
    is_limit player p = refl
    is_limit unused p = false≢ p
    is_limit tracer p = false≢ p
    is_limit register p = false≢ p
    is_limit card p = false≢ p
    is_limit number p = false≢ p

module _ (m : Image) (r : Request) {t u v x : Bool} where
  pub owing_found : t ≡ (asks_debt (kind_of r.kind) 0 && not (eqb (owed m r.who) 0)) → u ≡ (asks_debt (kind_of r.kind) 1 && not (eqb (owed m r.a) 0)) → v ≡ (asks_debt (kind_of r.kind) 2 && not (eqb (owed m r.b) 0))
      → x ≡ (asks_debt (kind_of r.kind) 3 && not (eqb (owed m r.c) 0)) → (((t || u) || v) || x) ≡ owing m (requested r) (kind_of r.kind)
  unfolding owing owes fields requested asks_debt role_at some
  owing_found f₀ f₁ f₂ f₃ = some_four t u v x ∙ rw (f₀, f₁, f₂, f₃) (elim (bool_cases (row_of (kind_of r.kind)).unowing) [ inl e ↦ rw e | inr e ↦ rw e ])

-- ---- what they say together

module _ (m : Image) (r : Request) where
  pub unknown_kinds : kind_of r.kind ≡ unknown → Err Unknown ≡ admission_of m (requested r)
  unfolding admission_of admission_by requested unnamed
  unknown_kinds e = rw e

  pub admit_none : r.kind ≡ 0 → Err Unknown ≡ admission_of m (requested r)
  unfolding kind_of
  admit_none e = unknown_kinds (ap kind_of e)

  pub admit_many : 16 ≤ r.kind → Err Unknown ≡ admission_of m (requested r)
  admit_many h = unknown_kinds (kind_unknown r.kind h)

  module _ {t : Bool} (f : t ≡ unnamed (requested r) (kind_of r.kind)) where
    pub admit_stray : t ≡ true → Err Unknown ≡ admission_of m (requested r)
    unfolding admission_of admission_by requested
    admit_stray e = rw (← f, e)

    module _ {u : Bool} (e : t ≡ false) (g : u ≡ off_desk (requested r) m.k (kind_of r.kind)) where
      pub admit_beyond : u ≡ true → Err OffDesk ≡ admission_of m (requested r)
      unfolding admission_of admission_by requested
      admit_beyond h = rw (← f, e, ← g, h)

      module _ {v : Bool} (h : u ≡ false) (o : v ≡ owing m (requested r) (kind_of r.kind)) where
        pub admit_owing : v ≡ true → Err Owing ≡ admission_of m (requested r)
        unfolding admission_of admission_by requested
        admit_owing i = rw (← f, e, ← g, h, ← o, i)

        pub admit_passed : v ≡ false → Ok tt ≡ admission_of m (requested r)
        unfolding admission_of admission_by requested
        admit_passed i = rw (← f, e, ← g, h, ← o, i)

-- ---- and what each says of the step

abbrev Says : Result (Unit {0}) Refusal → Bool → Bool → Bool → Type 0
Says (Err Unknown) a b c = a ≡ true
Says (Err OffDesk) a b c = (a ≡ false) × (b ≡ true)
Says (Err Owing) a b c = (a ≡ false) × (b ≡ false) × (c ≡ true)
Says (Err NoObject) a b c = ⊥
Says (Err PastEnd) a b c = ⊥
Says (Err BadSize) a b c = ⊥
Says (Err NoRoom) a b c = ⊥
Says (Err WrongPhase) a b c = ⊥
Says (Err NothingToDo) a b c = ⊥
Says (Ok u) a b c = (a ≡ false) × (b ≡ false) × (c ≡ false)

says : (a b c : Bool) → Says (admission_by a b c) a b c
unfolding admission_by
says true b c = refl
says false true c = (refl, refl)
says false false true = (refl, refl, refl)
says false false false = (refl, refl, refl)

module _ (m : Image) (s : Step) {x : Result (Unit {0}) Refusal} (f : x ≡ admission_of m s) where
  said : {y : Result (Unit {0}) Refusal} → x ≡ y → Says y (unnamed s (kind_of s.kind)) (off_desk s m.k (kind_of s.kind)) (owing m s (kind_of s.kind))
  unfolding admission_of
  said e = let n : Kind = kind_of s.kind in rw (sym f ∙ e) at (says (unnamed s n) (off_desk s m.k n) (owing m s n))

  pub refused : (r : Refusal) → x ≡ Err r → done (refusal_number r) 0 m ≡ step tightest m s
  refused Unknown e = number_3 m s (kind_of s.kind) refl (said e)
  refused OffDesk e = let q = said e in number_4 m s (kind_of s.kind) refl q.0 q.1
  refused Owing e = let q = said e in number_5 m s (kind_of s.kind) refl q.0 q.1 q.2
  refused NoObject e = absurd (said e)
  refused PastEnd e = absurd (said e)
  refused BadSize e = absurd (said e)
  refused NoRoom e = absurd (said e)
  refused WrongPhase e = absurd (said e)
  refused NothingToDo e = absurd (said e)

  pub admitted_passes : (u : Unit {0}) → x ≡ Ok u → Passed m s (kind_of s.kind)
  admitted_passes u e = let q = said e in record { is_kind = refl; named = q.0; on_desk = q.1; none_owed = q.2 }
