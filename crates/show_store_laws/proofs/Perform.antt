-- The dispatch: what an admitted request's fields are, kind by kind, and its step by its kind.
use mathlib.Core.Path.{◌≡◌, refl, sym, ap, ◌∙◌}
use mathlib.Core.Bool.{true}
use Prim.Native.Nat.{ℕ, ◌<◌}
use native.Mathlib.Omega.{arith}
use Rattle.model.specs.Image.{Image, owed}
use Rattle.model.specs.Mutate.{tightest, free_granules, granules_in_runs, usable_run, usable_granules}
use Rattle.model.specs.Records.{Kind, new, finish, kind_of}
use Rattle.model.specs.Rows.{unused, player, below, limit, row_of}
use Rattle.model.specs.Steps as steps
use Rattle.model.specs.Steps.{unnamed, step}
use Rattle.model.proofs.Rows.{kind_number}
use Rattle.theory.specs.Lines.{Undamaged}
use Rattle.theory.specs.Fields.{field_at, role_at}
use Rattle.theory.proofs.heap.Outside.{all_runs}
use Rattle.theory.proofs.steps.Runs.{runs_stay}
use Rattle.theory.proofs.steps.Fields.{zeros_zero, field_zero, field_below, field_paid}
use Rattle.request_laws.specs.Answer.{done, asked}
use Rattle.request_laws.specs.Passed.{Passed}
use Rattle.request_laws.specs.Request.{requested}
use Rattle.request_laws.specs.declared.Request.{Request}
use Rattle.runs_laws.specs.declared.Free.{Free}
use Rattle.runs_laws.specs.Granules.{free_of}

module _ {m : Image} (r : Request) (q : Passed m (requested r) (kind_of r.kind)) where
  no_zeros : r.zeros ≡ 0
  unfolding requested
  no_zeros = zeros_zero (requested r) (kind_of r.kind) q.named

  -- the step of a request, by the fields that its kind names; the others are 0
  by_kind : (n w a b c : ℕ) (d : steps.Done) → r.kind ≡ n → r.who ≡ w → r.a ≡ a → r.b ≡ b → r.c ≡ c → d ≡ step tightest m (asked n w a b c) → d ≡ step tightest m (requested r)
  unfolding requested asked
  by_kind n w a b c d e f g h i p = rw (e, f, no_zeros, g, h, i) p

  -- a field that its kind n does not name, one that has a limit, and a player who must owe nothing
  module _ (n : ℕ) (e : r.kind ≡ n) (i : ℕ) (h : i < 4) where
    zero_at : role_at (kind_of n) i ≡ unused → field_at (requested r) i ≡ 0
    zero_at z = field_zero (requested r) (kind_of r.kind) q.named i h (rw e z)

    below_at : (l : ℕ) → limit m.k (role_at (kind_of n) i) ≡ below l → field_at (requested r) i < l
    below_at l b = field_below (requested r) (kind_of r.kind) m.k q.on_desk i h l (rw e b)

    paid_at : (row_of (kind_of n)).unowing ≡ true → role_at (kind_of n) i ≡ player → owed m (field_at (requested r) i) ≡ 0
    paid_at u p = field_paid m (requested r) (kind_of r.kind) q.none_owed (rw e u) i h (rw e p)

  -- ---- kind by kind: the limits of its fields and who must owe nothing; its step, where the fields that it does not name are 0

  pub new_fields : r.kind ≡ 1 → ((r.who < 16) × (r.a < 16)) × (owed m r.who ≡ 0)
  unfolding kind_of role_at limit field_at requested
  new_fields e = ((below_at 1 e 0 (omega arith) 16 refl, below_at 1 e 1 (omega arith) 16 refl), paid_at 1 e 0 (omega arith) refl refl)

  pub new_dispatched : r.kind ≡ 1 → (d : steps.Done) → d ≡ step tightest m (asked 1 r.who r.a r.b r.c) → d ≡ step tightest m (requested r)
  new_dispatched e d = by_kind 1 r.who r.a r.b r.c d e refl refl refl refl

  pub load_fields : r.kind ≡ 2 → ((r.who < 16) × (r.a < 16) × (r.b < 16)) × (owed m r.who ≡ 0)
  unfolding kind_of role_at limit field_at requested
  load_fields e = ((below_at 2 e 0 (omega arith) 16 refl, below_at 2 e 1 (omega arith) 16 refl, below_at 2 e 2 (omega arith) 16 refl), paid_at 2 e 0 (omega arith) refl refl)

  pub load_dispatched : r.kind ≡ 2 → (d : steps.Done) → d ≡ step tightest m (asked 2 r.who r.a r.b r.c) → d ≡ step tightest m (requested r)
  load_dispatched e d = by_kind 2 r.who r.a r.b r.c d e refl refl refl refl

  pub store_fields : r.kind ≡ 3 → ((r.who < 16) × (r.a < 16) × (r.c < 16)) × (owed m r.who ≡ 0)
  unfolding kind_of role_at limit field_at requested
  store_fields e = ((below_at 3 e 0 (omega arith) 16 refl, below_at 3 e 1 (omega arith) 16 refl, below_at 3 e 3 (omega arith) 16 refl), paid_at 3 e 0 (omega arith) refl refl)

  pub store_dispatched : r.kind ≡ 3 → (d : steps.Done) → d ≡ step tightest m (asked 3 r.who r.a r.b r.c) → d ≡ step tightest m (requested r)
  store_dispatched e d = by_kind 3 r.who r.a r.b r.c d e refl refl refl refl

  pub barrier_fields : r.kind ≡ 4 → r.who < 16
  unfolding kind_of role_at limit field_at requested
  barrier_fields e = below_at 4 e 0 (omega arith) 16 refl

  pub barrier_dispatched : r.kind ≡ 4 → (d : steps.Done) → d ≡ step tightest m (asked 4 r.who 0 0 0) → d ≡ step tightest m (requested r)
  unfolding kind_of role_at limit field_at requested
  barrier_dispatched e d = by_kind 4 r.who 0 0 0 d e refl (zero_at 4 e 1 (omega arith) refl) (zero_at 4 e 2 (omega arith) refl) (zero_at 4 e 3 (omega arith) refl)

  pub hand_fields : r.kind ≡ 5 → ((r.who < 16) × (r.a < 16) × (r.b < 16) × (r.c < 16)) × ((owed m r.who ≡ 0) × (owed m r.b ≡ 0))
  unfolding kind_of role_at limit field_at requested
  hand_fields e = ((below_at 5 e 0 (omega arith) 16 refl, below_at 5 e 1 (omega arith) 16 refl, below_at 5 e 2 (omega arith) 16 refl, below_at 5 e 3 (omega arith) 16 refl), (paid_at 5 e 0 (omega arith) refl refl, paid_at 5 e 2 (omega arith) refl refl))

  pub hand_dispatched : r.kind ≡ 5 → (d : steps.Done) → d ≡ step tightest m (asked 5 r.who r.a r.b r.c) → d ≡ step tightest m (requested r)
  hand_dispatched e d = by_kind 5 r.who r.a r.b r.c d e refl refl refl refl

  pub drop_fields : r.kind ≡ 6 → ((r.who < 16) × (r.a < 16)) × (owed m r.who ≡ 0)
  unfolding kind_of role_at limit field_at requested
  drop_fields e = ((below_at 6 e 0 (omega arith) 16 refl, below_at 6 e 1 (omega arith) 16 refl), paid_at 6 e 0 (omega arith) refl refl)

  pub drop_dispatched : r.kind ≡ 6 → (d : steps.Done) → d ≡ step tightest m (asked 6 r.who r.a 0 0) → d ≡ step tightest m (requested r)
  unfolding kind_of role_at limit field_at requested
  drop_dispatched e d = by_kind 6 r.who r.a 0 0 d e refl refl (zero_at 6 e 2 (omega arith) refl) (zero_at 6 e 3 (omega arith) refl)

  pub read_fields : r.kind ≡ 7 → ((r.who < 16) × (r.a < 16)) × (owed m r.who ≡ 0)
  unfolding kind_of role_at limit field_at requested
  read_fields e = ((below_at 7 e 0 (omega arith) 16 refl, below_at 7 e 1 (omega arith) 16 refl), paid_at 7 e 0 (omega arith) refl refl)

  pub read_dispatched : r.kind ≡ 7 → (d : steps.Done) → d ≡ step tightest m (asked 7 r.who r.a r.b 0) → d ≡ step tightest m (requested r)
  unfolding kind_of role_at limit field_at requested
  read_dispatched e d = by_kind 7 r.who r.a r.b 0 d e refl refl refl (zero_at 7 e 3 (omega arith) refl)

  pub write_fields : r.kind ≡ 8 → ((r.who < 16) × (r.a < 16)) × (owed m r.who ≡ 0)
  unfolding kind_of role_at limit field_at requested
  write_fields e = ((below_at 8 e 0 (omega arith) 16 refl, below_at 8 e 1 (omega arith) 16 refl), paid_at 8 e 0 (omega arith) refl refl)

  pub write_dispatched : r.kind ≡ 8 → (d : steps.Done) → d ≡ step tightest m (asked 8 r.who r.a r.b r.c) → d ≡ step tightest m (requested r)
  write_dispatched e d = by_kind 8 r.who r.a r.b r.c d e refl refl refl refl

  pub begin_dispatched : r.kind ≡ 9 → (d : steps.Done) → d ≡ step tightest m (asked 9 0 0 0 0) → d ≡ step tightest m (requested r)
  unfolding kind_of role_at limit field_at requested
  begin_dispatched e d = by_kind 9 0 0 0 0 d e (zero_at 9 e 0 (omega arith) refl) (zero_at 9 e 1 (omega arith) refl) (zero_at 9 e 2 (omega arith) refl) (zero_at 9 e 3 (omega arith) refl)

  pub scan_fields : r.kind ≡ 10 → (r.who < 8) × (r.a < 16)
  unfolding kind_of role_at limit field_at requested
  scan_fields e = (below_at 10 e 0 (omega arith) 8 refl, below_at 10 e 1 (omega arith) 16 refl)

  pub scan_dispatched : r.kind ≡ 10 → (d : steps.Done) → d ≡ step tightest m (asked 10 r.who r.a 0 0) → d ≡ step tightest m (requested r)
  unfolding kind_of role_at limit field_at requested
  scan_dispatched e d = by_kind 10 r.who r.a 0 0 d e refl refl (zero_at 10 e 2 (omega arith) refl) (zero_at 10 e 3 (omega arith) refl)

  pub trace_fields : r.kind ≡ 11 → r.who < 8
  unfolding kind_of role_at limit field_at requested
  trace_fields e = below_at 11 e 0 (omega arith) 8 refl

  pub trace_dispatched : r.kind ≡ 11 → (d : steps.Done) → d ≡ step tightest m (asked 11 r.who 0 0 0) → d ≡ step tightest m (requested r)
  unfolding kind_of role_at limit field_at requested
  trace_dispatched e d = by_kind 11 r.who 0 0 0 d e refl (zero_at 11 e 1 (omega arith) refl) (zero_at 11 e 2 (omega arith) refl) (zero_at 11 e 3 (omega arith) refl)

  pub clean_fields : r.kind ≡ 12 → r.who < 8
  unfolding kind_of role_at limit field_at requested
  clean_fields e = below_at 12 e 0 (omega arith) 8 refl

  pub clean_dispatched : r.kind ≡ 12 → (d : steps.Done) → d ≡ step tightest m (asked 12 r.who 0 0 0) → d ≡ step tightest m (requested r)
  unfolding kind_of role_at limit field_at requested
  clean_dispatched e d = by_kind 12 r.who 0 0 0 d e refl (zero_at 12 e 1 (omega arith) refl) (zero_at 12 e 2 (omega arith) refl) (zero_at 12 e 3 (omega arith) refl)

  pub finish_dispatched : r.kind ≡ 13 → (d : steps.Done) → d ≡ step tightest m (asked 13 0 0 0 0) → d ≡ step tightest m (requested r)
  unfolding kind_of role_at limit field_at requested
  finish_dispatched e d = by_kind 13 0 0 0 0 d e (zero_at 13 e 0 (omega arith) refl) (zero_at 13 e 1 (omega arith) refl) (zero_at 13 e 2 (omega arith) refl) (zero_at 13 e 3 (omega arith) refl)

  pub due_dispatched : r.kind ≡ 14 → (d : steps.Done) → d ≡ step tightest m (asked 14 0 r.a 0 0) → d ≡ step tightest m (requested r)
  unfolding kind_of role_at limit field_at requested
  due_dispatched e d = by_kind 14 0 r.a 0 0 d e (zero_at 14 e 0 (omega arith) refl) refl (zero_at 14 e 2 (omega arith) refl) (zero_at 14 e 3 (omega arith) refl)

  pub undirty_fields : r.kind ≡ 15 → r.a < m.k
  unfolding kind_of role_at limit field_at requested
  undirty_fields e = below_at 15 e 1 (omega arith) m.k refl

  pub undirty_dispatched : r.kind ≡ 15 → (d : steps.Done) → d ≡ step tightest m (asked 15 0 r.a 0 0) → d ≡ step tightest m (requested r)
  unfolding kind_of role_at limit field_at requested
  undirty_dispatched e d = by_kind 15 0 r.a 0 0 d e (zero_at 15 e 0 (omega arith) refl) refl (zero_at 15 e 2 (omega arith) refl) (zero_at 15 e 3 (omega arith) refl)

-- ---- the free granules

-- a kind that is not the request's
not_kind : (r : Request) (n : Kind) → (r.kind ≡ (row_of n).code → ⊥) → ((row_of n).code ≡ 0 → ⊥) → kind_of r.kind ≡ n → ⊥
not_kind r n h nz e = h (kind_number r.kind n e nz)

-- all kinds but new and finish leave them as many as they were
module _ (m n : Image) (r : Request) (u : Undamaged m) (a : r.kind ≡ 1 → ⊥) (b : r.kind ≡ 13 → ⊥) (number value : ℕ) (d : done number value n ≡ step tightest m (requested r)) where
  runs_left : (least : ℕ) → granules_in_runs least n ≡ granules_in_runs least m
  unfolding requested row_of
  runs_left least = ap (λ x. granules_in_runs least x.image) d ∙ runs_stay tightest m (requested r) u (not_kind r new a (omega arith)) (not_kind r finish b (omega arith)) least

  pub free_left : (free : Free) → free ≡ free_of m → free ≡ free_of n
  unfolding usable_granules
  free_left free e =
      let all : free_granules m ≡ free_granules n = sym (all_runs m) ∙ sym (runs_left 0) ∙ all_runs n in
      let long : usable_granules m ≡ usable_granules n = sym (runs_left usable_run) in
      e ∙ (λ x. record { granules = all x; usable = long x })
