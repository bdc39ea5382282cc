-- How long a cycle can drag on: after a begin at most 8 × G + 2 × k is left, and each accepted trace and clean step lowers what is left.
use mathlib.Core.Path.{◌≡◌, refl, sym, ap, subst, ◌∙◌}
use mathlib.Core.List.{List, ◌∷◌, ◌++◌, Memᴰ}
use mathlib.Core.Bool.{cond}
use Prim.Native.Nat.{ℕ, ◌+◌, ◌*◌, ◌≤◌}
use native.Mathlib.Omega.{arith}
use Rattle.model.specs.Image.{Image, granules, parts}
use Rattle.model.specs.Undamaged.{judge_at}
use Rattle.model.specs.Records.{begin, finish}
use Rattle.model.specs.Mutate.{Placing}
use Rattle.model.specs.Steps.{Event, step}
use Rattle.model.specs.Claim.{Lent, Accepted}
use Rattle.model.specs.Bound.{is_work, work_in, at_most, at_most_sharper, CycleBound, SharperBound}
use Rattle.theory.specs.Events.{Successive, l_nil, l_cons, Steady, Fine}
use Rattle.theory.specs.Work.{work_left, Cycling}
use Rattle.theory.proofs.cycle.Linked.{done_ok, linked_from}
use Rattle.theory.proofs.lines.Passing.{judge_use}
use Rattle.theory.proofs.steps.Steps.{step_number, accepted_image}
use Rattle.theory.proofs.Histories.{history_linked}
use Rattle.theory.proofs.InOrder.{OfCards, steady_cards}
use Rattle.theory.proofs.work.PaidSteps.{event_goes}
use Rattle.theory.proofs.work.Limits.{done_most, Begun, begin_begun}

module _ (rule : Placing) (w k : ℕ) where
  abbrev Ok : Image → Type 0
  Ok = OfCards w k

  st : Steady rule Ok
  st = steady_cards rule w k

  -- what is left falls with an accepted trace or clean, and rises with no event but an accepted finish
  pub event_lowers : (e : Event) → Fine rule Ok e → Cycling e.got → (Accepted finish e → ⊥) → (work_left e.done.image + cond (is_work e) 1 0 ≤ work_left e.got) × Cycling e.done.image
  unfolding work_left at_most_sharper granules
  event_lowers e f c nf =
      let o = f.got_ok in
      let o' = done_ok rule Ok st e f in
      let (p, c') = event_goes rule e f.is_step o.0.is_undamaged c nf in
      (omega (arith, p.pays, o.1, o'.1, done_most e.got o.0.is_undamaged.sound.lines, done_most e.done.image o'.0.is_undamaged.sound.lines), c')

  -- a list of events
  linked_lowers : {m n : Image} {es : List Event} → Successive rule m es n → Ok m → Cycling m → ((e : Event) → Memᴰ e es → Accepted finish e → ⊥) → work_left n + work_in es ≤ work_left m
  unfolding work_in
  linked_lowers l_nil o c nf = omega arith
  linked_lowers (l_cons e g d r) o c nf =
      let f : Fine rule Ok e = record { got_ok = subst Ok (sym g) o; is_step = d } in
      let (l, c') = event_lowers e f (subst Cycling (sym g) c) (nf e (Memᴰ.head refl)) in
      omega (arith, l, ap work_left g, linked_lowers r (done_ok rule Ok st e f) c' (λ x q. nf x (Memᴰ.tail q)))

  -- an accepted begin
  begin_event : (b : Event) → Fine rule Ok b → Accepted begin b → Begun b.done.image
  begin_event b f a =
      let z : (step rule b.got b.request).number ≡ 0 = sym (ap (λ r. r.number) f.is_step) ∙ a.no_number in
      rw (f.is_step, accepted_image rule b.got b.request a.is_kind z)
      (begin_begun rule b.got b.request f.got_ok.0.is_undamaged (sym (step_number rule b.got b.request a.is_kind) ∙ z))

  -- from a begin on
  from_begin : {m n : Image} {es : List Event} → Successive rule m es n → Ok m → (b : Event) (before mid behind : List Event) → es ≡ before ++ (b ∷ (mid ++ behind))
      → Accepted begin b → ((e : Event) → Memᴰ e mid → Accepted finish e → ⊥) → work_in mid ≤ 8 * (64 * k) + 2 * k
  unfolding work_left at_most_sharper granules
  from_begin p o b before mid behind q a nf =
      let (f, t) = linked_from rule Ok st p o b before mid behind q in
      let o' = done_ok rule Ok st b f in
      let u = begin_event b f a in
      omega (arith, linked_lowers t.first_part o' u.cycling nf, u.nothing_owed, o'.1)

-- ---- whole histories, for every width and either rule of placing

pub sharper_bound : (rule : Placing) (w : ℕ) (ws : List ℕ) (bs : List Lent) → judge_at w ws ≡ 0 → SharperBound rule w ws bs
unfolding at_most_sharper granules
sharper_bound rule w ws bs j = record {
  at-most = λ mid c. from_begin rule w (parts w ws).k (history_linked rule w ws bs j) (judge_use w ws j, refl) c.begun c.before mid c.behind c.parted c.is_begin c.none_finish;
}

-- 8 × G + 2 × k is no more than 12 × G
pub cycle_bound : (rule : Placing) (w : ℕ) (ws : List ℕ) (bs : List Lent) → judge_at w ws ≡ 0 → CycleBound rule w ws bs
unfolding at_most at_most_sharper granules
cycle_bound rule w ws bs j = record { at-most = λ mid c. omega (arith, (sharper_bound rule w ws bs j).at-most mid c) }
