-- In a cycle every step but an accepted finish pays, 1 for an accepted trace or clean, else 0; and the cycle goes on.
use mathlib.Core.Path.{◌≡◌, refl, sym, ap, ◌∙◌}
use mathlib.Core.Logic.{inl, inr}
use mathlib.Core.Bool.{true, cond}
use mathlib.Core.List.{[], ◌∷◌}
use Prim.Native.Nat.{ℕ, suc, ◌+◌, ◌*◌, ◌-◌, ◌/◌, ◌≤◌, ◌<◌}
use native.Mathlib.Decide.{ℕ_discrete}
use native.Mathlib.Omega.{arith}
use lib.Dec.{eqb}
use lib.ListN.{take, drop}
use borrow.Author.Tests.{leb-false, eqb-true, eqb-false, eq-eqb, ne_eqb}
use Rattle.model.specs.Base.{nth, put, some}
use Rattle.model.specs.Image.{Image, word, is_start, size, links, levels, owed, running, dirty_state, clean_state, set_word, set_reg, set_owed, set_scanned, fields_open}
use Rattle.model.specs.Records.{Step, Kind, new, load, store, barrier, hand_over, drop_reg, read, write, begin, scan, trace, clean, finish, is_due, undirty, unknown, kind_of}
use Rattle.model.specs.Mutate.{Placing}
use Rattle.model.specs.Rows.{rows_open}
use Rattle.model.specs.Collect.{scan_player}
use Rattle.model.specs.Steps.{Event, off_desk, object, no_object, past_end, wrong_phase, nothing_to_do, refusal, accept, act, step}
use Rattle.model.specs.Claim.{Accepted}
use Rattle.model.specs.Bound.{is_work}
use Rattle.model.proofs.Laws.{bool_cases, every_use, some_use, some_nil, some_false, nth_put_other}
use Rattle.theory.specs.Cycle.{NoFinish}
use Rattle.theory.specs.Lines.{Lines, Undamaged}
use Rattle.theory.specs.New.{NewMade, reheaped}
use Rattle.theory.specs.Work.{links_in, marks_paid, cleans_paid, cards_paid, work_done, work_owed, Pays, pay, CardsOnce, Cycling}
use Rattle.theory.proofs.heap.Facts.{laid_of}
use Rattle.theory.proofs.lines.Sections.{dirty_changes, clean_changes}
use Rattle.theory.proofs.new.NewKept.{new_does, new_step}
use Rattle.theory.proofs.steps.Beginning.{scan_values, scan_does}
use Rattle.theory.proofs.steps.Cleaning.{clean_does}
use Rattle.theory.proofs.steps.EachKind.{register_start}
use Rattle.theory.proofs.steps.Mutating.{is-start}
use Rattle.theory.proofs.steps.Reaching.{StepStays}
use Rattle.theory.proofs.steps.Steps.{line, not_above, step_number, accepted_image, refused_same}
use Rattle.theory.proofs.steps.Tracing.{trace_does}
use Rattle.theory.proofs.steps.Written.{links_written}
use Rattle.theory.proofs.work.PaidSections.{SameWork, work_then, state_work}
use Rattle.theory.proofs.work.PaidReach.{pays_refl, pays_then, pays_same, reach_all_pays, no_links}
use Rattle.theory.proofs.work.PaidTrace.{trace_pays}
use Rattle.theory.proofs.work.PaidClean.{clean_pays}
use Rattle.theory.proofs.work.PaidHeap.{reheap_work}
use Rattle.theory.proofs.work.Cycling.{once_same, scan_cards, trace_cards, clean_once}

-- ---- writes

-- registers and players are not read
regs_work : (m : Image) (p r v : ℕ) → SameWork m (set_reg m p r v)
unfolding work_done marks_paid cleans_paid cards_paid work_owed fields_open
regs_work m p r v = record { same_done = refl; same_owed = refl }

owed_work : (m : Image) (p v : ℕ) → SameWork m (set_owed m p v)
unfolding work_done marks_paid cleans_paid cards_paid work_owed fields_open
owed_work m p v = record { same_done = refl; same_owed = refl }

scanned_work : (m : Image) (p : ℕ) → SameWork m (set_scanned m p)
unfolding work_done marks_paid cleans_paid cards_paid work_owed fields_open
scanned_work m p = record { same_done = refl; same_owed = refl }

-- a word of an object behind its first two
word_work : (m : Image) → Lines m → (g x v : ℕ) → is_start m g ≡ true → 2 ≤ x → x < 4 * size m g → SameWork m (set_word m g x v)
unfolding links_in fields_open
word_work m o g x v sg lo hi =
    reheap_work m o (put m.heap (4 * g + x) v) m.starts m.general (λ h s. links_written o g x v sg lo hi h s.1)
    (nth_put_other m.heap (4 * g + x) 1 v (omega arith) ∙ o.heap_ok.blank 1 (omega arith))

new_work : (m n : Image) → Lines m → Lines n → {p r b c g : ℕ} → NewMade m n p r b c g → SameWork m n
unfolding links_in word size
new_work m n o o' {p} {r} {b} {c} {g} k =
    let reheap : SameWork m (reheaped m n.heap n.starts n.general)
    = reheap_work m o n.heap n.starts n.general (λ h s. let a = is-start m h s in k.words_old h 1 a (omega (arith, ((laid_of o).inside h a).0))) (no_links o') in
    rw k.sections (work_then reheap (regs_work (reheaped m n.heap n.starts n.general) p r g))

-- ---- the kinds

-- d is paid, and the cycle goes on
abbrev Goes : ℕ → Image → Image → Type 0
Goes d m n = Pays d m n × Cycling n

module _ (rule : Placing) (m : Image) (s : Step) (u : Undamaged m) (cy : Cycling m) where
  o : Lines m
  o = u.sound.lines

  -- neither the general section nor a tracer is written
  quiet_goes : {n : Image} → SameWork m n → n.general ≡ m.general → n.tracers ≡ m.tracers → Goes 0 m n
  quiet_goes w a b = (pays_same w, record { runs = ap (λ l. nth l 0) a ∙ cy.runs; cards_once = rw b cy.cards_once })

  same_goes : Goes 0 m m
  same_goes = (pays_refl m, cy)

  -- a tracer's step
  stays_cycling : {n : Image} → StepStays m n → CardsOnce n.tracers → Cycling n
  stays_cycling k one = record { runs = ap (λ f. nth f.2 0) k.frame_same ∙ cy.runs; cards_once = one }

  new_goes : refusal m s new ≡ 0 → Goes 0 m (act rule m s new).image
  unfolding act accept fields_open
  new_goes r =
      let k = new_does rule m s o r in
      (pays_same (new_work m _ o (new_step rule m s u r).sound.lines k), record { runs = k.general_word 0 (omega arith) ∙ cy.runs; cards_once = rw (ap (λ x. x.tracers) k.sections) cy.cards_once })

  store_goes : refusal m s store ≡ 0 → Goes 0 m (act rule m s store).image
  unfolding act accept no_object past_end fields_open
  store_goes r =
      let g : ℕ = object m s s.a in
      let sg = is-start m g (register_start m s u s.a (line m s store r 3)) in
      let l : s.b < links m g = leb-false _ _ (line m s store r 4) in
      quiet_goes (work_then (word_work m o g (2 + s.b) (object m s s.c) sg (omega arith) (omega (arith, ((laid_of o).inside g sg).0))) (owed_work _ s.who (suc (g / 64)))) refl refl

  write_goes : refusal m s write ≡ 0 → Goes 0 m (act rule m s write).image
  unfolding act accept no_object past_end fields_open
  write_goes r =
      let g : ℕ = object m s s.a in
      let sg = is-start m g (register_start m s u s.a (line m s write r 3)) in
      let l : s.b < levels m g = leb-false _ _ (line m s write r 4) in
      quiet_goes (word_work m o g (2 + links m g + s.b) s.c sg (omega arith) (omega arith)) refl refl

  scan_goes : refusal m s scan ≡ 0 → Goes 0 m (act rule m s scan).image
  unfolding act accept off_desk scan_player
  scan_goes r =
      let d = some_false _ (line m s scan r 1) in
      let ht = not_above 7 s.who (d 0) in (
        pays_then (reach_all_pays m o s.who ht (take 16 (drop (16 * s.a) m.regs)) (scan_values m o s.a)) (pays_same (scanned_work _ s.a)),
        stays_cycling (scan_does m o u.cover s.who s.a ht (not_above 15 s.a (d 1))) (once_same (scan_cards m o s.who s.a ht) cy.cards_once),
      )

  trace_goes : refusal m s trace ≡ 0 → Goes 1 m (act rule m s trace).image
  unfolding act accept off_desk nothing_to_do
  trace_goes r =
      let ht = not_above 7 s.who (some_false _ (line m s trace r 1) 0) in
      (trace_pays m o s.who ht (line m s trace r 8), stays_cycling (trace_does m o u.cover s.who ht) (once_same (trace_cards m o s.who ht) cy.cards_once))

  clean_goes : refusal m s clean ≡ 0 → Goes 1 m (act rule m s clean).image
  unfolding act accept off_desk nothing_to_do
  clean_goes r =
      let ht = not_above 7 s.who (some_false _ (line m s clean r 1) 0) in
      (clean_pays m o cy.cards_once s.who ht (line m s clean r 8), stays_cycling (clean_does m o u.cover s.who ht) (clean_once m o s.who ht cy.cards_once))

  -- no begin is accepted while a cycle runs
  no_begin : refusal m s begin ≡ 0 → ⊥
  unfolding wrong_phase running
  no_begin r = eqb-false _ _ (line m s begin r 7) cy.runs

  kind_goes : (n : Kind) → refusal m s n ≡ 0 → (n ≡ finish → ⊥) → Goes (pay n) m (act rule m s n).image
  unfolding act accept pay rows_open fields_open
  kind_goes new r nf = new_goes r
  kind_goes load r nf = quiet_goes (regs_work m s.who s.a _) refl refl
  kind_goes store r nf = store_goes r
  kind_goes barrier r nf = quiet_goes (work_then (state_work dirty_state dirty_changes m (owed m s.who - 1)) (owed_work _ s.who 0)) refl refl
  kind_goes hand_over r nf = quiet_goes (regs_work m s.b s.c _) refl refl
  kind_goes drop_reg r nf = quiet_goes (regs_work m s.who s.a 0) refl refl
  kind_goes read r nf = same_goes
  kind_goes write r nf = write_goes r
  kind_goes begin r nf = absurd (no_begin r)
  kind_goes scan r nf = scan_goes r
  kind_goes trace r nf = trace_goes r
  kind_goes clean r nf = clean_goes r
  kind_goes finish r nf = absurd (nf refl)
  kind_goes is_due r nf = same_goes
  kind_goes undirty r nf = quiet_goes (state_work clean_state clean_changes m s.a) refl refl
  kind_goes unknown r nf = same_goes

  -- ---- a step

  step_goes : NoFinish rule m s → Goes (cond (eqb (step rule m s).number 0) (pay (kind_of s.kind)) 0) m (step rule m s).image
  step_goes nf = elim (ℕ_discrete (step rule m s).number 0) [
    | yes z ↦ rw (eq-eqb (step rule m s).number 0 z, accepted_image rule m s refl z) (kind_goes (kind_of s.kind) (sym (step_number rule m s refl) ∙ z) (λ q. nf q z))
    | no nz ↦ rw (ne_eqb (step rule m s).number 0 nz, (refused_same rule m s nz).0) same_goes
  ]

-- ---- an event

counted : (k : ℕ) → some (eqb k 11 ∷ eqb k 12 ∷ []) ≡ true → pay (kind_of k) ≡ 1
unfolding pay rows_open kind_of
counted k e = elim (some_use _ _ e) [
  | inl q ↦ rw (eqb-true k 11 q)
  | inr q ↦ elim (some_use _ _ q) [ inl p ↦ rw (eqb-true k 12 p) | inr p ↦ some_nil p ]
]

-- what counts is a trace or clean that was answered 0
work_paid : (e : Event) → cond (is_work e) 1 0 ≤ cond (eqb e.done.number 0) (pay (kind_of e.request.kind)) 0
unfolding is_work
work_paid e = elim (bool_cases (is_work e)) [
  | inr q ↦ rw q (omega arith)
  | inl q ↦
      let z : eqb e.done.number 0 ≡ true = every_use _ q 1 in
      let k : pay (kind_of e.request.kind) ≡ 1 = counted e.request.kind (every_use _ q 0) in
      rw (q, z, k) (omega arith)
]

pub event_goes : (rule : Placing) (e : Event) → e.done ≡ step rule e.got e.request → Undamaged e.got → Cycling e.got → (Accepted finish e → ⊥)
    → Pays (cond (is_work e) 1 0) e.got e.done.image × Cycling e.done.image
event_goes rule e d u cy nf =
    let g = step_goes rule e.got e.request u cy (λ k z. nf (record { is_kind = k; no_number = rw d z })) in
    rw d (record { pays = omega (arith, rw d at (work_paid e), g.0.pays) }, g.1)
