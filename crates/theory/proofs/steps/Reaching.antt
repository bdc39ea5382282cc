-- Reach, and a scan's sixteen reaches, keep the lines and Cover.
use mathlib.Core.Path.{◌≡◌, refl, sym, ap, ◌∙◌}
use mathlib.Core.Logic.{inl, inr}
use mathlib.Core.Bool.{true, false, cond}
use mathlib.Core.List.{List, [], ◌∷◌}
use Prim.Native.Nat.{ℕ, zero, suc, ◌+◌, ◌*◌, ◌-◌, ◌/◌, ◌≤◌, ◌<◌}
use native.Mathlib.Decide.{ℕ_discrete}
use native.Mathlib.Omega.{arith}
use lib.Dec.{eqb}
use lib.ListN.{length, take}
use borrow.Author.Tests.{ltb-true, leb-false, eqb-true, eqb-false, not-true, eq-eqb}
use Rattle.model.specs.Base.{nth, some}
use Rattle.model.specs.Image.{Image, granules, word, marked, links, link, state, dirty, reg, count, entry, input, output, hand, next_link, hand_card, next_granule, owed, card_count, with_marks, with_cards, with_counts, with_packets, with_tracers, set_mark, mark_object, set_state, dirty_state, dirty_card, set_tracer}
use Rattle.model.specs.Collect.{held, emptiest, append, no_output, take_output, enter, reach, reach_all}
use Rattle.model.proofs.Laws.{false≢, bool_cases, any_make, every_use, some_use, some_nil, some_make, nth_put_same, nth_put_other, best_ok, some_false}
use Rattle.model.proofs.Bits.{set_bit_same, set_bit_other, set_bit_keeps}
use Rattle.theory.specs.Cover.{Coming, Covered, Cover, on_dirty, on_entry, on_hand, on_card, owes_by, to_nil, to_marked, is_coming, is_owed}
use Rattle.theory.specs.Lines.{PacketsOk, NilOr, Start, Lines}
use Rattle.theory.proofs.lines.Covering.{dirty_same, dirty_keeps, hold_coming, same_coming}
use Rattle.theory.proofs.lines.Lines.{put_packets, put_tracers, put_marks, put_state}
use Rattle.theory.proofs.lines.Packets.{append_new, append_on, append_ok}
use Rattle.theory.proofs.lines.Sections.{hold_ok, dirty_changes, mark-ok}
use Rattle.theory.proofs.steps.Steps.{zero_or_suc}

-- ---- what is marked, and where it is entered

pub dirty_coming : (m : Image) (c g i : ℕ) → c < length m.cards → Coming m g i → Coming (dirty_card m c) g i
unfolding dirty_card set_state with_cards dirty state count entry hand next_link hand_card next_granule
dirty_coming m c g i h (on_dirty q) = on_dirty (dirty_keeps m c (g / 64) h q)
dirty_coming m c g i h (on_entry q e hq he r) = on_entry q e hq he r
dirty_coming m c g i h (on_hand t ht q r) = on_hand t ht q r
dirty_coming m c g i h (on_card t ht q r) = on_card t ht q r

append_coming : {Mk : ℕ → Type 0} (m : Image) → PacketsOk Mk m.packets → (p a : ℕ) → p < 32 → count m p < 30 → (g i : ℕ) → Coming m g i → Coming (append m p a) g i
unfolding append with_packets dirty state count entry hand next_link hand_card next_granule
append_coming m o p a hp hc g i (on_dirty q) = on_dirty q
append_coming m o p a hp hc g i (on_entry q e hq he r) = let n = append_on o p a hp hc q e g (record { is_packet = hq; below = he; is_entry = r }) in on_entry q e n.is_packet n.below n.is_entry
append_coming m o p a hp hc g i (on_hand t ht q r) = on_hand t ht q r
append_coming m o p a hp hc g i (on_card t ht q r) = on_card t ht q r

-- the two cases of entering
pub enter_cases : (P : Image → Type 0) (m : Image) (t a : ℕ) → P (dirty_card m (a / 64)) → ((p : ℕ) → output m t ≡ suc p → P (append m p a)) → P (enter m t a)
unfolding enter
enter_cases P m t a z s = elim (zero_or_suc (output m t)) [ inl e ↦ rw (e, enter) z | inr (p, e) ↦ rw (e, enter) (s p e) ]

-- ---- the lines

-- a packet that is held by no tracer stands in no tracer's first two words
pub packet_unheld : (m : Image) (p : ℕ) → held m p ≡ false → (u j : ℕ) → u < 8 → j < 2 → nth m.tracers (8 * u + j) ≡ suc p → ⊥
unfolding held input output
packet_unheld m p e u zero hu hj x =
    let i : 8 * u ≡ 8 * u + 0 = omega arith in
    false≢ (sym e ∙ any_make 8 _ u hu (some_make _ 0 (eq-eqb _ _ (ap (nth m.tracers) i ∙ x))))
packet_unheld m p e u (suc zero) hu hj x = false≢ (sym e ∙ any_make 8 _ u hu (some_make _ 1 (eq-eqb _ _ x)))
packet_unheld m p e u (suc (suc j)) hu hj x = absurd (omega arith)

pub mark_lines : {m : Image} → Lines m → (a : ℕ) → Start m a → marked m a ≡ false → Lines (mark_object m a)
unfolding mark_object set_mark card_count marked
mark_lines {m} o a sa un = put_marks o _ _ (mark-ok o.marks_ok a sa sa.0 un) (λ g k. set_bit_keeps m.width m.marks a g (o.marks_ok.sized a sa.0) k)

emptiest_ok : (m : Image) (q : ℕ) → emptiest m ≡ suc q → (q < 32) × (held m q ≡ false) × (count m q < 30)
unfolding emptiest
emptiest_ok m q e = let u = best_ok _ _ 32 q e in (u.0, not-true _ (every_use _ u.1 0), ltb-true _ _ (every_use _ u.1 1))

-- a packet + 1, or 0
pub few_packets : (x : ℕ) → ((q : ℕ) → x ≡ suc q → q < 32) → x ≤ 32
few_packets x f = elim (zero_or_suc x) [ inl e ↦ omega arith | inr (q, e) ↦ omega (arith, f q e) ]

pub take_lines : {m : Image} → Lines m → (t : ℕ) → t < 8 → Lines (take_output m t)
unfolding take_output set_tracer with_tracers output
take_lines {m} o t ht =
    let m₀ : Image = set_tracer m t 1 0 in
    put_tracers o _ (elim (bool_cases (no_output m t)) [
      | inl b ↦ rw b (hold_ok o.tracers_ok t ht 1 (emptiest m₀) (omega arith) (few_packets _ (λ q e. (emptiest_ok m₀ q e).0))
          (λ u j p hu hj x y. elim (ℕ_discrete (8 * u + j) (8 * t + 1)) [
            | yes a ↦ (omega arith, omega arith)
            | no n ↦ absurd (packet_unheld m₀ p (emptiest_ok m₀ p x).1 u j hu hj (nth_put_other m.tracers (8 * t + 1) (8 * u + j) 0 n ∙ y))
          ]))
      | inr b ↦ rw b (hold_ok o.tracers_ok t ht 1 (nth m.tracers (8 * t + 1)) (omega arith) (o.tracers_ok.places.held t 1 ht (omega arith))
          (λ u j p hu hj x y. o.tracers_ok.places.once u j t 1 p hu ht hj (omega arith) y x))
    ])

-- the output packet that is taken is one of the 32 and has space
pub took : {m : Image} → Lines m → (t p : ℕ) → t < 8 → output (take_output m t) t ≡ suc p → (p < 32) × (count m p < 30)
unfolding take_output set_tracer with_tracers output no_output count
took {m} o t p ht e =
    let x = sym (nth_put_same m.tracers (8 * t + 1) (cond (no_output m t) (emptiest (set_tracer m t 1 0)) (output m t)) (omega (arith, o.tracers_ok.sized))) ∙ e in
    elim (bool_cases (no_output m t)) [
      | inl b ↦ let u = emptiest_ok (set_tracer m t 1 0) p (rw b at x) in (u.0, u.2)
      | inr b ↦ let s : output m t ≡ suc p = rw b at x in
          let q : output m t - 1 ≡ p = omega arith in
          (omega (arith, o.tracers_ok.places.held t 1 ht (omega arith)), rw q at (leb-false 30 (count m (output m t - 1)) (some_false _ b 1)))
    ]

pub dirty_lines : {m : Image} → Lines m → (c : ℕ) → c < m.k → Lines (dirty_card m c)
unfolding dirty_card set_state state
dirty_lines o c h = put_state o dirty_state dirty_changes c h

-- ---- reach

-- what no step of the collector but begin and finish writes
abbrev pub frame : Image → ℕ × ℕ × List ℕ
frame m = (m.width, m.k, m.general)

-- what no reach writes, but for the registers
abbrev unreached : Image → (ℕ × ℕ × List ℕ) × List ℕ × List ℕ × List ℕ
unreached m = (frame m, m.heap, m.starts, m.players)

-- what a reach leaves alone, and what it does
pub record ReachedOnce (m : Image) (a : ℕ) (m' : Image) : Type 0 where
  pub lines : Lines m'
  pub regs_same : m'.regs ≡ m.regs
  pub rest_same : unreached m' ≡ unreached m
  pub tracer_same : (u i : ℕ) → 2 ≤ i → i < 8 → nth m'.tracers (8 * u + i) ≡ nth m.tracers (8 * u + i)
  pub coming_kept : (g i : ℕ) → Coming m g i → Coming m' g i
  pub marks_up : (g : ℕ) → marked m g ≡ true → marked m' g ≡ true
  -- what is marked newly comes in full
  pub new_comes : (g i : ℕ) → marked m g ≡ false → marked m' g ≡ true → Coming m' g i
  pub now_marked : NilOr (λ g. marked m' g ≡ true) a

-- a link that leads where it led stays covered, if marks stay and what comes or is owed is covered
pub covered_on : (m m' : Image) (g i : ℕ) → link m' g i ≡ link m g i → ((a : ℕ) → marked m a ≡ true → marked m' a ≡ true) → (Coming m g i → Covered m' g i)
    → ((p r : ℕ) → p < 16 → r < 16 → owed m p ≡ suc (g / 64) → reg m p r ≡ link m g i → Covered m' g i) → Covered m g i → Covered m' g i
covered_on m m' g i e up coming owes (to_nil q) = to_nil (e ∙ q)
covered_on m m' g i e up coming owes (to_marked q) = to_marked (rw e (up _ q))
covered_on m m' g i e up coming owes (is_coming c) = coming c
covered_on m m' g i e up coming owes (is_owed (owes_by p r hp hr o q)) = owes p r hp hr o q

pub reached_cover : {m : Image} {a : ℕ} {m' : Image} → ReachedOnce m a m' → Cover m → Cover m'
unfolding granules links link word owed reg
reached_cover {m} {a} {m'} r cov g i hg k l =
    let hs : m'.heap ≡ m.heap = ap (λ f. f.1) r.rest_same in
    let ks : m'.k ≡ m.k = ap (λ f. f.0.1) r.rest_same in
    let us : m'.players ≡ m.players = ap (λ f. f.3) r.rest_same in
    elim (bool_cases (marked m g)) [
      | inl q ↦ covered_on m m' g i (rw hs) r.marks_up (λ c. is_coming (r.coming_kept g i c))
          (λ p s hp hr o e. is_owed (owes_by p s hp hr (rw us o) (rw (r.regs_same, hs) e))) (cov g i (rw ks at hg) q (rw hs at l))
      | inr q ↦ is_coming (r.new_comes g i q k)
    ]

-- a marked object is the one just marked, or was so
marks_new : (m : Image) (a g : ℕ) → marked m g ≡ false → marked (mark_object m a) g ≡ true → g ≡ a
unfolding mark_object set_mark with_marks with_counts marked
marks_new m a g u k = elim (ℕ_discrete g a) [ yes e ↦ e | no ne ↦ false≢ (sym u ∙ (sym (set_bit_other m.width m.marks a g ne) ∙ k)) ]

module _ (m : Image) (o : Lines m) (t a : ℕ) (ht : t < 8) where
  -- the object marked, and an output packet taken
  abbrev ready : Image
  ready = take_output (mark_object m a) t

  ready_coming : (g i : ℕ) → Coming m g i → Coming ready g i
  unfolding take_output mark_object set_mark with_marks with_counts
  ready_coming g i c = hold_coming (mark_object m a) t 1 _ (omega arith) g i (same_coming m (mark_object m a) refl refl refl g i c)

  reach_new : marked m a ≡ false → Start m a → ReachedOnce m a (enter ready t a)
  unfolding take_output set_tracer with_tracers mark_object set_mark with_marks with_counts dirty_card set_state with_cards append with_packets marked count entry
  reach_new un sa =
      let room = o.marks_ok.sized a sa.0 in
      let here = set_bit_same m.width m.marks a room in
      let o₁ = mark_lines o a sa un in
      let o₂ : Lines ready = take_lines o₁ t ht in
      let hc : a / 64 < m.k = omega (arith, sa.0) in
      let hc' : a / 64 < length m.cards = rw o.cards_ok.sized hc in
      enter_cases (ReachedOnce m a) ready t a
      (record {
        lines = dirty_lines o₂ (a / 64) hc;
        regs_same = refl;
        rest_same = refl;
        tracer_same = λ u i h h'. nth_put_other m.tracers (8 * t + 1) (8 * u + i) _ (omega arith);
        coming_kept = λ g i c. dirty_coming ready (a / 64) g i hc' (ready_coming g i c);
        marks_up = λ g k. set_bit_keeps m.width m.marks a g room k;
        new_comes = λ g i u k. rw (marks_new m a g u k) (on_dirty (dirty_same ready (a / 64) hc'));
        now_marked = inr here;
      })
      (λ p e.
      let r = took o₁ t p ht e in
      let n = append_new o.packets_ok p a r.0 r.1 in
      record {
        lines = put_packets o₂ _ (append_ok o₂.packets_ok p a r.0 r.1 here (λ q f i. false≢ (sym un ∙ o.packets_ok.full q f a i)));
        regs_same = refl;
        rest_same = refl;
        tracer_same = λ u i h h'. nth_put_other m.tracers (8 * t + 1) (8 * u + i) _ (omega arith);
        coming_kept = λ g i c. append_coming ready o.packets_ok p a r.0 r.1 g i (ready_coming g i c);
        marks_up = λ g k. set_bit_keeps m.width m.marks a g room k;
        new_comes = λ g i u k. rw (marks_new m a g u k) (on_entry p (count m p) n.is_packet n.below n.is_entry);
        now_marked = inr here;
      })

  reach_none : NilOr (λ g. marked m g ≡ true) a → ReachedOnce m a m
  reach_none n = record {
    lines = o;
    regs_same = refl;
    rest_same = refl;
    tracer_same = λ u i h h'. refl;
    coming_kept = λ g i c. c;
    marks_up = λ g k. k;
    new_comes = λ g i u k. false≢ (sym u ∙ k);
    now_marked = n;
  }

  pub reach_does : NilOr (Start m) a → ReachedOnce m a (reach m t a)
  unfolding reach
  reach_does ok =
      elim (bool_cases (some (eqb a 0 ∷ marked m a ∷ []))) [
        | inl e ↦ rw (e, reach) (reach_none (elim (some_use _ _ e) [
          | inl z ↦ inl (eqb-true _ _ z)
          | inr z ↦ inr (elim (some_use _ _ z) [ inl q ↦ q | inr q ↦ some_nil q ])
        ]))
        | inr e ↦ rw (e, reach) (elim ok [ inl z ↦ absurd (eqb-false _ _ (some_false _ e 0) z) | inr sa ↦ reach_new (some_false _ e 1) sa ])
      ]

-- ---- a list of reaches

pub each_take : (P : ℕ → Type 0) → P 0 → (n : ℕ) (l : List ℕ) → ((i : ℕ) → P (nth l i)) → (i : ℕ) → P (nth (take n l) i)
unfolding nth
each_take P z zero l f i = z
each_take P z (suc n) [] f i = z
each_take P z (suc n) (x ∷ l) f zero = f zero
each_take P z (suc n) (x ∷ l) f (suc i) = each_take P z n l (λ j. f (suc j)) i

-- the lines and Cover hold
pub record StepStays (m m' : Image) : Type 0 where
  pub lines : Lines m'
  pub cover : Cover m'
  pub frame_same : frame m' ≡ frame m

-- what holds of no reach, of each and of one after another holds of a list of them
pub reach_all_by : (R : Image → Image → Type 0) → ((m : Image) → Lines m → R m m) → ((l m n : Image) → R l m → R m n → R l n)
    → (t : ℕ) → t < 8 → ((m : Image) → Lines m → (a : ℕ) → NilOr (Start m) a → R m (reach m t a))
    → (m : Image) → Lines m → (l : List ℕ) → ((i : ℕ) → NilOr (Start m) (nth l i)) → R m (reach_all m t l)
unfolding reach_all nth
reach_all_by R same both t ht each m o [] f = same m o
reach_all_by R same both t ht each m o (a ∷ l) f =
    let r = reach_does m o t a ht (f zero) in
    let e = r.rest_same in
    both m (reach m t a) _ (each m o a (f zero)) (reach_all_by R same both t ht each (reach m t a) r.lines l (λ i. rw (ap (λ x. x.0.1) e, ap (λ x. x.0.0) e, ap (λ x. x.2) e) (f (suc i))))

pub reach_all_does : (m : Image) → Lines m → Cover m → (t : ℕ) → t < 8 → (l : List ℕ) → ((i : ℕ) → NilOr (Start m) (nth l i)) → StepStays m (reach_all m t l)
reach_all_does m o cov t ht l f =
    reach_all_by (λ x y. Cover x → StepStays x y) (λ x p c. record { lines = p; cover = c; frame_same = refl })
    (λ x y z p q c. let r = p c in let s = q r.cover in record { lines = s.lines; cover = s.cover; frame_same = s.frame_same ∙ r.frame_same })
    t ht (λ x p a ok c. let r = reach_does x p t a ht ok in record { lines = r.lines; cover = reached_cover r c; frame_same = ap (λ z. z.0) r.rest_same }) m o l f cov
