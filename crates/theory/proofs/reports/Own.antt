-- A report of exactly what our own finish freed is acceptable, and there is one: from demand 3c and 3d.
use mathlib.Core.Path.{◌≡◌, refl, sym, ap, subst, ◌∙◌}
use mathlib.Core.Bool.{true, false, not}
use mathlib.Core.List.{List, [], ◌∷◌, ◌++◌, Memᴰ}
use Prim.Native.Nat.{ℕ, suc, ◌+◌, ◌%◌, ◌<◌}
use native.Mathlib.Decide.{ℕ_discrete}
use native.Mathlib.Omega.{arith}
use lib.Dec.{ltb}
use lib.ListN.{length, get_or}
use borrow.Author.Tests.{not-true, not-false, eq-eqb, lt-ltb, ltb-true}
use Rattle.model.specs.Base.{every, some, first, zeros}
use Rattle.model.specs.Image.{Image, granules, is_start, size, fits, cards_of, image, image_of, parts, words}
use Rattle.model.specs.Undamaged.{undamaged, judge_at}
use Rattle.model.specs.Records.{begin, finish}
use Rattle.model.specs.Mutate.{Placing}
use Rattle.model.specs.Steps.{Event}
use Rattle.model.specs.Claim.{Chain, Lent, history, Accepted, Finishes, Claim}
use Rattle.model.specs.Report.{chain_set, covered, bad_stretch, held_freed, lost_missed, verdict, scratch_words, report_misfit, either_damaged, report_number, report_with, report_at, report_of}
use Rattle.model.specs.OwnReport.{freed_by, TrueReport, SomeReport, OwnReport}
use Rattle.model.proofs.Laws.{false≢, not_make, any_use, any_make, every_use, every_cons, every_nil, first_none}
use Rattle.model.proofs.Sited.{Sited}
use Rattle.model.proofs.Words.{length_words}
use Rattle.model.proofs.Chains.{set_chain, chain-set}
use Rattle.theory.specs.Lines.{Lines, Passes}
use Rattle.theory.proofs.cycle.Linked.{linked_fine}
use Rattle.theory.proofs.finish.Safe.{chain_start}
use Rattle.theory.proofs.heap.Facts.{heap_filled_of, laid_of, proper_of}
use Rattle.theory.proofs.heap.Walk.{object-at}
use Rattle.theory.proofs.lines.Passing.{judge_use, passes_fit, words_round, judge_make, sited_of}
use Rattle.theory.proofs.Histories.{history_linked}
use Rattle.theory.proofs.InOrder.{OfCards, steady_cards}
use Rattle.theory.proofs.Demand.{demand_three}
use Rattle.theory.proofs.reports.Listed.{some_report}

-- ---- 13 and 14, from what the claim says of a begin and the next finish

module _ (m n n' : Image) (bs : List ℕ) (sm : Sited m) (sn : Sited n) (o : Lines n) (r : TrueReport n n' bs) where
  -- an object at a freed granule is the one that was freed: objects lie apart
  freed_start : (a : ℕ) → is_start n a ≡ true → freed_by n n' a ≡ true → is_start n' a ≡ false
  unfolding freed_by
  freed_start a e f =
      let u = any_use (suc a) (λ s. every (is_start n s ∷ not (is_start n' s) ∷ ltb a (s + size n s) ∷ [])) f in
      let v = every_use _ u.2 in
      let b = ltb-true a (u.0 + size n u.0) (v 2) in
      elim (ℕ_discrete u.0 a) [
        | yes q ↦ subst (λ x. is_start n' x ≡ false) q (not-true _ (v 1))
        | no q ↦ absurd (omega (arith, (laid_of o).apart u.0 a (v 0) e (omega (arith, u.1)), b))
      ]

  none_held : Finishes n n' → held_freed n bs ≡ false
  unfolding held_freed
  none_held f = not-true _ (not_make _ (λ e. go (any_use (granules n) (λ g. every (get_or (chain_set n) g false ∷ covered bs g ∷ [])) e)))
    where
      go : (g : ℕ) × (g < granules n) × (every (get_or (chain_set n) g false ∷ covered bs g ∷ []) ≡ true) → ⊥
      go u =
          let v = every_use _ u.2 in
          let c : Chain n u.0 = set_chain n sn u.0 (v 0) in
          false≢ (sym (freed_start u.0 (chain_start n (proper_of o) c) (sym (r.exactly_freed u.0) ∙ v 1)) ∙ (f.reached_stay u.0 c).stays)

  gone_covered : (g : ℕ) → is_start n g ≡ true → is_start n' g ≡ false → covered bs g ≡ true
  unfolding freed_by
  gone_covered g e d =
      r.exactly_freed g
      ∙ any_make (suc g) _ g (omega arith) (every_cons _ _ e (every_cons _ _ (ap not d) (every_cons _ _ (lt-ltb g (g + size n g) (omega (arith, (object-at n (heap_filled_of o) g e).sized))) every_nil)))

  none_lost : ((g : ℕ) → is_start m g ≡ true → (Chain m g → ⊥) → (is_start n g ≡ true) × (is_start n' g ≡ false)) → lost_missed m bs ≡ false
  unfolding lost_missed
  none_lost f = not-true _ (not_make _ (λ e. go (any_use (granules m) (λ g. every (is_start m g ∷ not (get_or (chain_set m) g false) ∷ not (covered bs g) ∷ [])) e)))
    where
      go : (g : ℕ) × (g < granules m) × (every (is_start m g ∷ not (get_or (chain_set m) g false) ∷ not (covered bs g) ∷ []) ≡ true) → ⊥
      go u =
          let v = every_use _ u.2 in
          let w = f u.0 (v 0) (λ c. false≢ (sym (not-true _ (v 1)) ∙ chain-set m sm u.0 c)) in
          false≢ (sym (not-true _ (v 2)) ∙ gone_covered u.0 w.0 w.1)

no_refusal : (m n : Image) (bs : List ℕ) → bad_stretch n bs ≡ false → held_freed n bs ≡ false → lost_missed m bs ≡ false → verdict m n bs ≡ 0
unfolding verdict first
no_refusal m n bs p q r = rw (p, q, r)

-- ---- the images of a history

-- the image that an event got passes, and has as many cards as the first
got_good : (rule : Placing) (w : ℕ) (ws : List ℕ) (lent : List Lent) → judge_at w ws ≡ 0 → (e : Event) → Memᴰ e (history rule w ws lent) → OfCards w (parts w ws).k e.got
got_good rule w ws lent j e k = (linked_fine rule _ (steady_cards rule w (parts w ws).k) (history_linked rule w ws lent j) (judge_use w ws j, refl) e k).got_ok

-- what passes, as its words
module _ (w : ℕ) (m : Image) (p : Passes w m) where
  fits_words : fits w (length (words m)) ≡ true
  unfolding judge_at
  fits_words = not-false _ (first_none 0 _ (judge_make w m p) 0)

  undamaged_words : undamaged (parts w (words m)) ≡ true
  unfolding judge_at
  undamaged_words = not-false _ (first_none 0 _ (judge_make w m p) 1)

  cards_words : cards_of w (length (words m)) ≡ m.k
  unfolding parts image_of image
  cards_words = ap (λ (x : Image). x.k) (words_round w m p)

-- ---- the call

module _ (w : ℕ) (m n : Image) (p : Passes w m) (q : Passes w n) (ek : n.k ≡ m.k) (bs sc : List ℕ) where
  same_length : length (words n) ≡ length (words m)
  same_length = length_words n (passes_fit w n q) ∙ (rw (q.same_width, p.same_width, ek) refl ∙ sym (length_words m (passes_fit w m p)))

  accepted : length bs % 4 ≡ 0 → length sc ≡ scratch_words m.k → verdict m n bs ≡ 0 → report_at w (words m) (words n) bs sc ≡ record { result = 0; scratch = zeros sc }
  unfolding report_at report_number report_misfit either_damaged report_with first some
  accepted l h v =
      rw (fits_words w m p, eq-eqb _ _ same_length, eq-eqb _ _ l, cards_words w m p, eq-eqb _ _ h, undamaged_words w m p, undamaged_words w n q, words_round w m p, words_round w n q, v)

-- ---- the theorem

pub own_report : (rule : Placing) (ws : List ℕ) (lent : List Lent) → judge_at 16 ws ≡ 0 → OwnReport rule ws lent
unfolding report_of granules
own_report rule ws lent j = record { acceptable = go; there_is_one = λ f k a. one f (got_good rule 16 ws lent j f k).0 }
  where
    claim : Claim rule 16 ws lent
    claim = demand_three rule 16 ws lent j

    one : (f : Event) → Passes 16 f.got → SomeReport f.got f.done.image
    one f p = some_report f.got f.done.image p.is_undamaged.sound.lines (omega (arith, p.cards_most))

    go : (b f : Event) (before mid behind : List Event) → history rule 16 ws lent ≡ before ++ (b ∷ (mid ++ (f ∷ behind)))
        → Accepted begin b → ((e : Event) → Memᴰ e mid → Accepted finish e → ⊥) → Accepted finish f
        → (bs sc : List ℕ) → TrueReport f.got f.done.image bs → length sc ≡ scratch_words b.got.k
        → report_of (words b.got) (words f.got) bs sc ≡ record { result = 0; scratch = zeros sc }
    go b f before mid behind e ab nf af bs sc r h =
        let in_b : Memᴰ b (history rule 16 ws lent) = subst (Memᴰ b) (sym e) (mathlib.Core.List.Memᴰ.append_right before (mathlib.Core.List.Memᴰ.head refl)) in
        let in_f : Memᴰ f (history rule 16 ws lent) = subst (Memᴰ f) (sym e) (mathlib.Core.List.Memᴰ.append_right before (mathlib.Core.List.Memᴰ.tail (mathlib.Core.List.Memᴰ.append_right mid (mathlib.Core.List.Memᴰ.head refl)))) in
        let gb = got_good rule 16 ws lent j b in_b in
        let gf = got_good rule 16 ws lent j f in_f in
        let sb = sited_of b.got (passes_fit 16 b.got gb.0) gb.0.is_undamaged.sound in
        let sf = sited_of f.got (passes_fit 16 f.got gf.0) gf.0.is_undamaged.sound in
        let o = gf.0.is_undamaged.sound.lines in
        accepted 16 b.got f.got gb.0 gf.0 (gf.1 ∙ sym gb.1) bs sc r.whole_records h
        (no_refusal b.got f.got bs r.none_bad
        (none_held b.got f.got f.done.image bs sb sf o r (claim.finishes f in_f af))
        (none_lost b.got f.got f.done.image bs sb sf o r (claim.frees_unreached b f before mid behind e ab nf af)))
