-- The ways out of a call: refused by a misfit, refused as damaged, or a verdict.
use mathlib.Core.Path.{◌≡◌, refl, sym, ap, ◌∙◌}
use mathlib.Core.Logic.{inl, inr}
use mathlib.Core.Bool.{Bool, true, false, not}
use mathlib.Core.List.{List, [], ◌∷◌}
use Prim.Native.Nat.{ℕ, ◌*◌, ◌%◌}
use native.Mathlib.Omega.{arith}
use lib.ListN.{length}
use borrow.Author.Tests.{eq-eqb, ne_eqb, eqb-true, not-true, not-false}
use Rattle.model.specs.Base.{some, first, zeros}
use Rattle.model.specs.Image.{cards_of, image_of}
use Rattle.model.specs.Undamaged.{undamaged}
use Rattle.model.specs.Report.{verdict, scratch_words, report_misfit, either_damaged, report_number, report_with, report_at}
use Rattle.model.proofs.Laws.{bool_cases, some_false}
use Rattle.theory.specs.Lines.{Sound}
use Rattle.theory.proofs.lines.Judged.{undamaged_use}
use Rattle.theory.proofs.lines.Sizes.{fits_sizes}
use Rattle.image_laws.specs.Size.{extent_by, extent_of}
use Rattle.image_laws.specs.Sized.{Sized}
use Rattle.std.proofs.Common.{Option, Some, None}
use Rattle.image_laws.proofs.Lengths.{sized_as}
use Rattle.image_laws.proofs.Sections.{image_fits}
use Rattle.image_laws.proofs.Size.{fits_sized, sized_cards, sized_parts, misfit_fits, cards_fits, cards_sized}
use Rattle.report_laws.specs.Reported.{reported_of, report_extent}

-- ---- the four lengths

scratch_eighth : (k : ℕ) → scratch_words k ≡ 8 * k
unfolding scratch_words
scratch_eighth k = omega arith

module _ (w : ℕ) (fs ss bs sc : List ℕ) (s : Option ℕ) (e : s ≡ extent_of w (length fs)) where
  pub first_misfit : s ≡ None → None ≡ report_extent w fs ss bs sc
  unfolding report_extent report_misfit some extent_by
  first_misfit q = rw (misfit_fits w fs s e q)

  module _ (k : ℕ) (q : s ≡ Some k) where
    cards_k : cards_of w (length fs) ≡ k
    cards_k = sized_cards w k fs (cards_sized w fs s e k q)

    pub second_misfit : (length ss ≡ length fs → ⊥) → None ≡ report_extent w fs ss bs sc
    unfolding report_extent report_misfit some extent_by
    second_misfit h = rw (cards_fits w fs s e k q, ne_eqb _ _ h)

    module _ (l : length ss ≡ length fs) where
      pub bytes_misfit : (length bs % 4 ≡ 0 → ⊥) → None ≡ report_extent w fs ss bs sc
      unfolding report_extent report_misfit some extent_by
      bytes_misfit h = rw (cards_fits w fs s e k q, eq-eqb _ _ l, ne_eqb _ _ h)

      module _ (r : length bs % 4 ≡ 0) where
        pub scratch_misfit : (length sc ≡ 8 * k → ⊥) → None ≡ report_extent w fs ss bs sc
        unfolding report_extent report_misfit some extent_by
        scratch_misfit h = rw (cards_fits w fs s e k q, eq-eqb _ _ l, eq-eqb _ _ r, cards_k, scratch_eighth k, ne_eqb _ _ h)

        pub lengths_fit : length sc ≡ 8 * k → Some k ≡ report_extent w fs ss bs sc
        unfolding report_extent report_misfit some extent_by
        lengths_fit h = rw (cards_fits w fs s e k q, eq-eqb _ _ l, eq-eqb _ _ r, cards_k, scratch_eighth k, eq-eqb _ _ h)

-- ---- both images

module _ (w k : ℕ) (fs ss : List ℕ) (zf : Sized w k fs) (zs : Sized w k ss) (u : Bool) (eu : u ≡ undamaged (image_of w k fs)) where
  not_damaged : (v : Bool) → v ≡ undamaged (image_of w k ss) → not (some (not u ∷ not v ∷ [])) ≡ not (either_damaged w fs ss)
  unfolding either_damaged
  not_damaged v ev = rw (sized_parts w k fs zf, sized_parts w k ss zs, eu, ev)

  pub first_damaged : u ≡ false → false ≡ not (either_damaged w fs ss)
  unfolding some
  first_damaged d = rw d at (not_damaged _ refl)

  pub by_second : u ≡ true → (v : Bool) → v ≡ undamaged (image_of w k ss) → v ≡ not (either_damaged w fs ss)
  unfolding some
  by_second d true ev = rw d at (not_damaged true ev)
  by_second d false ev = rw d at (not_damaged false ev)

-- ---- the call

module _ (w : ℕ) (fs ss bs sc : List ℕ) (s : Option ℕ) (e : s ≡ report_extent w fs ss bs sc) where
  misfits : s ≡ None → report_misfit w fs ss bs sc ≡ true
  unfolding report_extent extent_by
  misfits q = elim (bool_cases (report_misfit w fs ss bs sc)) [ inl h ↦ h | inr h ↦ cc ]

  pub call_misfit : s ≡ None → reported_of 1 sc ≡ report_at w fs ss bs sc
  unfolding report_at report_number first report_with
  call_misfit q = rw (misfits q)

  module _ (k : ℕ) (q : s ≡ Some k) where
    fit : report_misfit w fs ss bs sc ≡ false
    unfolding report_extent extent_by
    fit = elim (bool_cases (report_misfit w fs ss bs sc)) [ inl h ↦ cc | inr h ↦ h ]

    same_cards : cards_of w (length fs) ≡ k
    unfolding report_extent extent_by
    same_cards = let h = fit in cc

    pub call_sized : Sized w k fs × Sized w k ss
    unfolding report_misfit
    call_sized =
        let f = some_false _ fit in
        let z : Sized w k fs = rw same_cards at (fits_sized w fs (not-false _ (f 0))) in
        (z, sized_as z (eqb-true _ _ (not-false _ (f 1))))

    pub call_scratch : length sc ≡ scratch_words k
    unfolding report_misfit
    call_scratch = eqb-true (length sc) (scratch_words (cards_of w (length fs))) (not-false _ (some_false _ fit 3)) ∙ ap scratch_words same_cards

    module _ (b : Bool) (eb : b ≡ not (either_damaged w fs ss)) where
      pub call_damaged : b ≡ false → reported_of 2 sc ≡ report_at w fs ss bs sc
      unfolding report_at report_number first report_with
      call_damaged d = rw (fit, not-false (either_damaged w fs ss) (sym eb ∙ d))

      module _ (d : b ≡ true) where
        undamaged_both : (undamaged (image_of w k fs) ≡ true) × (undamaged (image_of w k ss) ≡ true)
        unfolding either_damaged
        undamaged_both =
            let f = some_false _ (not-true (either_damaged w fs ss) (sym eb ∙ d)) in
            (ap undamaged (sym (sized_parts w k fs call_sized.0)) ∙ not-false _ (f 0), ap undamaged (sym (sized_parts w k ss call_sized.1)) ∙ not-false _ (f 1))

        pub call_sound : Sound (image_of w k fs) × Sound (image_of w k ss)
        call_sound = (
          (undamaged_use _ (fits_sizes _ (image_fits call_sized.0)) undamaged_both.0).sound,
          (undamaged_use _ (fits_sizes _ (image_fits call_sized.1)) undamaged_both.1).sound,
        )

        pub call_verdict : (r : ℕ) (sc' : List ℕ) → r ≡ verdict (image_of w k fs) (image_of w k ss) bs → sc' ≡ zeros sc → reported_of r sc' ≡ report_at w fs ss bs sc
        unfolding report_at report_number first report_with
        call_verdict r sc' er es =
            rw (fit, not-true (either_damaged w fs ss) (sym eb ∙ d), sized_parts w k fs call_sized.0, sized_parts w k ss call_sized.1, er, es)
