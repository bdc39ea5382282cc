-- What soundness gives Cover; the ways out of `is_undamaged` and of `judge`.
use mathlib.Core.Path.{◌≡◌, sym, ◌∙◌}
use mathlib.Core.Bool.{Bool, true, false, not, and-true}
use mathlib.Core.List.{List, [], ◌∷◌}
use Prim.Native.Nat.{ℕ, suc}
use native.Mathlib.Omega.{arith}
use lib.ListN.{length}
use borrow.Author.Tests.{eq-eqb, not-true, not-false}
use Rattle.model.specs.Base.{every, implies, first}
use Rattle.model.specs.Image.{image_of, granules, running}
use Rattle.model.specs.Undamaged.{idle_ok, sound, cover, undamaged, judge_at}
use Rattle.model.proofs.Laws.{all_make, every_use, imp_use}
use Rattle.image_laws.specs.Size.{extent_of}
use Rattle.std.proofs.Common.{Option, Some, None}
use Rattle.judge_laws.specs.Order.{Coverable}
use Rattle.image_laws.specs.Sized.{Sized}
use Rattle.image_laws.proofs.Sections.{image_fits, granules_image}
use Rattle.image_laws.proofs.Size.{misfit_fits, cards_fits, cards_sized, cards_parts}
use Rattle.theory.specs.Heap.{Laid}
use Rattle.theory.specs.Lines.{Lines}
use Rattle.theory.proofs.heap.Facts.{laid_of, proper_of}
use Rattle.theory.proofs.lines.Judged.{sound_use}
use Rattle.theory.proofs.lines.Sizes.{fits_sizes}
use Rattle.soundness_laws.proofs.Lines.{no_mark}
use Rattle.soundness_laws.proofs.Packets.{all_packets, packed}

-- ---- what soundness gives, and the ways out of `is_undamaged`

module _ (w k : ℕ) (l : List ℕ) (z : Sized w k l) (s : Bool) (e : s ≡ sound (image_of w k l)) where
  pub un_sound : not s ≡ true → false ≡ undamaged (image_of w k l)
  unfolding undamaged every
  un_sound h = rw (← e, not-true s h)

  pub ready_of : not s ≡ false → Coverable k (image_of w k l)
  unfolding sound
  ready_of h =
      let t : sound (image_of w k l) ≡ true = sym e ∙ not-false s h in
      let o : Lines (image_of w k l) = (sound_use (image_of w k l) (fits_sizes _ (image_fits z)) t).lines in
      let d : Laid (image_of w k l) = laid_of o in
      record {
        inside = λ g h q. omega (arith, d.inside g (d.marks_start g q), granules_image w k l);
        to_starts = λ g q i. (proper_of o).link_start g i (d.marks_start g q);
        two_links = λ g q r. omega (arith, d.inside g (d.marks_start g q), d.apart g (suc g) (d.marks_start g q) (d.marks_start (suc g) r) (omega arith));
        packed = packed w k l z (sym (all_packets w k l z) ∙ every_use _ t 8);
      }

  pub un_cover : (r : Bool) → not s ≡ false → r ≡ cover (image_of w k l) → r ≡ undamaged (image_of w k l)
  unfolding undamaged every
  un_cover r h q = rw (← e, not-false s h, ← q) (sym (and-true r))

  -- with no cycle nothing is marked
  pub un_still : (v : ℕ) → not s ≡ false → v ≡ running (image_of w k l) → v ≡ 0 → true ≡ undamaged (image_of w k l)
  unfolding sound idle_ok cover implies
  un_still v h ev y =
      let i = imp_use _ _ (every_use _ (sym e ∙ not-false s h) 12) (eq-eqb _ 0 (sym ev ∙ y)) in
      un_cover true h (sym (all_make (granules (image_of w k l)) _ (λ g b. rw (no_mark w k l (every_use _ i 0) g))))

-- ---- the ways out of `judge`

module _ (w : ℕ) (l : List ℕ) (s : Option ℕ) (e : s ≡ extent_of w (length l)) where
  pub judged_misfit : s ≡ None → 1 ≡ judge_at w l
  unfolding judge_at first
  judged_misfit q = rw (misfit_fits w l s e q)

  module _ (k : ℕ) (q : s ≡ Some k) where
    pub judged_sized : Sized w k l
    judged_sized = cards_sized w l s e k q

    module _ (r : Bool) (er : r ≡ undamaged (image_of w k l)) where
      judged_by : judge_at w l ≡ first 1 (false ∷ not r ∷ [])
      unfolding judge_at
      judged_by = rw (cards_fits w l s e k q, cards_parts w l s e k q, ← er)

      pub judged_0 : not r ≡ false → 0 ≡ judge_at w l
      unfolding first
      judged_0 h = rw (judged_by, h)

      pub judged_2 : not r ≡ true → 2 ≡ judge_at w l
      unfolding first
      judged_2 h = rw (judged_by, h)
