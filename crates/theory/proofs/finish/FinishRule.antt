-- A finish as a step: its rule on every image that is undamaged but for Cover, and what it never frees on undamaged ones.
use mathlib.Core.Path.{◌≡◌, refl, sym, ap, ◌∙◌}
use mathlib.Core.Logic.{◌↔◌}
use mathlib.Core.Bool.{true}
use mathlib.Core.List.{List}
use Prim.Native.Nat.{ℕ, ◌*◌, ◌<◌}
use native.Mathlib.Decide.{ℕ_discrete, dec_lt}
use native.Mathlib.Omega.{arith}
use lib.ListN.{length}
use Rattle.model.specs.Image.{Image, granules, word, is_start, size, sections, fits, image, image_of, parts, words}
use Rattle.model.specs.Undamaged.{sound}
use Rattle.model.specs.Records.{Step, finish, kind_of}
use Rattle.model.specs.Finish.{Finish, kept_set, Kept, finish_with, finish_step}
use Rattle.model.specs.Mutate.{Placing}
use Rattle.model.specs.Steps.{accept, finish_done, act, step}
use Rattle.model.specs.Batch.{finish_at}
use Rattle.model.proofs.Found.{kept_is}
use Rattle.model.proofs.Words.{Fits, parts_fit, parts_words}
use Rattle.theory.specs.Finish.{FinishMade, FinishRule, FinishSafe}
use Rattle.theory.specs.Lines.{Lines, Undamaged}
use Rattle.theory.proofs.steps.Beginning.{length_zeros}
use Rattle.theory.proofs.finish.Replaced.{off_length}
use Rattle.theory.proofs.heap.Facts.{heap_filled_of, heap_sized_of, laid_of, proper_of}
use Rattle.theory.proofs.finish.FinishKept.{finish_does, finish_keeps}
use Rattle.theory.proofs.finish.FinishMade.{finish_made, freed_run, freed_zero}
use Rattle.theory.proofs.lines.Judged.{sound_use}
use Rattle.theory.proofs.lines.Passing.{parts_sizes}
use Rattle.theory.proofs.steps.Steps.{step_number, accepted}

-- an accepted finish is the finish of the model
pub finish-step : (rule : Placing) (m : Image) (s : Step) → kind_of s.kind ≡ finish → (step rule m s).number ≡ 0 → ((step rule m s).image ≡ (finish_step m).image) × ((step rule m s).value ≡ (finish_step m).value)
unfolding act finish_done accept
finish-step rule m s k e = let a = accepted rule m s k (sym (step_number rule m s k) ∙ e) in (ap (λ d. d.image) a, ap (λ d. d.value) a)

-- ---- the rule, on images that are undamaged but for Cover

module _ (w : ℕ) (ws : List ℕ) (fit : fits w (length ws) ≡ true) (ok : sound (parts w ws) ≡ true) where
  abbrev m : Image
  m = parts w ws

  abbrev f : Finish
  f = finish_step m

  o : Lines m
  o = (sound_use m (parts_sizes w ws fit) ok).lines

  made : FinishMade m (kept_set m) f
  made = finish_made m (heap_filled_of o) (heap_sized_of o)

  starts_are : (g : ℕ) → (is_start f.image g ≡ true) ↔ (is_start m g ≡ true) × Kept m g
  starts_are g = (λ h. (kept_is w ws fit ok g).0 (sym (made.starts g) ∙ h), λ k. made.starts g ∙ (kept_is w ws fit ok g).1 k)

  kept_words : (g i : ℕ) → is_start m g ≡ true → Kept m g → i < 4 * size m g → word f.image g i ≡ word m g i
  kept_words g i h k l = made.words g i ((kept_is w ws fit ok g).1 (h, k)) l

  -- an object that is left was there, as large
  was : (h : ℕ) → is_start f.image h ≡ true → (is_start m h ≡ true) × Kept m h × (size f.image h ≡ size m h)
  unfolding size
  was h s = let r = (starts_are h).0 s in (r.0, r.1, kept_words h 0 r.0 r.1 (omega (arith, (laid_of o).inside h r.0)))

  pub finish_rule : FinishRule m f
  unfolding finish_step finish_with granules
  finish_rule = record {
    starts_are = starts_are;
    kept_words = kept_words;
    value_is = made.grown;
    freed_unused = λ g y s nk l q. record {
      in_range = (omega (arith, (heap_filled_of o).start_range g s), omega (arith, (laid_of o).inside g s));
      in_no_object = λ h t a b.
          let r = was h t in
          elim (ℕ_discrete h g) [
            | yes e ↦ nk (rw e at r.1)
            | no e ↦ elim (dec_lt h g) [
              | yes d ↦ omega (arith, r.2, (laid_of o).apart h g r.0 s d)
              | no d ↦ omega (arith, r.2, (laid_of o).apart g h s r.0 (omega arith))
            ]
          ];
    };
    unused_stays = λ y u. record { in_range = u.in_range; in_no_object = λ h s l q. let r = was h s in u.in_no_object h r.0 l (omega (arith, r.2)) };
    in_run = freed_run made;
    zeroed = freed_zero made;
  }

  -- ---- the same of the words that a finish alone leaves

  left_fits : Fits f.image
  unfolding finish_step finish_with sections granules
  left_fits =
      let k : Fits m = parts_fit w ws fit in
      let e : 4 * (64 * m.k) ≡ 256 * m.k = omega arith in
      record {
        some_card = k.some_card;
        few_cards = k.few_cards;
        section_lengths =
            rw (
              made.filled.heap_words,
              e,
              made.starts_length ∙ o.heap_ok.starts_sized,
              length_zeros m.marks ∙ o.marks_ok.exact,
              length_zeros m.cards ∙ o.cards_ok.sized,
              length_zeros m.counts ∙ o.marks_ok.counts_sized,
              o.regs_ok.sized,
              length_zeros m.packets ∙ o.packets_ok.sized,
              length_zeros m.tracers ∙ o.tracers_ok.sized,
              off_length m.players ∙ o.players_ok.sized,
              made.general_length ∙ o.general-ok.sized,
            )
            refl;
      }

  pub finish_rule_words : FinishRule m (record { image = parts w (finish_at w ws).image; value = (finish_at w ws).value })
  unfolding finish_at
  finish_rule_words =
      let left_is : parts w (words f.image) ≡ f.image = unfold finish_step finish_with parts image_of image in parts_words f.image left_fits in
      rw left_is finish_rule

-- ---- on undamaged images

pub finish_safe : (m : Image) → Undamaged m → FinishSafe m (finish_step m).image
finish_safe m u = record { nothing_dangles = proper_of (finish_keeps m u).sound.lines; reached_stay = (finish_does m u).reached_stay }
