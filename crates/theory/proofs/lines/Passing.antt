-- Judging words returns 0 where their image passes, and the words of an image that passes are judged 0.
use mathlib.Core.Path.{◌≡◌, refl, ap, subst, ◌∙◌}
use mathlib.Core.Bool.{true}
use mathlib.Core.List.{List}
use Prim.Native.Nat.{ℕ}
use lib.ListN.{length}
use borrow.Author.Tests.{not-false}
use Rattle.model.specs.Base.{first}
use Rattle.model.specs.Image.{Image, fits, image, image_of, parts, words}
use Rattle.model.specs.Undamaged.{undamaged, judge_at}
use Rattle.model.proofs.Laws.{first_none}
use Rattle.model.proofs.Words.{Fits, parts_fit, parts_words, words_fit}
use Rattle.model.proofs.Sited.{Sited, sited}
use Rattle.theory.specs.Lines.{Sizes, Sound, Passes}
use Rattle.theory.proofs.lines.Judged.{sound_make, undamaged_use, undamaged_make}
use Rattle.theory.proofs.lines.Sizes.{fits_sizes, lines_fits}

pub parts_sizes : (w : ℕ) (ws : List ℕ) → fits w (length ws) ≡ true → Sizes (parts w ws)
parts_sizes w ws f = fits_sizes (parts w ws) (parts_fit w ws f)

pub parts_pass : (w : ℕ) (ws : List ℕ) → fits w (length ws) ≡ true → undamaged (parts w ws) ≡ true → Passes w (parts w ws)
unfolding parts image_of image
parts_pass w ws f e = record { is_undamaged = undamaged_use (parts w ws) (parts_sizes w ws f) e; same_width = refl; cards_most = (parts_fit w ws f).few_cards }

pub judge_use : (w : ℕ) (ws : List ℕ) → judge_at w ws ≡ 0 → Passes w (parts w ws)
unfolding judge_at
judge_use w ws e = parts_pass w ws (not-false _ (first_none 0 _ e 0)) (not-false _ (first_none 0 _ e 1))

pub passes_fit : (w : ℕ) (m : Image) → Passes w m → Fits m
passes_fit w m p = lines_fits p.is_undamaged.sound.lines (rw p.same_width p.cards_most)

pub words_round : (w : ℕ) (m : Image) → Passes w m → parts w (words m) ≡ m
words_round w m p = subst (λ x. parts x (words m) ≡ m) p.same_width (parts_words m (passes_fit w m p))

pub judge_make : (w : ℕ) (m : Image) → Passes w m → judge_at w (words m) ≡ 0
unfolding judge_at first
judge_make w m p =
    let e : fits w (length (words m)) ≡ true = subst (λ x. fits x (length (words m)) ≡ true) p.same_width (words_fit m (passes_fit w m p)) in
    rw (e, ap undamaged (words_round w m p) ∙ undamaged_make m p.is_undamaged)

-- ---- a sound image is sited

pub sited_of : (m : Image) → Fits m → Sound m → Sited m
sited_of m f s = rw (parts_words m f) at (sited m.width (words m) (words_fit m f) (rw (parts_words m f) (sound_make m s)))
