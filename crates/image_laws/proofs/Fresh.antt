-- A fresh store, as the words are written.
use mathlib.Core.Path.{◌≡◌, sym, ◌∙◌}
use mathlib.Core.List.{List}
use Rattle.std.proofs.Common.{Option, Some, None}
use Prim.Native.Nat.{ℕ, ◌*◌, ◌-◌}
use Rattle.image_laws.specs.Fresh.{made_of}
use Rattle.image_laws.specs.Size.{extent_of}
use Rattle.image_laws.proofs.Size.{sized_cards, misfit_fits, cards_fits, cards_sized}
use Rattle.model.specs.Image.{image_of, set_word, set_first_run}
use Rattle.model.specs.Undamaged.{fresh_store, made, fresh_at}
use lib.ListN.{length, replicate}
use Rattle.image_laws.specs.Sized.{Sized}
use Rattle.image_laws.proofs.Sections.{words_image}

-- a slice of zeros with the run's length and the first free run written
module _ (w k : ℕ) (ws zs us vs : List ℕ) where
  pub fresh_written : Sized w k ws → length vs ≡ length ws → zs ≡ replicate (length ws) 0 → image_of w k us ≡ set_word (image_of w k zs) 1 0 (64 * k - 1) → image_of w k vs ≡ set_first_run (image_of w k us) 1 → vs ≡ fresh_store w k
  unfolding fresh_store
  fresh_written y l e f g = sym (words_image (record { low = y.low; high = y.high; long = l ∙ y.long })) ∙ rw (g, f, e, y.long)

module _ (w : ℕ) (ws : List ℕ) (s : Option ℕ) (e : s ≡ extent_of w (length ws)) where
  pub fresh_misfit : s ≡ None → made_of 1 ws ≡ fresh_at w ws
  unfolding fresh_at made
  fresh_misfit q = rw (misfit_fits w ws s e q)

  pub fresh_made : (k : ℕ) → s ≡ Some k → (vs : List ℕ) → vs ≡ fresh_store w k → made_of 0 vs ≡ fresh_at w ws
  unfolding fresh_at made
  fresh_made k q vs f = rw (cards_fits w ws s e k q, sized_cards w k ws (cards_sized w ws s e k q), f)
