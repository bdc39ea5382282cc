-- The sections of an image, for words of any width: their places among the words, and their words read and written there.
use mathlib.Core.Path.{◌≡◌, sym, ap, refl}
use mathlib.Core.List.{List, []}
use Prim.Native.Nat.{ℕ, ◌+◌, ◌*◌, ◌<◌}
use native.Mathlib.Omega.{arith}
use lib.ListN.{get_or, set, length}
use Rattle.model.specs.Base.{nth, put}
use Rattle.model.specs.Image.{place, total, lengths, split, image, image_of, sections, words, granules}
use Rattle.image_laws.specs.Sized.{Sized}
use Rattle.image_laws.proofs.Split.{split_get, split_put}
use Rattle.model.proofs.Words.{Fits, join_split, split_lengths}

-- word i of section s, which is word o
module _ (w k : ℕ) (ws : List ℕ) (s i o : ℕ) (h : i < get_or (lengths w k) s 0) (at_place : place (lengths w k) s + i ≡ o) where
  pub get_section : nth ws o ≡ nth (get_or (split (lengths w k) ws) s []) i
  get_section = rw (← at_place) (sym (split_get (lengths w k) ws s i h))

  pub put_section : (v : ℕ) → image_of w k (put ws o v) ≡ image w k (set (split (lengths w k) ws) s (put (get_or (split (lengths w k) ws) s []) i v))
  unfolding image_of
  put_section v = rw (← at_place) (ap (image w k) (split_put (lengths w k) ws s i v h))

-- ---- all sections together

module _ {w k : ℕ} {ws : List ℕ} (z : Sized w k ws) where
  whole : length ws ≡ total (lengths w k)
  whole = omega (arith, z.long)

  pub words_image : words (image_of w k ws) ≡ ws
  unfolding image_of image words sections split
  words_image = join_split (lengths w k) ws whole

  -- the sections have their lengths
  pub image_fits : Fits (image_of w k ws)
  unfolding image_of image sections split
  image_fits = record { some_card = z.low; few_cards = z.high; section_lengths = split_lengths (lengths w k) ws whole }

pub granules_image : (w k : ℕ) (ws : List ℕ) → granules (image_of w k ws) ≡ 64 * k
unfolding granules image_of image
granules_image w k ws = refl
