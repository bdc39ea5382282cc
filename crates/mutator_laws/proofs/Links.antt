-- Load and store, where the object has the link.
use mathlib.Core.Path.{◌≡◌, refl}
use Prim.Native.Nat.{ℕ, ◌+◌, ◌/◌, ◌<◌}
use native.Mathlib.Numerals.{add-one}
use Rattle.model.specs.Image.{Image, word, links, link, reg, owed, set_word, set_reg, set_owed}
use Rattle.model.specs.Mutate.{tightest}
use Rattle.model.specs.Steps.{object, numbers_open, accept, act, step}
use Rattle.request_laws.specs.Answer.{done, asked}
use Rattle.mutator_laws.specs.Objects.{means_link}
use Rattle.mutator_laws.proofs.Passed.{load_passed, store_passed}
use Rattle.mutator_laws.proofs.Objects.{word_acts}

module _ (m : Image) (p a b c : ℕ) (z : owed m p ≡ 0) (g l : ℕ) (el : l ≡ links m g) (nz : g ≡ 0 → ⊥) where
  pub load_done : (p < 16) × (a < 16) × (b < 16) → g ≡ reg m p b → c < l → (v : ℕ) → v ≡ word m g (2 + c) → (i : Image) → i ≡ set_reg m p a v → done 0 v i ≡ step tightest m (asked 2 p a b c)
  unfolding asked numbers_open object link act accept
  load_done h e x v ev i ei = rw (ei, ev, e) (word_acts (load_passed m p a z b c h) (means_link e el refl) nz x refl refl refl refl)

  pub store_done : (p < 16) × (a < 16) × (c < 16) → g ≡ reg m p a → b < l → (v : ℕ) → v ≡ reg m p c → (i j : Image) → i ≡ set_word m g (2 + b) v → j ≡ set_owed i p (g / 64 + 1) → done 0 0 j ≡ step tightest m (asked 3 p a b c)
  unfolding asked numbers_open object act accept
  store_done h e x v ev i j ei ej = rw (ej, ei, ev, add-one, e) (word_acts (store_passed m p a z b c h) (means_link e el refl) nz x refl refl refl refl)
