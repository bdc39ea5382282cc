-- Read and write, where the object has the level word.
use mathlib.Core.Path.{◌≡◌, refl}
use Prim.Native.Nat.{ℕ, ◌+◌, ◌<◌}
use Rattle.model.specs.Image.{Image, word, links, levels, level, reg, owed, set_word}
use Rattle.model.specs.Mutate.{tightest}
use Rattle.model.specs.Steps.{object, numbers_open, accept, act, step}
use Rattle.request_laws.specs.Answer.{done, asked}
use Rattle.mutator_laws.specs.Objects.{means_level}
use Rattle.mutator_laws.proofs.Passed.{read_passed, write_passed}
use Rattle.mutator_laws.proofs.Objects.{word_acts}

module _ (m : Image) (p a b : ℕ) (h : (p < 16) × (a < 16)) (z : owed m p ≡ 0) (g : ℕ) (e : g ≡ reg m p a) (nz : g ≡ 0 → ⊥) (l n : ℕ) (el : l ≡ levels m g) (en : n ≡ links m g) (x : b < l) where
  pub read_done : (v : ℕ) → v ≡ word m g (2 + n + b) → done 0 v m ≡ step tightest m (asked 7 p a b 0)
  unfolding asked numbers_open object level act accept
  read_done v ev = rw (ev, en, e) (word_acts (read_passed m p a z h b) (means_level e el refl) nz x refl refl refl refl)

  pub write_done : (c : ℕ) (i : Image) → i ≡ set_word m g (2 + n + b) c → done 0 0 i ≡ step tightest m (asked 8 p a b c)
  unfolding asked numbers_open object act accept
  write_done c i ei = rw (ei, en, e) (word_acts (write_passed m p a z h b c) (means_level e el refl) nz x refl refl refl refl)
