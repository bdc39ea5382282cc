-- The two planes of a scratch: their words, and the bits where an object becomes pending and where it is settled.
use mathlib.Core.Path.{◌≡◌, ap, ◌∙◌}
use mathlib.Core.Logic.{◌⊎◌}
use mathlib.Core.List.{List}
use Prim.Native.Nat.{ℕ, ◌+◌, ◌*◌, ◌/◌, ◌%◌, ◌<◌}
use native.Mathlib.Omega.{arith}
use lib.ListN.{length}
use Rattle.model.specs.Base.{nth, bit, set_bit}
use Rattle.model.proofs.Bits.{set_bit_same, set_bit_other, length_set_bit}
use Rattle.model.proofs.Words.{width_cases}
use Rattle.image_laws.specs.Bits.{clear_bit}
use Rattle.image_laws.specs.Digits.{digit, bit_of}
use Rattle.image_laws.proofs.Digits.{digit_on, digit_off}
use Rattle.image_laws.proofs.Masks.{clear_same, clear_other, length_clear_bit}
use Rattle.image_laws.proofs.Places.{word_in, behind_word, behind_bit}
use Rattle.search_laws.specs.Search.{Planes, seen, pending}

module _ {w k : ℕ} {s : List ℕ} (p : Planes w k s) where
  pub planes_width : (w ≡ 16) ⊎ (w ≡ 32)
  planes_width = width_cases w k p.low p.high

  planes_as : {s' : List ℕ} → length s' ≡ length s → Planes w k s'
  planes_as e = record { low = p.low; high = p.high; long = e ∙ p.long }

  -- every granule has its two bits
  pub seen_in : (g : ℕ) → g < 64 * k → g / w < length s
  seen_in g h = rw p.long (omega (arith, word_in w k planes_width g h))

  pub pending_in : (g : ℕ) → g < 64 * k → (64 * k + g) / w < length s
  pending_in g h = rw (p.long, behind_word w k planes_width g) (omega (arith, word_in w k planes_width g h))

  pub pending_digit : (g : ℕ) → pending w k s g ≡ bit_of (nth s (64 * k / w + g / w)) (g % w)
  unfolding bit
  pending_digit g = rw (behind_word w k planes_width g, behind_bit w k planes_width g)

-- ---- a becomes pending

pub record Pended (w k : ℕ) (s : List ℕ) (a : ℕ) (s' : List ℕ) : Type 0 where
  pub planes : Planes w k s'
  pub is_seen : seen w s' a ≡ 1
  pub is_pending : pending w k s' a ≡ 1
  pub seen_other : (g : ℕ) → g < 64 * k → (g ≡ a → ⊥) → seen w s' g ≡ seen w s g
  pub pending_other : (g : ℕ) → (g ≡ a → ⊥) → pending w k s' g ≡ pending w k s g

pub pended_bits : {w k : ℕ} {s : List ℕ} (a : ℕ) → Planes w k s → a < 64 * k → Pended w k s a (set_bit w (set_bit w s a) (64 * k + a))
pended_bits {w} {k} {s} a p h =
    let t : List ℕ = set_bit w s a in
    let p' : Planes w k t = planes_as p (length_set_bit w s a) in
    record {
      planes = planes_as p' (length_set_bit w t (64 * k + a));
      is_seen = digit_on (set_bit_other w t (64 * k + a) a (λ e. omega arith) ∙ set_bit_same w s a (seen_in p a h));
      is_pending = digit_on (set_bit_same w t (64 * k + a) (pending_in p' a h));
      seen_other = λ g hg n. ap digit (set_bit_other w t (64 * k + a) g (λ e. omega arith) ∙ set_bit_other w s a g n);
      pending_other = λ g n. ap digit (set_bit_other w t (64 * k + a) (64 * k + g) (λ e. n (omega arith)) ∙ set_bit_other w s a (64 * k + g) (λ e. omega arith));
    }

-- ---- a is settled

pub record Settled (w k : ℕ) (s : List ℕ) (a : ℕ) (s' : List ℕ) : Type 0 where
  pub planes : Planes w k s'
  pub is_done : pending w k s' a ≡ 0
  pub seen_same : (g : ℕ) → g < 64 * k → seen w s' g ≡ seen w s g
  pub pending_other : (g : ℕ) → (g ≡ a → ⊥) → pending w k s' g ≡ pending w k s g

pub settled_bits : {w k : ℕ} {s : List ℕ} (a : ℕ) → Planes w k s → a < 64 * k → Settled w k s a (clear_bit w s (64 * k + a))
settled_bits {w} {k} {s} a p h =
    record {
      planes = planes_as p (length_clear_bit w s (64 * k + a));
      is_done = digit_off (clear_same w s (64 * k + a) (pending_in p a h));
      seen_same = λ g hg. ap digit (clear_other w s (64 * k + a) g (λ e. omega arith));
      pending_other = λ g n. ap digit (clear_other w s (64 * k + a) (64 * k + g) (λ e. n (omega arith)));
    }
