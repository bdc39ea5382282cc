-- The whole search (`reach_with`): it begins with zeros, and granule 0 seen; where nothing is pending any more, what is seen is what chains reach.
use mathlib.Core.Path.{◌≡◌, refl, ◌∙◌}
use mathlib.Core.Logic.{inl}
use mathlib.Core.List.{List}
use Prim.Native.Nat.{ℕ, ◌+◌, ◌*◌, ◌/◌, ◌<◌, zero-le}
use native.Mathlib.Omega.{arith}
use native.Mathlib.Decide.{ℕ_discrete}
use lib.ListN.{length, replicate, length-replicate}
use Rattle.model.specs.Base.{nth, set_bit}
use Rattle.model.specs.Image.{Image, links, link, reg, image_of}
use Rattle.model.specs.Claim.{Chain, chain_reg, chain_link}
use Rattle.model.proofs.Bits.{set_bit_same, set_bit_other, length_set_bit, bit_zeros}
use Rattle.theory.specs.Lines.{Sound}
use Rattle.theory.proofs.finish.Safe.{chain_least}
use Rattle.image_laws.specs.Sized.{Sized}
use Rattle.image_laws.proofs.Digits.{digit_on, digit_off, on_digit, off_digit}
use Rattle.search_laws.specs.Search.{Planes, seen, Search, Goes, Held, NonePending, ChainBits}
use Rattle.search_laws.proofs.Planes.{seen_in}
use Rattle.search_laws.proofs.follow.Chains.{ChainsIn, sound_chains}
use Rattle.search_laws.proofs.follow.Goes.{goes_on, stays_seen}

-- ---- the beginning

module _ {w k n : ℕ} {ws s : List ℕ} (z : Sized w k ws) (l : n ≡ 2 * (64 * k / w)) (e : s ≡ replicate n 0) where
  zero_planes : Planes w k s
  zero_planes = record { low = z.low; high = z.high; long = rw e (length-replicate n 0) ∙ l }

  pub first_in : 0 / w < length s
  first_in = seen_in zero_planes 0 (omega (arith, z.low))

  module _ (m : Image) {s' : List ℕ} (e' : s' ≡ set_bit w s 0) where
    first_other : (g : ℕ) → (g ≡ 0 → ⊥) → seen w s' g ≡ 0
    first_other g d = rw e' (digit_off (set_bit_other w s 0 g d ∙ rw e (bit_zeros w n g)))

    first_only : (g : ℕ) → seen w s' g ≡ 1 → g ≡ 0
    first_only g q = elim (ℕ_discrete g 0) [ yes y ↦ y | no d ↦ absurd (omega (arith, first_other g d)) ]

    pub search_first : Search w k m s'
    search_first = record {
      planes = record { low = z.low; high = z.high; long = rw (e', length_set_bit w s 0) zero_planes.long };
      nil = rw e' (digit_on (set_bit_same w s 0 first_in));
      only = λ g h q. inl (first_only g q);
      waiting = λ g h q. absurd (omega (arith, first_other (64 * k + g) (λ y. omega (arith, z.low))));
      closed = λ g i h c q. absurd (chain_some c (first_only g q));
    }
      where
        chain_some : {g : ℕ} → Chain m g → g ≡ 0 → ⊥
        chain_some (chain_reg p r hp hr y n) = n
        chain_some (chain_link g i c l y n) = n

-- ---- the end

pub chain_bits : (w k : ℕ) (ws : List ℕ) {s1 s2 s3 : List ℕ} → Sound (image_of w k ws) → Held w k (image_of w k ws) s1 → Goes w k (image_of w k ws) s1 s2 0 → Goes w k (image_of w k ws) s2 s3 0 → NonePending w k s3
    → ChainBits w k (image_of w k ws) s3
unfolding reg
chain_bits w k ws {s1} {s2} {s3} d t p q z =
    record {
      long = q.search.planes.long;
      has = λ g c. on_digit _ (chain_least m In regs more c).1;
      only = λ g h e. q.search.only g h (digit_on e);
      nil = on_digit _ q.search.nil;
      none_pending = λ g h. off_digit _ (z.none g h);
    }
  where
    m : Image
    m = image_of w k ws

    o : ChainsIn k m
    o = sound_chains w k ws d

    In : ℕ → Type 0
    In a = Chain m a × (seen w s3 a ≡ 1)

    regs : (a b : ℕ) → a < 16 → b < 16 → (reg m a b ≡ 0 → ⊥) → In (reg m a b)
    regs a b ha hb n =
        (chain_reg a b ha hb refl n, stays_seen (goes_on 0 zero-le p q) (nth m.regs (16 * a + b)) (o.regs (16 * a + b)) (t.regs (16 * a + b) (omega arith)))

    more : (g i : ℕ) → In g → i < links m g → (link m g i ≡ 0 → ⊥) → In (link m g i)
    more g i e l n =
        let h : g < 64 * k = omega (arith, o.inside g e.0) in
        (chain_link g i e.0 l refl n, q.search.closed g i h e.0 e.1 (z.none g h) l)
