-- The computed set of what chains reach is what they reach, on every sound image.
use mathlib.Core.Path.{◌≡◌, ap, subst, ◌∙◌}
use mathlib.Core.Logic.{◌↔◌}
use mathlib.Core.Bool.{true}
use mathlib.Core.List.{List}
use Prim.Native.Nat.{ℕ, ◌+◌, ◌*◌, ◌/◌, ◌%◌, ◌<◌}
use native.Mathlib.Omega.{arith}
use lib.ListN.{length}
use Rattle.model.specs.Base.{nth}
use Rattle.model.specs.Image.{Image, granules, is_start, reg, fits, parts}
use Rattle.model.specs.Undamaged.{nil_or_start, sound}
use Rattle.model.specs.Finish.{non_nil, links_of}
use Rattle.model.specs.Claim.{Chain, chain_reg, chain_link}
use Rattle.model.specs.Report.{chain_set}
use Rattle.model.proofs.Sited.{Sited, sited, start_of}
use Rattle.model.proofs.Closure.{In, Reached, seed, follow, reached_sound, reached_complete}
use Rattle.model.proofs.Found.{non_nil_use, non_nil_make, placed, place_of, links_of_use, links_of_make}

module _ (m : Image) (s : Sited m) where
  reached_chain : {a : ℕ} → Reached (links_of m) (non_nil m.regs) a → Chain m a
  unfolding reg
  reached_chain {a} (seed k) =
      let n = non_nil_use a m.regs k in
      let r = place_of a m.regs n.0 in
      let split : 16 * (r.0 / 16) + r.0 % 16 ≡ r.0 = omega arith in
      chain_reg (r.0 / 16) (r.0 % 16) (omega (arith, s.regs_length)) (omega arith) (ap (nth m.regs) split ∙ r.2) n.1
  reached_chain {a} (follow {g = g} q k) = let l = links_of_use m g a k in chain_link g l.0.0 (reached_chain q) l.0.1 l.0.2 l.1

  chain_reached : {a : ℕ} → Chain m a → Reached (links_of m) (non_nil m.regs) a
  unfolding reg
  chain_reached {a} (chain_reg p r hp hr e nz) = seed (non_nil_make a _ (placed a m.regs (16 * p + r) (omega (arith, s.regs_length)) e) nz)
  chain_reached {a} (chain_link g i q l e nz) = follow {a = a} (chain_reached q) (links_of_make m g a i l e nz)

  -- what a chain reaches is an object
  chain_within : {a : ℕ} → Chain m a → (a < granules m) × (is_start m a ≡ true)
  unfolding reg
  chain_within {a} (chain_reg p r hp hr e nz) = start_of m a (subst (λ x. nil_or_start m x ≡ true) e (s.reg_in (16 * p + r) (omega arith))) nz
  chain_within {a} (chain_link g i q l e nz) = let o = chain_within q in start_of m a (subst (λ x. nil_or_start m x ≡ true) e (s.link_in g i o.0 o.1 l)) nz

  pub set_chain : (a : ℕ) → In (chain_set m) a → Chain m a
  unfolding chain_set
  set_chain a h = reached_chain (reached_sound (granules m) (links_of m) (non_nil m.regs) a h)

  pub chain-set : (a : ℕ) → Chain m a → In (chain_set m) a
  unfolding chain_set
  chain-set a c = reached_complete (granules m) (links_of m) (non_nil m.regs) (λ b k. (chain_within (reached_chain k)).0) a (chain_reached c)

pub chain_is : (w : ℕ) (ws : List ℕ) → fits w (length ws) ≡ true → sound (parts w ws) ≡ true → (a : ℕ) → In (chain_set (parts w ws)) a ↔ Chain (parts w ws) a
chain_is w ws f e a = (set_chain (parts w ws) (sited w ws f e) a, chain-set (parts w ws) (sited w ws f e) a)
