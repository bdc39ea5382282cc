-- What registers hold is seen (`hold_all`): the loop over the registers.
use mathlib.Core.Path.{◌≡◌, sym, ap, ◌∙◌}
use mathlib.Core.List.{List}
use Prim.Native.Nat.{ℕ, ◌+◌, ◌*◌, ◌/◌, ◌%◌, ◌≤◌, ◌<◌, zero-le}
use native.Mathlib.Omega.{arith}
use native.Mathlib.Decide.{ℕ_discrete}
use Rattle.model.specs.Base.{nth}
use Rattle.model.specs.Image.{Image, reg, image_of}
use Rattle.model.specs.Claim.{Chain, chain_reg}
use Rattle.theory.specs.Lines.{Sound}
use Rattle.search_laws.specs.Search.{seen, Visited, Search, Held}
use Rattle.search_laws.proofs.follow.Chains.{ChainsIn, sound_chains}
use Rattle.search_laws.proofs.follow.Goes.{stays_seen}
use Rattle.search_laws.proofs.hints.Visiting.{VisitDone, visit_done}

pub record RegsDone (w k : ℕ) (m : Image) (s : List ℕ) (i : ℕ) : Type 0 where
  pub chains : ChainsIn k m
  pub low : i ≤ 256
  pub search : Search w k m s
  pub done : (j : ℕ) → j < i → seen w s (nth m.regs j) ≡ 1

pub regs_none : (w k : ℕ) (ws s : List ℕ) → Sound (image_of w k ws) → Search w k (image_of w k ws) s → RegsDone w k (image_of w k ws) s 0
regs_none w k ws s d t = record { chains = sound_chains w k ws d; low = zero-le; search = t; done = λ j l. absurd (omega arith) }

module _ {w k : ℕ} {m : Image} {s : List ℕ} {i : ℕ} (t : RegsDone w k m s i) where
  module _ {a : ℕ} (e : a ≡ nth m.regs i) where
    pub regs_target : a < 64 * k
    regs_target = rw e (t.chains.regs i)

    regs_chain : i < 256 → (a ≡ 0 → ⊥) → Chain m a
    unfolding reg
    regs_chain l nz =
        let z : 16 * (i / 16) + i % 16 ≡ i = omega arith in
        chain_reg (i / 16) (i % 16) (omega arith) (omega arith) (ap (nth m.regs) z ∙ sym e) nz

    pub regs_more : i < 256 → {h : ℕ} {s' : List ℕ} {h' : ℕ} → Visited w k s h a s' h' → RegsDone w k m s' (i + 1)
    regs_more l {h} {s'} {h'} p =
        let q : VisitDone w k m s h a s' h' = visit_done t.chains t.search regs_target (regs_chain l) p in
        record {
          chains = t.chains;
          low = omega arith;
          search = q.goes.search;
          done = λ j lj. elim (ℕ_discrete j i) [
            | yes z ↦ rw (z, ← e) q.is_seen
            | no z ↦ stays_seen q.goes (nth m.regs j) (t.chains.regs j) (t.done j (omega arith))
          ];
        }

  pub regs_end : 256 ≤ i → Held w k m s
  regs_end l = record { search = t.search; regs = λ j lj. t.done j (omega arith) }
