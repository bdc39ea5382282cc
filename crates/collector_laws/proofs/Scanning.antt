-- A scan's walk over the registers of a player: where it stands, and each of its turns; the scan as a whole.
use mathlib.Core.Path.{◌≡◌, refl, sym, ap, ◌∙◌}
use mathlib.Core.List.{List}
use Prim.Native.Nat.{ℕ, suc, ◌+◌, ◌*◌, ◌-◌, ◌≤◌, ◌<◌}
use native.Mathlib.Nat.{add-zero}
use native.Mathlib.Omega.{arith}
use lib.ListN.{length, get_or, take, drop}
use lib.Seq.{drop-cons}
use Rattle.model.specs.Base.{nth}
use Rattle.model.specs.Image.{Image, reg, scanned, set_scanned}
use Rattle.model.specs.Collect.{reach, reach_all, scan_player}
use Rattle.theory.specs.Lines.{NilOr, Start, Lines}
use Rattle.theory.proofs.heap.Facts.{reg_value}
use Rattle.theory.proofs.steps.Reaching.{ReachedOnce, reach_does}
use Rattle.collector_laws.specs.Outcome.{done_unless}
use Rattle.request_laws.specs.Answer.{done}
use lib.Dec.{eqb}
use borrow.Author.Tests.{eq-eqb, ne_eqb}

-- n is left of m when the first r registers of player p have been reached by tracer t
pub record Scanning (m : Image) (t p r : ℕ) (n : Image) : Type 0 where
  pub rest : reach_all n t (take (16 - r) (drop (16 * p + r) m.regs)) ≡ reach_all m t (take 16 (drop (16 * p) m.regs))
  pub lines : Lines n
  pub regs_same : n.regs ≡ m.regs

pub scan_first : (m : Image) (t p : ℕ) → Lines m → Scanning m t p 0 m
scan_first m t p o = record { rest = rw (add-zero (16 * p)); lines = o; regs_same = refl }

module _ (m : Image) (t p r : ℕ) (n : Image) (o : Scanning m t p r n) where
  pub scan_end : 16 ≤ r → r ≤ 16 → n ≡ reach_all m t (take 16 (drop (16 * p) m.regs))
  unfolding reach_all
  scan_end h l = let e : 16 - r ≡ 0 = omega arith in rw e at o.rest

  module _ (g : ℕ) (e : g ≡ reg n p r) where
    pub scan_reg : NilOr (Start n) g
    scan_reg = rw e (reg_value o.lines p r)

    module _ (ht : t < 8) (hp : p < 16) (hr : r < 16) (n' : Image) (f : n' ≡ reach n t g) where
      pub scan_more : Scanning m t p (r + 1) n'
      unfolding reach_all reg nth
      scan_more =
          let a : 16 - r ≡ suc (16 - (r + 1)) = omega arith in
          let b : suc (16 * p + r) ≡ 16 * p + (r + 1) = omega arith in
          let l : length m.regs ≡ 256 = ap length (sym o.regs_same) ∙ o.lines.regs_ok.sized in
          let v : g ≡ get_or m.regs (16 * p + r) 0 = e ∙ ap (λ (x : List ℕ). get_or x (16 * p + r) 0) o.regs_same in
          let d : ReachedOnce n g (reach n t g) = reach_does n o.lines t g ht scan_reg in
          rw f (record {
            rest = rw (a, drop-cons m.regs (16 * p + r) 0 (omega arith), b, ← v) at o.rest;
            lines = d.lines;
            regs_same = d.regs_same ∙ o.regs_same;
          })

-- ---- the scan

module _ (m : Image) (t p x : ℕ) (e : x ≡ scanned m p) where
  pub scanned_already : x ≡ 1 → done 11 0 m ≡ done_unless (eqb (scanned m p) 1) m (scan_player m t p)
  unfolding done_unless
  scanned_already q = rw (eq-eqb (scanned m p) 1 (sym e ∙ q))

  pub scanned_now : (x ≡ 1 → ⊥) → (n₁ n₂ : Image) → n₁ ≡ reach_all m t (take 16 (drop (16 * p) m.regs)) → n₂ ≡ set_scanned n₁ p → done 0 0 n₂ ≡ done_unless (eqb (scanned m p) 1) m (scan_player m t p)
  unfolding done_unless scan_player
  scanned_now ne n₁ n₂ f g = rw (ne_eqb (scanned m p) 1 (λ q. ne (e ∙ q)), g, f)
