-- In a sound image chains stay in the store.
use mathlib.Core.Path.{subst}
use mathlib.Core.Logic.{inl, inr}
use mathlib.Core.List.{List}
use Prim.Native.Nat.{ℕ, ◌+◌, ◌*◌, ◌≤◌, ◌<◌}
use native.Mathlib.Omega.{arith}
use Rattle.model.specs.Base.{nth}
use Rattle.model.specs.Image.{Image, granules, links, link, image_of}
use Rattle.model.specs.Claim.{Chain}
use Rattle.theory.specs.Lines.{NilOr, Start, Lines, Sound}
use Rattle.theory.proofs.finish.Safe.{chain_start}
use Rattle.theory.proofs.heap.Walk.{object-at}
use Rattle.theory.proofs.heap.Facts.{some_card, heap_filled_of, link_value, start_at, proper_of}
use Rattle.image_laws.proofs.Lengths.{cards_image}

pub record ChainsIn (k : ℕ) (m : Image) : Type 0 where
  pub regs : (i : ℕ) → nth m.regs i < 64 * k
  pub inside : (g : ℕ) → Chain m g → 4 * g + 2 + links m g ≤ 256 * k
  pub target : (g i : ℕ) → Chain m g → i < links m g → link m g i < 64 * k

module _ (m : Image) (o : Lines m) where
  below : (a : ℕ) → NilOr (Start m) a → a < 64 * m.k
  below a (inl z) = omega (arith, some_card o)
  below a (inr s) = s.0

  lines_chains : ChainsIn m.k m
  unfolding granules
  lines_chains = record {
    regs = λ i. below (nth m.regs i) (o.regs_ok.values i);
    inside = λ g c. let t = object-at m (heap_filled_of o) g (chain_start m (proper_of o) c) in omega (arith, t.links-in, t.in_heap);
    target = λ g i c l. below (link m g i) (link_value o g i (start_at o g (chain_start m (proper_of o) c)) l);
  }

pub sound_chains : (w k : ℕ) (ws : List ℕ) → Sound (image_of w k ws) → ChainsIn k (image_of w k ws)
sound_chains w k ws s = subst (λ (j : ℕ). ChainsIn j (image_of w k ws)) (cards_image w k ws) (lines_chains (image_of w k ws) s.lines)
