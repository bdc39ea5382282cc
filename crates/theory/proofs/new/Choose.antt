-- The walk along the chain of runs that chooses one, turn by turn, by either rule.
use mathlib.Core.Path.{◌≡◌, refl, subst}
use mathlib.Core.Bool.{Bool, true, false, ◌&&◌, ◌||◌}
use Prim.Native.Nat.{ℕ, zero, suc, ◌≤◌, ◌<◌}
use native.Mathlib.Omega.{arith}
use lib.Dec.{leb, eqb}
use borrow.Author.Tests.{eqb-false, ne_eqb, leb-true, le-leb}
use Rattle.model.specs.Image.{Image, word}
use Rattle.model.specs.Mutate.{Placing, Room, better, takes, choose}
use Rattle.model.proofs.Laws.{and_split, or_none}

module _ (rule : Placing) (m : Image) (b : ℕ) where
  -- at the chain's end the run so far is it
  pub choose_end : (n before : ℕ) (best : Room) → choose rule m b n best before 0 ≡ best
  unfolding choose
  choose_end zero before best = refl
  choose_end (suc n) before best = refl

  -- run g is taken, or passed over
  pub choose_taken : (n before g : ℕ) (best : Room) → 0 < g → takes rule m b best g ≡ true
      → choose rule m b (suc n) best before g ≡ choose rule m b n (record { run = g; before = before }) g (word m g 1)
  unfolding choose
  choose_taken n before zero best h e = absurd (omega arith)
  choose_taken n before (suc g) best h e = rw (e, choose)

  pub choose_passed : (n before g : ℕ) (best : Room) → 0 < g → takes rule m b best g ≡ false → choose rule m b (suc n) best before g ≡ choose rule m b n best g (word m g 1)
  unfolding choose
  choose_passed n before zero best h e = absurd (omega arith)
  choose_passed n before (suc g) best h e = rw (e, choose)

  -- a run that is taken suffices, and is better than the one so far
  pub takes_suffices : (best : Room) (g : ℕ) → takes rule m b best g ≡ true → b ≤ word m g 0
  unfolding takes
  takes_suffices best g e = leb-true _ _ (and_split _ _ e).0

  pub takes_better : (best : Room) (g : ℕ) → takes rule m b best g ≡ true → (best.run ≡ 0 → ⊥) → better rule (word m g 0) (word m best.run 0) ≡ true
  unfolding takes
  takes_better best g e nz =
      let t : Bool = better rule (word m g 0) (word m best.run 0) in
      subst (λ z. (z || t) ≡ true) (ne_eqb _ _ nz) (and_split (leb b (word m g 0)) (eqb best.run 0 || t) e).1

  -- one that suffices and is passed over is not better than the one so far, which there is
  pub passed_worse : (best : Room) (g : ℕ) → takes rule m b best g ≡ false → b ≤ word m g 0
      → (best.run ≡ 0 → ⊥) × (better rule (word m g 0) (word m best.run 0) ≡ false)
  unfolding takes
  passed_worse best g e l =
      let t : Bool = better rule (word m g 0) (word m best.run 0) in
      let d = or_none (eqb best.run 0) t (subst (λ z. (z && (eqb best.run 0 || t)) ≡ false) (le-leb _ _ l) e) in
      (eqb-false _ _ d.0, d.1)
