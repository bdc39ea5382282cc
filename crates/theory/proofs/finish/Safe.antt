-- Chains, and safety: with Cover, a finish keeps what a chain from a register reaches.
use mathlib.Core.Path.{◌≡◌, refl, sym, subst, ◌∙◌}
use mathlib.Core.Logic.{inl, inr}
use mathlib.Core.Bool.{true}
use Prim.Native.Nat.{ℕ, ◌<◌}
use native.Mathlib.Omega.{arith}
use Rattle.model.specs.Image.{Image, granules, is_start, marked, links, link, reg}
use Rattle.model.specs.Finish.{Due, due_entered, due_in_hand, due_dirty, due_card_in_hand, found_reg, found_link, found_due, Kept, kept_marked, kept_found}
use Rattle.model.specs.Claim.{Chain, chain_reg, chain_link}
use Rattle.model.proofs.Laws.{false≢, bool_cases}
use Rattle.theory.specs.Heap.{Proper, Laid}
use Rattle.theory.specs.Cover.{Coming, on_dirty, on_entry, on_hand, on_card, owes_by, to_nil, to_marked, is_coming, is_owed, Cover}

-- what a chain reaches is in every set that holds what registers hold and what members link to
pub chain_least : (m : Image) (P : ℕ → Type 0) → ((p r : ℕ) → p < 16 → r < 16 → (reg m p r ≡ 0 → ⊥) → P (reg m p r))
    → ((g i : ℕ) → P g → i < links m g → (link m g i ≡ 0 → ⊥) → P (link m g i)) → {a : ℕ} → Chain m a → P a
chain_least m P regs more (chain_reg p r hp hr e nz) = subst P e (regs p r hp hr (λ z. nz (sym e ∙ z)))
chain_least m P regs more (chain_link g i c l e nz) = subst P e (more g i (chain_least m P regs more c) l (λ z. nz (sym e ∙ z)))

-- a chain reaches objects
pub chain_start : (m : Image) → Proper m → {a : ℕ} → Chain m a → is_start m a ≡ true
chain_start m o c = chain_least m (λ a. is_start m a ≡ true) o.reg_start o.link_start c

-- objects lie below the last granule
pub start_below : (m : Image) → Laid m → (g : ℕ) → is_start m g ≡ true → g < granules m
start_below m l g h = let r = l.inside g h in omega (arith, r.0, r.1)

-- what Cover asks of a link, finish asks of its object
pub coming_due : (m : Image) (g i : ℕ) → Coming m g i → Due m g
coming_due m g i (on_dirty q) = due_dirty q
coming_due m g i (on_entry p e hp he q) = due_entered p e hp he q
coming_due m g i (on_hand t h q l) = due_in_hand t h q
coming_due m g i (on_card t h q l) = due_card_in_hand t h q

-- what a kept object links to is kept
pub kept_link : (m : Image) → Cover m → (g i : ℕ) → g < granules m → Kept m g → i < links m g → (link m g i ≡ 0 → ⊥) → Kept m (link m g i)
kept_link m c g i hg s l nz = elim (bool_cases (marked m g)) [
  | inl k ↦ elim (c g i hg k l) [
    | to_nil q ↦ absurd (nz q)
    | to_marked q ↦ kept_marked q
    | is_coming q ↦ kept_found (found_due g i hg k (coming_due m g i q) l refl nz)
    | is_owed (owes_by p r hp hr u q) ↦ kept_found (found_reg p r hp hr q nz)
  ]
  | inr u ↦ elim s [ kept_marked k ↦ false≢ (sym u ∙ k) | kept_found f ↦ kept_found (found_link g i f u l refl nz) ]
]

pub safe : (m : Image) → Cover m → Proper m → Laid m → (a : ℕ) → Chain m a → Kept m a
safe m c o d a (chain_reg p r hp hr e nz) = kept_found (found_reg p r hp hr e nz)
safe m c o d a (chain_link g i ch l e nz) = subst (Kept m) e (kept_link m c g i (start_below m d g (chain_start m o ch)) (safe m c o d g ch) l (λ z. nz (sym e ∙ z)))
