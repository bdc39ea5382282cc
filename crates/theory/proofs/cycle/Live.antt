-- What is live from a begin on: it holds at the begin, is carried by every step but an accepted finish, and holds all that a finish keeps.
use mathlib.Core.Path.{◌≡◌, refl, sym, subst, ◌∙◌}
use mathlib.Core.Logic.{⊎_elim}
use mathlib.Core.Bool.{true, false}
use Prim.Native.Nat.{ℕ, ◌<◌}
use Rattle.model.specs.Image.{Image, is_start, marked, links, link, reg}
use Rattle.model.specs.Finish.{Found, found_reg, found_link, found_due, Kept, kept_marked, kept_found}
use Rattle.model.specs.Claim.{chain_reg, chain_link}
use Rattle.model.proofs.Laws.{false≢, bool_cases}
use Rattle.theory.specs.Heap.{Proper}
use Rattle.theory.specs.Cycle.{Source, in_reg, in_link, is_marked, no_start, had_link, to_source, Carries, Live, Since}

pub live_source : (S : ℕ → Type 0) (m : Image) → Live S m → {a : ℕ} → Source m a → S a
live_source S m v (in_reg p r hp hr e nz) = subst S e (v.live_regs p r hp hr (λ z. nz (sym e ∙ z)))
live_source S m v (in_link g i s st l e nz) = subst S e (v.live_links g i st (live_source S m v s) l (λ z. nz (sym e ∙ z)))
live_source S m v (is_marked k) = v.live_marks _ k
live_source S m v (no_start f) = v.live_free _ f

pub live_carried : (S : ℕ → Type 0) (m n : Image) → Carries m n → Live S m → Live S n
live_carried S m n c v = record {
  live_regs = λ p r hp hr nz. live_source S m v (c.regs_from p r hp hr nz);
  live_links = λ g i st s l nz. elim (c.links_from g i st l nz) [
    | had_link j sj lj e ↦ subst S e (v.live_links g j sj s lj (λ z. nz (sym e ∙ z)))
    | to_source q ↦ live_source S m v q
  ];
  live_marks = λ g k. live_source S m v (c.marks-from g k);
  live_free = λ g f. v.live_free g (⊎_elim (λ t. false≢ (sym f ∙ c.starts_stay g t)) (λ q. q) (bool_cases (is_start m g)));
}

-- at the begin, where nothing is marked
pub live_begin : (m₀ : Image) → ((g : ℕ) → marked m₀ g ≡ false) → Live (Since m₀) m₀
unfolding Since
live_begin m₀ un = record {
  live_regs = λ p r hp hr nz s. chain_reg p r hp hr refl nz;
  live_links = λ g i st s l nz t. chain_link g i (s st) l refl nz;
  live_marks = λ g k s. false≢ (sym (un g) ∙ k);
  live_free = λ g f s. false≢ (sym f ∙ s);
}

-- what a finish keeps is live
pub kept_live : (S : ℕ → Type 0) (m : Image) → Proper m → Live S m → (a : ℕ) → Kept m a → S a
kept_live S m o v a (kept_marked q) = v.live_marks a q
kept_live S m o v a (kept_found q) = (found q).1
  where
    P : ℕ → Type 0
    P b = (is_start m b ≡ true) × S b

    via : (g i : ℕ) {b : ℕ} → P g → i < links m g → link m g i ≡ b → (b ≡ 0 → ⊥) → P b
    via g i q l e nz = let ne : link m g i ≡ 0 → ⊥ = λ z. nz (sym e ∙ z) in subst P e (o.link_start g i q.0 l ne, v.live_links g i q.0 q.1 l ne)

    found : {b : ℕ} → Found m b → P b
    found (found_reg p r hp hr e nz) = let ne : reg m p r ≡ 0 → ⊥ = λ z. nz (sym e ∙ z) in subst P e (o.reg_start p r hp hr ne, v.live_regs p r hp hr ne)
    found (found_link g i q u l e nz) = via g i (found q) l e nz
    found (found_due g i hg k d l e nz) = via g i (o.mark_start g k, v.live_marks g k) l e nz
