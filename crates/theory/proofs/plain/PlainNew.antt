-- An image and a plain store agree again after a new: its object has a new name, all else in reach has the name that it had.
use mathlib.Core.Path.{◌≡◌, refl, sym, ap, subst, ◌∙◌}
use mathlib.Core.Logic.{◌⊎◌, inl, inr}
use mathlib.Core.Bool.{not}
use Prim.Native.Nat.{ℕ, ◌+◌, ◌*◌, ◌≤◌, ◌<◌}
use native.Mathlib.Omega.{arith}
use lib.Dec.{eqb}
use Rattle.model.specs.Image.{Image, word, links, link, levels, level, reg, owed}
use Rattle.model.specs.Plain.{Object, old, made, PlainStore, upd, upd_object, put_reg, put_object}
use Rattle.model.specs.Claim.{Chain, chain_reg, chain_link}
use Rattle.model.proofs.Laws.{false≢}
use Rattle.theory.specs.Same.{Names, Agrees, SameStore, WordsStay}
use Rattle.theory.specs.New.{NewMade}
use Rattle.theory.specs.Cycle.{Facts}
use Rattle.theory.proofs.finish.Safe.{chain_least, chain_start}
use Rattle.theory.proofs.plain.PlainLaws.{upd_same, upd_other, same_refl, same_ne, name_fresh, names_new, moved_along, level_inside, agrees_narrow, agrees_either, agrees_renew, head_stays, link_stays, level_stays, links_in_reach}
use Rattle.theory.proofs.plain.PlainWrites.{held_after, regs_agree}
use Rattle.theory.proofs.new.NewMade.{new_not_nil, new_was_free, new_reg, new_owed}

module _ (m m' : Image) (f : Facts m) (p r b c g : ℕ) (hp : p < 16) (hr : r < 16) (hc : c + 2 ≤ 4 * b) (o : NewMade m m' p r b c g) where
  kept : WordsStay m m'
  kept h i k l = o.words_old h i (chain_start m f.proper k) l

  new_links : (i : ℕ) → i < links m' g → link m' g i ≡ 0
  unfolding link
  new_links i l = o.zero_new i (omega (arith, o.links_new))

  new_levels : (i : ℕ) → i < levels m' g → level m' g i ≡ 0
  unfolding level
  new_levels i l =
      let e : 2 + (links m' g + i) ≡ 2 + links m' g + i = omega arith in
      ap (word m' g) (sym e) ∙ o.zero_new (links m' g + i) (omega (arith, level_inside m' g i l, o.size_new))

  -- what is in reach is the new object, or was in reach
  abbrev Reached : ℕ → Type 0
  Reached a = (a ≡ g) ⊎ Chain m a

  chain_new : {a : ℕ} → Chain m' a → Reached a
  chain_new k =
      chain_least m' Reached
      (λ u t hu ht. moved_along Reached (new_reg o u t) (held_after m f p r g hp hr Reached (λ z. inl refl) u t ht (λ z. inr (chain_reg u t hu ht refl z))))
      (λ h i c l nz. elim c [ inl e ↦ absurd (nz (rw e (new_links i (rw e at l)))) | inr k ↦ inr (links_in_reach m f m' kept h i k l nz) ])
      k

  module _ (name : ℕ → Object) (j : ℕ) (ns : Names name j) (q : PlainStore) (s : SameStore name m q) where
    abbrev renamed : ℕ → Object
    renamed = upd name g (made j)

    -- what a register or a link in reach holds has the name that it had
    name_stays : (h : ℕ) → ((h ≡ 0 → ⊥) → Chain m h) → renamed h ≡ name h
    name_stays h k =
        upd_other name g (made j) h (λ e.
        false≢ (sym (new_was_free o f.laid (omega arith)) ∙ chain_start m f.proper (subst (Chain m) e (k (λ z. new_not_nil o (sym e ∙ z))))))

    at_old : {A : Type 0} (t : Object → A) (v : A) (h : ℕ) → Chain m h → upd_object t (made j) v (renamed h) ≡ t (name h)
    unfolding upd_object
    at_old t v h k = rw (name_stays h (λ z. k), same_ne (name h) (made j) (name_fresh ns h))

    at_new : {A : Type 0} (t : Object → A) (v : A) → upd_object t (made j) v (renamed g) ≡ v
    unfolding upd_object
    at_new t v = rw (upd_same name g (made j), same_refl (made j))

    abbrev q' : PlainStore
    q' = put_reg (put_object q (made j) b c) p r (made j)

    regs_after : (u t : ℕ) → u < 16 → t < 16 → q'.register u t ≡ renamed (reg m' u t)
    unfolding put_reg put_object
    regs_after u t hu ht =
        ap (λ z. upd q.register p (upd (q.register p) r z) u t) (sym (upd_same name g (made j)))
        ∙ (regs_agree m f p r g hp hr renamed q.register
        (λ u t hu ht. s.same_reg u t hu ht ∙ sym (name_stays (reg m u t) (λ nz. chain_reg u t hu ht refl nz))) u t hu ht
        ∙ ap renamed (sym (new_reg o u t)))

    owing_after : (u : ℕ) → u < 16 → q'.owing u ≡ not (eqb (owed m' u) 0)
    unfolding put_reg put_object
    owing_after u hu = s.same_owing u hu ∙ ap (λ z. not (eqb z 0)) (sym (new_owed o u))

    -- what was in reach
    agrees_old : Agrees (Chain m) renamed m' q'
    unfolding put_reg put_object level
    agrees_old =
        agrees_renew m m' (head_stays m f m' kept) renamed q' regs_after owing_after
        (λ h k. at_old q.size_of b h k ∙ s.same_size h k)
        (λ h k. at_old q.link_count c h k ∙ s.same_count h k)
        (λ h i k l.
        ap (λ z. z i) (at_old q.link_of (λ x. old 0) h k)
        ∙ (s.same_link h i k l ∙ (sym (name_stays (link m h i) (λ nz. chain_link h i k l refl nz)) ∙ ap renamed (sym (link_stays m f m' kept h i k l)))))
        (λ h i k l. ap (λ z. z i) (at_old q.level_of (λ x. 0) h k) ∙ (s.same_level h i k l ∙ sym (level_stays m f m' kept h i k l)))

    -- the new object
    agrees_new : Agrees (λ h. h ≡ g) renamed m' q'
    unfolding put_reg put_object
    agrees_new = record {
      same_reg = regs_after;
      same_owing = owing_after;
      same_size = λ h e. rw e (at_new q.size_of b ∙ sym o.size_new);
      same_count = λ h e. rw e (at_new q.link_count c ∙ sym o.links_new);
      same_link = λ h i e l. rw e (ap (λ z. z i) (at_new q.link_of (λ x. old 0)) ∙ (sym (names_new ns g (new_not_nil o)).name_nil ∙ ap renamed (sym (new_links i (rw e at l)))));
      same_level = λ h i e l. rw e (ap (λ z. z i) (at_new q.level_of (λ x. 0)) ∙ sym (new_levels i (rw e at l)));
    }

    pub same_new : SameStore renamed m' q'
    same_new = agrees_narrow (λ a k. chain_new k) (agrees_either agrees_new agrees_old)
