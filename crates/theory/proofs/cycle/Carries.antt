-- What each write carries: start bits stay, and what comes into registers, links and marks was there before.
use mathlib.Core.Path.{◌≡◌, refl, sym, ap, subst, ◌∙◌}
use mathlib.Core.Logic.{◌⊎◌, inl, inr, ⊎_elim}
use mathlib.Core.Bool.{true, false}
use mathlib.Core.List.{List}
use Prim.Native.Nat.{ℕ, ◌+◌, ◌*◌, ◌<◌, ◌≤◌}
use native.Mathlib.Decide.{ℕ_discrete, dec_lt}
use native.Mathlib.Omega.{arith}
use lib.ListN.{length}
use Rattle.model.specs.Base.{nth, put, bit}
use Rattle.model.specs.Image.{Image, word, is_start, marked, size, links, link, reg, set_reg, with_regs, set_word, with_heap}
use Rattle.model.proofs.Laws.{nth_put_same, nth_put_other, put_out, false≢}
use Rattle.theory.specs.Heap.{Laid}
use Rattle.theory.specs.Cycle.{Source, in_reg, is_marked, no_start, had_link, to_source, Carries, Quiet}
use Rattle.theory.specs.New.{NewMade}
use Rattle.theory.proofs.cycle.Quiet.{silent}
use Rattle.theory.proofs.heap.Walk.{same_place}
use Rattle.theory.proofs.new.NewMade.{new_was_free, new_regs, new_marks}

-- ---- steps without a write, and silent writes

pub quiet_carries : (m n : Image) → Quiet (Source m) m n → Carries m n
unfolding links link
quiet_carries m n q = record {
  starts_stay = λ g h. q.same_start g ∙ h;
  regs_from = λ p r hp hr nz. in_reg p r hp hr (sym (q.same_reg p r)) nz;
  links_from = λ g i st l nz. had_link i (sym (q.same_start g) ∙ st) (subst (λ x. i < x) (q.same_word g 1) l) (sym (q.same_word g (2 + i)));
  marks-from = λ g k. ⊎_elim (λ j. is_marked j) (λ s. s) (q.new_marks g k);
}

pub carries_silent : (m n : Image) (cs ps ts ls gs : List ℕ) → Carries m n → Carries m (silent n cs ps ts ls gs)
unfolding word is_start reg marked links link
carries_silent m n cs ps ts ls gs c = record { starts_stay = c.starts_stay; regs_from = c.regs_from; links_from = c.links_from; marks-from = c.marks-from }

-- ---- a register

-- a word after a write is what was written or what it was
put_either : (l : List ℕ) (i v j : ℕ) → (nth (put l i v) j ≡ v) ⊎ (nth (put l i v) j ≡ nth l j)
put_either l i v j = elim (ℕ_discrete j i) [
  | no ne ↦ inr (nth_put_other l i j v ne)
  | yes e ↦ elim (dec_lt i (length l)) [ yes h ↦ inl (ap (nth (put l i v)) e ∙ nth_put_same l i v h) | no h ↦ inr (ap (λ x. nth x j) (put_out l i v (omega arith))) ]
]

-- registers of which one is written
regs_put : (m : Image) (i v : ℕ) → ((v ≡ 0 → ⊥) → Source m v)
    → (p r : ℕ) → p < 16 → r < 16 → (nth (put m.regs i v) (16 * p + r) ≡ 0 → ⊥) → Source m (nth (put m.regs i v) (16 * p + r))
unfolding reg
regs_put m i v ok p r hp hr nz = ⊎_elim (λ e. rw e (ok (λ z. nz (e ∙ z)))) (λ e. in_reg p r hp hr (sym e) nz) (put_either m.regs i v (16 * p + r))

pub set_reg_carries : (m : Image) (p r v : ℕ) → ((v ≡ 0 → ⊥) → Source m v) → Carries m (set_reg m p r v)
unfolding set_reg with_regs word is_start reg marked links link
set_reg_carries m p r v ok = record {
  starts_stay = λ g h. h;
  regs_from = regs_put m (16 * p + r) v ok;
  links_from = λ g i st l nz. had_link i st l refl;
  marks-from = λ g k. is_marked k;
}

-- ---- a word of an object

-- a word behind the count of links, of an object: if it is a link, then it is to a source
pub set_word_carries : (m : Image) → Laid m → (g i v : ℕ) → is_start m g ≡ true → 2 + i < 4 * size m g → (i < links m g → (v ≡ 0 → ⊥) → Source m v) → Carries m (set_word m g (2 + i) v)
unfolding set_word with_heap word is_start reg marked links link size
set_word_carries m d g i v sg li ok = record {
  starts_stay = λ h s. s;
  regs_from = λ p r hp hr nz. in_reg p r hp hr refl nz;
  links_from = λ h j sh l nz. elim (ℕ_discrete (4 * h + (2 + j)) (4 * g + (2 + i))) [
    | no ne ↦ had_link j sh (rw (count h sh) at l) (sym (nth_put_other m.heap (4 * g + (2 + i)) (4 * h + (2 + j)) v ne))
    | yes q ↦
        let l' : j < nth m.heap (4 * h + 1) = rw (count h sh) at l in
        let r = same_place m d h g (2 + j) (2 + i) sh sg (omega (arith, (d.inside h sh).0)) li q in
        let k : i < links m g = subst (λ x. i < links m x) r.0 (omega (arith, r.1)) in
        ⊎_elim (λ e. to_source (rw e (ok k (λ z. nz (e ∙ z))))) (λ e. had_link j sh l' (sym e)) (put_either m.heap (4 * g + (2 + i)) v (4 * h + (2 + j)))
  ];
  marks-from = λ h k. is_marked k;
}
  where
    count : (h : ℕ) → is_start m h ≡ true → nth (put m.heap (4 * g + (2 + i)) v) (4 * h + 1) ≡ nth m.heap (4 * h + 1)
    count h sh =
        nth_put_other m.heap (4 * g + (2 + i)) (4 * h + 1) v
        (λ e. let q = same_place m d h g 1 (2 + i) sh sg (omega (arith, (d.inside h sh).0)) li e in omega (arith, q.1))

-- ---- a new object

pub new_carries : (m n : Image) {p r b c g : ℕ} → Laid m → NewMade m n p r b c g → c + 2 ≤ 4 * b → Carries m n
unfolding reg marked links link size
new_carries m n {p} {r} {b} {c} {g} d k hc = record {
  starts_stay = λ h s. k.start_old h (λ e. false≢ (sym free ∙ subst (λ x. is_start m x ≡ true) e s)) ∙ s;
  regs_from = λ u t hu ht. subst (λ l. (nth l (16 * u + t) ≡ 0 → ⊥) → Source m (nth l (16 * u + t))) (sym (new_regs k)) (regs_put m (16 * p + r) g (λ nz. no_start free) u t hu ht);
  links_from = λ h j st l nz. elim (ℕ_discrete h g) [
    | yes e ↦ absurd (nz (ap (λ x. word n x (2 + j)) e ∙ k.zero_new j (omega (arith, k.links_new, subst (λ x. j < links n x) e l))))
    | no ne ↦
        let s : is_start m h ≡ true = sym (k.start_old h ne) ∙ st in
        let l' : j < links m h = subst (λ x. j < x) (old h 1 s (omega arith)) l in
        had_link j s l' (sym (old h (2 + j) s (omega arith)))
  ];
  marks-from = λ h e. is_marked (subst (λ w. bit w m.marks h ≡ true) (new_marks k).1 (subst (λ l. bit n.width l h ≡ true) (new_marks k).0 e));
}
  where
    free : is_start m g ≡ false
    free = new_was_free k d (omega arith)

    old : (h i : ℕ) → is_start m h ≡ true → i < 2 + links m h → word n h i ≡ word m h i
    old h i s l = k.words_old h i s (omega (arith, (d.inside h s).0))
