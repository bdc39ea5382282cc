-- Functions with one value replaced, names of granules, chains, and when an image and a plain store agree.
use mathlib.Core.Path.{◌≡◌, refl, sym, ap, subst, ◌∙◌}
use mathlib.Core.Logic.{◌⊎◌, inl, inr}
use mathlib.Core.Bool.{true, false, not}
use Prim.Native.Nat.{ℕ, suc, ◌+◌, ◌*◌, ◌≤◌, ◌<◌}
use native.Mathlib.Decide.{ℕ_discrete}
use native.Mathlib.Omega.{arith}
use lib.Dec.{eqb}
use borrow.Author.Tests.{eq-eqb, ne_eqb}
use Rattle.model.specs.Image.{Image, word, size, links, link, levels, level, reg, owed}
use Rattle.model.specs.Plain.{Object, old, made, same_object, is_nil, PlainStore, upd, upd_object, of_image, plain_of}
use Rattle.model.specs.Claim.{Chain, chain_reg, chain_link}
use Rattle.theory.specs.Same.{Names, Agrees, SameStore, WordsStay, KeptWords}
use Rattle.theory.specs.Cycle.{Facts}
use Rattle.theory.proofs.finish.Safe.{chain_least, chain_start}

-- ---- one value of a function replaced

pub upd_same : {A : Type 0} (f : ℕ → A) (i : ℕ) (v : A) → upd f i v i ≡ v
unfolding upd
upd_same f i v = rw (eq-eqb i i refl)

pub upd_other : {A : Type 0} (f : ℕ → A) (i : ℕ) (v : A) (j : ℕ) → (j ≡ i → ⊥) → upd f i v j ≡ f j
unfolding upd
upd_other f i v j ne = rw (ne_eqb j i ne)

pub same_refl : (o : Object) → same_object o o ≡ true
unfolding same_object
same_refl (old g) = eq-eqb g g refl
same_refl (made i) = eq-eqb i i refl

pub same_ne : (o p : Object) → (o ≡ p → ⊥) → same_object o p ≡ false
unfolding same_object
same_ne (old g) (old h) ne = ne_eqb g h (λ e. ne (ap old e))
same_ne (old g) (made j) ne = refl
same_ne (made i) (old h) ne = refl
same_ne (made i) (made j) ne = ne_eqb i j (λ e. ne (ap made e))

-- x is v at the place that is replaced, and elsewhere what stood there
abbrev pub Renewed : {A : Type 0} → Type 0 → A → A → A → Type 0
Renewed C v before x = (C × (v ≡ x)) ⊎ ((C → ⊥) × (before ≡ x))

-- register r of player p
pub upd_at : {A : Type 0} (f : ℕ → ℕ → A) (p r : ℕ) (v : A) (u t : ℕ) (x : A) → Renewed ((u ≡ p) × (t ≡ r)) v (f u t) x → upd f p (upd (f p) r v) u t ≡ x
unfolding upd
upd_at f p r v u t x (inl ((e, d), w)) = rw (eq-eqb u p e, eq-eqb t r d) w
upd_at f p r v u t x (inr (n, w)) = elim (ℕ_discrete u p) [ yes e ↦ rw (eq-eqb u p e, ne_eqb t r (λ d. n (e, d))) (rw e at w) | no e ↦ rw (ne_eqb u p e) w ]

-- link or level word b of the object that g names
pub upd_object_at : {A : Type 0} (name : ℕ → Object) → ((g h : ℕ) → name g ≡ name h → g ≡ h) → (f : Object → ℕ → A) (g b : ℕ) (v : A) (h i : ℕ) (x : A)
    → Renewed ((h ≡ g) × (i ≡ b)) v (f (name h) i) x → upd_object f (name g) (upd (f (name g)) b v) (name h) i ≡ x
unfolding upd upd_object
upd_object_at name one f g b v h i x (inl ((e, d), w)) = rw (e, same_refl (name g), eq-eqb i b d) w
upd_object_at name one f g b v h i x (inr (n, w)) =
    elim (ℕ_discrete h g) [
      | yes e ↦ rw (e, same_refl (name g), ne_eqb i b (λ d. n (e, d))) (rw e at w)
      | no e ↦ rw (same_ne (name h) (name g) (λ q. e (one h g q))) w
    ]

-- ---- names

pub names_old : Names old 0
names_old = record { name_nil = refl; name_one = λ g h e. cc; name_past = λ g j e. absurd (let x : ◌≡◌ {A = ℕ} 0 1 = cc in omega arith) }

pub names_more : {name : ℕ → Object} {i : ℕ} → Names name i → Names name (suc i)
names_more n = record { name_nil = n.name_nil; name_one = n.name_one; name_past = λ g j e. omega (arith, n.name_past g j e) }

-- no granule has the name that a new at place i gives
pub name_fresh : {name : ℕ → Object} {i : ℕ} → Names name i → (h : ℕ) → name h ≡ made i → ⊥
name_fresh {name} {i} n h e = let x : i < i = n.name_past h i e in omega arith

-- an accepted new at g
pub names_new : {name : ℕ → Object} {i : ℕ} → Names name i → (g : ℕ) → (g ≡ 0 → ⊥) → Names (upd name g (made i)) (suc i)
names_new {name} {i} n g nz =
    let here : (h : ℕ) → h ≡ g → upd name g (made i) h ≡ made i = λ h e. rw e (upd_same name g (made i)) in
    let off : (h : ℕ) → (h ≡ g → ⊥) → upd name g (made i) h ≡ name h = upd_other name g (made i) in
    record {
      name_nil = off 0 (λ e. nz (sym e)) ∙ n.name_nil;
      name_one = λ h k e. elim (ℕ_discrete h g) [
        | yes x ↦ elim (ℕ_discrete k g) [ yes y ↦ x ∙ sym y | no y ↦ absurd (name_fresh n k (sym (off k y) ∙ (sym e ∙ here h x))) ]
        | no x ↦ elim (ℕ_discrete k g) [ yes y ↦ absurd (name_fresh n h (sym (off h x) ∙ (e ∙ here k y))) | no y ↦ n.name_one h k (sym (off h x) ∙ (e ∙ off k y)) ]
      ];
      name_past = λ h j e. elim (ℕ_discrete h g) [
        | yes x ↦ let z : made i ≡ made j = sym (here h x) ∙ e in let y : i ≡ j = cc in omega arith
        | no x ↦ omega (arith, n.name_past h j (sym (off h x) ∙ e))
      ];
    }

pub nil_name : {name : ℕ → Object} {i : ℕ} → Names name i → (g : ℕ) → is_nil (name g) ≡ eqb g 0
unfolding is_nil
nil_name {name} n g =
    elim (ℕ_discrete g 0) [
      | yes x ↦ rw (x, n.name_nil, same_refl (old 0), eq-eqb 0 0 refl)
      | no x ↦ same_ne (name g) (old 0) (λ e. x (n.name_one g 0 (e ∙ sym n.name_nil))) ∙ sym (ne_eqb g 0 x)
    ]

-- ---- chains

-- a register or link that holds what y is
pub moved_along : {x y : ℕ} (P : ℕ → Type 0) → x ≡ y → ((y ≡ 0 → ⊥) → P y) → (x ≡ 0 → ⊥) → P x
moved_along P e h nz = subst P (sym e) (h (λ z. nz (e ∙ z)))

-- an object in reach has its size, number of links and links inside
pub in-object : (m : Image) → Facts m → (g : ℕ) → Chain m g → links m g + 2 ≤ 4 * size m g
in-object m f g c = (f.laid.inside g (chain_start m f.proper c)).0

-- and its level words
pub level_inside : (m : Image) (g i : ℕ) → i < levels m g → 2 + links m g + i < 4 * size m g
unfolding levels
level_inside m g i l = omega arith

-- ---- agreement

pub agrees_first : (m : Image) → SameStore old m (plain_of m)
unfolding plain_of of_image
agrees_first m = record { same_reg = λ p r hp hr. refl; same_owing = λ p hp. refl; same_size = λ g c. refl; same_count = λ g c. refl; same_link = λ g i c l. refl; same_level = λ g i c l. refl }

pub agrees_narrow : {P Q : ℕ → Type 0} {name : ℕ → Object} {m : Image} {q : PlainStore} → ((a : ℕ) → Q a → P a) → Agrees P name m q → Agrees Q name m q
agrees_narrow sub s = record {
  same_reg = s.same_reg;
  same_owing = s.same_owing;
  same_size = λ g c. s.same_size g (sub g c);
  same_count = λ g c. s.same_count g (sub g c);
  same_link = λ g i c. s.same_link g i (sub g c);
  same_level = λ g i c. s.same_level g i (sub g c);
}

pub agrees_either : {P Q : ℕ → Type 0} {name : ℕ → Object} {m : Image} {q : PlainStore} → Agrees P name m q → Agrees Q name m q → Agrees (λ a. P a ⊎ Q a) name m q
agrees_either s t = record {
  same_reg = s.same_reg;
  same_owing = s.same_owing;
  same_size = λ g c. elim c [ inl x ↦ s.same_size g x | inr x ↦ t.same_size g x ];
  same_count = λ g c. elim c [ inl x ↦ s.same_count g x | inr x ↦ t.same_count g x ];
  same_link = λ g i c l. elim c [ inl x ↦ s.same_link g i x l | inr x ↦ t.same_link g i x l ];
  same_level = λ g i c l. elim c [ inl x ↦ s.same_level g i x l | inr x ↦ t.same_level g i x l ];
}

-- Where size and number of links of what a chain reaches in m stay, agreement on that is asked in the words of m.
module _ (m m' : Image) (head : (g i : ℕ) → Chain m g → i < 2 → word m' g i ≡ word m g i) where
  pub count_stays : (g : ℕ) → Chain m g → links m' g ≡ links m g
  unfolding links
  count_stays g c = head g 1 c (omega arith)

  pub agrees_renew : (name : ℕ → Object) (q : PlainStore) → ((p r : ℕ) → p < 16 → r < 16 → q.register p r ≡ name (reg m' p r))
      → ((p : ℕ) → p < 16 → q.owing p ≡ not (eqb (owed m' p) 0))
      → ((g : ℕ) → Chain m g → q.size_of (name g) ≡ size m g)
      → ((g : ℕ) → Chain m g → q.link_count (name g) ≡ links m g)
      → ((g i : ℕ) → Chain m g → i < links m g → q.link_of (name g) i ≡ name (link m' g i))
      → ((g i : ℕ) → Chain m g → i < levels m g → q.level_of (name g) i ≡ word m' g (2 + links m g + i)) → Agrees (Chain m) name m' q
  unfolding size level levels
  agrees_renew name q regs owes sizes counts ls vs = record {
    same_reg = regs;
    same_owing = owes;
    same_size = λ g c. sizes g c ∙ sym (head g 0 c (omega arith));
    same_count = λ g c. counts g c ∙ sym (count_stays g c);
    same_link = λ g i c l. ls g i c (subst (λ z. i < z) (count_stays g c) l);
    same_level = λ g i c l. vs g i c (omega (arith, l, head g 0 c (omega arith), count_stays g c)) ∙ ap (λ z. word m' g (2 + z + i)) (sym (count_stays g c));
  }

-- ---- steps that change nothing that the plain store has

module _ (m : Image) (f : Facts m) (m' : Image) (k : WordsStay m m') where
  pub head_stays : (g i : ℕ) → Chain m g → i < 2 → word m' g i ≡ word m g i
  head_stays g i c l = k g i c (omega (arith, in-object m f g c))

  pub link_stays : (g i : ℕ) → Chain m g → i < links m g → link m' g i ≡ link m g i
  unfolding link
  link_stays g i c l = k g (2 + i) c (omega (arith, in-object m f g c))

  pub level_stays : (g i : ℕ) → Chain m g → i < levels m g → word m' g (2 + links m g + i) ≡ level m g i
  unfolding level
  level_stays g i c l = k g (2 + links m g + i) c (level_inside m g i l)

  -- the links of what was in reach lead to what was in reach
  pub links_in_reach : (g i : ℕ) → Chain m g → i < links m' g → (link m' g i ≡ 0 → ⊥) → Chain m (link m' g i)
  links_in_reach g i c l = let li : i < links m g = subst (λ z. i < z) (count_stays m m' head_stays g c) l in moved_along (Chain m) (link_stays g i c li) (λ nz. chain_link g i c li refl nz)

pub same_kept : (m : Image) → Facts m → (m' : Image) → KeptWords m m' → (name : ℕ → Object) (q : PlainStore) → SameStore name m q → SameStore name m' q
same_kept m f m' k name q s =
    agrees_narrow
    (λ a c. chain_least m' (Chain m) (λ p r hp hr. moved_along (Chain m) (k.kept_reg p r) (λ nz. chain_reg p r hp hr refl nz)) (links_in_reach m f m' k.kept_word) c)
    (agrees_renew m m' (head_stays m f m' k.kept_word) name q
    (λ p r hp hr. s.same_reg p r hp hr ∙ ap name (sym (k.kept_reg p r)))
    (λ p hp. s.same_owing p hp ∙ ap (λ z. not (eqb z 0)) (sym (k.kept_owed p)))
    s.same_size
    s.same_count
    (λ g i c l. s.same_link g i c l ∙ ap name (sym (link_stays m f m' k.kept_word g i c l)))
    (λ g i c l. s.same_level g i c l ∙ sym (level_stays m f m' k.kept_word g i c l)))
