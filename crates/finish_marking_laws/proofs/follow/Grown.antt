-- What a marking makes of an image (`Grown`), kept by every step on the way.
use Rattle.model.specs.Base.{nth}
use mathlib.Core.Path.{◌≡◌, refl, sym, ap, ◌∙◌}
use mathlib.Core.Logic.{inl, inr, ⊎_elim}
use Prim.Native.Nat.{ℕ, ◌*◌, ◌<◌, ◌≤◌, ◌+◌}
use native.Mathlib.Omega.{arith}
use native.Mathlib.Decide.{ℕ_discrete}
use Rattle.model.specs.Image.{Image, is_start, marked, links, link, with_cards, set_state, word}
use Rattle.model.proofs.Laws.{length_put}
use Rattle.finish_marking_laws.specs.Follow.{Pending, Reach, object_bit, untouched, follow, seed}
use Rattle.finish_marking_laws.specs.Marking.{Shape, Grown}
use Rattle.finish_marking_laws.proofs.follow.Bits.{Pended, Settled}
use Rattle.image_laws.specs.Digits.{mark_bit}
use Rattle.image_laws.proofs.Digits.{digit_two, digit_le}
use mathlib.Core.List.{List}

-- ---- equal heaps have equal objects

module _ (m m' : Image) (e : m'.heap ≡ m.heap) (g : ℕ) where
  pub same_links : links m' g ≡ links m g
  unfolding links word
  same_links = ap (λ (l : List ℕ). nth l (4 * g + 1)) e

  pub same_link : (i : ℕ) → link m' g i ≡ link m g i
  unfolding link word
  same_link i = ap (λ (l : List ℕ). nth l (4 * g + (2 + i))) e

pub pend_grow : {m m' : Image} {a : ℕ} → Pended m m' a → (g : ℕ) → mark_bit m g ≤ mark_bit m' g
pend_grow {m} {m'} {a} p g = elim (ℕ_discrete g a) [ yes e ↦ rw (e, p.mark) (digit_le (marked m a)) | no n ↦ omega (arith, p.marks g n) ]

-- ---- one object changes

module _ {k : ℕ} {m₀ m m' : Image} {a : ℕ} (w : Grown k m₀ m) (s : Shape k m') (eh : m'.heap ≡ m.heap) (er : untouched m' ≡ untouched m) where
  -- found, it becomes pending
  pub grown_pend : Pended m m' a → object_bit m a ≡ 1 → mark_bit m a ≡ 0 → Reach m₀ a → Grown k m₀ m'
  grown_pend p o u r = record {
    shape = s;
    heap = eh ∙ w.heap;
    rest = er ∙ w.rest;
    same = λ g. elim (ℕ_discrete g a) [ yes e ↦ rw e (omega (arith, p.mark, p.start, w.same a)) | no n ↦ rw (p.marks g n, p.starts g n) (w.same g) ];
    grow = λ g. omega (arith, w.grow g, pend_grow p g);
    stay = λ g em es. elim (ℕ_discrete g a) [ yes e ↦ absurd (omega (arith, w.grow a, rw e at em)) | no n ↦ p.starts g n ∙ w.stay g em es ];
    only = λ g em. elim (ℕ_discrete g a) [ yes e ↦ inr (rw e r) | no n ↦ w.only g (sym (p.marks g n) ∙ em) ];
    closed = λ g i em es f l nz. elim (ℕ_discrete g a) [
      | yes e ↦ absurd (omega (arith, p.start, rw e at es))
      | no n ↦ omega (arith, pend_grow p (link m₀ g i), w.closed g i (sym (p.marks g n) ∙ em) (sym (p.starts g n) ∙ es) f l nz, digit_le (marked m' (link m₀ g i)))
    ];
  }

  -- pending, it is settled
  pub grown_settle : Settled m m' a → Pending m a → ((i : ℕ) → i < links m₀ a → (link m₀ a i ≡ 0 → ⊥) → mark_bit m (link m₀ a i) ≡ 1) → Grown k m₀ m'
  grown_settle p q all = record {
    shape = s;
    heap = eh ∙ w.heap;
    rest = er ∙ w.rest;
    same = λ g. elim (ℕ_discrete g a) [ yes e ↦ rw e (omega (arith, p.marks a, p.start, w.same a, q)) | no n ↦ rw (p.marks g, p.starts g n) (w.same g) ];
    grow = λ g. rw (p.marks g) (w.grow g);
    stay = λ g em es. elim (ℕ_discrete g a) [ yes e ↦ rw e p.start | no n ↦ p.starts g n ∙ w.stay g em es ];
    only = λ g em. w.only g (sym (p.marks g) ∙ em);
    closed = λ g i em es f l nz. p.marks (link m₀ g i) ∙ elim (ℕ_discrete g a) [
      | yes e ↦ rw e (all i (rw e at l) (rw e at nz))
      | no n ↦ w.closed g i (sym (p.marks g) ∙ em) (sym (p.starts g n) ∙ es) f l nz
    ];
  }

-- ---- cards alone

pub grown_cards : (k : ℕ) (m₀ m : Image) (c v : ℕ) → Grown k m₀ m → Grown k m₀ (set_state m c v)
unfolding set_state with_cards marked is_start
grown_cards k m₀ m c v w = search (length_put, ◌∙◌)

-- ---- the links of a pending object lead to what is found

pub links_found : (k : ℕ) (m₀ m : Image) (g i : ℕ) → Grown k m₀ m → Pending m g → i < links m₀ g → (link m₀ g i ≡ 0 → ⊥) → Reach m₀ (link m₀ g i)
links_found k m₀ m g i w q l nz = elim (digit_two (marked m₀ g)) [
  | inl em ↦ ⊎_elim (λ o. absurd (omega arith)) (λ o. follow g i o em l refl nz) (w.only g q.is_marked)
  | inr em ↦ ⊎_elim (λ es. seed g i (record { is_marked = em; bare = es }) l refl nz) (λ es. absurd (omega (arith, q.bare, w.stay g em es))) (digit_two (is_start m₀ g))
]
