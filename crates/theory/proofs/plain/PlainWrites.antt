-- An image and a plain store agree again after the same write to both: a register, a link, a level word, what a player owes.
use mathlib.Core.Path.{◌≡◌, refl, sym, ap, subst, ◌∙◌}
use mathlib.Core.Logic.{inl, inr}
use mathlib.Core.Bool.{true, not}
use Prim.Native.Nat.{ℕ, ◌+◌, ◌*◌, ◌≤◌, ◌<◌}
use native.Mathlib.Decide.{ℕ_discrete}
use native.Mathlib.Omega.{arith}
use lib.Dec.{eqb}
use lib.ListN.{length}
use Rattle.model.specs.Image.{Image, word, is_start, size, links, link, levels, level, reg, owed, with_heap, with_regs, with_players, set_word, set_reg, set_owed}
use Rattle.model.specs.Plain.{Object, PlainStore, upd, put_reg, put_link, put_level, put_owing}
use Rattle.model.specs.Claim.{Chain, chain_reg, chain_link}
use Rattle.model.proofs.Laws.{nth_put_same, nth_put_other}
use Rattle.theory.specs.Same.{SameStore}
use Rattle.theory.specs.Cycle.{Facts}
use Rattle.theory.proofs.lines.Packets.{Wrote, nth_put}
use Rattle.theory.proofs.finish.Safe.{chain_least, chain_start}
use Rattle.theory.proofs.plain.PlainLaws.{upd_same, upd_other, upd_at, upd_object_at, moved_along, in-object, level_inside, agrees_narrow, count_stays, agrees_renew}
use Rattle.theory.proofs.heap.Walk.{same_place}

-- ---- a register: load, hand, drop

module _ (m : Image) (f : Facts m) (p r v : ℕ) (hp : p < 16) (hr : r < 16) where
  reg_after : (u t : ℕ) → t < 16 → Wrote ((u ≡ p) × (t ≡ r)) (reg (set_reg m p r v) u t) v (reg m u t)
  unfolding reg set_reg with_regs
  reg_after u t ht =
      elim (nth_put m.regs (16 * p + r) (16 * u + t) v (omega (arith, f.regs_length))) [
        | inl (e, w) ↦ inl ((omega arith, omega arith), w)
        | inr (n, w) ↦ inr ((λ e. n (omega (arith, e.0, e.1))), w)
      ]

  -- each register after the write is in a set that has v and each register before it
  pub held_after : (P : ℕ → Type 0) → ((v ≡ 0 → ⊥) → P v) → (u t : ℕ) → t < 16 → ((reg m u t ≡ 0 → ⊥) → P (reg m u t)) → (reg (set_reg m p r v) u t ≡ 0 → ⊥) → P (reg (set_reg m p r v) u t)
  held_after P hv u t ht h = elim (reg_after u t ht) [ inl (e, w) ↦ moved_along P w hv | inr (n, w) ↦ moved_along P w h ]

  pub regs_agree : (name : ℕ → Object) (g : ℕ → ℕ → Object) → ((u t : ℕ) → u < 16 → t < 16 → g u t ≡ name (reg m u t))
      → (u t : ℕ) → u < 16 → t < 16 → upd g p (upd (g p) r (name v)) u t ≡ name (reg (set_reg m p r v) u t)
  regs_agree name g s u t hu ht =
      upd_at g p r (name v) u t _ (elim (reg_after u t ht) [ inl (e, w) ↦ inl (e, ap name (sym w)) | inr (n, w) ↦ inr (n, s u t hu ht ∙ ap name (sym w)) ])

  pub same_set_reg : (name : ℕ → Object) (q : PlainStore) → SameStore name m q → ((v ≡ 0 → ⊥) → Chain m v) → SameStore name (set_reg m p r v) (put_reg q p r (name v))
  unfolding put_reg set_reg with_regs size links link levels level word owed
  same_set_reg name q s in_reach =
      agrees_narrow
      (λ a c. chain_least (set_reg m p r v) (Chain m)
      (λ u t hu ht. held_after (Chain m) in_reach u t ht (λ nz. chain_reg u t hu ht refl nz))
      (λ g i h l nz. chain_link g i h l refl nz)
      c)
      (record {
        same_reg = regs_agree name q.register s.same_reg;
        same_owing = s.same_owing;
        same_size = s.same_size;
        same_count = s.same_count;
        same_link = s.same_link;
        same_level = s.same_level;
      })

-- ---- a word of an object, behind its size and number of links: store, write

-- other links and level words
abbrev rewritten : PlainStore → (Object → ℕ → Object) → (Object → ℕ → ℕ) → PlainStore
rewritten q ls vs = record { size_of = q.size_of; link_count = q.link_count; link_of = ls; level_of = vs; register = q.register; owing = q.owing }

module _ (m : Image) (f : Facts m) where
  start_of : (g : ℕ) → Chain m g → is_start m g ≡ true
  start_of g c = chain_start m f.proper c

  module _ (g x v : ℕ) (cg : Chain m g) (hx : x < 4 * size m g) where
    word_after : (h j : ℕ) → Chain m h → j < 4 * size m h → Wrote ((h ≡ g) × (j ≡ x)) (word (set_word m g x v) h j) v (word m h j)
    unfolding set_word with_heap word
    word_after h j ch hj =
        elim (nth_put m.heap (4 * g + x) (4 * h + j) v (omega (arith, hx, (f.laid.inside g (start_of g cg)).1, f.laid.heap_length))) [
          | inl (e, w) ↦ inl (same_place m f.laid h g j x (start_of h ch) (start_of g cg) hj hx e, w)
          | inr (n, w) ↦ inr ((λ e. n (omega (arith, e.0, e.1))), w)
        ]

    -- other words stay
    word_there : (h j : ℕ) → Chain m h → j < 4 * size m h → ((h ≡ g) × (j ≡ x) → ⊥) → word (set_word m g x v) h j ≡ word m h j
    word_there h j ch hj ne = elim (word_after h j ch hj) [ inl (e, w) ↦ absurd (ne e) | inr (n, w) ↦ w ]

    head_stays : 2 ≤ x → (h j : ℕ) → Chain m h → j < 2 → word (set_word m g x v) h j ≡ word m h j
    head_stays behind h j ch l = word_there h j ch (omega (arith, in-object m f h ch)) (λ e. omega (arith, e.1))

    -- the links and level words are compared, the rest stays
    written : 2 ≤ x → (name : ℕ → Object) (q : PlainStore) (ls : Object → ℕ → Object) (vs : Object → ℕ → ℕ) → SameStore name m q
        → ((h i : ℕ) → Chain m h → i < links m h → ls (name h) i ≡ name (link (set_word m g x v) h i))
        → ((h i : ℕ) → Chain m h → i < levels m h → vs (name h) i ≡ word (set_word m g x v) h (2 + links m h + i))
        → ((h i : ℕ) → Chain m h → i < links m h → (link (set_word m g x v) h i ≡ 0 → ⊥) → Chain m (link (set_word m g x v) h i))
        → SameStore name (set_word m g x v) (rewritten q ls vs)
    unfolding set_word with_heap reg owed
    written behind name q ls vs s sl sv linked =
        agrees_narrow
        (λ a c. chain_least (set_word m g x v) (Chain m)
        (λ u t hu ht nz. chain_reg u t hu ht refl nz)
        (λ h i k l. linked h i k (subst (λ z. i < z) (count_stays m (set_word m g x v) (head_stays behind) h k) l))
        c)
        (agrees_renew m (set_word m g x v) (head_stays behind) name (rewritten q ls vs) s.same_reg s.same_owing s.same_size s.same_count sl sv)

  -- link b
  module _ (g b v : ℕ) (cg : Chain m g) (hb : b < links m g) (in_reach : (v ≡ 0 → ⊥) → Chain m v) where
    in_links : 2 + b < 4 * size m g
    in_links = omega (arith, hb, in-object m f g cg)

    link_after : (h i : ℕ) → Chain m h → i < links m h → Wrote ((h ≡ g) × (i ≡ b)) (link (set_word m g (2 + b) v) h i) v (link m h i)
    unfolding link
    link_after h i c l =
        elim (word_after g (2 + b) v cg in_links h (2 + i) c (omega (arith, in-object m f h c))) [
          | inl ((e, d), w) ↦ inl ((e, omega arith), w)
          | inr (n, w) ↦ inr ((λ k. n (k.0, omega (arith, k.1))), w)
        ]

    levels_stay : (h i : ℕ) → Chain m h → i < levels m h → word (set_word m g (2 + b) v) h (2 + links m h + i) ≡ level m h i
    unfolding level
    levels_stay h i c l = word_there g (2 + b) v cg in_links h (2 + links m h + i) c (level_inside m h i l) (λ k. let e : links m h ≡ links m g = ap (links m) k.0 in omega (arith, k.1))

    pub same_stored : (name : ℕ → Object) → ((h k : ℕ) → name h ≡ name k → h ≡ k) → (q : PlainStore) → SameStore name m q → SameStore name (set_word m g (2 + b) v) (put_link q (name g) b (name v))
    unfolding put_link
    same_stored name one q s =
        written g (2 + b) v cg in_links (omega arith) name q _ q.level_of s
        (λ h i c l. upd_object_at name one q.link_of g b (name v) h i _
        (elim (link_after h i c l) [ inl (e, w) ↦ inl (e, ap name (sym w)) | inr (n, w) ↦ inr (n, s.same_link h i c l ∙ ap name (sym w)) ]))
        (λ h i c l. s.same_level h i c l ∙ sym (levels_stay h i c l))
        (λ h i c l. elim (link_after h i c l) [ inl (e, w) ↦ moved_along (Chain m) w in_reach | inr (n, w) ↦ moved_along (Chain m) w (λ nz. chain_link h i c l refl nz) ])

  -- level word b
  module _ (g b v : ℕ) (cg : Chain m g) (hb : b < levels m g) where
    abbrev place : ℕ
    place = 2 + links m g + b

    in_levels : place < 4 * size m g
    in_levels = level_inside m g b hb

    links_stay : (h i : ℕ) → Chain m h → i < links m h → link (set_word m g place v) h i ≡ link m h i
    unfolding link
    links_stay h i c l = word_there g place v cg in_levels h (2 + i) c (omega (arith, in-object m f h c)) (λ k. let e : links m h ≡ links m g = ap (links m) k.0 in omega (arith, k.1))

    level_after : (h i : ℕ) → Chain m h → i < levels m h → Wrote ((h ≡ g) × (i ≡ b)) (word (set_word m g place v) h (2 + links m h + i)) v (level m h i)
    unfolding level
    level_after h i c l =
        elim (word_after g place v cg in_levels h (2 + links m h + i) c (level_inside m h i l)) [
          | inl ((e, d), w) ↦ let k : links m h ≡ links m g = ap (links m) e in inl ((e, omega arith), w)
          | inr (n, w) ↦ inr ((λ k. let e : links m h ≡ links m g = ap (links m) k.0 in n (k.0, omega (arith, k.1))), w)
        ]

    pub same_written : (name : ℕ → Object) → ((h k : ℕ) → name h ≡ name k → h ≡ k) → (q : PlainStore) → SameStore name m q → SameStore name (set_word m g (2 + links m g + b) v) (put_level q (name g) b v)
    unfolding put_level
    same_written name one q s =
        written g place v cg in_levels (omega arith) name q q.link_of _ s
        (λ h i c l. s.same_link h i c l ∙ ap name (sym (links_stay h i c l)))
        (λ h i c l. upd_object_at name one q.level_of g b v h i _
        (elim (level_after h i c l) [ inl (e, w) ↦ inl (e, sym w) | inr (n, w) ↦ inr (n, s.same_level h i c l ∙ sym w) ]))
        (λ h i c l. moved_along (Chain m) (links_stay h i c l) (λ nz. chain_link h i c l refl nz))

-- ---- what a player owes: store, barrier

pub same_set_owed : (m : Image) → length m.players ≡ 32 → (p x : ℕ) → p < 16 → (name : ℕ → Object) (q : PlainStore) → SameStore name m q → SameStore name (set_owed m p x) (put_owing q p (not (eqb x 0)))
unfolding put_owing set_owed with_players reg owed size links link levels level word
same_set_owed m len p x hp name q s =
    agrees_narrow
    (λ a c. chain_least (set_owed m p x) (Chain m) (λ u t hu ht nz. chain_reg u t hu ht refl nz) (λ h i k l nz. chain_link h i k l refl nz) c)
    (record {
      same_reg = s.same_reg;
      same_owing = λ u hu. elim (ℕ_discrete u p) [
        | yes y ↦ rw (y, upd_same q.owing p (not (eqb x 0)), nth_put_same m.players (2 * p) x (omega (arith, len, hp)))
        | no y ↦ rw (upd_other q.owing p (not (eqb x 0)) u y, nth_put_other m.players (2 * p) (2 * u) x (λ e. y (omega arith))) (s.same_owing u hu)
      ];
      same_size = s.same_size;
      same_count = s.same_count;
      same_link = s.same_link;
      same_level = s.same_level;
    })
