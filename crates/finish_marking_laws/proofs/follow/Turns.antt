-- Settling a pending object, and a card's turn, keep the marking, and less is left; with an empty list the marks are what is found.
use mathlib.Core.Path.{◌≡◌, refl, sym, ◌∙◌}
use mathlib.Core.Logic.{inl, inr, ⊎_elim}
use Prim.Native.Nat.{ℕ, zero, suc, ◌+◌, ◌*◌, ◌-◌, ◌/◌, ◌<◌, ◌≤◌}
use native.Mathlib.Omega.{arith}
use native.Mathlib.Decide.{ℕ_discrete}
use Rattle.model.specs.Base.{set_bit}
use Rattle.model.specs.Image.{Image, is_start, marked, links, link, with_starts, with_cards, set_start, set_state}
use Rattle.model.proofs.Laws.{length_put, nth_put_other}
use Rattle.finish_marking_laws.specs.Follow.{card_word, Pending, Headed, visited, visits, settled, LinksIn, Reach, object_bit, Nowhere, Followed, follow, seed}
use Rattle.finish_marking_laws.specs.Marking.{Shape, Marking, weight, on_list, work_left, Between}
use Rattle.finish_marking_laws.proofs.follow.Bits.{Settled, settled_bits}
use Rattle.finish_marking_laws.proofs.follow.Grown.{same_links, same_link, grown_settle, grown_cards, links_found}
use Rattle.finish_marking_laws.proofs.follow.Measure.{weights_settle, cards_change}
use Rattle.finish_marking_laws.proofs.follow.Visiting.{visit_keeps}
use Rattle.finish_marking_laws.proofs.follow.Worklist.{turned_around, list_empty, head_taken, head_in, later_high}
use Rattle.image_laws.specs.Digits.{mark_bit, start_bit}
use Rattle.image_laws.proofs.Digits.{digit_two, digit_le}

-- ---- the same marking, said otherwise

module _ {k : ℕ} {m₀ m : Image} {N : ℕ → Type 0} {h l : ℕ} (w : Marking k m₀ m N h l) where
  -- of what is pending, all that was to be settled is still so
  pub marking_as : (N' : ℕ → Type 0) → ((g : ℕ) → Pending m g → N g → N' g) → Marking k m₀ m N' h l
  marking_as N' f = record { world = w.world; grown = w.grown; listed = record { list = w.listed.list; holds = λ g q. ⊎_elim (λ o. inl o) (λ n. inr (f g q n)) (w.listed.holds g q) } }

  -- the cards that were listed later have their turns
  pub next_round : Marking k m₀ m N l h
  next_round = record { world = w.world; grown = w.grown; listed = record { list = turned_around w.listed.list; holds = w.listed.holds } }

  pub head_card : (h ≡ 1 → ⊥) → (2 ≤ h) × (h - 2 < k)
  head_card n = ((head_taken w.listed.list n).above, omega (arith, head_in w.listed.list n, w.grown.shape.cards))

  pub later_fits : l ≤ k + 1
  later_fits = omega (arith, later_high w.listed.list, w.grown.shape.cards)

-- ---- the links of a pending object, one after the other

pub record LinksVisited (k : ℕ) (m₀ m : Image) (N : ℕ → Type 0) (h g n : ℕ) (p : Headed) : Type 0 where
  pub marking : Marking k m₀ p.image N h p.head
  pub all : (i : ℕ) → i < n → (link m₀ g i ≡ 0 → ⊥) → mark_bit p.image (link m₀ g i) ≡ 1
  pub pending : (a : ℕ) → Pending m a → Pending p.image a
  pub less : work_left k p.image ≤ work_left k m

module _ {k : ℕ} {m₀ m : Image} {N : ℕ → Type 0} {h l : ℕ} (w : Marking k m₀ m N h l) (g : ℕ) (q : Pending m g) where
  is_object : object_bit m₀ g ≡ 1
  is_object = omega (arith, w.grown.same g, q.is_marked, q.bare)

  -- a pending object and its links lie in the heap
  pub links_inside : g < 64 * k → LinksIn k m g
  links_inside hg = record {
    inside = rw (same_links m₀ m w.grown.heap g) (w.world.inside g is_object);
    target = λ i b. rw (same_link m₀ m w.grown.heap g i) (elim (ℕ_discrete (link m₀ g i) 0) [
      | yes e ↦ omega arith
      | no n ↦ (w.world.target g i is_object (rw (same_links m₀ m w.grown.heap g) at b) n).0
    ]);
  }

  through_more : (n : ℕ) (p : Headed) → LinksVisited k m₀ m N h g n p → n < links m₀ g → LinksVisited k m₀ m N h g (suc n) (visited p.image p.head (link m₀ g n))
  through_more n p t b =
      let o = w.world.target g n is_object b in
      let v = visit_keeps (link m₀ g n) t.marking
      (λ nz. (links_found k m₀ p.image g n t.marking.grown (t.pending g q) b nz, (o nz).0, t.marking.grown.same (link m₀ g n) ∙ (o nz).1)) in
      record {
        marking = v.marking;
        all = λ i li nz. elim (ℕ_discrete i n) [
          | yes e ↦ rw e (v.now_marked (rw e at nz))
          | no ne ↦ omega (arith, t.all i (omega arith) nz, v.grow (link m₀ g i), digit_le (marked (visited p.image p.head (link m₀ g n)).image (link m₀ g i)))
        ];
        pending = λ a o. v.pending a (t.pending a o);
        less = omega (arith, v.less, t.less);
      }

  through : (n : ℕ) → n ≤ links m₀ g → LinksVisited k m₀ m N h g n (visits m l g n)
  unfolding visits
  through zero b = record { marking = w; all = λ i z. absurd (omega arith); pending = λ a o. o; less = omega arith }
  through (suc n) b = rw (same_link m₀ m w.grown.heap g n) (through_more n (visits m l g n) (through n (omega arith)) (omega arith))

-- ---- a pending object is settled

-- the object's start bit stands again: it is no longer pending, what else is pending stays so
pub record ObjectSettled (k : ℕ) (m₀ m : Image) (N : ℕ → Type 0) (h g : ℕ) (p : Headed) : Type 0 where
  pub marking : Marking k m₀ p.image N h p.head
  pub less : work_left k p.image < work_left k m
  pub done : Pending p.image g → ⊥
  pub others : (a : ℕ) → Pending m a → (a ≡ g → ⊥) → Pending p.image a

settle_pending : {m m' : Image} {a : ℕ} → Settled m m' a → (g : ℕ) → Pending m' g → Pending m g
settle_pending {a = a} p g q = elim (ℕ_discrete g a) [
  | yes e ↦ absurd (omega (arith, p.start, rw e at q.bare))
  | no n ↦ record { is_marked = sym (p.marks g) ∙ q.is_marked; bare = sym (p.starts g n) ∙ q.bare }
]

pub object_settled : {k : ℕ} {m₀ m : Image} {N : ℕ → Type 0} {h l : ℕ} → Marking k m₀ m N h l → (g : ℕ) → g < 64 * k → Pending m g → ObjectSettled k m₀ m N h g (settled m l g)
unfolding settled work_left set_start with_starts set_bit on_list
object_settled {k} {m₀} {m} {N} {h} {l} v g hg q =
    let p : Headed = visits m l g (links m₀ g) in
    let t : LinksVisited k m₀ m N h g (links m₀ g) p = through v g q (links m₀ g) (omega arith) in
    let w = t.marking.grown in
    let s : Settled p.image (set_start p.image g) g = settled_bits k p.image g w.shape hg in
    let s' : Shape k (set_start p.image g) = record { starts = λ a b. rw length_put (w.shape.starts a b); marks = w.shape.marks; cards = w.shape.cards } in
    rw (same_links m₀ m v.grown.heap g) (record {
      marking = record {
        world = t.marking.world;
        grown = grown_settle w s' refl refl s (t.pending g q) t.all;
        listed = record { list = t.marking.listed.list; holds = λ a o. t.marking.listed.holds a (settle_pending s a o) };
      };
      less = omega (arith, weights_settle (64 * k) hg s (t.pending g q), t.less);
      done = λ o. omega (arith, o.bare, s.start);
      others = λ a o n. record { is_marked = s.marks a ∙ (t.pending a o).is_marked; bare = s.starts a n ∙ (t.pending a o).bare };
    })

-- ---- a card is taken from the list: its pending objects are to be settled

pub record CardTaken (k : ℕ) (m₀ m : Image) (h l : ℕ) : Type 0 where
  pub marking : Marking k m₀ (set_state m (h - 2) 0) (Between (64 * (h - 2)) (64 * (h - 2) + 64)) (card_word m (h - 2)) l
  pub less : work_left k (set_state m (h - 2) 0) < work_left k m

pub takes_card : {k : ℕ} {m₀ m : Image} {h l : ℕ} → Marking k m₀ m Nowhere h l → (h ≡ 1 → ⊥) → CardTaken k m₀ m h l
unfolding work_left weight set_state with_cards marked is_start
takes_card {k} {m₀} {m} {h} {l} w n = record {
  marking = record {
    world = w.world;
    grown = grown_cards k m₀ m (h - 2) 0 w.grown;
    listed = record {
      list = (head_taken w.listed.list n).list;
      holds = λ g q. elim (ℕ_discrete (g / 64) (h - 2)) [
        | yes e ↦ inr (record { low = omega arith; high = omega arith })
        | no e ↦ inl (rw nth_put_other (⊎_elim (λ o. o) (λ z. absurd z) (w.listed.holds g (record { is_marked = q.is_marked; bare = q.bare }))))
      ];
    };
  };
  less = omega (arith, cards_change k m (h - 2) 0 (head_card w n).1 w.grown.shape.cards, (head_taken w.listed.list n).on);
}

-- ---- with an empty list

module _ {k : ℕ} {m₀ m : Image} (w : Marking k m₀ m Nowhere 1 1) where
  clean : (c : ℕ) → card_word m c ≡ 0
  clean = list_empty w.listed.list

  -- nothing is pending
  done : (g : ℕ) → mark_bit m g ≡ 1 → start_bit m g ≡ 1
  done g em = ⊎_elim (λ e. ⊎_elim (λ o. absurd (omega (arith, clean (g / 64)))) (λ z. absurd z) (w.listed.holds g (record { is_marked = em; bare = e }))) (λ e. e) (digit_two (is_start m g))

  reach_marked : {a : ℕ} → Reach m₀ a → mark_bit m a ≡ 1
  reach_marked (seed g i q l e nz) =
      let em : mark_bit m g ≡ 1 = omega (arith, w.grown.grow g, q.is_marked, digit_le (marked m g)) in
      rw (sym e) (w.grown.closed g i em (done g em) (inl q.bare) l (rw (sym e) at nz))
  reach_marked (follow g i r u l e nz) =
      let em : mark_bit m g ≡ 1 = reach_marked r in
      rw (sym e) (w.grown.closed g i em (done g em) (inr u) l (rw (sym e) at nz))

  pub marking_done : Followed k m₀ m
  marking_done = record {
    heap = w.grown.heap;
    rest = w.grown.rest;
    starts = λ g. elim (digit_two (marked m g)) [ inl e ↦ omega (arith, w.grown.same g) | inr e ↦ omega (arith, w.grown.same g, done g e) ];
    kept = w.grown.only;
    keeps = λ g s. ⊎_elim (λ e. omega (arith, w.grown.grow g, digit_le (marked m g))) (λ r. reach_marked r) s;
    cards = clean;
  }
