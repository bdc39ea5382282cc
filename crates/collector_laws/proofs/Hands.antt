-- The object in hand: what the lines say of it, its link reached, the hand moved on.
use mathlib.Core.Path.{◌≡◌, sym, ◌∙◌}
use mathlib.Core.List.{List}
use Prim.Native.Nat.{ℕ, ◌+◌, ◌*◌, ◌<◌}
use native.Mathlib.Omega.{arith}
use borrow.Author.Tests.{eq-eqb, ne_eqb}
use Rattle.model.specs.Image.{Image, image_of, image, granules, is_start, marked, word, links, link, hand, next_link}
use Rattle.model.specs.Collect.{reach, trace_hand, take_object}
use Rattle.theory.specs.Heap.{ObjectAt}
use Rattle.theory.specs.Lines.{NilOr, Start, Lines}
use Rattle.theory.proofs.heap.Walk.{object-at}
use Rattle.theory.proofs.heap.Facts.{heap_filled_of, link_value}
use Rattle.theory.proofs.steps.Reaching.{ReachedOnce, reach_does}
use Rattle.theory.proofs.steps.Tracing.{in_hand_ok}
use Rattle.image_laws.specs.Sized.{Sized}
use Rattle.tracers_laws.specs.Tracer.{Tracer, tracer_at, link_done, object_in_hand, with_tracer}
use Rattle.tracers_laws.proofs.Words.{tracers_long, link_done_written, object_written}

-- ---- a link of an object

module _ (w k : ℕ) (ws : List ℕ) (o : Lines (image_of w k ws)) (g : ℕ) (s : Start (image_of w k ws) g) where
  pub link_in : (i : ℕ) → i < links (image_of w k ws) g → 4 * g + (2 + i) < 256 * k
  unfolding is_start granules image_of image
  link_in i h = let b : ObjectAt (image_of w k ws) g = object-at (image_of w k ws) (heap_filled_of o) g s.1 in omega (arith, b.links-in, b.in_heap)

  pub link-ok : (i a : ℕ) → i < links (image_of w k ws) g → a ≡ word (image_of w k ws) g (2 + i) → NilOr (Start (image_of w k ws)) a
  unfolding link
  link-ok i a h e = rw e (link_value o g i s h)

-- ---- the object in hand

module _ (w k : ℕ) (ws : List ℕ) (o : Lines (image_of w k ws)) (t : ℕ) (h : t < 8) (p : 0 < hand (image_of w k ws) t) (x : Tracer) (e : x ≡ tracer_at (image_of w k ws) t) where
  next_in_hand : x.link < links (image_of w k ws) x.hand
  unfolding tracer_at
  next_in_hand = rw e (in_hand_ok (image_of w k ws) o t h (λ z. omega arith)).1

  -- object g in hand at link i, as the code has read them
  module _ (g : ℕ) (a : g ≡ x.hand) where
    pub hand_start : Start (image_of w k ws) g
    unfolding tracer_at marked
    hand_start = rw (a, e) (o.marks_ok.on_starts (hand (image_of w k ws) t) (in_hand_ok (image_of w k ws) o t h (λ z. omega arith)).0)

    pub hand_below : 4 * g + 1 < 256 * k
    unfolding image_of image
    hand_below = omega (arith, hand_start.0)

    pub hand_link : (i : ℕ) → i ≡ x.link → i < links (image_of w k ws) g
    hand_link i b = rw (b, a) next_in_hand

  -- its link reached, which leaves hand and next link
  module _ (n₁ : Image) (r : n₁ ≡ reach (image_of w k ws) t (link (image_of w k ws) x.hand x.link)) (n : ℕ) (f : n ≡ word (image_of w k ws) x.hand 1) where
    reached : ReachedOnce (image_of w k ws) (link (image_of w k ws) x.hand x.link) n₁
    unfolding tracer_at
    reached = rw r (reach_does (image_of w k ws) o t (link (image_of w k ws) x.hand x.link) h (rw e (in_hand_ok (image_of w k ws) o t h (λ z. omega arith)).2))

    pub hand_next : next_link n₁ t < n
    unfolding tracer_at links next_link
    hand_next = rw (reached.tracer_same t 3 (omega arith) (omega arith), f, e) (rw e at next_in_hand)

    pub hand_traced : (n₂ : Image) → n₂ ≡ with_tracer n₁ t (link_done (tracer_at n₁ t) n) → n₂ ≡ trace_hand (image_of w k ws) t
    unfolding trace_hand tracer_at links hand next_link
    hand_traced n₂ b =
        let same = reached.tracer_same t in
        b ∙ (link_done_written n₁ t h reached.lines.tracers_ok.sized n ∙ rw (same 2 (omega arith) (omega arith), same 3 (omega arith) (omega arith), f, r, e))

-- a tracer read, moved on and written
pub moved_on : (m n : Image) (t c : ℕ) (x y : Tracer) → x ≡ tracer_at m t → y ≡ link_done x c → n ≡ with_tracer m t y → n ≡ with_tracer m t (link_done (tracer_at m t) c)
moved_on m n t c x y e q r = r ∙ rw (q, e)

pub read_link : (m : Image) (t c : ℕ) (x : Tracer) → x ≡ tracer_at m t → next_link m t < c → x.link < c
unfolding tracer_at
read_link m t c x e h = rw e h

-- ---- an object put in hand

module _ (w k : ℕ) (ws : List ℕ) (t g n : ℕ) (f : n ≡ links (image_of w k ws) g) where
  pub hand_unlinked : n ≡ 0 → image_of w k ws ≡ take_object (image_of w k ws) t g
  unfolding take_object
  hand_unlinked z = rw (eq-eqb (links (image_of w k ws) g) 0 (sym f ∙ z))

  pub hand_taken : (n ≡ 0 → ⊥) → Sized w k ws → t < 8 → (x y : Tracer) (m : Image) → x ≡ tracer_at (image_of w k ws) t → y ≡ object_in_hand x g → m ≡ with_tracer (image_of w k ws) t y → m ≡ take_object (image_of w k ws) t g
  unfolding take_object
  hand_taken z s h x y m e y-is i = i ∙ rw (y-is, e, ne_eqb (links (image_of w k ws) g) 0 (λ q. z (f ∙ q))) (object_written (image_of w k ws) t h (tracers_long s) g)

pub link_reached : (m n : Image) (t g i a : ℕ) → a ≡ word m g (2 + i) → n ≡ reach m t a → n ≡ reach m t (link m g i)
unfolding link
link_reached m n t g i a e f = f ∙ rw e
