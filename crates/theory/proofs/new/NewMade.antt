-- What a new leaves: its object in a stretch that is long enough, and every other object as it was.
use mathlib.Core.Path.{◌≡◌, refl, sym, ap, subst, ◌∙◌}
use mathlib.Core.Logic.{inl, inr}
use mathlib.Core.Bool.{true, false}
use Prim.Native.Nat.{ℕ, suc, ◌+◌, ◌*◌, ◌-◌, ◌≤◌, ◌<◌}
use native.Mathlib.Decide.{ℕ_discrete}
use native.Mathlib.Omega.{arith}
use Rattle.model.specs.Base.{nth, put}
use Rattle.model.specs.Image.{Image, granules, word, is_start, size, links, reg, first_run, with_regs, set_reg, owed}
use Rattle.model.specs.Mutate.{Placing, room_for, new_object, if_long, granules_in_runs}
use Rattle.model.proofs.Laws.{not_make}
use Rattle.theory.specs.Heap.{HeapFilled, HeapSized, Laid}
use Rattle.theory.specs.Pieces.{Pieces, PiecesIn, PlaceIn, RunApart}
use Rattle.theory.specs.New.{placed, reheaped, next_of, Carved, NewMade}
use Rattle.theory.proofs.heap.Pieces.{pieces_image}
use Rattle.theory.proofs.heap.Sums.{sum_alike, long_zero}
use Rattle.theory.proofs.heap.Unused.{clear_one}
use Rattle.theory.proofs.new.Room.{room_place, room_stretch, place_apart, before_apart}
use Rattle.theory.proofs.new.Carve.{place_below, carve, word_before, word_after}
use Rattle.theory.proofs.new.Shrink.{shrink}
use Rattle.theory.proofs.new.NewHeap.{placed_sections, placed_granules, placed_length, placed_first, placed_general, placed_starts_length, placed_sized, placed_carved}
use borrow.Author.Tests.{not-true}

module _ (rule : Placing) (m : Image) (b c g : ℕ) (o : HeapFilled m) (z : HeapSized m) (hb : 1 ≤ b) (few : b ≤ 1024) (fits : c ≤ 4 * b - 2) (e : (room_for rule m b).run ≡ suc g) where
  abbrev before : ℕ
  before = (room_for rule m b).before

  -- before the register is written
  abbrev made : Image
  made = placed m (suc g) before b c

  place : PlaceIn m b 1 (first_run m) false 0 (suc g) before
  place = room_place m b o z rule g e

  apart_here : RunApart m (suc g) × (b ≤ word m (suc g) 0)
  apart_here = place_apart m b (omega arith) place (clear_one m o)

  below : before < suc g
  below = place_below m place (omega arith)

  abbrev next : ℕ
  next = next_of m (suc g) b (word m (suc g) 0 - b)

  is_carved : Carved m made b c (suc g) before next
  is_carved = placed_carved m (suc g) before b c apart_here.0.is_run apart_here.1 hb below o.heap_words z

  pieces_made : PiecesIn made 1 (first_run made) false
  pieces_made =
      subst (λ x. Pieces (is_start made) (word made) x 1 (first_run made) false) (sym (placed_granules m (suc g) before b c))
      (subst (λ x. Pieces (is_start made) (word made) (granules m) 1 x false) (sym (placed_first m (suc g) before b c z.general_words))
      (carve m made b c (suc g) before next is_carved hb below few (omega arith) place (omega arith)))

  made_filled : HeapFilled made
  made_filled = pieces_image made (placed_sized m (suc g) before b c z) (placed_length m (suc g) before b c ∙ (o.heap_words ∙ ap (λ x. 4 * x) (sym (placed_granules m (suc g) before b c)))) pieces_made
      (λ h s. rw (placed_granules m (suc g) before b c) (elim (ℕ_discrete h (suc g)) [
        | yes x ↦ (omega arith, omega (arith, apart_here.0.is_run.ends, apart_here.0.is_run.long))
        | no x ↦ o.start_range h (sym (is_carved.start_old h x) ∙ s)
      ]))

  made_old : (h i : ℕ) → is_start m h ≡ true → i < 4 * size m h → word made h i ≡ word m h i
  made_old h i s l =
      let off : 4 * h + i ≡ 4 * before + 1 → ⊥ = λ q. elim (before_apart m b (omega arith) place (clear_one m o) (inl refl)) [
        | inl x ↦ omega (arith, (o.start_range h s).0)
        | inr a ↦ elim (a.apart h s) [ inl k ↦ omega arith | inr k ↦ omega (arith, a.is_run.long) ]
      ] in
      elim (apart_here.0.apart h s) [
        | inl k ↦ word_before m made b c (suc g) before next is_carved hb below h i (omega arith) off
        | inr k ↦ word_after m made b c (suc g) before next is_carved hb below h i k apart_here.1
      ]

  made_sections : made ≡ reheaped m made.heap made.starts made.general
  made_sections =
      let s = placed_sections m (suc g) before b c in
      s ∙ ap (λ x. reheaped m made.heap x made.general) (sym (ap (λ x. x.starts) s))

  -- the register is written last, and none of the rest reads it
  with_reg : (p r : ℕ) → NewMade m (set_reg made p r (suc g)) p r b c (suc g)
  unfolding set_reg with_regs is_start granules first_run word size links
  with_reg p r = record {
    filled = record { heap_words = made_filled.heap_words; heap_filled = made_filled.heap_filled; start_range = made_filled.start_range };
    sized = let s = placed_sized m (suc g) before b c z in record { some_granules = s.some_granules; start_words = s.start_words; general_words = s.general_words };
    was_unused = room_stretch m b o z rule g e;
    start_new = is_carved.start_new;
    start_old = is_carved.start_old;
    size_new = is_carved.size_new;
    links_new = is_carved.links_new;
    zero_new = λ i l.
        is_carved.others (4 * suc g + (2 + i)) (omega arith) (omega arith) (λ u x. omega (arith, below)) (λ k. omega arith)
        ∙ apart_here.0.is_run.zero_words i (omega (arith, apart_here.1));
    words_old = made_old;
    granule_zero = λ i l. is_carved.others i (omega arith) (omega arith) (λ u. omega arith) (λ k. omega arith);
    general_word = (placed_general m (suc g) before b c).0;
    general_length = (placed_general m (suc g) before b c).1;
    starts_length = placed_starts_length m (suc g) before b c;
    sections = ap (λ x. set_reg x p r (suc g)) made_sections;
  }

  pub new_made : (p r : ℕ) → NewMade m (new_object rule m p r b c) p r b c (suc g)
  new_made p r =
      let is : new_object rule m p r b c ≡ set_reg made p r (suc g) = unfold new_object placed in rw e in
      subst (λ n. NewMade m n p r b c (suc g)) (sym is) (with_reg p r)

  -- what the other runs of so many granules have, and what this one counts before and after
  pub new_runs : (p r least : ℕ) → (rest : ℕ) × (granules_in_runs least m ≡ rest + if_long least (word m (suc g) 0)) × (granules_in_runs least (new_object rule m p r b c) ≡ rest + if_long least (word m (suc g) 0 - b))
  unfolding granules_in_runs
  new_runs p r least =
      let is : new_object rule m p r b c ≡ set_reg made p r (suc g) = unfold new_object placed in rw e in
      let d = shrink m made b c (suc g) before next is_carved hb below (if_long least) (granules m) (long_zero least) place (omega arith) (omega arith) in
      let same : granules_in_runs least (set_reg made p r (suc g)) ≡ granules_in_runs least made = unfold set_reg with_regs first_run granules in sum_alike (if_long least) made (set_reg made p r (suc g)) (λ h i. unfold word in refl) (granules made) (first_run made) in
      (d.0, d.1, ap (granules_in_runs least) is ∙ same ∙ (rw (placed_granules m (suc g) before b c, placed_first m (suc g) before b c z.general_words) d.2))

-- ---- what that says of the object and of the other sections

module _ {m n : Image} {p r b c g : ℕ} (k : NewMade m n p r b c g) where
  pub new_not_nil : g ≡ 0 → ⊥
  new_not_nil z = omega (arith, (k.filled.start_range g k.start_new).0)

  -- no object was there
  pub new_was_free : Laid m → 1 ≤ b → is_start m g ≡ false
  new_was_free d h = not-true _ (not_make (is_start m g) (λ s. (k.was_unused g (omega arith) (omega arith)).in_no_object g s (omega arith) (omega (arith, (d.inside g s).0))))

  pub new_regs : n.regs ≡ put m.regs (16 * p + r) g
  unfolding set_reg with_regs
  new_regs = ap (λ x. x.regs) k.sections

  pub new_marks : (n.marks ≡ m.marks) × (n.width ≡ m.width)
  unfolding set_reg with_regs
  new_marks = (ap (λ x. x.marks) k.sections, ap (λ x. x.width) k.sections)

  pub new_owed : (q : ℕ) → owed n q ≡ owed m q
  unfolding owed set_reg with_regs
  new_owed q = ap (λ x. nth x.players (2 * q)) k.sections

  pub new_reg : (q s : ℕ) → reg n q s ≡ reg (set_reg m p r g) q s
  unfolding reg set_reg with_regs
  new_reg q s = ap (λ l. nth l (16 * q + s)) new_regs
