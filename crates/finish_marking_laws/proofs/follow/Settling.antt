-- An object is settled, link by link, and the pending objects of a bit word of w bits, one after the other.
use mathlib.Core.Path.{◌≡◌, refl, sym, ap, subst, ◌∙◌}
use mathlib.Core.Bool.{true}
use mathlib.Core.Logic.{◌⊎◌}
use mathlib.Core.List.{List}
use Prim.Native.Nat.{ℕ, ◌+◌, ◌*◌, ◌-◌, ◌/◌, ◌^◌, ◌<◌, ◌≤◌, min, zero, suc}
use native.Mathlib.Decide.{ℕ_discrete, dec_lt}
use native.Mathlib.Numerals.{add-one}
use native.Mathlib.Omega.{arith}
use lib.Bits.{bit_and}
use lib.Count.{count_trailing_zeros}
use lib.ListN.{length}
use Rattle.model.specs.Base.{nth, test_bit}
use Rattle.model.specs.Image.{Image, is_start, marked, image_of, word, links, link, with_starts, with_marks, with_cards, set_start, set_mark, set_state}
use Rattle.model.proofs.Laws.{false≢}
use Rattle.image_laws.specs.Bits.{without_bit, clear_start}
use Rattle.image_laws.specs.Digits.{bit_of, mark_bit, start_bit}
use Rattle.image_laws.specs.Sized.{Sized}
use Rattle.image_laws.proofs.Digits.{digit_le, digit_on, on_digit, off_digit, bit_none, bit-and, bit_not, mark_digit, start_digit}
use Rattle.image_laws.proofs.Lengths.{sized_as, sized_width}
use Rattle.image_laws.proofs.Masks.{without_bit_same, without_bit_less, without_bit_other}
use Rattle.image_laws.proofs.Places.{by_width, few_bits, place_word, place_bit, place_in, words_full}
use Rattle.image_laws.proofs.Trailing.{Lowest, word_lowest}
use Rattle.finish_marking_laws.specs.Follow.{Pending, PendingWord, Headed, headed, settled, LinksIn, pend, visited, visits}
use Rattle.finish_marking_laws.specs.Marking.{Marking, work_left, Between, Underway, GoneOn, SettledTo}
use Rattle.finish_marking_laws.proofs.follow.Turns.{marking_as, later_fits, links_inside, ObjectSettled, object_settled}
use Rattle.finish_marking_laws.proofs.follow.Visits.{Visit, visit_cases, past, on, new}

-- ---- a visit leaves the heap alone

visit_heap : {m : Image} {h a : ℕ} {p : Headed} → Visit m h a p → p.image.heap ≡ m.heap
unfolding pend clear_start set_mark with_starts with_marks set_state with_cards
visit_heap (past e) = refl
visit_heap (on n u o) = refl
visit_heap (new n u z) = refl

visits_heap : (m : Image) (h g n : ℕ) → (visits m h g n).image.heap ≡ m.heap
unfolding visits
visits_heap m h g zero = refl
visits_heap m h g (suc n) = visit_heap (visit_cases (visits m h g n).image (visits m h g n).head (link m g n)) ∙ visits_heap m h g n

-- ---- the loop over the links

-- after i of n links of g
pub record LinksDone (k : ℕ) (m₀ : Image) (head g n h : ℕ) (m : Image) (i : ℕ) : Type 0 where
  pub state : headed h m ≡ visits m₀ head g i
  pub high : h ≤ k + 1
  pub number : n ≡ links m₀ g

pub links_none : (k : ℕ) (m : Image) (head g n : ℕ) → head ≤ k + 1 → n ≡ links m g → LinksDone k m head g n head m 0
unfolding visits
links_none k m head g n h e = record { state = refl; high = h; number = e }

module _ {k : ℕ} {m₀ : Image} {head g n h : ℕ} {m : Image} {i : ℕ} (t : LinksDone k m₀ head g n h m i) where
  module _ (a : ℕ) (ea : a ≡ word m g (2 + i)) where
    is_link : a ≡ link m₀ g i
    unfolding link
    is_link = ea ∙ unfold word in ap (λ (p : Headed). nth p.image.heap (4 * g + (2 + i))) t.state ∙ ap (λ (l : List ℕ). nth l (4 * g + (2 + i))) (visits_heap m₀ head g i)

    pub links_target : LinksIn k m₀ g → i < n → a < 64 * k
    links_target f l = rw is_link (f.target i (omega (arith, t.number)))

    pub links_more : (h' : ℕ) (m' : Image) → headed h' m' ≡ visited m h a → h' ≤ k + 1 → LinksDone k m₀ head g n h' m' (i + 1)
    unfolding visits
    links_more h' m' e hh = record { state = rw add-one (e ∙ rw (is_link, ← t.state)); high = hh; number = t.number }

pub links_end : {k : ℕ} {m₀ : Image} {head g n h : ℕ} {m : Image} → LinksDone k m₀ head g n h m n → (m' : Image) → m' ≡ set_start m g → headed h m' ≡ settled m₀ head g
unfolding settled
links_end t m' e = rw (← t.number, ← t.state, e)

-- ---- the pending objects of a word

-- marks x without starts s, whose complement in 64 bits is y
pub pending_word : (w : ℕ) (m : Image) → m.width ≡ w → (w ≡ 16) ⊎ (w ≡ 32) → (i x s y v : ℕ) → x ≡ nth m.marks i → s ≡ nth m.starts i → s + y + 1 ≡ 2 ^ 64 → v ≡ bit_and x y → PendingWord w m i v
pending_word w m e o i x s y v ex es h ev = rw ev (record {
  some = λ j l q.
      let b : 1 ≡ min (mark_bit m (w * i + j)) (1 - start_bit m (w * i + j)) = sym (digit_on q) ∙ bits j l in
      record { is_marked = omega (arith, digit_le (marked m (w * i + j))); bare = omega (arith, digit_le (is_start m (w * i + j))) };
  all = λ j l p. on_digit _ (bits j l ∙ omega (arith, p.is_marked, p.bare));
})
  where
    bits : (j : ℕ) → j < w → bit_of (bit_and x y) j ≡ min (mark_bit m (w * i + j)) (1 - start_bit m (w * i + j))
    bits j l =
        rw (mark_digit w m e (w * i + j), start_digit w m e (w * i + j), place_word w i j l, place_bit w i j l, ← ex, ← es, bit-and x y j)
        (ap (min (bit_of x j)) (omega (arith, bit_not 64 s y j h (few_bits o l))))

-- ---- the loop over them

-- a bit of x, in word i, or behind that word and before e
pub data BitOrBehind (w i x e : ℕ) (g : ℕ) : Type 0 where
  here : (j : ℕ) → j < w → test_bit x j ≡ true → g ≡ w * i + j → BitOrBehind w i x e g
  behind : Between (w * i + w) e g → BitOrBehind w i x e g

-- the objects of word i but those of the bits x are settled
pub record WordSettled (w k : ℕ) (im₀ : List ℕ) (l i : ℕ) (im : List ℕ) (h x : ℕ) : Type 0 where
  pub small : x < 2 ^ w
  pub sized : Sized w k im
  pub same : length im ≡ length im₀
  pub pending : (j : ℕ) → j < w → test_bit x j ≡ true → Pending (image_of w k im) (w * i + j)
  pub goes_on : (m₀ : Image) (a e : ℕ) → Marking k m₀ (image_of w k im₀) (Between (w * i) e) a l → GoneOn k m₀ (image_of w k im₀) (BitOrBehind w i x e) a (headed h (image_of w k im))

pub word_none : {w k : ℕ} {im : List ℕ} (l : ℕ) {i x : ℕ} → x < 2 ^ w → Sized w k im → PendingWord w (image_of w k im) i x → WordSettled w k im l i im l x
word_none {w} {k} {im} l {i} {x} hx z b = record {
  small = hx;
  sized = z;
  same = refl;
  pending = b.some;
  goes_on = λ m₀ a e u. record {
    marking = marking_as u (BitOrBehind w i x e) (λ g q n. elim (dec_lt g (w * i + w)) [
      | yes d ↦ let s : w * i + (g - w * i) ≡ g = omega (arith, n.low) in here (g - w * i) (omega arith) (b.all (g - w * i) (omega arith) (rw s q)) (sym s)
      | no d ↦ behind (record { low = omega arith; high = n.high })
    ]);
    less = omega arith;
  };
}

module _ {w k : ℕ} {im₀ : List ℕ} {l i : ℕ} {im : List ℕ} {h x : ℕ} (t : WordSettled w k im₀ l i im h x) where
  only_behind : x ≡ 0 → (e g : ℕ) → BitOrBehind w i x e g → Between (w * i + w) e g
  only_behind z e g (behind n) = n
  only_behind z e g (here j d b q) = false≢ (sym (off_digit _ (bit_none j)) ∙ (rw z at b))

  pub word_end : x ≡ 0 → SettledTo k (image_of w k im₀) (w * i) l (w * i + w) (headed h (image_of w k im))
  word_end z = record { goes_on = λ m₀ a e u. let r = t.goes_on m₀ a e u in record { marking = marking_as r.marking (Between (w * i + w) e) (λ g q n. only_behind z e g n); less = r.less } }

  -- what has become pending in the word meanwhile
  pub word_again : x ≡ 0 → {y : ℕ} → y < 2 ^ w → PendingWord w (image_of w k im) i y → WordSettled w k im₀ l i im h y
  word_again z {y} hy b = record {
    small = hy;
    sized = t.sized;
    same = t.same;
    pending = b.some;
    goes_on = λ m₀ a e u. let r = t.goes_on m₀ a e u in record { marking = marking_as r.marking (BitOrBehind w i y e) (λ g q n. behind (only_behind z e g n)); less = r.less };
  }

  module _ (n : x ≡ 0 → ⊥) where
    pub word_bit : Lowest w x (count_trailing_zeros 64 x)
    word_bit = word_lowest w x (by_width (λ w. w ≤ 64) (omega arith) (omega arith) (sized_width t.sized)) t.small n

    module _ (hi : i < 64 * k / w) (u : Underway k (image_of w k im₀) (w * i) l) where
      abbrev object : ℕ
      object = w * i + count_trailing_zeros 64 x

      inside : object < 64 * k
      inside = rw (words_full w k (sized_width t.sized)) at (place_in w i (count_trailing_zeros 64 x) word_bit.within (64 * k / w) hi)

      is_pending : Pending (image_of w k im) object
      is_pending = t.pending (count_trailing_zeros 64 x) word_bit.within word_bit.is_set

      so_far : GoneOn k u.from (image_of w k im₀) (BitOrBehind w i x u.end) u.head (headed h (image_of w k im))
      so_far = t.goes_on u.from u.head u.end u.marking

      pub word_object : ((object < 64 * k) × (h ≤ k + 1)) × LinksIn k (image_of w k im) object
      word_object = ((inside, later_fits so_far.marking), links_inside so_far.marking object is_pending inside)

      module _ (h' : ℕ) (im' : List ℕ) (e : headed h' (image_of w k im') ≡ settled (image_of w k im) h object) where
        one_more : {m₀ : Image} {N : ℕ → Type 0} {a : ℕ} → Marking k m₀ (image_of w k im) N a h → ObjectSettled k m₀ (image_of w k im) N a object (headed h' (image_of w k im'))
        one_more {m₀} {N} {a} r = subst (λ (p : Headed). ObjectSettled k m₀ (image_of w k im) N a object p) (sym e) (object_settled r object inside is_pending)

        pub word_falls : work_left k (image_of w k im') < work_left k (image_of w k im)
        word_falls = (one_more so_far.marking).less

        pub word_more : length im' ≡ length im → (x' : ℕ) → x' ≡ without_bit x (count_trailing_zeros 64 x) → WordSettled w k im₀ l i im' h' x'
        word_more s x' ex = record {
          small = let f : x' < x = rw ex (without_bit_less x _ word_bit.is_set) in omega (arith, t.small);
          sized = sized_as t.sized s;
          same = s ∙ t.same;
          pending = λ j d b. elim (ℕ_discrete j (count_trailing_zeros 64 x)) [
            | yes q ↦ false≢ (sym (without_bit_same x (count_trailing_zeros 64 x)) ∙ (rw (ex, q) at b))
            | no q ↦ (one_more so_far.marking).others (w * i + j) (t.pending j d (rw (ex, without_bit_other x j (count_trailing_zeros 64 x) q) at b)) (λ z. q (omega arith))
          ];
          goes_on = λ m₀ a c v.
              let r = t.goes_on m₀ a c v in
              let o : ObjectSettled k m₀ (image_of w k im) (BitOrBehind w i x c) a object (headed h' (image_of w k im')) = one_more r.marking in
              record {
                marking = marking_as o.marking (BitOrBehind w i x' c) (λ g q. elim [
                  | behind b ↦ behind b
                  | here j d b p ↦ here j d (rw (ex, without_bit_other x j (count_trailing_zeros 64 x) (λ z. o.done (subst (Pending (image_of w k im')) (p ∙ rw z) q))) b) p
                ]);
                less = omega (arith, o.less, r.less);
              };
        }
