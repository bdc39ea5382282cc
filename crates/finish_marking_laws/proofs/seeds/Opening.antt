-- The functions that open an object, a bit word, a card, an entry, a tracer's hand: each way out.
use mathlib.Core.Path.{◌≡◌, refl, sym, ap, ◌∙◌}
use mathlib.Core.Logic.{◌⊎◌, inl, inr, ⊎_elim}
use Prim.Native.Nat.{ℕ, ◌+◌, ◌*◌, ◌-◌, ◌/◌, ◌%◌, ◌<◌, min, ◌≤◌, ◌^◌}
use native.Mathlib.Nat.{mod-lt}
use native.Mathlib.Omega.{arith}
use native.Mathlib.Decide.{ℕ_discrete}
use lib.ListN.{length}
use lib.Bits.{bit_and}
use Rattle.model.specs.Base.{nth, put}
use Rattle.model.specs.Image.{Image, is_start, marked, with_starts, state, dirty, image_of}
use Rattle.model.proofs.Laws.{nth_put_same, nth_put_other, false≢}
use mathlib.Core.List.{List}
use mathlib.Core.Bool.{Bool, true, false}
use Rattle.finish_marking_laws.specs.Seeds.{Upto, Refers, EnteredAt, WordAt, CardAt, HandAt, DirtyAt, Bared, object, card}
use Rattle.finish_marking_laws.specs.Marking.{Shape}
use Rattle.finish_marking_laws.proofs.seeds.Bared.{bared_none, bared_both, bared_as}
use Rattle.image_laws.specs.Bits.{clear_start}
use Rattle.image_laws.specs.Digits.{digit, bit_of, mark_bit, start_bit}
use Rattle.image_laws.specs.Sized.{Sized}
use Rattle.image_laws.proofs.Digits.{digit_two, digit_le, digit_off, bit-and, bit_not, mark_digit, start_digit}
use Rattle.image_laws.proofs.Lengths.{width_image, sized_width, starts_words}
use Rattle.image_laws.proofs.Masks.{clear_same, clear_other}
use Rattle.image_laws.proofs.Places.{by_width, word_on_card, card_in_word}

-- ---- one object

pub one_nil : (m : Image) (a : ℕ) → a ≡ 0 → Bared m m (Refers a)
one_nil m a e = bared_none (λ g q. q.some e)

pub one_some : (k : ℕ) (m m' : Image) (a : ℕ) → Shape k m → a < 64 * k → (a ≡ 0 → ⊥) → m' ≡ clear_start m a → Bared m m' (Refers a)
unfolding clear_start with_starts marked is_start
one_some k m m' a s h n e =
    rw e
    (record {
      heap = refl;
      marks = refl;
      cards = refl;
      rest = refl;
      has = λ g q. rw q.eq (digit_off (clear_same m.width m.starts a (s.starts a h)));
      only = λ g. elim (ℕ_discrete g a) [ yes q ↦ inl (record { eq = q; some = n }) | no q ↦ inr (ap digit (clear_other m.width m.starts a g q)) ];
    })

-- ---- one word of w bits, with marks x, whose complement in 64 bits is y, and starts s

module _ (w : ℕ) (m : Image) (e : m.width ≡ w) (o : (0 < w) × (w ≤ 64)) (i x s y v : ℕ) (ex : x ≡ nth m.marks i) (es : s ≡ nth m.starts i) (h : i < length m.starts) (f : x + y + 1 ≡ 2 ^ 64) (ev : v ≡ bit_and s y) where
  abbrev after_word : Image
  after_word = with_starts m (put m.starts i v)

  after : (g : ℕ) → g / w ≡ i → start_bit after_word g ≡ min (start_bit m g) (1 - mark_bit m g)
  unfolding with_starts
  after g q =
      start_digit w after_word e g
      ∙ rw (mark_digit w m e g, start_digit w m e g, q, nth_put_same, ev, bit-and s y (g % w), ← ex, ← es)
      (ap (min (bit_of s (g % w))) (omega (arith, bit_not 64 x y (g % w) f (omega (arith, mod-lt g o.0, o.1)))))

  word_bared : Bared m after_word (WordAt w (mark_bit m) i)
  unfolding with_starts marked
  word_bared = record {
    heap = refl;
    marks = refl;
    cards = refl;
    rest = refl;
    has = λ g p. omega (arith, after g p.on, p.is_marked);
    only = λ g. elim (ℕ_discrete (g / w) i) [
      | yes q ↦ ⊎_elim (λ z. inr (omega (arith, after g q, digit_le (is_start m g)))) (λ u. inl (record { on = q; is_marked = u })) (digit_two (marked m g))
      | no n ↦ inr (start_digit w after_word e g ∙ rw nth_put_other (sym (start_digit w m e g)))
    ];
  }

pub open_word : (w k : ℕ) (ws : List ℕ) → Sized w k ws → (i x s y v : ℕ) → i < 64 * k / w → x ≡ nth (image_of w k ws).marks i → s ≡ nth (image_of w k ws).starts i → x + y + 1 ≡ 2 ^ 64 → v ≡ bit_and s y → (m : Image)
    → m ≡ with_starts (image_of w k ws) (put (image_of w k ws).starts i v) → Bared (image_of w k ws) m (WordAt w (mark_bit (image_of w k ws)) i)
open_word w k ws z i x s y v h ex es f ev m e =
    let o : (0 < w) × (w ≤ 64) = by_width (λ w. (0 < w) × (w ≤ 64)) (omega arith, omega arith) (omega arith, omega arith) (sized_width z) in
    rw e (word_bared w (image_of w k ws) (width_image w k ws) o i x s y v ex es (omega (arith, starts_words z)) f ev)

-- ---- a card, word by word

abbrev pub CardWord : ℕ → (ℕ → ℕ) → ℕ → ℕ → ℕ → Type 0
CardWord w mark c i g = WordAt w mark (64 / w * c + i) g

pub card-word : (w c i : ℕ) {m m1 m2 : Image} {N : ℕ → Type 0} → Bared m m1 N → Bared m1 m2 (WordAt w (mark_bit m1) (64 / w * c + i)) → Bared m1 m2 (CardWord w (mark_bit m) c i)
card-word w c i {m} {m1} {m2} a b = rw a.marks at b

pub card_whole : (w : ℕ) (m m' : Image) (c : ℕ) → (w ≡ 16) ⊎ (w ≡ 32) → Bared m m' (Upto (CardWord w (mark_bit m) c) (64 / w)) → Bared m m' (CardAt (mark_bit m) c)
card_whole w m m' c o b = bared_as
    (λ g q. record { on = word_on_card w c q.place o g q.below q.here.on; is_marked = q.here.is_marked })
    (λ g q. let r = card_in_word w c (g / w - 64 / w * c) o g refl q.on in record { place = g / w - 64 / w * c; below = r.0; here = record { on = r.1; is_marked = q.is_marked } })
    b

-- ---- an entry

pub entry_none : (m : Image) (i : ℕ) → i % 32 < 2 → Bared m m (EnteredAt m.packets i)
entry_none m i l = bared_none (λ g q. absurd (omega (arith, q.place)))

pub entry_one : (m m' : Image) (i a : ℕ) → 2 ≤ i % 32 → a ≡ nth m.packets i → Bared m m' (Refers a) → Bared m m' (EnteredAt m.packets i)
entry_one m m' i a l e b = bared_as (λ g q. record { place = l; is = rw e at q }) (λ g q. rw e q.is) b

-- ---- a tracer

module _ (m m1 : Image) (t a c : ℕ) (ea : a ≡ nth m.tracers (8 * t + 2)) (ec : c ≡ nth m.tracers (8 * t + 4)) (b : Bared m m1 (Refers a)) where
  pub hand_object : c ≡ 0 → Bared m m1 (HandAt m.tracers (mark_bit m) t)
  hand_object z = bared_as (λ g q. object (rw ea at q)) (λ g. elim [ object q ↦ rw ea q | card e o ↦ absurd (omega arith) ]) b

  pub hand_both : (c ≡ 0 → ⊥) → (m2 : Image) → Bared m1 m2 (CardAt (mark_bit m1) (c - 1)) → Bared m m2 (HandAt m.tracers (mark_bit m) t)
  hand_both n m2 d =
      bared_both b (rw b.marks at d)
      (λ g. elim [ object q ↦ inl (rw ea q) | card e o ↦ inr (record { on = omega arith; is_marked = o }) ])
      (λ g q. object (rw ea at q)) (λ g q. card (omega (arith, q.on)) q.is_marked)

-- ---- a dirty card

module _ (m : Image) (c : ℕ) (r : Bool) (er : r ≡ dirty m c) where
  pub dirty_some : r ≡ true → (m' : Image) → Bared m m' (CardAt (mark_bit m) c) → Bared m m' (DirtyAt m.cards (mark_bit m) c)
  unfolding dirty state
  dirty_some q m' b =
      bared_as
      (λ g p. record { on = p.on; is-dirty = sym er ∙ q; is_marked = p.is_marked })
      (λ g p. record { on = p.on; is_marked = p.is_marked })
      b

  pub dirty_none : r ≡ false → Bared m m (DirtyAt m.cards (mark_bit m) c)
  unfolding dirty state
  dirty_none q = bared_none (λ g p. false≢ (sym q ∙ er ∙ p.is-dirty))
