-- What a word names, told by the bits of an image.
use mathlib.Core.Path.{◌≡◌, refl, sym, ap, ◌∙◌}
use mathlib.Core.Bool.{Bool, true, false, ◌&&◌, ◌||◌, and-true}
use mathlib.Core.List.{List}
use mathlib.Core.Logic.{inl, inr}
use Prim.Native.Nat.{ℕ, ◌+◌, ◌*◌, ◌-◌, ◌<◌, ◌≤◌, min, ◌/◌, ◌%◌}
use native.Mathlib.Omega.{arith}
use lib.Dec.{eqb, ltb, leb}
use lib.ListN.{take, drop, length, replicate, length-replicate}
use Rattle.model.specs.Base.{nth, all, either, zeroes, put, with_bit, bit, set_bit}
use Rattle.model.specs.Image.{Image, image, image_of, granules, most_cards, is_start, marked}
use Rattle.model.specs.Undamaged.{nil_or_start, reg_ok}
use Rattle.model.proofs.Laws.{or_split, all_make, zeroes_use, nth_replicate, nth_put_same, nth_put_other, length_put}
use Rattle.image_laws.specs.Sized.{Sized}
use Rattle.image_laws.proofs.Bits.{zero_bit, start_past, mark_past}
use Rattle.soundness_laws.proofs.Checks.{test_inside, nth_part, all_append, clamped}
use Rattle.soundness_laws.specs.Sets.{CardBits, table_words, Named}
use Rattle.model.proofs.Bits.{set_bit_same, set_bit_other, bit_past}
use borrow.Author.Tests.{ne_eqb, leb-true}
use native.Mathlib.Decide.{ℕ_discrete, dec_lt}

-- ---- a table filled card by card

-- the first i of k cards stand in the table, and zeros behind them
pub record Filled (w k : ℕ) (ws table : List ℕ) (i : ℕ) : Type 0 where
  pub within : i ≤ k
  pub long : length table ≡ table_words
  pub filled : (c : ℕ) → c < i → CardBits w ws c (nth table c)
  pub rest : (c : ℕ) → i ≤ c → nth table c ≡ 0

module _ (w k : ℕ) (ws : List ℕ) where
  pub filled_none : (table : List ℕ) → table ≡ replicate table_words 0 → Filled w k ws table 0
  filled_none table e = record { within = omega arith; long = rw e (length-replicate {A = ℕ} table_words 0); filled = λ c q. absurd (omega arith); rest = λ c q. rw e (nth_replicate table_words c) }

  module _ (table : List ℕ) (i : ℕ) (s : Filled w k ws table i) where
    pub filled_more : (v n : ℕ) → n ≡ min k table_words → i < n → CardBits w ws i v → Filled w k ws (put table i v) (i + 1)
    filled_more v n en h b = record {
      within = omega arith;
      long = length_put table i v ∙ s.long;
      filled = λ c q. elim (ℕ_discrete c i) [
        | yes o ↦ rw (o, nth_put_same table i v (omega (arith, s.long))) b
        | no o ↦ rw (nth_put_other table i c v o) (s.filled c (omega arith))
      ];
      rest = λ c q. nth_put_other table i c v (λ o. absurd (omega arith)) ∙ s.rest c (omega arith);
    }

    filled_bit : length ws ≡ 64 * k / w → (a n : ℕ) → n ≡ min k table_words → n ≤ i → a / 64 < table_words → bit 64 table a ≡ bit w ws a
    unfolding bit
    filled_bit el a n en h b = elim (dec_lt (a / 64) i) [
      | yes q ↦ let e : 64 * (a / 64) + a % 64 ≡ a = omega arith in rw e at ((s.filled (a / 64) q).each (a % 64) (omega arith))
      | no q ↦ zero_bit _ (a % 64) (s.rest (a / 64) (omega arith)) ∙ sym (bit_past w (64 * k) ws a el (omega arith))
    ]

    pub filled_end : (v n : ℕ) → length ws ≡ 64 * k / w → n ≡ min k table_words → n ≤ i → v ≡ with_bit (nth table 0) 0 → Named w ws (put table 0 v)
    unfolding set_bit
    filled_end v n el en h e =
        let zeroth : put table 0 v ≡ set_bit 64 table 0 = rw e in
        record {
          long = length_put table 0 v ∙ s.long;
          bits = λ a q. rw zeroth (elim (ℕ_discrete a 0) [
            | yes o ↦ rw o (set_bit_same 64 table 0 (omega (arith, s.long)))
            | no o ↦ rw (set_bit_other 64 table 0 a o, ne_eqb a 0 o) (filled_bit el a n en h q)
          ]);
        }

-- ---- what a word names

module _ (w k : ℕ) (l : List ℕ) (z : Sized w k l) (a : ℕ) where
  module _ (b : ℕ) (t : Bool) (eb : b ≡ min a (64 * k - 1)) where
    pub mark_at : t ≡ marked (image_of w k l) b → (ltb a (64 * k) && t) ≡ marked (image_of w k l) a
    mark_at et = clamped (marked (image_of w k l)) (64 * k) a b t (mark_past w k l z a) eb et

    pub start_at : t ≡ is_start (image_of w k l) b → (ltb a (64 * k) && t) ≡ is_start (image_of w k l) a
    start_at et = clamped (is_start (image_of w k l)) (64 * k) a b t (start_past w k l z a) eb et

  nil-or-start : nil_or_start (image_of w k l) a ≡ (eqb a 0 || is_start (image_of w k l) a)
  unfolding nil_or_start either granules image_of image
  nil-or-start =
      rw (test_inside (is_start (image_of w k l)) (64 * k) a (start_past w k l z a))
      (elim (eqb a 0) as (λ c. either c true (is_start (image_of w k l) a) ≡ (c || is_start (image_of w k l) a)) [ true ↦ refl | false ↦ refl ])

  module _ (table : List ℕ) (r : Bool) where
    pub target_bit : Named w (image_of w k l).starts table → a / 64 < table_words → r ≡ bit 64 table a → r ≡ nil_or_start (image_of w k l) a
    unfolding is_start image_of image
    target_bit t h e = e ∙ (t.bits a h ∙ sym nil-or-start)

    pub target_asked : r ≡ is_start (image_of w k l) a → (eqb a 0 || r) ≡ nil_or_start (image_of w k l) a
    target_asked e = rw (nil-or-start, e)

    pub marked_bit : Named w (image_of w k l).marks table → a / 64 < table_words → r ≡ bit 64 table a → r ≡ (eqb a 0 || marked (image_of w k l) a)
    unfolding marked image_of image
    marked_bit t h e = e ∙ t.bits a h

    pub marked_asked : r ≡ marked (image_of w k l) a → (eqb a 0 || r) ≡ (eqb a 0 || marked (image_of w k l) a)
    marked_asked e = rw e

-- ---- the same told by a table alone

-- t says that the table is asked, n being the most cards of a store: then no granule lies beyond it
few_cards : (n k : ℕ) (t : Bool) → k ≤ n → t ≡ (leb n 1024 || leb k 1024) → t ≡ true → k ≤ 1024
few_cards n k t h e q = elim (or_split (leb n 1024) (leb k 1024) (sym e ∙ q)) [ inl u ↦ omega (arith, leb-true n 1024 u) | inr u ↦ leb-true k 1024 u ]

pub table_bit : (table : List ℕ) (a b : ℕ) (t : Bool) → b ≡ min a 65535 → t ≡ bit 64 table b → (ltb a 65536 && t) ≡ (ltb a 65536 && bit 64 table (min a 65535))
table_bit table a b t eb et = rw (et, eb)

pub marked_tabled : (w k : ℕ) (l : List ℕ) → Sized w k l → (table : List ℕ) → Named w (image_of w k l).marks table → (a n : ℕ) → n ≡ most_cards w → (t : Bool) → t ≡ (leb n 1024 || leb k 1024) → t ≡ true
    → (r : Bool) → r ≡ (ltb a 65536 && bit 64 table (min a 65535)) → r ≡ (eqb a 0 || marked (image_of w k l) a)
unfolding marked image_of image
marked_tabled w k l z table s a n en t et is r er =
    let few : k ≤ 1024 = few_cards n k t (rw en z.high) et is in
    er ∙ clamped (λ a. eqb a 0 || marked (image_of w k l) a) 65536 a (min a 65535) (bit 64 table (min a 65535))
    (λ h. rw (ne_eqb a 0 (λ e. omega arith)) (mark_past w k l z a (omega arith))) refl
    (s.bits (min a 65535) (omega arith))

pub target_word : (m : Image) (a v : ℕ) (r : Bool) → v ≡ a → r ≡ nil_or_start m v → r ≡ nil_or_start m a
target_word m a v r e q = q ∙ ap (nil_or_start m) e

-- registers that hold nothing, from a to b - 1, need not be asked
pub nil_behind : (m : Image) (a b : ℕ) (r : Bool) → a ≤ b → r ≡ zeroes (take (b - a) (drop a m.regs)) → r ≡ true → all b (reg_ok m) ≡ all a (reg_ok m)
unfolding reg_ok nil_or_start either
nil_behind m a b r l e h =
    let n : ℕ = b - a in
    let z : (i : ℕ) → i < n → nth m.regs (a + i) ≡ 0 = λ i q. sym (nth_part n a m.regs i q) ∙ zeroes_use (take n (drop a m.regs)) (sym e ∙ h) i in
    let o : b ≡ a + n = omega arith in
    rw (o, all_append a n (reg_ok m), all_make n (λ i. reg_ok m (a + i)) (λ i q. rw (z i q))) (and-true (all a (reg_ok m)))
