-- Entries of packets by index; sets that hold them, and that none stands there twice.
use mathlib.Core.Path.{◌≡◌, refl, sym, ◌∙◌, ap}
use mathlib.Core.Logic.{inl, inr}
use mathlib.Core.Bool.{Bool, true, false, not, ◌&&◌, ◌||◌, and-true, and-false, or-true, or-false, or_assoc}
use mathlib.Core.List.{List, [], ◌∷◌, ◌++◌, append-nil, append_assoc}
use Prim.Native.Nat.{ℕ, suc, ◌+◌, ◌*◌, ◌/◌, ◌%◌, ◌≤◌, ◌<◌}
use native.Mathlib.Omega.{arith}
use native.Mathlib.Numerals.{add-one}
use native.Mathlib.Decide.{ℕ_discrete}
use native.Mathlib.Nat.{mod-eq_of_lt}
use lib.Dec.{eqb}
use lib.ListN.{length, take, drop, length-drop, replicate, length-replicate}
use lib.Seq.{take-suc}
use borrow.Author.Tests.{eq-eqb, ne_eqb, not-true, not-false}
use Rattle.model.specs.Base.{nth, elem, distinct, bit, set_bit}
use Rattle.model.specs.Image.{image_of, entries_of, Image, count, entry, entries}
use Rattle.model.specs.Undamaged.{entered}
use Rattle.model.proofs.Bits.{set_bit_same, set_bit_other, length_set_bit, bit_zeros}
use Rattle.model.proofs.Entries.{nth_drop}
use Rattle.model.proofs.Laws.{false≢, bool_cases}
use Rattle.image_laws.specs.Sized.{Sized}
use Rattle.image_laws.proofs.Lengths.{packets_words}
use Rattle.image_laws.proofs.Sections.{granules_image}
use Rattle.soundness_laws.specs.Entered.{entries_upto, apart, shares_bit, Holding, HoldingOnce, set_words, EnteredSet}
use Rattle.soundness_laws.proofs.Packets.{entries_more}
use Rattle.soundness_laws.specs.Tests.{Packed}

-- ---- lists

elem_append : (g : ℕ) (l r : List ℕ) → elem g (l ++ r) ≡ (elem g l || elem g r)
unfolding elem
elem_append g [] r = refl
elem_append g (x ∷ l) r = rw (elem_append g l r) (sym (or_assoc (eqb g x) _ _))

shares_append : (g : ℕ) (l r : List ℕ) → shares_bit g (l ++ r) ≡ (shares_bit g l || shares_bit g r)
unfolding shares_bit
shares_append g [] r = refl
shares_append g (x ∷ l) r = rw (shares_append g l r) (sym (or_assoc (eqb (g % apart) (x % apart)) _ _))

-- a granule of the list has its bit there
elem_shares : (g : ℕ) (l : List ℕ) → elem g l ≡ true → shares_bit g l ≡ true
unfolding elem shares_bit
elem_shares g [] e = e
elem_shares g (x ∷ l) e = elim (ℕ_discrete g x) [
  | yes o ↦ rw (eq-eqb (g % apart) (x % apart) (ap (λ y. y % apart) o))
  | no o ↦ rw (elem_shares g l (rw (ne_eqb g x o) at e)) (or-true (eqb (g % apart) (x % apart)))
]

-- no two of few granules have the same bit
few_share : (g : ℕ) (l : List ℕ) → ((x : ℕ) → elem x l ≡ true → x < apart) → g < apart → shares_bit g l ≡ elem g l
unfolding elem shares_bit
few_share g [] f h = refl
few_share g (x ∷ l) f h =
    rw (mod-eq_of_lt h, mod-eq_of_lt (f x (rw (eq-eqb x x refl))), few_share g l (λ y q. f y (rw q (or-true (eqb y x)))) h)

eqb_sym : (x y : ℕ) → eqb x y ≡ eqb y x
eqb_sym x y = elim (ℕ_discrete x y) [ yes e ↦ rw e | no e ↦ rw (ne_eqb x y e, ne_eqb y x (λ q. e (sym q))) ]

distinct_more : (x : ℕ) (l : List ℕ) → distinct (l ++ x ∷ []) ≡ (distinct l && not (elem x l))
unfolding distinct elem
distinct_more x [] = refl
distinct_more x (y ∷ l) =
    rw (distinct_more x l, elem_append y l (x ∷ []), eqb_sym y x)
    (elim (bool_cases (elem y l)) [
      | inl e ↦ rw e
      | inr e ↦ elim (bool_cases (eqb x y)) [ inl f ↦ rw (e, f) (sym (and-false (distinct l))) | inr f ↦ rw (e, f) ]
    ])

-- ---- a look at lists one after the other: `found` says whether g is in the first i

pub record Looked (g n : ℕ) (f : ℕ → List ℕ) (found : Bool) (i : ℕ) : Type 0 where
  pub within : i ≤ n
  pub so_far : found ≡ elem g (f i)

module _ (g n : ℕ) (f : ℕ → List ℕ) where
  pub looked_none : f 0 ≡ [] → Looked g n f false 0
  unfolding elem
  looked_none e = record { within = omega arith; so_far = rw e }

  module _ (found : Bool) (i : ℕ) (s : Looked g n f found i) where
    looked_more : (r : List ℕ) (t : Bool) → i < n → f (suc i) ≡ f i ++ r → t ≡ elem g r → Looked g n f (found || t) (i + 1)
    looked_more r t h e q = rw add-one (record { within = omega arith; so_far = rw (e, elem_append g (f i) r, s.so_far, q) })

    pub looked_end : n ≤ i → found ≡ elem g (f n)
    looked_end h = let e : i ≡ n = omega (arith, s.within) in rw e at s.so_far

module _ (w k : ℕ) (l : List ℕ) (z : Sized w k l) where
  -- ---- entries

  -- those of packet p, and entry e behind those before it
  part_more : (p e x : ℕ) → p < 32 → e < 30 → x ≡ nth (image_of w k l).packets (32 * p + 2 + e)
      → take (suc e) (drop (32 * p + 2) (image_of w k l).packets) ≡ take e (drop (32 * p + 2) (image_of w k l).packets) ++ x ∷ []
  unfolding nth
  part_more p e x hp he ex =
      rw (take-suc (drop (32 * p + 2) (image_of w k l).packets) e 0 (omega (arith, length-drop (32 * p + 2) (image_of w k l).packets, packets_words z)), nth_drop (32 * p + 2) (image_of w k l).packets e, ex)

  pub packet_more : (p n g i x : ℕ) (found : Bool) → p < 32 → n ≤ 30 → Looked g n (λ e. take e (drop (32 * p + 2) (image_of w k l).packets)) found i → i < n → x ≡ nth (image_of w k l).packets (32 * p + 2 + i)
      → Looked g n (λ e. take e (drop (32 * p + 2) (image_of w k l).packets)) (found || eqb g x) (i + 1)
  unfolding elem
  packet_more p n g i x found hp hn s h ex = looked_more g n _ found i s (x ∷ []) (eqb g x) h (part_more p i x hp (omega arith) ex) (sym (or-false _))

pub few : (m : Image) (p n : ℕ) → Packed m → p < 32 → n ≡ nth m.packets (32 * p) → n ≤ 30
unfolding count
few m p n packed h e = omega (arith, packed.counts p h)

pub packets_more : (ps : List ℕ) (n g p c : ℕ) (found t : Bool) → Looked g n (λ p. entries_of p ps) found p → p < n → c ≡ nth ps (32 * p) → t ≡ elem g (take c (drop (32 * p + 2) ps))
    → Looked g n (λ p. entries_of p ps) (found || t) (p + 1)
packets_more ps n g p c found t s h ec et = looked_more g n _ found p s (take c (drop (32 * p + 2) ps)) t h (rw ec (entries_more p ps)) et

-- ---- what a set tells of a granule

module _ (n : ℕ) (l set : List ℕ) (s : Holding n l set) (x : ℕ) where
  set_place : x % apart / 64 < length set
  set_place = rw s.long (omega arith)

  new_elem : bit 64 set (x % apart) ≡ false → elem x l ≡ false
  new_elem e = elim (bool_cases (elem x l)) [ inl q ↦ false≢ (sym e ∙ (s.just x ∙ elem_shares x l q)) | inr q ↦ q ]

  few_elem : x < n → n ≤ apart → bit 64 set (x % apart) ≡ elem x l
  few_elem h q = s.just x ∙ few_share x l (λ y e. omega (arith, s.below y e)) (omega arith)

-- ---- one granule more

bit_more : (set : List ℕ) (x g : ℕ) → x / 64 < length set → bit 64 (set_bit 64 set x) g ≡ (bit 64 set g || eqb g x)
bit_more set x g h = elim (ℕ_discrete g x) [
  | yes e ↦ rw (e, set_bit_same 64 set x h, eq-eqb x x refl) (sym (or-true (bit 64 set x)))
  | no e ↦ rw (set_bit_other 64 set x g e, ne_eqb g x e) (sym (or-false (bit 64 set g)))
]

module _ (n : ℕ) (l set : List ℕ) (ok : Bool) (o : HoldingOnce n l ok set) (x : ℕ) (h : x < n) where
  below_more : (g : ℕ) → elem g (l ++ x ∷ []) ≡ true → g < n
  unfolding elem
  below_more g e = elim (ℕ_discrete g x) [
    | yes q ↦ rw q h
    | no q ↦ o.holding.below g (rw (elem_append g l (x ∷ []), ne_eqb g x q, or-false) at e)
  ]

  once_more : (a : Bool) → a ≡ elem x l → HoldingOnce n (l ++ x ∷ []) (ok && not a) (set_bit 64 set (x % apart))
  unfolding shares_bit
  once_more a e = record {
    holding = record {
      long = length_set_bit 64 set (x % apart) ∙ o.holding.long;
      below = below_more;
      just = λ g. rw (bit_more set (x % apart) (g % apart) (set_place n l set o.holding x), o.holding.just g, shares_append g l (x ∷ []), or-false);
    };
    once = rw (distinct_more x l, o.once, e);
  }

-- ---- the ways out of `add_entry`

module _ (w k : ℕ) (l : List ℕ) (z : Sized w k l) (packed : Packed (image_of w k l)) (p e x : ℕ) (ok : Bool) (set : List ℕ)
    (o : HoldingOnce (64 * k) (entries_upto (image_of w k l).packets p e) ok set) (hp : p < 32) (he : e < count (image_of w k l) p) (ex : x ≡ nth (image_of w k l).packets (32 * p + 2 + e)) where
  pub entry_place : x % apart / 64 < length set
  entry_place = set_place (64 * k) (entries_upto (image_of w k l).packets p e) set o.holding x

  entry_inside : x < 64 * k
  unfolding entry
  entry_inside = omega (arith, packed.below p e hp he, granules_image w k l)

  entry_more : (a : Bool) → a ≡ elem x (entries_upto (image_of w k l).packets p e) → HoldingOnce (64 * k) (entries_upto (image_of w k l).packets p (e + 1)) (ok && not a) (set_bit 64 set (x % apart))
  unfolding entries_upto
  entry_more a q =
      rw (add-one e, part_more w k l z p e x hp (omega (arith, packed.counts p hp)) ex, ← (append_assoc (entries_of p (image_of w k l).packets) (take e (drop (32 * p + 2) (image_of w k l).packets)) (x ∷ [])))
      (once_more (64 * k) (entries_upto (image_of w k l).packets p e) set ok o x entry_inside a q)

  module _ (t : Bool) (set' : List ℕ) (et : t ≡ not (bit 64 set (x % apart))) (es : set' ≡ set_bit 64 set (x % apart)) where
    pub entry_new : t ≡ true → HoldingOnce (64 * k) (entries_upto (image_of w k l).packets p (e + 1)) ok set'
    entry_new h =
        rw es (rw (and-true ok) at (entry_more false (sym (new_elem (64 * k) (entries_upto (image_of w k l).packets p e) set o.holding x (not-true _ (sym et ∙ h))))))

    pub entry_hit : t ≡ false → k ≤ 512 → HoldingOnce (64 * k) (entries_upto (image_of w k l).packets p (e + 1)) false set'
    entry_hit h q =
        rw es (rw (and-false ok) at (entry_more true (sym (not-false _ (sym et ∙ h)) ∙ few_elem (64 * k) (entries_upto (image_of w k l).packets p e) set o.holding x entry_inside (omega arith))))

    pub entry_look : (a b : Bool) → a ≡ elem x (entries_of p (image_of w k l).packets) → b ≡ elem x (take e (drop (32 * p + 2) (image_of w k l).packets))
        → HoldingOnce (64 * k) (entries_upto (image_of w k l).packets p (e + 1)) (ok && not (a || b)) set'
    unfolding entries_upto
    entry_look a b ea eb = rw es (entry_more (a || b) (rw (ea, eb) (sym (elem_append x (entries_of p (image_of w k l).packets) _))))

-- ---- entry after entry, packet after packet

pub in_count : (m : Image) (p n e : ℕ) → n ≡ nth m.packets (32 * p) → e < n → e < count m p
unfolding count
in_count m p n e q h = omega arith

module _ (n : ℕ) (ps : List ℕ) where
  -- `set` holds the entries of the first p packets, and the first e of the c entries of packet p
  pub record EntriesHeld (p c : ℕ) (ok : Bool) (e : ℕ) (set : List ℕ) : Type 0 where
    pub within : e ≤ c
    pub so_far : HoldingOnce n (entries_upto ps p e) ok set

  module _ (p c : ℕ) (ok : Bool) (set : List ℕ) where
    pub entries_none : HoldingOnce n (entries_of p ps) ok set → EntriesHeld p c ok 0 set
    unfolding entries_upto
    entries_none o = record { within = omega arith; so_far = rw (append-nil (entries_of p ps)) o }

    pub entries_end : (e : ℕ) → EntriesHeld p c ok e set → c ≤ e → c ≡ nth ps (32 * p) → HoldingOnce n (entries_of (p + 1) ps) ok set
    unfolding entries_upto
    entries_end e s h q = let o : e ≡ nth ps (32 * p) = omega (arith, s.within) in rw (add-one p, entries_more p ps, ← o) s.so_far

  pub record PacketsHeld (ok : Bool) (p : ℕ) (set : List ℕ) : Type 0 where
    pub within : p ≤ 32
    pub so_far : HoldingOnce n (entries_of p ps) ok set

  pub packets_none : (set : List ℕ) → set ≡ replicate set_words 0 → PacketsHeld true 0 set
  unfolding entries_of distinct elem shares_bit
  packets_none set e = record {
    within = omega arith;
    so_far = record {
      holding = record { long = rw e (length-replicate {A = ℕ} set_words 0); below = λ g q. false≢ q; just = λ g. rw e (bit_zeros 64 set_words (g % apart)) };
      once = refl;
    };
  }

pub packets_end : (n : ℕ) (m : Image) (ok : Bool) (p : ℕ) (set : List ℕ) → PacketsHeld n m.packets ok p set → 32 ≤ p → HoldingOnce n (entries m) ok set
unfolding entries
packets_end n m ok p set s h = let e : p ≡ 32 = omega (arith, s.within) in rw e at s.so_far

-- ---- whether a granule is entered

module _ (w k : ℕ) (l set : List ℕ) (s : EnteredSet k (image_of w k l) set) (g : ℕ) where
  pub entered_place : g % apart / 64 < length set
  entered_place = set_place (64 * k) (entries (image_of w k l)) set s.holding g

  module _ (b : Bool) (e : b ≡ bit 64 set (g % apart)) where
    pub entered_no : b ≡ false → false ≡ entered (image_of w k l) g
    unfolding entered
    entered_no h = sym (new_elem (64 * k) (entries (image_of w k l)) set s.holding g (sym e ∙ h))

    pub entered_yes : g < 64 * k → b ≡ true → k ≤ 512 → true ≡ entered (image_of w k l) g
    unfolding entered
    entered_yes h t q = sym t ∙ (e ∙ few_elem (64 * k) (entries (image_of w k l)) set s.holding g h (omega arith))

pub entered_look : (m : Image) (g : ℕ) (r : Bool) → r ≡ elem g (entries_of 32 m.packets) → r ≡ entered m g
unfolding entered entries
entered_look m g r e = e
