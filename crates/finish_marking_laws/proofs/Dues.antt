-- What loses its start bit is what is due: entered, in hand, on a card in hand or on a dirty card.
use mathlib.Core.Path.{◌≡◌, refl, sym, ◌∙◌}
use mathlib.Core.Logic.{◌⊎◌, inl, inr, ⊎_elim}
use Prim.Native.Nat.{ℕ, ◌+◌, ◌*◌, ◌-◌, ◌/◌, ◌%◌, ◌<◌, ◌≤◌}
use native.Mathlib.Omega.{arith}
use native.Mathlib.Decide.{ℕ_discrete, dec_lt}
use Rattle.model.specs.Base.{nth}
use Rattle.model.specs.Finish.{Due, due_entered, due_in_hand, due_dirty, due_card_in_hand}
use Rattle.model.specs.Image.{Image, state, dirty, count, entry, hand, hand_card}
use native.Mathlib.Numerals.{add-one}
use Rattle.finish_marking_laws.specs.Seeds.{Upto, EnteredAt, HandAt, DirtyAt, Bared, EntriesIn, HandsIn, RegsIn, object, card}
use Rattle.finish_marking_laws.proofs.Fits.{Fit}
use Rattle.finish_marking_laws.proofs.seeds.Bared.{bared_both, same_section, bared_along}
use Rattle.image_laws.specs.Digits.{mark_bit}

-- ---- what the loops need

-- word i of the packets is 0 or an entry
word_entry : {k : ℕ} {m : Image} → Fit k m → (i : ℕ) → i < 1024 → 2 ≤ i % 32
    → (nth m.packets i ≡ 0) ⊎ ((i % 32 - 2 < nth m.packets (32 * (i / 32))) × (nth m.packets i < 64 * k) × (mark_bit m (nth m.packets i) ≡ 1))
word_entry {k} {m} f i hi h =
    let e : 32 * (i / 32) + 2 + (i % 32 - 2) ≡ i = omega arith in
    elim (dec_lt (i % 32 - 2) (nth m.packets (32 * (i / 32)))) [
      | yes l ↦ let r = rw e at (f.entries (i / 32) (i % 32 - 2) (omega arith) l) in inr (l, r.0, r.1)
      | no l ↦ inl (rw e at (f.past (i / 32) (i % 32 - 2) (omega arith) (omega arith) (omega arith)))
    ]

pub entries_in : {k : ℕ} {m : Image} → 1 ≤ k → Fit k m → EntriesIn k m.packets
entries_in hk f i hi h = ⊎_elim (λ z. omega arith) (λ r. r.1) (word_entry f i hi h)

pub hands_in : {k : ℕ} {m : Image} → 1 ≤ k → Fit k m → HandsIn k m.tracers
hands_in {k} {m} hk f t ht = (elim (ℕ_discrete (nth m.tracers (8 * t + 2)) 0) [ yes e ↦ omega arith | no n ↦ (f.hands t ht n).0 ], f.hand_cards t ht)

pub regs_in : {k : ℕ} {m : Image} → 1 ≤ k → Fit k m → RegsIn k m.regs
regs_in {k} {m} hk f i hi = elim (ℕ_discrete (nth m.regs i) 0) [ yes e ↦ omega arith | no n ↦ (f.regs i hi n).0 ]

-- ---- the three sets that open

abbrev pub Entries : Image → ℕ → Type 0
Entries m g = Upto (EnteredAt m.packets) 1024 g

abbrev pub Hands : Image → ℕ → Type 0
Hands m g = Upto (HandAt m.tracers (mark_bit m)) 8 g

abbrev pub Dirties : ℕ → Image → ℕ → Type 0
Dirties k m g = Upto (DirtyAt m.cards (mark_bit m)) k g

abbrev pub Dues : ℕ → Image → ℕ → Type 0
Dues k m g = (Entries m g ⊎ Hands m g) ⊎ Dirties k m g

module _ {k : ℕ} {m m1 m2 m3 : Image} (a : Bared m m1 (Entries m)) (b : Bared m1 m2 (Hands m1)) (c : Bared m2 m3 (Dirties k m2)) where
  pub all_due : Bared m m3 (Dues k m)
  all_due =
      let b' = bared_along (λ l marks. Upto (HandAt l marks) 8) (same_section a.rest 2) a.marks b in
      let c' = bared_along (λ l marks. Upto (DirtyAt l marks) k) (b.cards ∙ a.cards) (b.marks ∙ a.marks) c in
      bared_both (bared_both {N2 = λ g. Entries m g ⊎ Hands m g} a b' (λ g q. q) (λ g q. inl q) (λ g q. inr q)) c' (λ g q. q) (λ g q. inl q) (λ g q. inr q)

module _ (k : ℕ) (m : Image) (f : Fit k m) where
  pub dues_due : (g : ℕ) → Dues k m g → (mark_bit m g ≡ 1) × Due m g
  unfolding count entry hand hand_card dirty state
  dues_due g (inl (inl q)) =
      let e : 32 * (q.place / 32) + 2 + (q.place % 32 - 2) ≡ q.place = omega (arith, q.here.place) in
      ⊎_elim
      (λ z. absurd (q.here.is.some z))
      (λ r. (rw q.here.is.eq r.2, due_entered (q.place / 32) (q.place % 32 - 2) (omega (arith, q.below)) r.0 (rw e (sym q.here.is.eq))))
      (word_entry f q.place q.below q.here.place)
  dues_due g (inl (inr q)) = elim q.here [
    | object e ↦ (rw e.eq (f.hands q.place q.below e.some).1, due_in_hand q.place q.below (sym e.eq))
    | card e o ↦ (o, due_card_in_hand q.place q.below (e ∙ add-one (g / 64)))
  ]
  dues_due g (inr q) = (q.here.is_marked, due_dirty (rw q.here.on q.here.is-dirty))

  -- granule 0 is not marked
  not_zero : (g : ℕ) → mark_bit m g ≡ 1 → g ≡ 0 → ⊥
  not_zero g o z = let x : mark_bit m 0 ≡ 1 = rw z at o in omega (arith, f.zeroth)

  pub due_dues : (g : ℕ) → mark_bit m g ≡ 1 → Due m g → Dues k m g
  unfolding count entry hand hand_card dirty state
  due_dues g o (due_entered p e hp he q) =
      inl
      (inl
      (record {
        place = 32 * p + 2 + e;
        below = omega (arith, f.counts p hp);
        here = record { place = omega (arith, f.counts p hp); is = record { eq = sym q; some = λ z. not_zero g o (sym q ∙ z) } };
      }))
  due_dues g o (due_in_hand t ht q) = inl (inr (record { place = t; below = ht; here = object (record { eq = sym q; some = λ z. not_zero g o (sym q ∙ z) }) }))
  due_dues g o (due_dirty d) = inr (record { place = g / 64; below = omega (arith, f.marks g o); here = record { on = refl; is-dirty = d; is_marked = o } })
  due_dues g o (due_card_in_hand t ht e) = inl (inr (record { place = t; below = ht; here = card (e ∙ sym (add-one (g / 64))) o }))
