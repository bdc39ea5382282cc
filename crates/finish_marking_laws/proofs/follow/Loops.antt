-- The loop over the bit words of a card, and the loop of turns.
use mathlib.Core.Path.{◌≡◌, refl, ◌∙◌}
use mathlib.Core.List.{List}
use Prim.Native.Nat.{ℕ, ◌+◌, ◌*◌, ◌-◌, ◌<◌, ◌≤◌, ◌/◌}
use native.Mathlib.Omega.{arith}
use native.Mathlib.Numerals.{add-one}
use lib.ListN.{length}
use Rattle.model.specs.Image.{Image, set_state, state, image_of}
use mathlib.Core.Logic.{inl, ⊎_elim, ◌⊎◌}
use Rattle.finish_marking_laws.specs.Follow.{headed, World, Listed, Nowhere, Followed}
use Rattle.finish_marking_laws.specs.Marking.{Shape, Marking, work_left, Between, Underway, SettledTo}
use Rattle.finish_marking_laws.proofs.follow.Bits.{image_shape}
use Rattle.finish_marking_laws.proofs.follow.Turns.{marking_as, next_round, head_card, takes_card, marking_done}
use Rattle.image_laws.specs.Sized.{Sized}
use Rattle.image_laws.proofs.Lengths.{sized_as}
use Rattle.image_laws.proofs.Places.{by_width, words_begin}
use native.Mathlib.Nat.{mul-suc, add_assoc}

-- ---- the words of a card

-- the first i words of card c
pub record CardSettled (w k : ℕ) (m : Image) (c l h : ℕ) (m' : Image) (i : ℕ) : Type 0 where
  pub so_far : SettledTo k m (64 * c) l (w * (64 / w * c + i)) (headed h m')

pub card_none : (w k : ℕ) (m : Image) (c l : ℕ) → (w ≡ 16) ⊎ (w ≡ 32) → CardSettled w k m c l l m 0
card_none w k m c l o = record {
  so_far = rw (words_begin w c (64 / w * c + 0) o (omega arith)) (record { goes_on = λ m₀ h e u. record { marking = u; less = omega arith } });
}

module _ {w k : ℕ} {m : Image} {c l h : ℕ} {m' : Image} {i : ℕ} (t : CardSettled w k m c l h m' i) where
  pub card_underway : Underway k m (64 * c) l → Underway k m' (w * (64 / w * c + i)) h
  card_underway u = record { from = u.from; head = u.head; end = u.end; marking = (t.so_far.goes_on u.from u.head u.end u.marking).marking }

  pub card_more : (h' : ℕ) (m'' : Image) → SettledTo k m' (w * (64 / w * c + i)) h (w * (64 / w * c + i) + w) (headed h' m'') → CardSettled w k m c l h' m'' (i + 1)
  card_more h' m'' s =
      let e : w * (64 / w * c + (i + 1)) ≡ w * (64 / w * c + i) + w = rw (← add_assoc, add-one) (mul-suc w (64 / w * c + i)) in
      record {
        so_far = rw e (record {
          goes_on = λ m₀ a b u.
              let r = t.so_far.goes_on m₀ a b u in
              let v = s.goes_on m₀ a b r.marking in
              record { marking = v.marking; less = omega (arith, v.less, r.less) };
        });
      }

pub card_end : {w k : ℕ} {m : Image} {c l h : ℕ} {m' : Image} → (w ≡ 16) ⊎ (w ≡ 32) → CardSettled w k m c l h m' (64 / w) → SettledTo k m (64 * c) l (64 * c + 64) (headed h m')
card_end {c = c} o t = rw (by_width (λ w. w * (64 / w * c + 64 / w) ≡ 64 * c + 64) (omega arith) (omega arith) o) at t.so_far

-- ---- the loop of turns

begins : {k : ℕ} {m : Image} {h : ℕ} → Shape k m → World k m → Listed m Nowhere h 1 → Marking k m m Nowhere h 1
begins s w t = record {
  world = w;
  grown = record {
    shape = s;
    heap = refl;
    rest = refl;
    same = λ g. refl;
    grow = λ g. omega arith;
    stay = λ g a b. b;
    only = λ g e. inl e;
    closed = λ g i a b f. ⊎_elim (λ z. absurd (omega arith)) (λ z. absurd (omega arith)) f;
  };
  listed = t;
}

-- no card waits while others are listed later
pub record TurnLoop (w k : ℕ) (im₀ im : List ℕ) (h l : ℕ) : Type 0 where
  pub sized : Sized w k im
  pub same : length im ≡ length im₀
  pub marking : Marking k (image_of w k im₀) (image_of w k im) Nowhere h l
  pub last : h ≡ 1 → l ≡ 1

pub turns_none : {w k : ℕ} {im : List ℕ} {h : ℕ} → Sized w k im → World k (image_of w k im) → Listed (image_of w k im) Nowhere h 1 → TurnLoop w k im im h 1
turns_none z u t = record { sized = z; same = refl; marking = begins (image_shape z) u t; last = λ _. refl }

module _ {w k : ℕ} {im₀ im : List ℕ} {h l : ℕ} (t : TurnLoop w k im₀ im h l) where
  pub turns_end : h ≡ 1 → Followed k (image_of w k im₀) (image_of w k im)
  turns_end e = marking_done (rw (t.last e, e) at t.marking)

  module _ (n : h ≡ 1 → ⊥) where
    pub turns_card : (2 ≤ h) × (h - 2 < k)
    turns_card = head_card t.marking n

    -- the card at the head is taken; r is the rest of the cards that wait
    module _ (r : ℕ) (er : r ≡ state (image_of w k im) (h - 2)) (m1 : Image) (e1 : m1 ≡ set_state (image_of w k im) (h - 2) 0) where
      taken : Marking k (image_of w k im₀) m1 (Between (64 * (h - 2)) (64 * (h - 2) + 64)) r l
      unfolding state
      taken = rw (e1, er) (takes_card t.marking n).marking

      pub turns_underway : Underway k m1 (64 * (h - 2)) l
      turns_underway = record { from = image_of w k im₀; head = r; end = 64 * (h - 2) + 64; marking = taken }

      module _ (l' : ℕ) (im' : List ℕ) (e : SettledTo k m1 (64 * (h - 2)) l (64 * (h - 2) + 64) (headed l' (image_of w k im'))) where
        turned : Marking k (image_of w k im₀) (image_of w k im') Nowhere r l'
        turned = marking_as (e.goes_on (image_of w k im₀) r (64 * (h - 2) + 64) taken).marking Nowhere (λ g q b. absurd (omega (arith, b.low, b.high)))

        pub turns_fall : work_left k (image_of w k im') < work_left k (image_of w k im)
        turns_fall = let x : work_left k m1 < work_left k (image_of w k im) = rw e1 (takes_card t.marking n).less in omega (arith, (e.goes_on (image_of w k im₀) r (64 * (h - 2) + 64) taken).less)

        module _ (s : length im' ≡ length im) where
          -- more cards wait
          pub turns_more : (r ≡ 1 → ⊥) → TurnLoop w k im₀ im' r l'
          turns_more o = record { sized = sized_as t.sized s; same = s ∙ t.same; marking = turned; last = λ z. absurd (o z) }

          -- else those that were listed later
          pub turns_round : r ≡ 1 → TurnLoop w k im₀ im' l' 1
          turns_round o = record { sized = sized_as t.sized s; same = s ∙ t.same; marking = next_round (rw o at turned); last = λ _. refl }
