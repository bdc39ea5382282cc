-- The work list: a card comes on at the head of those listed later, and goes off at the head of those that wait.
use mathlib.Core.Path.{◌≡◌, refl, sym, ◌∙◌}
use mathlib.Core.List.{List, [], ◌∷◌}
use Prim.Native.Nat.{ℕ, ◌+◌, ◌-◌, ◌<◌, ◌≤◌, min, zero, suc}
use native.Mathlib.Omega.{arith}
use native.Mathlib.Decide.{ℕ_discrete}
use lib.ListN.{length}
use borrow.Author.Tests.{eq-eqb, ne_eqb}
use Rattle.model.specs.Base.{nth, put}
use Rattle.model.proofs.Laws.{nth_put_same, nth_put_other}
use Rattle.finish_marking_laws.specs.Follow.{times, Chained, WorkList}
use Rattle.image_laws.specs.Digits.{digit}
use Rattle.image_laws.proofs.Words.{nth_in}

pub times_here : (c : ℕ) (l : List ℕ) → times c (c ∷ l) ≡ 1 + times c l
unfolding times digit
times_here c l = rw (eq-eqb c c refl)

pub times_there : (c x : ℕ) (l : List ℕ) → (x ≡ c → ⊥) → times c (x ∷ l) ≡ times c l
unfolding times digit
times_there c x l n = rw (ne_eqb x c n) (omega arith)

-- a write to a card that is not listed
pub chained_put : (cards : List ℕ) (c v : ℕ) (l : List ℕ) (h : ℕ) → times c l ≡ 0 → Chained cards l h → Chained (put cards c v) l h
unfolding Chained
chained_put cards c v [] h e q = q
chained_put cards c v (x ∷ l) h e q = elim (ℕ_discrete x c) [
  | yes s ↦ absurd (let z : times c (x ∷ l) ≡ 1 + times c l = rw s (times_here c l) in omega arith)
  | no s ↦ (q.0, rw (nth_put_other cards c x v s) (chained_put cards c v l (nth cards x) (sym (times_there c x l s) ∙ e) q.1))
]

chained_low : (cards l : List ℕ) (h : ℕ) → Chained cards l h → 1 ≤ h
unfolding Chained
chained_low cards [] h q = omega arith
chained_low cards (x ∷ l) h q = omega arith

chained_none : (cards l : List ℕ) → Chained cards l 1 → (c : ℕ) → times c l ≡ 0
unfolding Chained times
chained_none cards [] q c = refl
chained_none cards (x ∷ l) q c = absurd (omega arith)

module _ {cards : List ℕ} {h l : ℕ} (t : WorkList cards h l) where
  pub later_low : 1 ≤ l
  later_low = chained_low cards t.later l t.chained_later

  pub turned_around : WorkList cards l h
  turned_around = record { waiting = t.later; later = t.waiting; chained = t.chained_later; chained_later = t.chained; once = λ c. omega (arith, t.once c) }

  -- a card comes on
  pub push : (c : ℕ) → c < length cards → nth cards c ≡ 0 → WorkList (put cards c l) h (c + 2)
  unfolding Chained
  push c hc e = record {
    waiting = t.waiting;
    later = c ∷ t.later;
    chained = chained_put cards c l t.waiting h (omega (arith, t.once c)) t.chained;
    chained_later = (refl, rw (nth_put_same cards c l hc) (chained_put cards c l t.later l (omega (arith, t.once c)) t.chained_later));
    once = λ d. elim (ℕ_discrete d c) [
      | yes s ↦ rw (s, nth_put_same) (omega (arith, times_here c t.later, t.once c, later_low))
      | no s ↦ rw (nth_put_other cards c d l s, times_there d c t.later (λ z. s (sym z))) (t.once d)
    ];
  }

-- no card is listed
pub list_empty : {cards : List ℕ} → WorkList cards 1 1 → (c : ℕ) → nth cards c ≡ 0
list_empty {cards} t c = omega (arith, t.once c, chained_none cards t.waiting t.chained c, chained_none cards t.later t.chained_later c)

-- the first card that waits goes off
pub record HeadTaken (cards : List ℕ) (h l : ℕ) : Type 0 where
  pub above : 2 ≤ h
  pub on : 1 ≤ nth cards (h - 2)
  pub list : WorkList (put cards (h - 2) 0) (nth cards (h - 2)) l

head_taken_of : (cards o u : List ℕ) (h l : ℕ) → Chained cards o h → Chained cards u l → ((c : ℕ) → times c o + times c u ≡ min 1 (nth cards c)) → (h ≡ 1 → ⊥) → HeadTaken cards h l
unfolding Chained
head_taken_of cards [] u h l q r once n = absurd (n q)
head_taken_of cards (x ∷ o) u h l q r once n =
    let e : h - 2 ≡ x = omega (arith, q.0) in
    let a : 1 ≤ nth cards x = omega (arith, once x, times_here x o) in
    let hx : x < length cards = nth_in cards x a in
    record {
      above = omega (arith, q.0);
      on = rw e a;
      list = rw e (record {
        waiting = o;
        later = u;
        chained = chained_put cards x 0 o (nth cards x) (omega (arith, once x, times_here x o)) q.1;
        chained_later = chained_put cards x 0 u l (omega (arith, once x, times_here x o)) r;
        once = λ c. elim (ℕ_discrete c x) [
          | yes s ↦ rw (s, nth_put_same) (omega (arith, once x, times_here x o))
          | no s ↦ rw (nth_put_other cards x c 0 s, ← (once c), times_there c x o (λ z. s (sym z)))
        ];
      });
    }

module _ {cards : List ℕ} {h l : ℕ} (t : WorkList cards h l) where
  pub head_taken : (h ≡ 1 → ⊥) → HeadTaken cards h l
  head_taken n = head_taken_of cards t.waiting t.later h l t.chained t.chained_later t.once n

  pub head_in : (h ≡ 1 → ⊥) → h - 2 < length cards
  head_in n = nth_in cards (h - 2) (head_taken n).on

  head_high : h ≤ length cards + 1
  head_high = elim (ℕ_discrete h 1) [ yes e ↦ omega arith | no n ↦ omega (arith, head_in n) ]

pub later_high : {cards : List ℕ} {h l : ℕ} → WorkList cards h l → l ≤ length cards + 1
later_high t = head_high (turned_around t)

-- ---- all cards, the last first

pub cards_down : ℕ → List ℕ
cards_down zero = []
cards_down (suc n) = n ∷ cards_down n

pub cards_down_out : (n c : ℕ) → n ≤ c → times c (cards_down n) ≡ 0
unfolding cards_down times
cards_down_out zero c l = refl
cards_down_out (suc n) c l = times_there c n (cards_down n) (omega arith) ∙ cards_down_out n c (omega arith)

pub cards_down_in : (n c : ℕ) → c < n → times c (cards_down n) ≡ 1
unfolding cards_down
cards_down_in zero c l = absurd (omega arith)
cards_down_in (suc n) c l = elim (ℕ_discrete n c) [
  | yes e ↦ rw e (times_here c (cards_down c) ∙ omega (arith, cards_down_out c c (omega arith)))
  | no e ↦ times_there c n (cards_down n) e ∙ cards_down_in n c (omega arith)
]

pub cards_down_chained : (cards : List ℕ) (n : ℕ) → ((c : ℕ) → c < n → nth cards c ≡ c + 1) → Chained cards (cards_down n) (n + 1)
unfolding cards_down Chained
cards_down_chained cards zero w = refl
cards_down_chained cards (suc n) w = (omega arith, rw (w n (omega arith)) (cards_down_chained cards n (λ c l. w c (omega arith))))
