-- What is done and what is owed, where one section is written.
use mathlib.Core.Path.{◌≡◌, refl, sym, ap, ◌∙◌}
use mathlib.Core.Logic.{inl, inr}
use mathlib.Core.Bool.{true, cond}
use mathlib.Core.List.{List}
use Prim.Native.Nat.{ℕ, suc, ◌+◌, ◌*◌, ◌-◌, ◌/◌, ◌≤◌, ◌<◌}
use native.Mathlib.Decide.{ℕ_discrete, dec_lt}
use native.Mathlib.Omega.{arith}
use lib.Dec.{leb}
use lib.ListN.{length}
use borrow.Author.Tests.{leb-true, le-leb, not-true}
use Rattle.model.specs.Base.{nth, put, bit, sum_below}
use Rattle.model.specs.Image.{Image, state, with_cards, with_tracers, set_state}
use Rattle.model.proofs.Counts.{sum_same, sum_change, sum_most, cond_most}
use Rattle.model.proofs.Laws.{false≢, same_test, bool_cases, any_same, every_use, every_nil, every_cons, not_make, nth_put_same, nth_put_other, put_out, length_put}
use Rattle.theory.specs.Lines.{count_in, entry_in}
use Rattle.theory.specs.Work.{links_in, to_come, taken, is_cleaned, clean_paid, card_paid, marks_paid, cleans_paid, cards_paid, work_done, is_input, change_owed, entry_owed, packet_owed, hand_owed, card_owed, packets_owed, hands_owed, cards_owed, work_owed}
use Rattle.theory.proofs.lines.Sections.{Changes}
use Rattle.theory.proofs.work.Tracers.{SameAt}

-- ---- tracers of which some words are the same

module _ (ts us : List ℕ) where
  come_same : SameAt 4 ts us → SameAt 5 ts us → (x : ℕ) → to_come us x ≡ to_come ts x
  unfolding to_come
  come_same f g x = any_same 8 _ _ (λ t h. rw (f t, g t))

  change_same : SameAt 0 ts us → (p : ℕ) → change_owed us p ≡ change_owed ts p
  unfolding change_owed is_input
  change_same f p = ap (λ b. cond b 0 1) (any_same 8 _ _ (λ t h. rw (f t)))

  pub packets_same : (hs ps : List ℕ) → SameAt 0 ts us → packets_owed hs ps us ≡ packets_owed hs ps ts
  unfolding packets_owed packet_owed
  packets_same hs ps f = sum_same _ _ 32 (λ p h. rw (change_same f p))

  pub hands_same : (hs : List ℕ) → SameAt 2 ts us → SameAt 3 ts us → hands_owed hs us ≡ hands_owed hs ts
  unfolding hands_owed hand_owed
  hands_same hs f g = sum_same _ _ 8 (λ t h. rw (f t, g t))

  pub held_same : SameAt 4 ts us → cards_owed us ≡ cards_owed ts
  unfolding cards_owed card_owed
  held_same f = sum_same _ _ 8 (λ t h. rw (f t))

-- with the same cards in hand, and the same next granules
cleans_same : (m : Image) (us : List ℕ) → SameAt 4 m.tracers us → SameAt 5 m.tracers us → cleans_paid (with_tracers m us) ≡ cleans_paid m
unfolding cleans_paid clean_paid is_cleaned with_tracers
cleans_same m us f g = sum_same _ _ (64 * m.k) (λ x h. rw (come_same m.tracers us f g x))

pub tracers_done : (m : Image) (us : List ℕ) → SameAt 4 m.tracers us → SameAt 5 m.tracers us → work_done (with_tracers m us) ≡ work_done m
unfolding work_done marks_paid cards_paid with_tracers
tracers_done m us f g = omega (arith, cleans_same m us f g)

-- ---- cards

-- done and owed are as they were
pub record SameWork (m n : Image) : Type 0 where
  pub same_done : work_done n ≡ work_done m
  pub same_owed : work_owed n ≡ work_owed m

pub work_then : {l m n : Image} → SameWork l m → SameWork m n → SameWork l n
work_then p q = record { same_done = q.same_done ∙ p.same_done; same_owed = q.same_owed ∙ p.same_owed }

-- a card whose state is written stays taken, or not
taken_state : (cs : List ℕ) (c v : ℕ) → leb 2 v ≡ leb 2 (nth cs c) → (x : ℕ) → taken (put cs c v) x ≡ taken cs x
unfolding taken
taken_state cs c v s x = elim (ℕ_discrete x c) [
  | no n ↦ rw (nth_put_other cs c x v n)
  | yes e ↦ elim (dec_lt c (length cs)) [
    | yes h ↦ rw e (ap (leb 2) (nth_put_same cs c v h) ∙ s)
    | no h ↦ ap (λ l. leb 2 (nth l x)) (put_out cs c v (omega arith))
  ]
]

cards_same : (cs ds : List ℕ) (n : ℕ) → ((c : ℕ) → taken ds c ≡ taken cs c) → sum_below (card_paid ds) n ≡ sum_below (card_paid cs) n
unfolding card_paid
cards_same cs ds n f = sum_same _ _ n (λ c h. rw (f c))

cleans_cards : (m : Image) (ds : List ℕ) → ((c : ℕ) → taken ds c ≡ taken m.cards c) → cleans_paid (with_cards m ds) ≡ cleans_paid m
unfolding cleans_paid clean_paid is_cleaned with_cards
cleans_cards m ds f = sum_same _ _ (64 * m.k) (λ x h. rw (f (x / 64)))

-- a card's state changed
pub state_work : (f : ℕ → ℕ) → Changes f → (m : Image) (c : ℕ) → SameWork m (set_state m c (f (state m c)))
unfolding work_done work_owed marks_paid cards_paid set_state with_cards state
state_work f q m c =
    let x : ℕ = state m c in
    let stays : leb 2 (f x) ≡ leb 2 x = same_test (leb 2 (f x)) (leb 2 x) (λ e. le-leb 2 x ((q x).2 (leb-true 2 (f x) e))) (λ e. le-leb 2 (f x) ((q x).1 (leb-true 2 x e))) in
    let t = taken_state m.cards c (f x) stays in
    record { same_done = omega (arith, cards_same m.cards (put m.cards c (f x)) m.k t, cleans_cards m (put m.cards c (f x)) t); same_owed = refl }

-- ---- cleaned objects stay so, where marks stay, cards stay taken, and nothing on a taken card comes again

module _ (m : Image) (ms ds us : List ℕ) (marks_stay : (x : ℕ) → bit m.width m.marks x ≡ true → bit m.width ms x ≡ true)
    (stays-taken : (c : ℕ) → taken m.cards c ≡ true → taken ds c ≡ true) (came : (x : ℕ) → taken m.cards (x / 64) ≡ true → to_come us x ≡ true → to_come m.tracers x ≡ true) where
  stays_cleaned : (x : ℕ) → is_cleaned m.width m.marks m.cards m.tracers x ≡ true → is_cleaned m.width ms ds us x ≡ true
  unfolding is_cleaned
  stays_cleaned x e =
      let q = every_use _ e in
      every_cons _ _ (marks_stay x (q 0)) (every_cons _ _ (stays-taken (x / 64) (q 1)) (every_cons _ _ (not_make (to_come us x) (λ y. false≢ (sym (not-true _ (q 2)) ∙ came x (q 1) y))) every_nil))

  pub clean_most : (x : ℕ) → clean_paid m.width m.heap m.marks m.cards m.tracers x ≤ clean_paid m.width m.heap ms ds us x
  unfolding clean_paid
  clean_most x = cond_most _ _ _ _ (stays_cleaned x) (omega arith)

  pub cleans_most : cleans_paid m ≤ sum_below (clean_paid m.width m.heap ms ds us) (64 * m.k)
  unfolding cleans_paid
  cleans_most = sum_most _ _ (64 * m.k) (λ x h. clean_most x)

-- ---- packets of which one is written

module _ (hs ps qs : List ℕ) where
  same_entries : (f p n : ℕ) → ((e : ℕ) → e < n → entry_in qs p e ≡ entry_in ps p e) → sum_below (entry_owed hs qs f p) n ≡ sum_below (entry_owed hs ps f p) n
  unfolding entry_owed
  same_entries f p n g = sum_same _ _ n (λ e h. rw (g e h))

  same_packet : (ts : List ℕ) (p : ℕ) → count_in qs p ≡ count_in ps p → ((e : ℕ) → e < count_in ps p → entry_in qs p e ≡ entry_in ps p e) → packet_owed hs qs ts p ≡ packet_owed hs ps ts p
  unfolding packet_owed
  same_packet ts p a g = rw a (same_entries (change_owed ts p) p (count_in ps p) g)

  -- packet p has one entry more in qs: its last
  one_more : (ts : List ℕ) (p n g : ℕ) → count_in ps p ≡ n → count_in qs p ≡ suc n → entry_in qs p n ≡ g → ((e : ℕ) → e < n → entry_in qs p e ≡ entry_in ps p e)
      → packet_owed hs qs ts p ≡ packet_owed hs ps ts p + (1 + links_in hs g + change_owed ts p)
  unfolding packet_owed sum_below entry_owed
  one_more ts p n g a b e f = rw (a, b, e) (ap (λ x. x + (1 + links_in hs g + change_owed ts p)) (same_entries (change_owed ts p) p n f))

change_most : (ts : List ℕ) (p : ℕ) → change_owed ts p ≤ 1
unfolding change_owed
change_most ts p = elim (bool_cases (is_input ts p)) [ inl e ↦ rw e (omega arith) | inr e ↦ rw e (omega arith) ]

module _ (hs ps ts : List ℕ) (sized : length ps ≡ 1024) (few : (q : ℕ) → q < 32 → count_in ps q ≤ 30) (p : ℕ) (hp : p < 32) where
  -- packet p with count n and word i written, which is none of an entry that is left
  changed : (i v n : ℕ) → List ℕ
  changed i v n = put (put ps (32 * p + 2 + i) v) (32 * p) n

  entry_left : (i v n q e : ℕ) → i < 30 → e < 30 → (q ≡ p → e ≡ i → ⊥) → entry_in (changed i v n) q e ≡ entry_in ps q e
  unfolding changed
  entry_left i v n q e hi he ne = nth_put_other _ (32 * p) (32 * q + 2 + e) _ (omega arith) ∙ nth_put_other ps (32 * p + 2 + i) (32 * q + 2 + e) v (λ z. ne (omega arith) (omega arith))

  other_packet : (i v n q : ℕ) → i < 30 → q < 32 → (q ≡ p → ⊥) → packet_owed hs (changed i v n) ts q ≡ packet_owed hs ps ts q
  unfolding changed
  other_packet i v n q hi hq ne =
      same_packet hs ps (changed i v n) ts q (nth_put_other _ (32 * p) (32 * q) _ (omega arith) ∙ nth_put_other ps (32 * p + 2 + i) (32 * q) v (omega arith))
      (λ e l. entry_left i v n q e hi (omega (arith, few q hq)) (λ z. absurd (ne z)))

  now_count : (i v n : ℕ) → count_in (changed i v n) p ≡ n
  unfolding changed
  now_count i v n = nth_put_same _ (32 * p) n (simp length_put (omega arith))

  pub append_owed : (a : ℕ) → count_in ps p < 30
      → packets_owed hs (put (put ps (32 * p + 2 + count_in ps p) a) (32 * p) (count_in ps p + 1)) ts ≤ packets_owed hs ps ts + (2 + links_in hs a)
  unfolding packets_owed changed
  append_owed a hc =
      let n : ℕ = count_in ps p in
      let qs : List ℕ = changed n a (n + 1) in
      let last : entry_in qs p n ≡ a = nth_put_other _ (32 * p) (32 * p + 2 + n) _ (omega arith) ∙ nth_put_same ps (32 * p + 2 + n) a (omega arith) in
      let one : packet_owed hs qs ts p ≡ packet_owed hs ps ts p + (1 + links_in hs a + change_owed ts p)
      = one_more hs ps qs ts p n a refl (now_count n a (n + 1) ∙ (omega arith)) last (λ e l. entry_left n a (n + 1) p e hc (omega arith) (λ z w. omega arith)) in
      omega (arith, sum_change (packet_owed hs ps ts) (packet_owed hs qs ts) 32 p hp (λ q hq ne. other_packet n a (n + 1) q hc hq ne), one, change_most ts p)

  pub pop_owed : (c : ℕ) → count_in ps p ≡ suc c
      → packets_owed hs (put (put ps (32 * p + 1 + count_in ps p) 0) (32 * p) (count_in ps p - 1)) ts + (1 + links_in hs (entry_in ps p c)) ≤ packets_owed hs ps ts
  unfolding packets_owed changed
  pop_owed c hc =
      let at : 32 * p + 1 + count_in ps p ≡ 32 * p + 2 + c = omega arith in
      let n : count_in ps p - 1 ≡ c = omega arith in
      let qs : List ℕ = changed c 0 c in
      let h : c < 30 = omega (arith, few p hp) in
      let one : packet_owed hs ps ts p ≡ packet_owed hs qs ts p + (1 + links_in hs (entry_in ps p c) + change_owed ts p)
      = one_more hs qs ps ts p c _ (now_count c 0 c) hc refl (λ e l. sym (entry_left c 0 c p e h (omega arith) (λ z w. omega arith))) in
      rw (at, n) (omega (arith, sum_change (packet_owed hs ps ts) (packet_owed hs qs ts) 32 p hp (λ q hq ne. other_packet c 0 c q h hq ne), one))
