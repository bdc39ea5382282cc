-- The lines that read tracers, cards, players, registers or marks, where one of their words is written.
use mathlib.Core.Path.{◌≡◌, sym, ap, ◌∙◌}
use mathlib.Core.Logic.{inl, inr}
use mathlib.Core.Bool.{false}
use mathlib.Core.List.{List}
use Prim.Native.Nat.{ℕ, zero, suc, ◌+◌, ◌*◌, ◌/◌, ◌%◌, ◌≤◌, ◌<◌}
use native.Mathlib.Decide.{ℕ_discrete}
use native.Mathlib.Omega.{arith}
use lib.ListN.{length}
use lib.Seq.{set_comm}
use Rattle.model.specs.Base.{nth, put, bit, set_bit, how_many}
use Rattle.model.specs.Image.{dirty_state, clean_state}
use Rattle.model.proofs.Bits.{set_bit_same, set_bit_other}
use Rattle.model.proofs.Counts.{how_many_same, how_many_more}
use Rattle.model.proofs.Laws.{nth_put_same, nth_put_other, length_put}
use Rattle.theory.specs.Lines.{Pair, Pairs, HeldOk, TracersOk, CardsOk, PlayersOk, NilOr, RegsOk, MarksOk, none, one}
use Rattle.theory.proofs.lines.Packets.{Wrote, nth_put}

-- ---- tracers

pair_mono : {P Q : ℕ → ℕ → Type 0} {x y : ℕ} → ((x y : ℕ) → P x y → Q x y) → Pair P x y → Pair Q x y
pair_mono f (none a b) = none a b
pair_mono {x = x} {y = y} f (one n p) = one n (f x y p)

pub tracers_mono : {Hd Cd Hd' Cd' : ℕ → ℕ → Type 0} {ts : List ℕ} → ((g i : ℕ) → Hd g i → Hd' g i) → ((c n : ℕ) → Cd c n → Cd' c n) → TracersOk Hd Cd ts → TracersOk Hd' Cd' ts
tracers_mono f f' k = record {
  sized = k.sized;
  places = k.places;
  hands = record { pair = λ t h. pair_mono f (k.hands.pair t h) };
  hand_cards = record { pair = λ t h. pair_mono f' (k.hand_cards.pair t h) };
  spare = k.spare;
}

-- two words of a tracer written
abbrev pub two : List ℕ → ℕ → ℕ → ℕ → ℕ → List ℕ
two ts t a x y = put (put ts (8 * t + a) x) (8 * t + suc a) y

pub two_off : (ts : List ℕ) (t a x y u b : ℕ) → (8 * u + b ≡ 8 * t + a → ⊥) × (8 * u + b ≡ 8 * t + suc a → ⊥) → nth (two ts t a x y) (8 * u + b) ≡ nth ts (8 * u + b)
two_off ts t a x y u b n = nth_put_other (put ts (8 * t + a) x) (8 * t + suc a) (8 * u + b) y n.1 ∙ nth_put_other ts (8 * t + a) (8 * u + b) x n.0

pub two_is : (ts : List ℕ) (t a x y : ℕ) → length ts ≡ 64 → t < 8 → a < 7 → (nth (two ts t a x y) (8 * t + a) ≡ x) × (nth (two ts t a x y) (8 * t + suc a) ≡ y)
two_is ts t a x y l ht ha = (
  nth_put_other (put ts (8 * t + a) x) (8 * t + suc a) (8 * t + a) y (omega arith) ∙ nth_put_same ts (8 * t + a) x (omega arith),
  nth_put_same (put ts (8 * t + a) x) (8 * t + suc a) y (simp length_put (omega arith)),
)

-- a pair is kept where another word of a tracer is written
pairs_other : {P : ℕ → ℕ → Type 0} {a : ℕ} {ts : List ℕ} → Pairs P a ts → (t b v : ℕ) → (b < 8) × (a < 7) × (b ≡ a → ⊥) × (b ≡ suc a → ⊥) → Pairs P a (put ts (8 * t + b) v)
pairs_other {a = a} {ts = ts} k t b v n = record { pair = λ u hu. rw (nth_put_other ts (8 * t + b) (8 * u + a) v (omega arith), nth_put_other ts (8 * t + b) (8 * u + suc a) v (omega arith)) (k.pair u hu) }

-- and where it is itself written as a pair that is right
pairs_set : {P : ℕ → ℕ → Type 0} {a : ℕ} {ts : List ℕ} → Pairs P a ts → length ts ≡ 64 → (t x y : ℕ) → t < 8 → a < 7 → Pair P x y → Pairs P a (put (put ts (8 * t + a) x) (8 * t + suc a) y)
pairs_set {P} {a} {ts} k l t x y ht ha ok = record {
  pair = λ u hu. elim (ℕ_discrete u t) [
    | yes e ↦ rw (e, (two_is ts t a x y l ht ha).0, (two_is ts t a x y l ht ha).1) ok
    | no ne ↦ rw (two_off ts t a x y u a (omega arith), two_off ts t a x y u (suc a) (omega arith)) (k.pair u hu)
  ];
}

held_other : {ts : List ℕ} → HeldOk ts → (t a x y : ℕ) → (2 ≤ a) × (a < 7) → HeldOk (two ts t a x y)
held_other {ts} k t a x y h = record {
  held = λ u i hu hi. rw (two_off ts t a x y u i (omega arith)) (k.held u i hu hi);
  once = λ u i w j p hu hw hi hj e f. k.once u i w j p hu hw hi hj (sym (two_off ts t a x y u i (omega arith)) ∙ e) (sym (two_off ts t a x y w j (omega arith)) ∙ f);
}

-- taking a packet that is held nowhere else keeps held-once
held-set : {ts : List ℕ} → HeldOk ts → length ts ≡ 64 → (t i v : ℕ) → t < 8 → i < 2 → v ≤ 32
    → ((u j p : ℕ) → u < 8 → j < 2 → v ≡ suc p → nth ts (8 * u + j) ≡ suc p → (u ≡ t) × (j ≡ i)) → HeldOk (put ts (8 * t + i) v)
held-set {ts} k l t i v ht hi hv free = record {
  held = λ u j hu hj. elim (word u j) [ inl (e, w) ↦ omega arith | inr (n, w) ↦ omega (arith, k.held u j hu hj) ];
  once = λ u j w x p hu hw hj hx e f. elim (word u j) [
    | inl (a, b) ↦ elim (word w x) [ inl (c, d) ↦ (omega arith, omega arith) | inr (c, d) ↦ absurd (omega (arith, free w x p hw hx (sym b ∙ e) (sym d ∙ f))) ]
    | inr (a, b) ↦ elim (word w x) [
      | inl (c, d) ↦ absurd (omega (arith, free u j p hu hj (sym d ∙ f) (sym b ∙ e)))
      | inr (c, d) ↦ k.once u j w x p hu hw hj hx (sym b ∙ e) (sym d ∙ f)
    ]
  ];
}
  where
    word : (u j : ℕ) → Wrote (8 * u + j ≡ 8 * t + i) (nth (put ts (8 * t + i) v) (8 * u + j)) v (nth ts (8 * u + j))
    word u j = nth_put ts (8 * t + i) (8 * u + j) v (omega arith)

module _ {Hd Cd : ℕ → ℕ → Type 0} {ts : List ℕ} (k : TracersOk Hd Cd ts) (t : ℕ) (ht : t < 8) where
  -- an input or output is written
  pub hold_ok : (i v : ℕ) → i < 2 → v ≤ 32 → ((u j p : ℕ) → u < 8 → j < 2 → v ≡ suc p → nth ts (8 * u + j) ≡ suc p → (u ≡ t) × (j ≡ i)) → TracersOk Hd Cd (put ts (8 * t + i) v)
  hold_ok i v hi hv free = record {
    sized = simp length_put k.sized;
    places = held-set k.places k.sized t i v ht hi hv free;
    hands = pairs_other k.hands t i v (omega arith);
    hand_cards = pairs_other k.hand_cards t i v (omega arith);
    spare = pairs_other k.spare t i v (omega arith);
  }

  -- the hand is written
  pub hand-ok : (g i : ℕ) → Pair Hd g i → TracersOk Hd Cd (put (put ts (8 * t + 2) g) (8 * t + 3) i)
  hand-ok g i ok = record {
    sized = simp length_put k.sized;
    places = held_other k.places t 2 g i (omega arith);
    hands = pairs_set k.hands k.sized t g i ht (omega arith) ok;
    hand_cards = pairs_other (pairs_other k.hand_cards t 2 g (omega arith)) t 3 i (omega arith);
    spare = pairs_other (pairs_other k.spare t 2 g (omega arith)) t 3 i (omega arith);
  }

  -- the card in hand is written
  pub card-ok : (c n : ℕ) → Pair Cd c n → TracersOk Hd Cd (put (put ts (8 * t + 4) c) (8 * t + 5) n)
  card-ok c n ok = record {
    sized = simp length_put k.sized;
    places = held_other k.places t 4 c n (omega arith);
    hands = pairs_other (pairs_other k.hands t 4 c (omega arith)) t 5 n (omega arith);
    hand_cards = pairs_set k.hand_cards k.sized t c n ht (omega arith) ok;
    spare = pairs_other (pairs_other k.spare t 4 c (omega arith)) t 5 n (omega arith);
  }

-- the output becomes input
pub swap_ok : {Hd Cd : ℕ → ℕ → Type 0} {ts : List ℕ} (k : TracersOk Hd Cd ts) (t : ℕ) → t < 8 → (v : ℕ) → v ≡ nth ts (8 * t + 1)
    → TracersOk Hd Cd (put (put ts (8 * t + 0) v) (8 * t + 1) 0)
unfolding put
swap_ok {ts = ts} k t ht v e =
    let emptied = hold_ok k t ht 1 0 (omega arith) (omega arith) (λ u j p hu hj x y. absurd (omega arith)) in
    rw (set_comm ts (8 * t + 0) (8 * t + 1) v 0 (omega arith))
    (hold_ok emptied t ht 0 v (omega arith) (rw e (k.places.held t 1 ht (omega arith)))
    (λ u j p hu hj x y. elim (nth_put ts (8 * t + 1) (8 * u + j) 0 (omega (arith, k.sized))) [
      | inl (a, b) ↦ absurd (omega arith)
      | inr (a, b) ↦ absurd (omega (arith, k.places.once u j t 1 p hu ht hj (omega arith) (sym b ∙ y) (sym e ∙ x)))
    ]))

-- ---- cards

-- a state that is changed is a state, and a card is taken in this cycle just where it was
abbrev pub Changes : (ℕ → ℕ) → Type 0
Changes f = (x : ℕ) → (f x ≤ 3) × (2 ≤ x → 2 ≤ f x) × (2 ≤ f x → 2 ≤ x)

pub dirty_changes : Changes dirty_state
unfolding dirty_state
dirty_changes zero = (omega arith, λ h. omega arith, λ h. omega arith)
dirty_changes (suc zero) = (omega arith, λ h. omega arith, λ h. omega arith)
dirty_changes (suc (suc x)) = (omega arith, λ h. omega arith, λ h. omega arith)

pub clean_changes : Changes clean_state
unfolding clean_state
clean_changes zero = (omega arith, λ h. omega arith, λ h. omega arith)
clean_changes (suc zero) = (omega arith, λ h. omega arith, λ h. omega arith)
clean_changes (suc (suc x)) = (omega arith, λ h. omega arith, λ h. omega arith)

-- a card is written
pub state_ok : {k : ℕ} {cs : List ℕ} → CardsOk k cs → (c v : ℕ) → c < k → v ≤ 3 → CardsOk k (put cs c v)
state_ok {k} {cs} o c v h hv = record {
  sized = simp length_put o.sized;
  states = λ d. elim (nth_put cs c d v (omega arith)) [ inl (e, w) ↦ omega arith | inr (n, w) ↦ omega (arith, o.states d) ];
}

-- a taken card stays taken
pub taken_on : {k : ℕ} {cs : List ℕ} → CardsOk k cs → (c v d : ℕ) → c < k → (2 ≤ nth cs c → 2 ≤ v) → 2 ≤ nth cs d → 2 ≤ nth (put cs c v) d
taken_on {k} {cs} o c v d h f hd = elim (nth_put cs c d v (omega arith)) [ inl (e, w) ↦ rw w (f (rw e at hd)) | inr (n, w) ↦ omega arith ]

-- ---- players, registers, marks

pub owed_set : {k : ℕ} {ps : List ℕ} → PlayersOk k ps → (p v : ℕ) → p < 16 → v ≤ k → PlayersOk k (put ps (2 * p) v)
owed_set {k} {ps} o p v hp hv = record {
  sized = simp length_put o.sized;
  owed_ok = λ q. elim (nth_put ps (2 * p) (2 * q) v (omega arith)) [ inl (e, w) ↦ omega arith | inr (n, w) ↦ omega (arith, o.owed_ok q) ];
  scanned_ok = λ q. rw (nth_put_other ps (2 * p) (2 * q + 1) v (omega arith)) (o.scanned_ok q);
}

pub scanned_set : {k : ℕ} {ps : List ℕ} → PlayersOk k ps → (p : ℕ) → p < 16 → PlayersOk k (put ps (2 * p + 1) 1)
scanned_set {k} {ps} o p hp = record {
  sized = simp length_put o.sized;
  owed_ok = λ q. rw (nth_put_other ps (2 * p + 1) (2 * q) 1 (omega arith)) (o.owed_ok q);
  scanned_ok = λ q. elim (nth_put ps (2 * p + 1) (2 * q + 1) 1 (omega arith)) [ inl (e, w) ↦ omega arith | inr (n, w) ↦ omega (arith, o.scanned_ok q) ];
}

-- a register is set to nil or a start
pub reg-ok : {St : ℕ → Type 0} {rs : List ℕ} → RegsOk St rs → (i v : ℕ) → i < 256 → NilOr St v → RegsOk St (put rs i v)
reg-ok {St} {rs} o i v h ok = record {
  sized = simp length_put o.sized;
  values = λ j. elim (nth_put rs i j v (omega arith)) [ inl (e, w) ↦ rw w ok | inr (n, w) ↦ rw w (o.values j) ];
}

-- a start that is not marked is marked, and its card counts one more
pub mark-ok : {w k : ℕ} {St : ℕ → Type 0} {ms cs : List ℕ} → MarksOk w k St ms cs → (a : ℕ) → St a → a < 64 * k → bit w ms a ≡ false
    → MarksOk w k St (set_bit w ms a) (put cs (a / 64) (suc (nth cs (a / 64))))
mark-ok {w} {k} {St} {ms} {cs} o a sa ha un =
    let same_length : length (set_bit w ms a) ≡ length ms = unfold set_bit in length_put ms (a / w) _ in
    let card : ℕ = a / 64 in
    let here : 64 * card + a % 64 ≡ a = omega arith in
    let more : how_many (λ j. bit w (set_bit w ms a) (64 * card + j)) 64 ≡ suc (how_many (λ j. bit w ms (64 * card + j)) 64) =
    how_many_more (λ j. bit w ms (64 * card + j)) (λ j. bit w (set_bit w ms a) (64 * card + j)) 64 (a % 64) (omega arith)
    (ap (bit w ms) here ∙ un) (ap (bit w (set_bit w ms a)) here ∙ set_bit_same w ms a (o.sized a ha)) (λ i n. set_bit_other w ms a (64 * card + i) (omega arith)) in
    record {
      exact = same_length ∙ o.exact;
      sized = λ g h. rw same_length (o.sized g h);
      on_starts = λ g e. elim (ℕ_discrete g a) [ yes s ↦ rw s sa | no n ↦ o.on_starts g (sym (set_bit_other w ms a g n) ∙ e) ];
      counts_sized = simp length_put o.counts_sized;
      counted = λ c h. elim (nth_put cs card c (suc (nth cs card)) (omega (arith, o.counts_sized))) [
        | inl (e, v) ↦ rw e (rw e at v ∙ (ap suc (o.counted card (omega arith)) ∙ sym more))
        | inr (n, v) ↦ v ∙ (o.counted c h ∙ how_many_same (λ j. bit w ms (64 * c + j)) (λ j. bit w (set_bit w ms a) (64 * c + j)) 64 (λ i l. sym (set_bit_other w ms a (64 * c + i) (omega arith))))
      ];
    }
