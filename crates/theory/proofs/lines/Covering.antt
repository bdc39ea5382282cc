-- Cover where cards, packets or tracers are written: what each write keeps of it.
use mathlib.Core.Path.{◌≡◌, refl, sym, ap, subst, ◌∙◌}
use mathlib.Core.Logic.{◌⊎◌, inl, inr}
use mathlib.Core.Bool.{true, false}
use mathlib.Core.List.{List}
use Prim.Native.Nat.{ℕ, zero, suc, ◌+◌, ◌*◌, ◌/◌, ◌≤◌, ◌<◌, zero-le}
use native.Mathlib.Decide.{ℕ_discrete}
use native.Mathlib.Omega.{arith}
use lib.Dec.{eqb}
use lib.ListN.{length}
use borrow.Author.Tests.{eqb-true}
use Rattle.model.specs.Base.{put, some, nth}
use Rattle.model.specs.Image.{Image, is_dirty, granules, word, marked, links, link, state, dirty, reg, count, entry, hand, next_link, hand_card, next_granule, owed, with_cards, with_tracers, dirty_state, set_state, dirty_card, set_tracer, fields_open}
use Rattle.model.specs.Collect.{pop, put_hand, take_object, put_card, take_card}
use Rattle.model.proofs.Laws.{false≢, bool_cases, nth_put_same, nth_put_other}
use Rattle.theory.specs.Cover.{Coming, Covered, Cover, on_dirty, on_entry, on_hand, on_card, owes_by, to_nil, to_marked, is_coming, is_owed}
use Rattle.theory.specs.Lines.{entry_in, PacketsOk, NilOr}
use Rattle.theory.proofs.lines.Packets.{popped, pop_on}
use Rattle.theory.proofs.lines.Sections.{two, two_off, two_is}

-- ---- dirty cards

pub is_dirty_dirty_state : (x : ℕ) → is_dirty (dirty_state x) ≡ true
unfolding is_dirty dirty_state some
is_dirty_dirty_state zero = refl
is_dirty_dirty_state (suc zero) = refl
is_dirty_dirty_state (suc (suc x)) = refl

-- a card that is dirtied is dirty
pub dirty_same : (m : Image) (c : ℕ) → c < length m.cards → dirty (dirty_card m c) c ≡ true
unfolding dirty_card set_state with_cards dirty state
dirty_same m c h = rw (nth_put_same m.cards c) (is_dirty_dirty_state (state m c))

-- and those that were stay so
pub dirty_keeps : (m : Image) (c d : ℕ) → c < length m.cards → dirty m d ≡ true → dirty (dirty_card m c) d ≡ true
unfolding dirty_card set_state with_cards dirty state
dirty_keeps m c d h e = elim (ℕ_discrete d c) [ yes q ↦ rw q (dirty_same m c h) | no ne ↦ rw (nth_put_other m.cards c d) e ]

-- what comes is read from cards, packets and words 2 to 5 of tracers alone
coming_by : (m m' : Image) → m'.cards ≡ m.cards → m'.packets ≡ m.packets
    → ((u b : ℕ) → 2 ≤ b → b < 8 → nth m'.tracers (8 * u + b) ≡ nth m.tracers (8 * u + b)) → (g i : ℕ) → Coming m g i → Coming m' g i
unfolding fields_open
coming_by m m' c p t g i (on_dirty q) = on_dirty (ap (λ l. is_dirty (nth l (g / 64))) c ∙ q)
coming_by m m' c p t g i (on_entry a e ha he q) = on_entry a e ha (omega (arith, ap (λ l. nth l (32 * a)) p)) (ap (λ l. nth l (32 * a + 2 + e)) p ∙ q)
coming_by m m' c p t g i (on_hand u hu q r) = on_hand u hu (t u 2 (omega arith) (omega arith) ∙ q) (omega (arith, t u 3 (omega arith) (omega arith)))
coming_by m m' c p t g i (on_card u hu q r) = on_card u hu (t u 4 (omega arith) (omega arith) ∙ q) (omega (arith, t u 5 (omega arith) (omega arith)))

pub same_coming : (m m' : Image) → m'.cards ≡ m.cards → m'.packets ≡ m.packets → m'.tracers ≡ m.tracers → (g i : ℕ) → Coming m g i → Coming m' g i
same_coming m m' c p t g i = coming_by m m' c p (λ u b _ _. ap (λ l. nth l (8 * u + b)) t) g i

-- ---- Cover of some objects

-- Cover of the objects in X
abbrev pub CoverOn : (ℕ → Type 0) → Image → Type 0
CoverOn X m = (g i : ℕ) → X g → g < granules m → marked m g ≡ true → i < links m g → Covered m g i

abbrev pub Any : ℕ → Type 0
Any g = Unit {0}

abbrev pub But : ℕ → ℕ → Type 0
But a g = g ≡ a → ⊥

pub on : (X : ℕ → Type 0) (m : Image) → Cover m → CoverOn X m
on X m c g i x = c g i

pub off : (m : Image) → CoverOn Any m → Cover m
off m c g i = c g i tt

-- the object left out is covered too
pub but_cover : (m : Image) (a : ℕ) → CoverOn (But a) m → ((i : ℕ) → i < links m a → Covered m a i) → Cover m
but_cover m a c f g i h k l = elim (ℕ_discrete g a) [ yes e ↦ rw e (f i (rw e at l)) | no n ↦ c g i n h k l ]

-- cards, packets and tracers replaced
abbrev pub renew : Image → List ℕ → List ℕ → List ℕ → Image
renew m cs ps ts = record { width = m.width; k = m.k; heap = m.heap; starts = m.starts; marks = m.marks; cards = cs; counts = m.counts; regs = m.regs; packets = ps; tracers = ts; players = m.players; general = m.general }

pub renew_cover : (X : ℕ → Type 0) (m : Image) (cs ps ts : List ℕ) → CoverOn X m → ((g i : ℕ) → X g → marked m g ≡ true → i < links m g → Coming m g i → Covered (renew m cs ps ts) g i) → CoverOn X (renew m cs ps ts)
unfolding granules marked links link word owed reg
renew_cover X m cs ps ts cov f g i x hg k l = elim (cov g i x hg k l) [
  | to_nil q ↦ to_nil q
  | to_marked q ↦ to_marked q
  | is_coming d ↦ f g i x k l d
  | is_owed (owes_by p r hp hr o e) ↦ is_owed (owes_by p r hp hr o e)
]

-- ---- an input or output is written

pub hold_coming : (m : Image) (t i v : ℕ) → i < 2 → (g j : ℕ) → Coming m g j → Coming (set_tracer m t i v) g j
unfolding set_tracer with_tracers
hold_coming m t i v hi g j = coming_by m (set_tracer m t i v) refl refl (λ u b h h'. nth_put_other m.tracers (8 * t + i) (8 * u + b) v (omega arith)) g j

pub hold_cover : (m : Image) (t i v : ℕ) → i < 2 → Cover m → Cover (set_tracer m t i v)
unfolding set_tracer with_tracers
hold_cover m t i v hi cov = off _ (renew_cover Any m m.cards m.packets (put m.tracers (8 * t + i) v) (on Any m cov) (λ g j x k l d. is_coming (hold_coming m t i v hi g j d)))

-- ---- two words of tracer t are written, and cards

abbrev rehanded : Image → List ℕ → ℕ → ℕ → ℕ → ℕ → Image
rehanded m cs t a x y = renew m cs m.packets (two m.tracers t a x y)

module _ (m : Image) (cs : List ℕ) (t a x y : ℕ) (ha : a < 7) where
  -- what comes by another tracer stays: what is dirty or comes by this one is to be shown
  rehanded_cover : (X : ℕ → Type 0) → CoverOn X m → ((g j : ℕ) → is_dirty (nth m.cards (g / 64)) ≡ true → Coming (rehanded m cs t a x y) g j)
      → ((g j : ℕ) → marked m g ≡ true → j < links m g → hand m t ≡ g → next_link m t ≤ j → Covered (rehanded m cs t a x y) g j)
      → ((g j : ℕ) → X g → marked m g ≡ true → hand_card m t ≡ suc (g / 64) → next_granule m t ≤ g → Coming (rehanded m cs t a x y) g j)
      → CoverOn X (rehanded m cs t a x y)
  unfolding fields_open
  rehanded_cover X cov d h c = renew_cover X m cs m.packets (two m.tracers t a x y) cov go
    where
      go : (g j : ℕ) → X g → marked m g ≡ true → j < links m g → Coming m g j → Covered (rehanded m cs t a x y) g j
      go g j i k l (on_dirty q) = is_coming (d g j q)
      go g j i k l (on_entry p e hp he q) = is_coming (on_entry p e hp he q)
      go g j i k l (on_hand u hu q r) = elim (ℕ_discrete u t) [
        | yes e ↦ h g j k l (rw e at q) (rw e at r)
        | no n ↦ is_coming (on_hand u hu (two_off m.tracers t a x y u 2 (omega arith) ∙ q) (omega (arith, two_off m.tracers t a x y u 3 (omega arith))))
      ]
      go g j i k l (on_card u hu q r) = elim (ℕ_discrete u t) [
        | yes e ↦ is_coming (c g j i k (rw e at q) (rw e at r))
        | no n ↦ is_coming (on_card u hu (two_off m.tracers t a x y u 4 (omega arith) ∙ q) (omega (arith, two_off m.tracers t a x y u 5 (omega arith))))
      ]

module _ (m : Image) (cs : List ℕ) (t : ℕ) (hl : length m.tracers ≡ 64) (ht : t < 8) where
  -- the hand is written, and what is in it comes
  in-hand : (x y g j : ℕ) → (x ≡ g) × (y ≤ j) → Coming (rehanded m cs t 2 x y) g j
  unfolding hand next_link
  in-hand x y g j h = let k = two_is m.tracers t 2 x y hl ht (omega arith) in on_hand t ht (k.0 ∙ h.0) (omega (arith, k.1))

  -- the card in hand is written: it comes, and the hand stays
  on_card_in_hand : (x y g j : ℕ) → (x ≡ suc (g / 64)) × (y ≤ g) → Coming (rehanded m cs t 4 x y) g j
  unfolding hand_card next_granule
  on_card_in_hand x y g j h = let k = two_is m.tracers t 4 x y hl ht (omega arith) in on_card t ht (k.0 ∙ h.0) (omega (arith, k.1))

  hand_stays : (x y g j : ℕ) → hand m t ≡ g → next_link m t ≤ j → Coming (rehanded m cs t 4 x y) g j
  unfolding hand next_link
  hand_stays x y g j q r = on_hand t ht (two_off m.tracers t 4 x y t 2 (omega arith) ∙ q) (omega (arith, two_off m.tracers t 4 x y t 3 (omega arith)))

-- link j of g is nil or leads to a marked object
abbrev pub Seen : Image → ℕ → ℕ → Type 0
Seen m g j = NilOr (λ a. marked m a ≡ true) (link m g j)

pub hand_cover : (X : ℕ → Type 0) (m : Image) (t g' i' : ℕ) → length m.tracers ≡ 64 → t < 8 → CoverOn X m
    → ((g j : ℕ) → hand m t ≡ g → marked m g ≡ true → j < links m g → next_link m t ≤ j → Seen m g j ⊎ ((g' ≡ g) × (i' ≤ j)))
    → CoverOn X (put_hand m t g' i')
unfolding put_hand fields_open
hand_cover X m t g' i' hl ht cov f =
    rehanded_cover m m.cards t 2 g' i' (omega arith) X cov (λ g j q. on_dirty q)
    (λ g j k l q r. elim (f g j q k l r) [ inl (inl z) ↦ to_nil z | inl (inr s) ↦ to_marked s | inr h ↦ is_coming (in-hand m m.cards t hl ht g' i' g j h) ])
    (λ g j x k q r. on_card t ht (two_off m.tracers t 2 g' i' t 4 (omega arith) ∙ q) (omega (arith, two_off m.tracers t 2 g' i' t 5 (omega arith))))

-- an object goes in an empty hand, at link 0, unless without links
pub take_object_cover : (m : Image) (t a : ℕ) → length m.tracers ≡ 64 → t < 8 → hand m t ≡ 0 → marked m 0 ≡ false → CoverOn (But a) m → Cover (take_object m t a)
unfolding take_object put_hand fields_open
take_object_cover m t a hl ht e z cov = elim (bool_cases (eqb (links m a) 0)) [
  | inl q ↦ rw q (but_cover m a cov (λ i l. absurd (omega (arith, eqb-true (links m a) 0 q))))
  | inr q ↦
      rw q
      (but_cover (put_hand m t a 0) a
      (hand_cover (But a) m t a 0 hl ht cov (λ g j q k l r. false≢ (sym z ∙ subst (λ x. marked m x ≡ true) (sym q ∙ e) k)))
      (λ i l. is_coming (in-hand m m.cards t hl ht a 0 a i (refl, zero-le))))
]

-- ---- a pop, for all but the popped object

pub pop_cover : {Marked : ℕ → Type 0} (m : Image) → PacketsOk Marked m.packets → (p c : ℕ) → p < 32 → count m p ≡ suc c → Cover m → CoverOn (But (entry m p c)) (pop m p)
unfolding pop fields_open
pop_cover m o p c hp hc cov = renew_cover (But (entry m p c)) m m.cards (popped m.packets p) m.tracers (on _ m cov) go
  where
    go : (g j : ℕ) → (g ≡ entry_in m.packets p c → ⊥) → marked m g ≡ true → j < links m g → Coming m g j → Covered (pop m p) g j
    go g j x k l (on_dirty q) = is_coming (on_dirty q)
    go g j x k l (on_entry q e hq he r) = elim (pop_on o p c hp hc q e g (record { is_packet = hq; below = he; is_entry = r })) [
      | inl (a, b) ↦ absurd (x (sym (rw (a, b) at r)))
      | inr i ↦ is_coming (on_entry q e i.is_packet i.below i.is_entry)
    ]
    go g j x k l (on_hand u hu q r) = is_coming (on_hand u hu q r)
    go g j x k l (on_card u hu q r) = is_coming (on_card u hu q r)

-- ---- the card in hand is written

pub card_cover : (X : ℕ → Type 0) (m : Image) (t c n : ℕ) → length m.tracers ≡ 64 → t < 8 → CoverOn X m
    → ((g : ℕ) → X g → marked m g ≡ true → hand_card m t ≡ suc (g / 64) → next_granule m t ≤ g → (c ≡ suc (g / 64)) × (n ≤ g))
    → CoverOn X (put_card m t c n)
unfolding put_card fields_open
card_cover X m t c n hl ht cov f =
    rehanded_cover m m.cards t 4 c n (omega arith) X cov (λ g j q. on_dirty q) (λ g j k l q r. is_coming (hand_stays m m.cards t hl ht c n g j q r))
    (λ g j x k q r. on_card_in_hand m m.cards t hl ht c n g j (f g x k q r))

-- a dirty card is taken in an empty hand
pub take_card_cover : (m : Image) (t c : ℕ) → length m.tracers ≡ 64 → t < 8 → hand_card m t ≡ 0 → Cover m → Cover (take_card m t c)
unfolding take_card put_card fields_open
take_card_cover m t c hl ht z cov =
    let cs' : List ℕ = put m.cards c 2 in
    off _ (rehanded_cover m cs' t 4 (suc c) (64 * c) (omega arith) Any (on Any m cov)
    (λ g j q. elim (ℕ_discrete (g / 64) c) [
      | yes e ↦ on_card_in_hand m cs' t hl ht (suc c) (64 * c) g j (omega arith)
      | no n ↦ on_dirty (rw (nth_put_other m.cards c (g / 64) 2 n) q)
    ])
    (λ g j k l q r. is_coming (hand_stays m cs' t hl ht (suc c) (64 * c) g j q r)) (λ g j x k q r. absurd (omega (arith, z, q))))
