-- What a finish computes is what its rule says, on every sound image: the found set is Found, the kept set is Kept.
use mathlib.Core.Path.{◌≡◌, refl, sym, ap, subst, ◌∙◌}
use mathlib.Core.Logic.{◌⊎◌, inl, inr, ⊎_elim, ◌↔◌}
use mathlib.Core.Bool.{Bool, true, false}
use mathlib.Core.List.Memᴰ
use mathlib.Core.List.{List, [], ◌∷◌, Memᴰ}
use Prim.Native.Nat.{ℕ, zero, suc, ◌+◌, ◌*◌, ◌/◌, ◌%◌, ◌<◌, suc-le-suc}
use native.Mathlib.Nat.{le_of_suc-le-suc}
use native.Mathlib.Decide.{ℕ_discrete}
use native.Mathlib.Omega.{arith}
use lib.Dec.{eqb}
use lib.ListN.{length, get_or}
use borrow.Author.Tests.{eqb-true, eq-eqb}
use Rattle.model.specs.Base.{nth, every, some, any, table}
use Rattle.model.specs.Image.{Image, granules, is_start, marked, links, link, dirty, reg, count, entry, entries, hand, hand_card, fits, parts}
use Rattle.model.specs.Undamaged.{nil_or_start, entered, sound}
use Rattle.model.specs.Finish.{still_due, non_nil, links_of, due_from, seeds, follows, found_set, kept_set, Due, due_entered, due_in_hand, due_dirty, due_card_in_hand, Found, found_reg, found_link, found_due, Kept, kept_marked, kept_found}
use Rattle.model.proofs.Laws.{false≢, bool_cases, and_split, and_join, or_split, or_left, or_right, every_use, every_cons, every_nil, some_use, some_nil, some_make, any_use, any_make}
use Rattle.model.proofs.Entries.{entries_use, entries_make}
use Rattle.model.proofs.Sited.{Sited, sited, start_of}
use Rattle.model.proofs.Closure.{In, Reached, seed, follow, reached_sound, reached_complete}

abbrev Mem : ℕ → List ℕ → Type 0
Mem a l = Memᴰ a l

-- ---- lists: what is not nil, tables, places

pub non_nil_use : (a : ℕ) (l : List ℕ) → Mem a (non_nil l) → Mem a l × (a ≡ 0 → ⊥)
unfolding non_nil
non_nil_use a [] h = elim h [ ]
non_nil_use a (zero ∷ l) h = let r = non_nil_use a l h in (Memᴰ.tail r.0, r.1)
non_nil_use a (suc g ∷ l) (Memᴰ.head e) = (Memᴰ.head e, λ z. omega arith)
non_nil_use a (suc g ∷ l) (Memᴰ.tail k) = let r = non_nil_use a l k in (Memᴰ.tail r.0, r.1)

pub non_nil_make : (a : ℕ) (l : List ℕ) → Mem a l → (a ≡ 0 → ⊥) → Mem a (non_nil l)
unfolding non_nil
non_nil_make a [] x'' nz = elim x'' [ ]
non_nil_make a (zero ∷ l) (Memᴰ.head e) nz = absurd (nz e)
non_nil_make a (zero ∷ l) (Memᴰ.tail h) nz = non_nil_make a l h nz
non_nil_make a (suc g ∷ l) (Memᴰ.head e) nz = Memᴰ.head e
non_nil_make a (suc g ∷ l) (Memᴰ.tail h) nz = Memᴰ.tail (non_nil_make a l h nz)

table_use : (a n : ℕ) (f : ℕ → ℕ) → Mem a (table n f) → (i : ℕ) × (i < n) × (f i ≡ a)
unfolding table
table_use a zero f h = elim h [ ]
table_use a (suc n) f (Memᴰ.head e) = (0, omega arith, sym e)
table_use a (suc n) f (Memᴰ.tail k) = let r = table_use a n (λ i. f (suc i)) k in (suc r.0, suc-le-suc r.1, r.2)

table_make : (a n : ℕ) (f : ℕ → ℕ) (i : ℕ) → i < n → f i ≡ a → Mem a (table n f)
unfolding table
table_make a zero f i h e = absurd (omega arith)
table_make a (suc n) f zero h e = Memᴰ.head (sym e)
table_make a (suc n) f (suc i) h e = Memᴰ.tail (table_make a n (λ j. f (suc j)) i (le_of_suc-le-suc h) e)

-- a table read at a place_of; past its end it has the default
pub table_below : (n : ℕ) (f : ℕ → Bool) (i : ℕ) → i < n → get_or (table n f) i false ≡ f i
unfolding table
table_below zero f i h = absurd (omega arith)
table_below (suc n) f zero h = refl
table_below (suc n) f (suc i) h = table_below n (λ j. f (suc j)) i (le_of_suc-le-suc h)

pub table_in : (n : ℕ) (f : ℕ → Bool) (i : ℕ) → In (table n f) i → i < n
unfolding table
table_in zero f i e = false≢ e
table_in (suc n) f zero e = omega arith
table_in (suc n) f (suc i) e = suc-le-suc (table_in n (λ j. f (suc j)) i e)

-- members of a list by place_of
pub place_of : (a : ℕ) (l : List ℕ) → Mem a l → (i : ℕ) × (i < length l) × (nth l i ≡ a)
unfolding nth
place_of a [] x' = elim x' [ ]
place_of a (x ∷ l) (Memᴰ.head e) = (0, omega arith, sym e)
place_of a (x ∷ l) (Memᴰ.tail h) = let r = place_of a l h in (suc r.0, suc-le-suc r.1, r.2)

pub placed : (a : ℕ) (l : List ℕ) (i : ℕ) → i < length l → nth l i ≡ a → Mem a l
unfolding nth
placed a [] i h e = absurd (omega arith)
placed a (x ∷ l) zero h e = Memᴰ.head (sym e)
placed a (x ∷ l) (suc i) h e = Memᴰ.tail (placed a l i (le_of_suc-le-suc h) e)

-- ---- still due, by object

due_use : (m : Image) (g : ℕ) → still_due m g ≡ true → Due m g
unfolding still_due entered entries count entry
due_use m g e = c₁ (some_use _ _ e)
  where
    held : Bool
    held = any 8 (λ t. eqb (hand_card m t) (suc (g / 64)))

    in_hand : Bool
    in_hand = any 8 (λ t. eqb (hand m t) g)

    c₄ : (held ≡ true) ⊎ (some [] ≡ true) → Due m g
    c₄ (inl q) = let u = any_use 8 _ q in due_card_in_hand u.0 u.1 (eqb-true _ _ u.2)
    c₄ (inr q) = some_nil q

    c₃ : (dirty m (g / 64) ≡ true) ⊎ (some (held ∷ []) ≡ true) → Due m g
    c₃ (inl q) = due_dirty q
    c₃ (inr q) = c₄ (some_use _ _ q)

    c₂ : (in_hand ≡ true) ⊎ (some (dirty m (g / 64) ∷ held ∷ []) ≡ true) → Due m g
    c₂ (inl q) = let u = any_use 8 _ q in due_in_hand u.0 u.1 (eqb-true _ _ u.2)
    c₂ (inr q) = c₃ (some_use _ _ q)

    c₁ : (entered m g ≡ true) ⊎ (some (in_hand ∷ dirty m (g / 64) ∷ held ∷ []) ≡ true) → Due m g
    c₁ (inl q) = let r = entries_use 32 m.packets g q in due_entered r.packet r.place r.is_packet r.below r.is_entry
    c₁ (inr q) = c₂ (some_use _ _ q)

due_make : (m : Image) → Sited m → (g : ℕ) → Due m g → still_due m g ≡ true
unfolding still_due entered entries count entry
due_make m s g (due_entered p e hp he q) = some_make _ 0 (entries_make 32 m.packets p e g (omega (arith, s.packets_length)) hp he (s.counts p hp) q)
due_make m s g (due_in_hand t h q) = some_make _ 1 (any_make 8 _ t h (eq-eqb _ _ q))
due_make m s g (due_dirty q) = some_make _ 2 q
due_make m s g (due_card_in_hand t h q) = some_make _ 3 (any_make 8 _ t h (eq-eqb _ _ q))

-- ---- links followed

pub links_of_use : (m : Image) (g a : ℕ) → Mem a (links_of m g) → ((i : ℕ) × (i < links m g) × (link m g i ≡ a)) × (a ≡ 0 → ⊥)
unfolding links_of
links_of_use m g a h = let r = non_nil_use a _ h in (table_use a (links m g) (link m g) r.0, r.1)

pub links_of_make : (m : Image) (g a i : ℕ) → i < links m g → link m g i ≡ a → (a ≡ 0 → ⊥) → Mem a (links_of m g)
unfolding links_of
links_of_make m g a i l e nz = non_nil_make a _ (table_make a (links m g) (link m g) i l e) nz

-- g is marked and still due
abbrev due_at : Image → ℕ → Bool
due_at m g = every (marked m g ∷ still_due m g ∷ [])

due_from_use : (m : Image) (a n : ℕ) → Mem a (due_from m n) → (g : ℕ) × (g < n) × (due_at m g ≡ true) × Mem a (links_of m g)
unfolding due_from
due_from_use m a zero h = elim h [ ]
due_from_use m a (suc n) h =
    let up : Mem a (due_from m n) → (g : ℕ) × (g < suc n) × (due_at m g ≡ true) × Mem a (links_of m g) =
    λ k. let r = due_from_use m a n k in (r.0, omega (arith, r.1), r.2, r.3) in
    elim (bool_cases (due_at m n)) [
      | inl d ↦ ⊎_elim (λ k. (n, omega arith, d, k)) up (Memᴰ.append_cases (links_of m n) (rw (d, due_from) at h))
      | inr d ↦ up (rw (d, due_from) at h)
    ]

due_from_make : (m : Image) (a n g : ℕ) → g < n → due_at m g ≡ true → Mem a (links_of m g) → Mem a (due_from m n)
unfolding due_from
due_from_make m a zero g h k e = absurd (omega arith)
due_from_make m a (suc n) g h k e =
    elim (ℕ_discrete g n) [
      | yes s ↦ rw (rw s at k, due_from) (Memᴰ.append_left (due_from m n) (rw s at e))
      | no s ↦
          let r = due_from_make m a n g (omega arith) k e in
          elim (bool_cases (due_at m n)) [ inl q ↦ rw (q, due_from) (Memᴰ.append_right (links_of m n) r) | inr q ↦ rw (q, due_from) r ]
    ]

follows_use : (m : Image) (g a : ℕ) → Mem a (follows m g) → (marked m g ≡ false) × Mem a (links_of m g)
unfolding follows
follows_use m g a h = elim (bool_cases (marked m g)) [ inl q ↦ elim (rw q at h) [ ] | inr q ↦ (q, rw q at h) ]

-- ---- the found set

seed_use : (m : Image) → Sited m → (a : ℕ) → Mem a (seeds m) → Found m a
unfolding seeds reg
seed_use m s a h = go (Memᴰ.append_cases (non_nil m.regs) h)
  where
    go : Mem a (non_nil m.regs) ⊎ Mem a (due_from m (granules m)) → Found m a
    go (inl k) =
        let n = non_nil_use a m.regs k in
        let r = place_of a m.regs n.0 in
        let split : 16 * (r.0 / 16) + r.0 % 16 ≡ r.0 = omega arith in
        found_reg (r.0 / 16) (r.0 % 16) (omega (arith, s.regs_length)) (omega arith) (ap (nth m.regs) split ∙ r.2) n.1
    go (inr k) =
        let r = due_from_use m a (granules m) k in
        let q = links_of_use m r.0 a r.3 in
        found_due r.0 q.0.0 r.1 (every_use _ r.2 0) (due_use m r.0 (every_use _ r.2 1)) q.0.1 q.0.2 q.1

reached_found : (m : Image) → Sited m → {a : ℕ} → Reached (follows m) (seeds m) a → Found m a
reached_found m s {a} (seed k) = seed_use m s a k
reached_found m s {a} (follow {g = g} q k) =
    let r = follows_use m g a k in
    let l = links_of_use m g a r.1 in
    found_link g l.0.0 (reached_found m s q) r.0 l.0.1 l.0.2 l.1

found_reached : (m : Image) → Sited m → {a : ℕ} → Found m a → Reached (follows m) (seeds m) a
unfolding seeds follows reg
found_reached m s {a} (found_reg p r hp hr e nz) = seed (Memᴰ.append_left _ (non_nil_make a _ (placed a m.regs (16 * p + r) (omega (arith, s.regs_length)) e) nz))
found_reached m s {a} (found_link g i q u l e nz) = follow {a = a} (found_reached m s q) (rw u (links_of_make m g a i l e nz))
found_reached m s {a} (found_due g i hg k d l e nz) =
    seed (Memᴰ.append_right (non_nil m.regs) (due_from_make m a (granules m) g hg (every_cons _ _ k (every_cons _ _ (due_make m s g d) every_nil)) (links_of_make m g a i l e nz)))

-- what is found is an object
pub found_start : (m : Image) → Sited m → {a : ℕ} → Found m a → (a < granules m) × (is_start m a ≡ true)
unfolding reg
found_start m s {a} (found_reg p r hp hr e nz) = start_of m a (subst (λ x. nil_or_start m x ≡ true) e (s.reg_in (16 * p + r) (omega arith))) nz
found_start m s {a} (found_link g i q u l e nz) = let o = found_start m s q in start_of m a (subst (λ x. nil_or_start m x ≡ true) e (s.link_in g i o.0 o.1 l)) nz
found_start m s {a} (found_due g i hg k d l e nz) = start_of m a (subst (λ x. nil_or_start m x ≡ true) e (s.link_in g i hg (s.mark_start g hg k) l)) nz

pub set_found : (m : Image) → Sited m → (a : ℕ) → In (found_set m) a → Found m a
unfolding found_set
set_found m s a h = reached_found m s (reached_sound (granules m) (follows m) (seeds m) a h)

pub found-set : (m : Image) → Sited m → (a : ℕ) → Found m a → In (found_set m) a
unfolding found_set
found-set m s a f = reached_complete (granules m) (follows m) (seeds m) (λ c k. (found_start m s (reached_found m s k)).0) a (found_reached m s f)

-- ---- the kept set

pub set_kept : (m : Image) → Sited m → (g : ℕ) → In (kept_set m) g → (is_start m g ≡ true) × Kept m g
unfolding kept_set
set_kept m s g h =
    let l : g < granules m = table_in (granules m) _ g h in
    let b = and_split (is_start m g) _ (sym (table_below (granules m) _ g l) ∙ h) in
    (b.0, ⊎_elim kept_marked (λ k. kept_found (set_found m s g k)) (or_split (marked m g) _ b.1))

pub kept-set : (m : Image) → Sited m → (g : ℕ) → is_start m g ≡ true → Kept m g → In (kept_set m) g
unfolding kept_set
kept-set m s g h k =
    table_below (granules m) _ g (s.start_in g h)
    ∙ and_join (is_start m g) _ h (elim k [ kept_marked q ↦ or_left (marked m g) _ q | kept_found q ↦ or_right (marked m g) _ (found-set m s g q) ])

-- ---- on every sound image

module _ (w : ℕ) (ws : List ℕ) (f : fits w (length ws) ≡ true) (e : sound (parts w ws) ≡ true) where
  pub found_is : (a : ℕ) → In (found_set (parts w ws)) a ↔ Found (parts w ws) a
  found_is a = (set_found (parts w ws) (sited w ws f e) a, found-set (parts w ws) (sited w ws f e) a)

  pub kept_is : (g : ℕ) → In (kept_set (parts w ws)) g ↔ (is_start (parts w ws) g ≡ true) × Kept (parts w ws) g
  kept_is g = (set_kept (parts w ws) (sited w ws f e) g, λ k. kept-set (parts w ws) (sited w ws f e) g k.0 k.1)
