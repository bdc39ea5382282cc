-- Entries by place: no word of a list stands twice, and no object is entered twice.
use mathlib.Core.Path.{◌≡◌, refl, sym, ap, ◌∙◌}
use mathlib.Core.Logic.{inl, inr}
use mathlib.Core.Bool.{true, false, not}
use mathlib.Core.List.{List, [], ◌∷◌, ◌++◌}
use Prim.Native.Nat.{ℕ, zero, suc, ◌+◌, ◌*◌, ◌≤◌, ◌<◌}
use native.Mathlib.Omega.{arith}
use lib.Dec.{eqb}
use lib.ListN.{length, take, drop, length-take, length-drop}
use borrow.Author.Tests.{not-true, eqb-true, eq-eqb}
use Rattle.model.specs.Base.{nth, elem, distinct}
use Rattle.model.specs.Image.{entries_of}
use Rattle.model.proofs.Laws.{false≢, and_split, and_join, not_make, or_split, or_left, or_right}
use Rattle.model.proofs.Entries.{nth_drop, nth_take, elem_use, elem_make, elem_left, elem_right, elem_split, entries_use, entries_make}
use Rattle.theory.specs.Lines.{count_in, entry_in}

-- ---- no word stands twice

distinct_use : (l : List ℕ) → distinct l ≡ true → (i j : ℕ) → i < length l → j < length l → nth l i ≡ nth l j → i ≡ j
unfolding distinct nth
distinct_use [] e i j hi hj q = absurd (omega arith)
distinct_use (x ∷ l) e zero zero hi hj q = refl
distinct_use (x ∷ l) e zero (suc j) hi hj q = false≢ (sym (not-true _ (and_split (not (elem x l)) (distinct l) e).0) ∙ elem_make x l j (omega arith) (sym q))
distinct_use (x ∷ l) e (suc i) zero hi hj q = false≢ (sym (not-true _ (and_split (not (elem x l)) (distinct l) e).0) ∙ elem_make x l i (omega arith) q)
distinct_use (x ∷ l) e (suc i) (suc j) hi hj q = ap suc (distinct_use l (and_split (not (elem x l)) (distinct l) e).1 i j (omega arith) (omega arith) q)

distinct_make : (l : List ℕ) → ((i j : ℕ) → i < length l → j < length l → nth l i ≡ nth l j → i ≡ j) → distinct l ≡ true
unfolding distinct nth
distinct_make [] f = refl
distinct_make (x ∷ l) f =
    and_join (not (elem x l)) (distinct l)
    (not_make _ (λ e. let r = elem_use x l e in omega (arith, f zero (suc r.0) (omega arith) (omega (arith, r.1)) (sym r.2))))
    (distinct_make l (λ i j hi hj q. omega (arith, f (suc i) (suc j) (omega arith) (omega arith) q)))

distinct_split : (l r : List ℕ) → distinct (l ++ r) ≡ true → (distinct l ≡ true) × (distinct r ≡ true) × ((g : ℕ) → elem g l ≡ true → elem g r ≡ true → ⊥)
unfolding distinct elem
distinct_split [] r e = (refl, e, λ g a b. false≢ a)
distinct_split (x ∷ l) r e =
    let a = and_split (not (elem x (l ++ r))) (distinct (l ++ r)) e in
    let s = distinct_split l r a.1 in
    let no : elem x (l ++ r) ≡ false = not-true _ a.0 in (
      and_join (not (elem x l)) (distinct l) (not_make _ (λ q. false≢ (sym no ∙ elem_left x l r q))) s.0,
      s.1,
      λ g c d. elim (or_split (eqb g x) (elem g l) c) [ inl q ↦ false≢ (sym no ∙ elem_right x l r (rw (eqb-true g x q) at d)) | inr q ↦ s.2 g q d ],
    )

distinct_append : (l r : List ℕ) → distinct l ≡ true → distinct r ≡ true → ((g : ℕ) → elem g l ≡ true → elem g r ≡ true → ⊥) → distinct (l ++ r) ≡ true
unfolding distinct elem
distinct_append [] r a b f = b
distinct_append (x ∷ l) r a b f =
    let s = and_split (not (elem x l)) (distinct l) a in
    and_join (not (elem x (l ++ r))) (distinct (l ++ r))
    (not_make _ (λ e. elim (elem_split x l r e) [ inl q ↦ false≢ (sym (not-true _ s.0) ∙ q) | inr q ↦ f x (or_left (eqb x x) (elem x l) (eq-eqb x x refl)) q ]))
    (distinct_append l r s.1 b (λ g p q. f g (or_right (eqb g x) (elem g l) p) q))

-- ---- no object is entered twice

-- the first packet's entries
abbrev front : List ℕ → List ℕ
front ps = take (nth ps 0) (drop 2 ps)

front_nth : (ps : List ℕ) (e : ℕ) → e < nth ps 0 → nth (front ps) e ≡ nth ps (2 + e)
front_nth ps e h = nth_take (nth ps 0) (drop 2 ps) e h ∙ nth_drop 2 ps e

next_count : (ps : List ℕ) (p : ℕ) → count_in (drop 32 ps) p ≡ count_in ps (suc p)
next_count ps p = let c : 32 + 32 * p ≡ 32 * suc p = omega arith in nth_drop 32 ps (32 * p) ∙ ap (nth ps) c

next_entry : (ps : List ℕ) (p e : ℕ) → entry_in (drop 32 ps) p e ≡ entry_in ps (suc p) e
next_entry ps p e = let d : 32 + (32 * p + 2 + e) ≡ 32 * suc p + 2 + e = omega arith in nth_drop 32 ps (32 * p + 2 + e) ∙ ap (nth ps) d

-- entries of the first n packets that are the same stand at one place
abbrev pub Once : ℕ → List ℕ → Type 0
Once n ps = (p e q f : ℕ) → p < n → q < n → e < count_in ps p → f < count_in ps q → entry_in ps p e ≡ entry_in ps q f → (p ≡ q) × (e ≡ f)

-- the counts are below 31
abbrev pub Few : ℕ → List ℕ → Type 0
Few n ps = (p : ℕ) → p < n → count_in ps p ≤ 30

few_next : (n : ℕ) (ps : List ℕ) → Few (suc n) ps → Few n (drop 32 ps)
few_next n ps f p h = rw (next_count ps p) (f (suc p) (omega arith))

front_length : (n : ℕ) (ps : List ℕ) → 32 * suc n ≤ length ps → Few (suc n) ps → length (front ps) ≡ nth ps 0
front_length n ps l c = length-take (nth ps 0) (drop 2 ps) ∙ omega (arith, length-drop 2 ps, c zero (omega arith))

-- an entry of the first packet is none of a later one
apart : (n : ℕ) (ps : List ℕ) → 32 * suc n ≤ length ps → Few (suc n) ps → distinct (front ps ++ entries_of n (drop 32 ps)) ≡ true
    → (e q f : ℕ) → q < n → e < nth ps 0 → f < count_in ps (suc q) → nth ps (2 + e) ≡ entry_in ps (suc q) f → ⊥
apart n ps l c d e q f hq he hf s =
    (distinct_split (front ps) (entries_of n (drop 32 ps)) d).2 (nth ps (2 + e)) (elem_make _ (front ps) e (omega (arith, front_length n ps l c)) (front_nth ps e he))
    (entries_make n (drop 32 ps) q f _ (omega (arith, length-drop 32 ps)) hq (rw (next_count ps q) hf) (few_next n ps c q hq) (next_entry ps q f ∙ sym s))

pub once_use : (n : ℕ) (ps : List ℕ) → 32 * n ≤ length ps → Few n ps → distinct (entries_of n ps) ≡ true → Once n ps
unfolding entries_of
once_use zero ps l c d p e q f hp hq he hf s = absurd (omega arith)
once_use (suc n) ps l c d zero e zero f hp hq he hf s =
    let fl : length (front ps) ≡ nth ps 0 = front_length n ps l c in
    let u = (distinct_split (front ps) (entries_of n (drop 32 ps)) d).0 in
    (refl, distinct_use (front ps) u e f (omega arith) (omega arith) (front_nth ps e he ∙ (s ∙ sym (front_nth ps f hf))))
once_use (suc n) ps l c d zero e (suc q) f hp hq he hf s = absurd (apart n ps l c d e q f (omega arith) he hf s)
once_use (suc n) ps l c d (suc p) e zero f hp hq he hf s = absurd (apart n ps l c d f p e (omega arith) hf he (sym s))
once_use (suc n) ps l c d (suc p) e (suc q) f hp hq he hf s =
    let ih = once_use n (drop 32 ps) (omega (arith, length-drop 32 ps)) (few_next n ps c) (distinct_split (front ps) (entries_of n (drop 32 ps)) d).1 in
    let r = ih p e q f (omega arith) (omega arith) (rw (next_count ps p) he) (rw (next_count ps q) hf) (cc (next_entry ps p e, next_entry ps q f)) in
    (ap suc r.0, r.1)

pub once_make : (n : ℕ) (ps : List ℕ) → 32 * n ≤ length ps → Few n ps → Once n ps → distinct (entries_of n ps) ≡ true
unfolding entries_of distinct
once_make zero ps l c o = refl
once_make (suc n) ps l c o =
    let fl : length (front ps) ≡ nth ps 0 = front_length n ps l c in
    distinct_append (front ps) (entries_of n (drop 32 ps))
    (distinct_make (front ps) (λ i j hi hj s.
    (o zero i zero j (omega arith) (omega arith) (omega arith) (omega arith) (cc (front_nth ps i (omega arith), front_nth ps j (omega arith)))).1))
    (once_make n (drop 32 ps) (omega (arith, length-drop 32 ps)) (few_next n ps c) (λ p e q f hp hq he hf s.
    let r = o (suc p) e (suc q) f (omega arith) (omega arith) (rw (next_count ps p) at he) (rw (next_count ps q) at hf) (cc (next_entry ps p e, next_entry ps q f)) in
    (omega (arith, r.0), r.1)))
    (λ g a b.
    let i = elem_use g (front ps) a in
    let j = entries_use n (drop 32 ps) g b in
    let h : i.0 < nth ps 0 = omega (arith, i.1) in
    omega (
      arith,
      o zero i.0 (suc j.packet) j.place (omega arith) (omega (arith, j.is_packet)) h (rw (next_count ps j.packet) at j.below)
          (cc (front_nth ps i.0 h, i.2, j.is_entry, next_entry ps j.packet j.place)),
    ))
