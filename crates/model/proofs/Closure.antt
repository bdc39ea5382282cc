-- The computed closure is the least set: it holds what derivations give, and nothing else.
use mathlib.Core.Path.{◌≡◌, refl, sym, ap, ◌∙◌}
use mathlib.Core.Logic.{◌⊎◌, inl, inr, ⊎_elim}
use mathlib.Core.Bool.{Bool, true, false}
use mathlib.Core.List.{List, [], ◌∷◌, Memᴰ}
use Prim.Native.Nat.{ℕ, zero, suc, ◌+◌, ◌≤◌, ◌<◌, zero-le, suc-le-suc}
use native.Mathlib.Decide.{ℕ_discrete}
use native.Mathlib.Omega.{arith}
use lib.Dec.{leb}
use lib.ListN.{length, get_or, set, replicate, length-set, length-replicate}
use lib.Seq.{get_or-set_same, get_or-set_other}
use borrow.Author.Tests.{leb-true, leb-false}
use Rattle.model.specs.Closure.{add_all, round, members, closure, reached}
use Rattle.model.proofs.Laws.{false≢, bool_cases}

-- g is in the set
abbrev pub In : List Bool → ℕ → Type 0
In s g = get_or s g false ≡ true

set_mono : (s : List Bool) (g h : ℕ) → In s h → In (set s g true) h
set_mono [] g h e = e
set_mono (x ∷ s) zero zero e = refl
set_mono (x ∷ s) zero (suc h) e = e
set_mono (x ∷ s) (suc g) zero e = e
set_mono (x ∷ s) (suc g) (suc h) e = set_mono s g h e

length_add_all : (gs : List ℕ) (s : List Bool) → length (add_all gs s) ≡ length s
unfolding add_all
length_add_all [] s = refl
length_add_all (g ∷ gs) s = length_add_all gs (set s g true) ∙ length-set s g true

add_all_mono : (gs : List ℕ) (s : List Bool) (h : ℕ) → In s h → In (add_all gs s) h
unfolding add_all
add_all_mono [] s h e = e
add_all_mono (g ∷ gs) s h e = add_all_mono gs (set s g true) h (set_mono s g h e)

add_all_has : (gs : List ℕ) (s : List Bool) (a : ℕ) → Memᴰ a gs → a < length s → In (add_all gs s) a
unfolding add_all
add_all_has [] s a x'' h = elim x'' [ ]
add_all_has (g ∷ gs) s a (Memᴰ.head e) h = add_all_mono gs (set s g true) a (rw e (get_or-set_same s g true false (omega arith)))
add_all_has (g ∷ gs) s a (Memᴰ.tail m) h = add_all_has gs (set s g true) a m (omega (arith, length-set s g true))

add_all_only : (gs : List ℕ) (s : List Bool) (a : ℕ) → In (add_all gs s) a → Memᴰ a gs ⊎ In s a
unfolding add_all
add_all_only [] s a e = inr e
add_all_only (g ∷ gs) s a e =
    elim (ℕ_discrete a g) [
      | yes p ↦ inl (Memᴰ.head p)
      | no n ↦ ⊎_elim (λ m. inl (Memᴰ.tail m)) (λ i. inr (sym (get_or-set_other s g a true false n) ∙ i)) (add_all_only gs (set s g true) a e)
    ]

-- a set that holds another has no fewer members, and is that one where it has no more
members_mono : (s r : List Bool) → length r ≡ length s → ((h : ℕ) → In s h → In r h) → (members s ≤ members r) × (members r ≤ members s → r ≡ s)
unfolding members
members_mono [] [] l sub = (zero-le, λ le. refl)
members_mono [] (y ∷ r) l sub = absurd (omega arith)
members_mono (x ∷ s) [] l sub = absurd (omega arith)
members_mono (true ∷ s) (true ∷ r) l sub = let q = members_mono s r (omega arith) (λ h. sub (suc h)) in (suc-le-suc q.0, λ le. ap (λ z. true ∷ z) (q.1 (omega arith)))
members_mono (false ∷ s) (true ∷ r) l sub = let q = members_mono s r (omega arith) (λ h. sub (suc h)) in (omega (arith, q.0), λ le. absurd (omega (arith, q.0)))
members_mono (true ∷ s) (false ∷ r) l sub = false≢ (sub zero refl)
members_mono (false ∷ s) (false ∷ r) l sub = let q = members_mono s r (omega arith) (λ h. sub (suc h)) in (q.0, λ le. ap (λ z. false ∷ z) (q.1 le))

members_le_length : (s : List Bool) → members s ≤ length s
unfolding members
members_le_length [] = zero-le
members_le_length (true ∷ s) = suc-le-suc (members_le_length s)
members_le_length (false ∷ s) = omega (arith, members_le_length s)

module _ (f : ℕ → List ℕ) where
  -- what it keeps to follow a member, a round keeps, and so does the closure
  module _ (P : List Bool → Type 0) (c : (g : ℕ) (s : List Bool) → In s g → P s → P (add_all (f g) s)) (n : ℕ) where
    round_keeps : (j : ℕ) (s : List Bool) → P s → P (round f j s)
    unfolding round
    round_keeps zero s q = q
    round_keeps (suc j) s q =
        let h = round_keeps j s q in
        elim (bool_cases (get_or (round f j s) j false)) [ inl e ↦ rw e (c j (round f j s) e h) | inr e ↦ rw e h ]

    closure_keeps : (j : ℕ) (s : List Bool) → P s → P (closure f n j s)
    unfolding closure
    closure_keeps zero s q = q
    closure_keeps (suc j) s q =
        let h = closure_keeps j (round f n s) (round_keeps n s q) in
        elim (bool_cases (leb (members (round f n s)) (members s))) [ inl e ↦ rw (e, closure) q | inr e ↦ rw (e, closure) h ]

  length_round : (n : ℕ) (s : List Bool) → length (round f n s) ≡ length s
  length_round n s = round_keeps (λ r. length r ≡ length s) (λ g r i e. length_add_all (f g) r ∙ e) n n s refl

  round_mono : (n : ℕ) (s : List Bool) (h : ℕ) → In s h → In (round f n s) h
  round_mono n s h = round_keeps (λ r. In r h) (λ g r i. add_all_mono (f g) r h) n n s

  round_has : (n : ℕ) (s : List Bool) (g a : ℕ) → g < n → In s g → Memᴰ a (f g) → a < length s → In (round f n s) a
  unfolding round
  round_has zero s g a h i m l = absurd (omega arith)
  round_has (suc n) s g a h i m l =
      let r : List Bool = round f n s in
      elim (ℕ_discrete g n) [
        | yes e ↦ rw (rw e at (round_mono n s g i)) (add_all_has (f n) r a (rw e at m) (omega (arith, length_round n s)))
        | no ne ↦ let k = round_has n s g a (omega arith) i m l in elim (bool_cases (get_or r n false)) [ inl e ↦ rw e (add_all_mono (f n) r a k) | inr e ↦ rw e k ]
      ]

  -- no round adds anything to the closure
  closure_stable : (n j : ℕ) (s : List Bool) → length s ≤ members s + j → members (round f n (closure f n j s)) ≤ members (closure f n j s)
  unfolding closure
  closure_stable n zero s h = omega (arith, members_le_length (round f n s), length_round n s)
  closure_stable n (suc j) s h =
      let r : List Bool = round f n s in
      elim (bool_cases (leb (members r) (members s))) [
        | inl e ↦ rw (e, closure) (leb-true _ _ e)
        | inr e ↦ rw (e, closure) (closure_stable n j r (omega (arith, leb-false, length_round n s)))
      ]

-- The same by derivations
pub data Reached (f : ℕ → List ℕ) (l : List ℕ) : ℕ → Type 0 where
  seed : {a : ℕ} → Memᴰ a l → Reached f l a
  follow : {g a : ℕ} → Reached f l g → Memᴰ a (f g) → Reached f l a

replicate_none : (n h : ℕ) → In (replicate n false) h → ⊥
replicate_none zero h e = false≢ e
replicate_none (suc n) zero e = false≢ e
replicate_none (suc n) (suc h) e = replicate_none n h e

pub reached_sound : (n : ℕ) (f : ℕ → List ℕ) (l : List ℕ) (h : ℕ) → In (reached n f l) h → Reached f l h
unfolding reached
reached_sound n f l =
    closure_keeps f
    (λ s. (h : ℕ) → In s h → Reached f l h)
    (λ g s i q h k. ⊎_elim (λ m. follow (q g i) m) (λ j. q h j) (add_all_only (f g) s h k))
    n n (add_all l (replicate n false))
    (λ g k. ⊎_elim (λ m. seed m) (λ j. absurd (replicate_none n g j)) (add_all_only l (replicate n false) g k))

-- where all that is reached lies below n
pub reached_complete : (n : ℕ) (f : ℕ → List ℕ) (l : List ℕ) → ((a : ℕ) → Reached f l a → a < n) → (h : ℕ) → Reached f l h → In (reached n f l) h
unfolding reached
reached_complete n f l b h (seed m) =
    let s : List Bool = add_all l (replicate n false) in
    closure_keeps f (λ r. In r h) (λ g r i. add_all_mono (f g) r h) n n s (add_all_has l (replicate n false) h m (rw length-replicate (b h (seed m))))
reached_complete n f l b h (follow {g = g} q m) =
    let s : List Bool = add_all l (replicate n false) in
    let c : List Bool = closure f n n s in
    let ls : length s ≡ n = length_add_all l (replicate n false) ∙ length-replicate n false in
    let lc : length c ≡ n = closure_keeps f (λ r. length r ≡ n) (λ g r i e. length_add_all (f g) r ∙ e) n n s ls in
    let whole : round f n c ≡ c = (members_mono c (round f n c) (length_round f n c) (round_mono f n c)).1 (closure_stable f n n s (omega arith)) in
    rw whole at (round_has f n c g h (b g q) (reached_complete n f l b g q) m (omega (arith, b h (follow q m))))
