-- Pieces of a list, members of a list and the entries of packets, by place.
use mathlib.Core.Path.{◌≡◌, refl, sym, ap, ◌∙◌}
use mathlib.Core.Logic.{◌⊎◌, inl, inr, ⊎_elim}
use mathlib.Core.Bool.{Bool, true}
use mathlib.Core.List.{List, [], ◌∷◌, ◌++◌}
use Prim.Native.Nat.{ℕ, zero, suc, ◌+◌, ◌*◌, ◌≤◌, ◌<◌}
use native.Mathlib.Nat.{mul-zero, mul-suc, add_comm}
use native.Mathlib.Omega.{arith}
use lib.Dec.{eqb}
use lib.ListN.{length, take, drop, length-take, length-drop}
use lib.Seq.{drop-drop, get_or-drop, get_or-take}
use borrow.Author.Tests.{eqb-true, eq-eqb}
use Rattle.model.specs.Base.{nth, elem, each_piece}
use Rattle.model.specs.Image.{entries_of}
use Rattle.model.proofs.Laws.{false≢, and_split, and_join, or_split, or_left, or_right}

pub nth_drop : (n : ℕ) (l : List ℕ) (i : ℕ) → nth (drop n l) i ≡ nth l (n + i)
unfolding nth
nth_drop n l i = get_or-drop n l i 0

pub nth_take : (n : ℕ) (l : List ℕ) (i : ℕ) → i < n → nth (take n l) i ≡ nth l i
unfolding nth
nth_take n l i h = get_or-take n l i 0 h

-- ---- each of the pieces of a list

piece_next : (s i : ℕ) (ws : List ℕ) → take s (drop (s * suc i) ws) ≡ take s (drop (s * i) (drop s ws))
piece_next s i ws = rw (mul-suc s i, add_comm (s * i) s, drop-drop (s * i) s ws) refl

pub each_piece_make : (s n : ℕ) (p : List ℕ → Bool) (ws : List ℕ) → ((i : ℕ) → i < n → p (take s (drop (s * i) ws)) ≡ true) → each_piece s n p ws ≡ true
unfolding each_piece
each_piece_make s zero p ws f = refl
each_piece_make s (suc n) p ws f =
    and_join (p (take s ws)) (each_piece s n p (drop s ws)) (rw (mul-zero s) at (f zero (omega arith)))
    (each_piece_make s n p (drop s ws) (λ i h. ap p (sym (piece_next s i ws)) ∙ f (suc i) (omega arith)))

-- piece i of those that each pass
pub each_piece_use : (s n : ℕ) (p : List ℕ → Bool) (ws : List ℕ) → each_piece s n p ws ≡ true → (i : ℕ) → i < n → p (take s (drop (s * i) ws)) ≡ true
unfolding each_piece
each_piece_use s zero p ws e i h = absurd (omega arith)
each_piece_use s (suc n) p ws e zero h = rw (mul-zero s) (and_split (p (take s ws)) _ e).0
each_piece_use s (suc n) p ws e (suc i) h = ap p (piece_next s i ws) ∙ each_piece_use s n p (drop s ws) (and_split (p (take s ws)) _ e).1 i (omega arith)

-- ---- members of a list by place

pub elem_use : (g : ℕ) (l : List ℕ) → elem g l ≡ true → (i : ℕ) × (i < length l) × (nth l i ≡ g)
unfolding elem nth
elem_use g [] e = false≢ e
elem_use g (x ∷ l) e =
    elim (or_split (eqb g x) (elem g l) e) [
      | inl q ↦ (0, omega arith, sym (eqb-true g x q))
      | inr q ↦ let r = elem_use g l q in (suc r.0, omega (arith, r.1), r.2)
    ]

pub elem_make : (g : ℕ) (l : List ℕ) (i : ℕ) → i < length l → nth l i ≡ g → elem g l ≡ true
unfolding elem nth
elem_make g [] i h e = absurd (omega arith)
elem_make g (x ∷ l) zero h e = or_left (eqb g x) (elem g l) (eq-eqb g x (sym e))
elem_make g (x ∷ l) (suc i) h e = or_right (eqb g x) (elem g l) (elem_make g l i (omega arith) e)

pub elem_split : (g : ℕ) (l r : List ℕ) → elem g (l ++ r) ≡ true → (elem g l ≡ true) ⊎ (elem g r ≡ true)
unfolding elem
elem_split g [] r e = inr e
elem_split g (x ∷ l) r e =
    elim (or_split (eqb g x) (elem g (l ++ r)) e) [
      | inl q ↦ inl (rw q)
      | inr q ↦ ⊎_elim (λ p. inl (or_right (eqb g x) (elem g l) p)) inr (elem_split g l r q)
    ]

pub elem_left : (g : ℕ) (l r : List ℕ) → elem g l ≡ true → elem g (l ++ r) ≡ true
unfolding elem
elem_left g [] r e = false≢ e
elem_left g (x ∷ l) r e = elim (or_split (eqb g x) (elem g l) e) [ inl q ↦ rw q | inr q ↦ or_right (eqb g x) (elem g (l ++ r)) (elem_left g l r q) ]

pub elem_right : (g : ℕ) (l r : List ℕ) → elem g r ≡ true → elem g (l ++ r) ≡ true
unfolding elem
elem_right g [] r e = e
elem_right g (x ∷ l) r e = or_right (eqb g x) (elem g (l ++ r)) (elem_right g l r e)

-- ---- entries

-- g is an entry of one of the first n packets
pub record EntryAt (n : ℕ) (ps : List ℕ) (g : ℕ) : Type 0 where
  pub packet : ℕ
  pub place : ℕ
  pub is_packet : packet < n
  pub below : place < nth ps (32 * packet)
  pub is_entry : nth ps (32 * packet + 2 + place) ≡ g

pub entries_use : (n : ℕ) (ps : List ℕ) (g : ℕ) → elem g (entries_of n ps) ≡ true → EntryAt n ps g
unfolding entries_of elem
entries_use zero ps g e = false≢ e
entries_use (suc n) ps g e =
    elim (elem_split g (take (nth ps 0) (drop 2 ps)) (entries_of n (drop 32 ps)) e) [
      | inl q ↦
          let r = elem_use g (take (nth ps 0) (drop 2 ps)) q in
          let h : r.0 < nth ps 0 = omega (arith, r.1, length-take (nth ps 0) (drop 2 ps)) in
          record { packet = 0; place = r.0; is_packet = omega arith; below = h; is_entry = sym (nth_drop 2 ps r.0) ∙ (sym (nth_take (nth ps 0) (drop 2 ps) r.0 h) ∙ r.2) }
      | inr q ↦
          let r = entries_use n (drop 32 ps) g q in
          let c : 32 + 32 * r.packet ≡ 32 * suc r.packet = omega arith in
          let d : 32 + (32 * r.packet + 2 + r.place) ≡ 32 * suc r.packet + 2 + r.place = omega arith in
          record {
            packet = suc r.packet;
            place = r.place;
            is_packet = omega (arith, r.is_packet);
            below = omega (arith, r.below, nth_drop 32 ps (32 * r.packet), ap (nth ps) c);
            is_entry = ap (nth ps) (sym d) ∙ (sym (nth_drop 32 ps (32 * r.packet + 2 + r.place)) ∙ r.is_entry);
          }
    ]

pub entries_make : (n : ℕ) (ps : List ℕ) (p e g : ℕ) → 32 * n ≤ length ps → p < n → e < nth ps (32 * p) → nth ps (32 * p) ≤ 30 → nth ps (32 * p + 2 + e) ≡ g → elem g (entries_of n ps) ≡ true
unfolding entries_of
entries_make zero ps p e g l h b f q = absurd (omega arith)
entries_make (suc n) ps zero e g l h b f q =
    elem_left g (take (nth ps 0) (drop 2 ps)) (entries_of n (drop 32 ps))
    (elem_make g (take (nth ps 0) (drop 2 ps)) e (omega (arith, length-take (nth ps 0) (drop 2 ps), length-drop 2 ps)) (nth_take (nth ps 0) (drop 2 ps) e b ∙ (nth_drop 2 ps e ∙ q)))
entries_make (suc n) ps (suc p) e g l h b f q =
    let c : 32 + 32 * p ≡ 32 * suc p = omega arith in
    let d : 32 + (32 * p + 2 + e) ≡ 32 * suc p + 2 + e = omega arith in
    let w : nth (drop 32 ps) (32 * p) ≡ nth ps (32 * suc p) = nth_drop 32 ps (32 * p) ∙ ap (nth ps) c in
    elem_right g (take (nth ps 0) (drop 2 ps)) (entries_of n (drop 32 ps))
    (entries_make n (drop 32 ps) p e g (omega (arith, length-drop 32 ps)) (omega arith) (omega (arith, w)) (omega (arith, w)) (nth_drop 32 ps (32 * p + 2 + e) ∙ (ap (nth ps) d ∙ q)))
