-- The test of Cover and its derivations are the same.
use mathlib.Core.Path.{◌≡◌}
use mathlib.Core.Logic.{⊎_elim}
use mathlib.Core.Bool.{Bool, true}
use mathlib.Core.List.{List, ◌∷◌}
use Prim.Native.Nat.{ℕ}
use native.Mathlib.Omega.{arith}
use borrow.Author.Tests.{leb-true, eqb-true, le-leb, eq-eqb}
use Rattle.model.specs.Base.{some}
use Rattle.model.specs.Image.{Image, granules, links, count, entry, entries}
use Rattle.model.specs.Undamaged.{entered, link_to_come, granule_to_come, owed_with, covered, cover}
use Rattle.model.proofs.Laws.{every_use, every_cons, every_nil, some_use, some_nil, some_make, all_use, all_make, any_use, any_make, imp_use, imp_make}
use Rattle.model.proofs.Entries.{entries_use, entries_make}
use Rattle.theory.specs.Cover.{on_dirty, on_entry, on_hand, on_card, Owes, owes_by, Covered, to_nil, to_marked, is_coming, is_owed, Cover, Counted}

owes_use : (m : Image) (g a : ℕ) → owed_with m g a ≡ true → Owes m g a
unfolding owed_with
owes_use m g a e =
    let u = any_use 16 _ e in
    let v = any_use 16 _ (every_use _ u.2 1) in
    owes_by u.0 v.0 u.1 v.1 (eqb-true _ _ (every_use _ u.2 0)) (eqb-true _ _ v.2)

some_cases : {P : Type 0} (b : Bool) (l : List Bool) → (b ≡ true → P) → (some l ≡ true → P) → some (b ∷ l) ≡ true → P
some_cases b l f h e = ⊎_elim f h (some_use b l e)

covered_use : (m : Image) (g i : ℕ) → covered m g i ≡ true → Covered m g i
unfolding covered entered entries count entry link_to_come granule_to_come
covered_use m g i =
    some_cases _ _ (λ q. to_nil (eqb-true _ _ q))
    (some_cases _ _ (λ q. to_marked q)
    (some_cases _ _ (λ q. is_coming (on_dirty q))
    (some_cases _ _ (λ q. let r = entries_use 32 m.packets g q in is_coming (on_entry r.packet r.place r.is_packet r.below r.is_entry))
    (some_cases _ _ (λ q. let u = any_use 8 _ q in is_coming (on_hand u.0 u.1 (eqb-true _ _ (every_use _ u.2 0)) (leb-true _ _ (every_use _ u.2 1))))
    (some_cases _ _ (λ q. let u = any_use 8 _ q in is_coming (on_card u.0 u.1 (eqb-true _ _ (every_use _ u.2 0)) (leb-true _ _ (every_use _ u.2 1))))
    (some_cases _ _ (λ q. is_owed (owes_use m g _ q)) some_nil))))))

covered_make : (m : Image) → Counted m → (g i : ℕ) → Covered m g i → covered m g i ≡ true
unfolding covered entered entries count entry link_to_come granule_to_come owed_with
covered_make m n g i (to_nil q) = some_make _ 0 (eq-eqb _ _ q)
covered_make m n g i (to_marked q) = some_make _ 1 q
covered_make m n g i (is_coming (on_dirty q)) = some_make _ 2 q
covered_make m n g i (is_coming (on_entry p e a b q)) = some_make _ 3 (entries_make 32 m.packets p e g (omega (arith, n.packets_length)) a b (n.counts p a) q)
covered_make m n g i (is_coming (on_hand t a q b)) = some_make _ 4 (any_make 8 _ t a (every_cons _ _ (eq-eqb _ _ q) (every_cons _ _ (le-leb _ _ b) every_nil)))
covered_make m n g i (is_coming (on_card t a q b)) = some_make _ 5 (any_make 8 _ t a (every_cons _ _ (eq-eqb _ _ q) (every_cons _ _ (le-leb _ _ b) every_nil)))
covered_make m n g i (is_owed (owes_by p r a b o h)) =
    some_make _ 6 (any_make 16 _ p a (every_cons _ _ (eq-eqb _ _ o) (every_cons _ _ (any_make 16 _ r b (eq-eqb _ _ h)) every_nil)))

pub cover_use : (m : Image) → cover m ≡ true → Cover m
unfolding cover
cover_use m e g i h k l = covered_use m g i (all_use (links m g) (covered m g) (imp_use _ _ (all_use (granules m) _ e g h) k) i l)

pub cover_make : (m : Image) → Counted m → Cover m → cover m ≡ true
unfolding cover
cover_make m n c = all_make (granules m) _ (λ g h. imp_make _ _ (λ k. all_make (links m g) _ (λ i l. covered_make m n g i (c g i h k l))))
