-- An image and a plain store that agree give a player's step the same number, but for 9.
use mathlib.Core.Path.{◌≡◌, refl, sym, ap, ◌∙◌}
use mathlib.Core.Bool.{Bool, true, false, not, ◌&&◌, not-not}
use mathlib.Core.List.{[], ◌∷◌}
use Prim.Native.Nat.{ℕ, ◌<◌}
use lib.Dec.{eqb, leb}
use lib.ListN.{get_or}
use borrow.Author.Tests.{eqb-false, leb-false}
use Rattle.model.specs.Base.{some, first}
use Rattle.model.specs.Image.{Image, links, levels}
use Rattle.model.specs.Records.{Step, Kind, new, load, store, barrier, hand_over, drop_reg, read, write, begin, scan, trace, clean, finish, is_due, undirty, unknown}
use Rattle.model.specs.Mutate.{has_room}
use Rattle.model.specs.Rows.{Role, unused, player, tracer, register, card, number, row_of, is, is_player, limit, reaches, fields}
use Rattle.model.specs.Steps.{unnamed, off_desk, bad_size, object, owes, owing, no_object, past_end, no_room, wrong_phase, nothing_to_do, refusal}
use Rattle.model.specs.Plain.{Object, is_nil, PlainStore, holding, plain_owing, plain_no_object, plain_levels, plain_past_end, plain_nothing, plain_refusal, feeds}
use Rattle.model.specs.Claim.{Chain, chain_reg}
use Rattle.model.proofs.Laws.{false≢, some_false, first_off, first_cons, first_passes}
use Rattle.theory.specs.Same.{Names, SameStore, SameLines, Admitted}
use Rattle.theory.proofs.plain.PlainLaws.{nil_name}
use Rattle.theory.proofs.steps.Steps.{not_above, line}

-- ---- tables of lines

lines_number : (u b phase off w x y z off' w' x' y' z' : Bool) → SameLines phase off w x y z off' w' x' y' z'
    → first 3 (u ∷ off ∷ w ∷ x ∷ y ∷ b ∷ false ∷ phase ∷ z ∷ []) ≡ first 3 (u ∷ off' ∷ w' ∷ x' ∷ y' ∷ b ∷ false ∷ false ∷ z' ∷ [])
lines_number u b phase off w x y z off' w' x' y' z' l =
    first_cons 3 u u _ _ refl (λ n.
    first_cons 4 off off' _ _ l.desk_line (λ d.
    first_cons 5 w w' _ _ (l.owing_line d) (λ n.
    first_cons 6 x x' _ _ (l.object_line d) (λ o.
    first_cons 7 y y' _ _ (l.end_line d o) (λ n.
    first_cons 8 b b _ _ refl (λ n.
    first_cons 9 false false _ _ refl (λ n.
    first_cons 10 phase false _ _ l.in_phase (λ n.
    first_cons 11 z z' _ _ (l.nothing_line d) (λ n. refl)))))))))

-- ---- accepted steps

pub admitted : (m : Image) (s : Step) (n : Kind) → refusal m s n ≡ 0 → Admitted m s n
admitted m s n e = record { on_desk = line m s n e 1; has_object = line m s n e 3; not_past = line m s n e 4; good_size = line m s n e 5 }

-- only a new is answered 9
pub not_nine : (m : Image) (s : Step) (n : Kind) → is n new ≡ false → refusal m s n ≡ 9 → ⊥
unfolding refusal no_room
not_nine m s n e x = false≢ (sym (ap (λ z. z && not (has_room m s.b)) e) ∙ first_passes 2 _ 6 x)

-- ---- the lines of an image and of a plain store

module _ (m : Image) (s : Step) (q : PlainStore) (name : ℕ → Object) (i : ℕ) (ns : Names name i) (S : SameStore name m q) where
  -- a register of a player on the desk
  pub in_register : (r : ℕ) → s.who < 16 → r < 16 → holding q s r ≡ name (object m s r)
  unfolding holding object
  in_register r hp hr = S.same_reg s.who r hp hr

  pub held_chain : (r : ℕ) → s.who < 16 → r < 16 → (object m s r ≡ 0 → ⊥) → Chain m (object m s r)
  unfolding object
  held_chain r hp hr nz = chain_reg s.who r hp hr refl nz

  owes_alike : (p : ℕ) → p < 16 → owes m s p ≡ q.owing p
  unfolding owes
  owes_alike p hp = sym (S.same_owing p hp)

  links_alike : (r : ℕ) → s.who < 16 → r < 16 → (object m s r ≡ 0 → ⊥) → links m (object m s r) ≡ q.link_count (holding q s r)
  links_alike r hp hr nz = sym (ap q.link_count (in_register r hp hr) ∙ S.same_count (object m s r) (held_chain r hp hr nz))

  levels_alike : (r : ℕ) → s.who < 16 → r < 16 → (object m s r ≡ 0 → ⊥) → levels m (object m s r) ≡ plain_levels q s (holding q s r)
  unfolding levels plain_levels
  levels_alike r hp hr nz = let k : Chain m (object m s r) = held_chain r hp hr nz in rw (in_register r hp hr, S.same_count (object m s r) k, S.same_size (object m s r) k)

  -- number 5 asks the same players, who are on the desk
  owing_alike : (n : Kind) → off_desk s m.k n ≡ false → owing m s n ≡ plain_owing q s n
  unfolding off_desk owing plain_owing
  owing_alike n d =
      let f : (i : ℕ) → get_or (fields s (λ r x. reaches (limit m.k r) x) (row_of n)) i false ≡ false = some_false (fields s (λ r x. reaches (limit m.k r) x) (row_of n)) d in
      ap (λ l. (row_of n).unowing && some l)
      (λ j. same (row_of n).who s.who (f 0) j ∷ same (row_of n).a s.a (f 1) j ∷ same (row_of n).b s.b (f 2) j ∷ same (row_of n).c s.c (f 3) j ∷ [])
    where
      same : (r : Role) (x : ℕ) → reaches (limit m.k r) x ≡ false → (is_player r && owes m s x) ≡ (is_player r && q.owing x)
      same unused x h = refl
      same player x h = owes_alike x (leb-false 16 x h)
      same tracer x h = refl
      same register x h = refl
      same card x h = refl
      same number x h = refl

  -- kinds without an object register, and kinds with one
  bare_lines : (off w w' : Bool) → (off ≡ false → w ≡ w') → SameLines false off w false false false off w' false false false
  bare_lines off w w' h = record { in_phase = refl; desk_line = refl; owing_line = h; object_line = λ d. refl; end_line = λ d o. refl; nothing_line = λ d. refl }

  object_lines : (off w w' : Bool) (r j : ℕ) (count : ℕ → ℕ) (count' : Object → ℕ) → (off ≡ false → w ≡ w') → (off ≡ false → (s.who < 16) × (r < 16))
      → (s.who < 16 → r < 16 → (object m s r ≡ 0 → ⊥) → count (object m s r) ≡ count' (holding q s r))
      → SameLines false off w (eqb (object m s r) 0) (leb (count (object m s r)) j) false off w' (is_nil (holding q s r)) (leb (count' (holding q s r)) j) false
  object_lines off w w' r j count count' h desk same = record {
    in_phase = refl;
    desk_line = refl;
    owing_line = h;
    object_line = λ d. sym (ap is_nil (in_register r (desk d).0 (desk d).1) ∙ nil_name ns (object m s r));
    end_line = λ d o. ap (λ x. leb x j) (same (desk d).0 (desk d).1 (eqb-false _ _ o));
    nothing_line = λ d. refl;
  }

  lines_of : (n : Kind) → feeds n 0 ≡ true
      → SameLines (wrong_phase m s n) (off_desk s m.k n) (owing m s n) (no_object m s n) (past_end m s n) (nothing_to_do m s n)
      (off_desk s 0 n) (plain_owing q s n) (plain_no_object q s n) (plain_past_end q s n) (plain_nothing q s n)
  unfolding wrong_phase off_desk owing no_object past_end nothing_to_do owes plain_owing plain_no_object plain_past_end plain_nothing feeds
  lines_of new e = bare_lines _ _ _ (owing_alike new)
  lines_of load e = object_lines _ _ _ s.b s.c (links m) q.link_count (owing_alike load) (λ d. (not_above 15 s.who (some_false _ d 0), not_above 15 s.b (some_false _ d 2))) (links_alike s.b)
  lines_of store e = object_lines _ _ _ s.a s.b (links m) q.link_count (owing_alike store) (λ d. (not_above 15 s.who (some_false _ d 0), not_above 15 s.a (some_false _ d 1))) (links_alike s.a)
  lines_of barrier e = record {
    in_phase = refl;
    desk_line = refl;
    owing_line = λ d. refl;
    object_line = λ d. refl;
    end_line = λ d o. refl;
    nothing_line = λ d. sym (not-not _) ∙ ap not (owes_alike s.who (not_above 15 s.who (some_false _ d 0)));
  }
  lines_of hand_over e = bare_lines _ _ _ (owing_alike hand_over)
  lines_of drop_reg e = bare_lines _ _ _ (owing_alike drop_reg)
  lines_of read e = object_lines _ _ _ s.a s.b (levels m) (plain_levels q s) (owing_alike read) (λ d. (not_above 15 s.who (some_false _ d 0), not_above 15 s.a (some_false _ d 1))) (levels_alike s.a)
  lines_of write e = object_lines _ _ _ s.a s.b (levels m) (plain_levels q s) (owing_alike write) (λ d. (not_above 15 s.who (some_false _ d 0), not_above 15 s.a (some_false _ d 1))) (levels_alike s.a)
  lines_of begin e = false≢ e
  lines_of scan e = false≢ e
  lines_of trace e = false≢ e
  lines_of clean e = false≢ e
  lines_of finish e = false≢ e
  lines_of is_due e = false≢ e
  lines_of undirty e = false≢ e
  lines_of unknown e = false≢ e

  pub same_number : (n : Kind) → feeds n 0 ≡ true → (refusal m s n ≡ 9 → ⊥) → refusal m s n ≡ plain_refusal q s n
  unfolding refusal plain_refusal
  same_number n e ne = first_off 3 _ 6 ne ∙ lines_number (unnamed s n) (bad_size s n) _ _ _ _ _ _ _ _ _ _ _ (lines_of n e)
