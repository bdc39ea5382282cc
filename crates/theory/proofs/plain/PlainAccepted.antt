-- A player's step on an image and on a plain store that agree: they answer alike and agree again.
use mathlib.Core.Path.{◌≡◌, refl, sym, ap, ◌∙◌}
use mathlib.Core.Logic.{inl, inr}
use mathlib.Core.Bool.{true, false, not, ◌&&◌, ◌||◌, and-false}
use Prim.Native.Nat.{ℕ, zero, suc, ◌+◌, ◌-◌, ◌/◌, ◌<◌}
use native.Mathlib.Omega.{arith}
use lib.Dec.{eqb}
use borrow.Author.Tests.{eqb-false, ne_eqb, leb-false}
use Rattle.model.specs.Image.{Image, word, links, link, reg, owed, with_heap, with_cards, set_word, set_state, dirty_card}
use Rattle.model.specs.Records.{Step, Kind, new, load, store, barrier, hand_over, drop_reg, read, write, begin, scan, trace, clean, finish, is_due, undirty, unknown, kind_of}
use Rattle.model.specs.Rows.{is}
use Rattle.model.specs.Mutate.{Placing}
use Rattle.model.specs.Steps.{off_desk, object, no_object, past_end, refusal, accept, act, outcome}
use Rattle.model.specs.Plain.{Object, made, PlainStore, Value, as_is, PlainDone, holding, plain_refusal, plain_accept, plain_act, plain_outcome, feeds, object_at, upd, named, reading}
use Rattle.model.specs.Claim.{Chain, chain_link}
use Rattle.model.proofs.Laws.{false≢, some_false}
use Rattle.theory.specs.Same.{Names, SameStore, Related, event}
use Rattle.theory.specs.Cycle.{Facts}
use Rattle.theory.proofs.plain.PlainLaws.{upd_same, names_more, names_new, same_kept}
use Rattle.theory.proofs.plain.PlainWrites.{same_set_reg, same_stored, same_written, same_set_owed}
use Rattle.theory.proofs.plain.PlainNew.{same_new}
use Rattle.theory.proofs.plain.PlainAlike.{admitted, in_register, held_chain, same_number}
use Rattle.theory.proofs.steps.Steps.{zero_or_suc, not_above, good_size}
use Rattle.theory.specs.New.{NewLeaves}
use Rattle.theory.proofs.new.NewMade.{new_not_nil}

abbrev replied : PlainStore → ℕ → Value → PlainDone
replied q r v = record { plain = q; reply = record { number = r; value = v } }

-- an event that names nothing, and whose value is a number
as_number : (name : ℕ → Object) (i : ℕ) → Names name i → (m m' : Image) (s : Step) (r v : ℕ) (q : PlainStore) (w : ℕ) → v ≡ w
    → (is (kind_of s.kind) new && eqb r 0) ≡ false
    → ((is (kind_of s.kind) new || is (kind_of s.kind) load) && eqb r 0) ≡ false
    → SameStore name m' q → Related name i (event m s (record { image = m'; number = r; value = v })) (replied q r (as_is w))
unfolding named reading
as_number name i ns m m' s r v q w e no-new no-object a = record { names_after = rw no-new (names_more ns); same_after = rw no-new a; same_reply = rw (no-object, e) }

-- a granule number read: nil is nil, whatever it is called
object-at : (name : ℕ → Object) (i g : ℕ) → Names name i → object_at name g ≡ name g
unfolding object_at
object-at name i zero ns = sym ns.name_nil
object-at name i (suc g) ns = refl

module _ (rule : Placing) (m : Image) (f : Facts m) (s : Step) (q : PlainStore) (name : ℕ → Object) (i : ℕ) (ns : Names name i) (S : SameStore name m q) where
  reach_of : (r : ℕ) → s.who < 16 → r < 16 → (object m s r ≡ 0 → ⊥) → Chain m (object m s r)
  reach_of = held_chain m s q name i ns S

  in_reg : (r : ℕ) → s.who < 16 → r < 16 → holding q s r ≡ name (object m s r)
  in_reg = in_register m s q name i ns S

  -- an accepted step of a kind whose value is a number
  number_reply : (n : Kind) → kind_of s.kind ≡ n → is n new ≡ false → is n load ≡ false
      → (m' : Image) (v : ℕ) (q' : PlainStore) (w : ℕ) → v ≡ w → SameStore name m' q' → Related name i (event m s (record { image = m'; number = 0; value = v })) (replied q' 0 (as_is w))
  number_reply n k no-new no-object m' v q' w e a = as_number name i ns m m' s 0 v q' w e (rw (k, no-new)) (rw (k, no-new, no-object)) a

  refused_alike : (r : ℕ) → Related name i (event m s (record { image = m; number = suc r; value = 0 })) (replied q (suc r) (as_is 0))
  refused_alike r =
      let no = ne_eqb (suc r) 0 (λ e. omega arith) in
      as_number name i ns m m s (suc r) 0 q 0 refl (rw (no, and-false)) (rw (no, and-false)) S

  accepted_alike : NewLeaves rule m s → (n : Kind) → feeds n 0 ≡ true → refusal m s n ≡ 0 → kind_of s.kind ≡ n → Related name i (event m s (act rule m s n)) (plain_act q s i n)
  unfolding feeds act accept plain_act plain_accept named reading off_desk no_object past_end set_word with_heap dirty_card set_state with_cards reg owed word
  accepted_alike o new e z k =
      let a = admitted m s new z in
      let d = some_false _ a.on_desk in
      let g : ℕ = (act rule m s new).value in
      let ns' = names_new ns g (new_not_nil (o z)) in
      record {
        names_after = rw k ns';
        same_after = rw k (same_new m _ f s.who s.a s.b s.c g (not_above 15 s.who (d 0)) (not_above 15 s.a (d 1)) (good_size s a.good_size).2 (o z) name i ns q S);
        same_reply = rw (k, object-at (upd name g (made i)) (suc i) g ns', upd_same name g (made i));
      }
  accepted_alike o load e z k =
      let a = admitted m s load z in
      let d = some_false _ a.on_desk in
      let g : ℕ = object m s s.b in
      let l : ℕ = link m g s.c in
      let hp : s.who < 16 = not_above 15 s.who (d 0) in
      let hb : s.b < 16 = not_above 15 s.b (d 2) in
      let cg : Chain m g = reach_of s.b hp hb (eqb-false _ _ a.has_object) in
      let lc : s.c < links m g = leb-false _ _ a.not_past in
      let x : q.link_of (holding q s s.b) s.c ≡ name l = ap (λ o. q.link_of o s.c) (in_reg s.b hp hb) ∙ S.same_link g s.c cg lc in
      record {
        names_after = rw k (names_more ns);
        same_after = rw (k, x) (same_set_reg m f s.who s.a l hp (not_above 15 s.a (d 1)) name q S (λ nz. chain_link g s.c cg lc refl nz));
        same_reply = rw (k, object-at name i l ns, x);
      }
  accepted_alike o store e z k =
      let a = admitted m s store z in
      let d = some_false _ a.on_desk in
      let g : ℕ = object m s s.a in
      let v : ℕ = object m s s.c in
      let hp : s.who < 16 = not_above 15 s.who (d 0) in
      let ha : s.a < 16 = not_above 15 s.a (d 1) in
      let hc : s.c < 16 = not_above 15 s.c (d 3) in
      let nz : not (eqb (suc (g / 64)) 0) ≡ true = ap not (ne_eqb (suc (g / 64)) 0 (λ e. omega arith)) in
      number_reply store k refl refl _ 0 _ 0 refl
      (rw (in_reg s.a hp ha, in_reg s.c hp hc, ← nz) (same_set_owed (set_word m g (2 + s.b) v) f.players_length s.who (suc (g / 64)) hp name _
      (same_stored m f g s.b v (reach_of s.a hp ha (eqb-false _ _ a.has_object)) (leb-false _ _ a.not_past) (reach_of s.c hp hc) name ns.name_one q S)))
  accepted_alike o barrier e z k =
      let d = some_false _ (admitted m s barrier z).on_desk in
      let m₁ : Image = dirty_card m (owed m s.who - 1) in
      number_reply barrier k refl refl _ 0 _ 0 refl
      (same_set_owed m₁ f.players_length s.who 0 (not_above 15 s.who (d 0)) name q
      (same_kept m f m₁ (record { kept_reg = λ p r. refl; kept_owed = λ p. refl; kept_word = λ g j c l. refl }) name q S))
  accepted_alike o hand_over e z k =
      let d = some_false _ (admitted m s hand_over z).on_desk in
      let hp : s.who < 16 = not_above 15 s.who (d 0) in
      let ha : s.a < 16 = not_above 15 s.a (d 1) in
      number_reply hand_over k refl refl _ 0 _ 0 refl
      (rw (in_reg s.a hp ha) (same_set_reg m f s.b s.c (object m s s.a) (not_above 15 s.b (d 2)) (not_above 15 s.c (d 3)) name q S (reach_of s.a hp ha)))
  accepted_alike o drop_reg e z k =
      let d = some_false _ (admitted m s drop_reg z).on_desk in
      number_reply drop_reg k refl refl _ 0 _ 0 refl
      (rw (← ns.name_nil) (same_set_reg m f s.who s.a 0 (not_above 15 s.who (d 0)) (not_above 15 s.a (d 1)) name q S (λ nz. absurd (nz refl))))
  accepted_alike o read e z k =
      let a = admitted m s read z in
      let d = some_false _ a.on_desk in
      let hp : s.who < 16 = not_above 15 s.who (d 0) in
      let ha : s.a < 16 = not_above 15 s.a (d 1) in
      let g : ℕ = object m s s.a in
      number_reply read k refl refl m _ q _
      (sym (ap (λ o. q.level_of o s.b) (in_reg s.a hp ha) ∙ S.same_level g s.b (reach_of s.a hp ha (eqb-false _ _ a.has_object)) (leb-false _ _ a.not_past)))
      S
  accepted_alike o write e z k =
      let a = admitted m s write z in
      let d = some_false _ a.on_desk in
      let hp : s.who < 16 = not_above 15 s.who (d 0) in
      let ha : s.a < 16 = not_above 15 s.a (d 1) in
      let g : ℕ = object m s s.a in
      number_reply write k refl refl _ 0 _ 0 refl
      (rw (in_reg s.a hp ha) (same_written m f g s.b s.c (reach_of s.a hp ha (eqb-false _ _ a.has_object)) (leb-false _ _ a.not_past) name ns.name_one q S))
  accepted_alike o begin e z k = false≢ e
  accepted_alike o scan e z k = false≢ e
  accepted_alike o trace e z k = false≢ e
  accepted_alike o clean e z k = false≢ e
  accepted_alike o finish e z k = false≢ e
  accepted_alike o is_due e z k = false≢ e
  accepted_alike o undirty e z k = false≢ e
  accepted_alike o unknown e z k = false≢ e

  -- a player's step, but for a new answered 9
  pub fed_alike : NewLeaves rule m s → (n : Kind) → feeds n 0 ≡ true → (refusal m s n ≡ 9 → ⊥) → kind_of s.kind ≡ n → Related name i (event m s (outcome rule m s n (refusal m s n))) (plain_outcome q s i n (plain_refusal q s n))
  unfolding outcome plain_outcome
  fed_alike o n e ne k =
      rw (← same_number m s q name i ns S n e ne)
      (elim (zero_or_suc (refusal m s n)) [ inl z ↦ rw z (accepted_alike o n e z k) | inr (r, z) ↦ rw z (refused_alike r) ])
