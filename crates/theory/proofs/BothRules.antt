-- Two rules of placing give the players the same answers, as far as the same news find room: by demand 3 under each of them.
use mathlib.Core.Path.{◌≡◌, refl, sym, ap, ◌∙◌}
use mathlib.Core.Logic.{inl, inr}
use mathlib.Core.Bool.{Bool, true, false, not, ◌&&◌, and-false}
use mathlib.Core.List.{List, [], ◌∷◌}
use Prim.Native.Nat.{ℕ, suc}
use native.Mathlib.Omega.{arith}
use lib.Dec.{eqb}
use borrow.Author.Tests.{eqb-true, ne_eqb}
use Rattle.model.specs.Base.{either}
use Rattle.model.specs.Image.{Image, parts}
use Rattle.model.specs.Undamaged.{judge_at}
use Rattle.model.specs.Records.{Step, Kind, new, kind_of}
use Rattle.model.specs.Rows.{is}
use Rattle.model.specs.Mutate.{Placing}
use Rattle.model.specs.Steps.{Event, step, run}
use Rattle.model.specs.Plain.{Object, old, Reply, as_is, plain_of, by_player, for_room, feeds, feeds_event, feed, plain_run, named, reading, readings, SameAnswers}
use Rattle.model.specs.Claim.{Lent}
use Rattle.model.specs.BothRules.{requests, refused_for_room, room_alike, shared, players_answers, BothRules}
use Rattle.model.proofs.Laws.{and_split, bool_cases}
use Rattle.theory.specs.Events.{records_run}
use Rattle.theory.specs.Lines.{Passes}
use Rattle.theory.proofs.steps.Steps.{refused_same}
use Rattle.theory.proofs.lines.Passing.{judge_use}
use Rattle.theory.proofs.Histories.{history_run, results_run}
use Rattle.theory.proofs.Demand.{plain_answers}

run_requests : (rule : Placing) (m : Image) (ss : List Step) → requests (run rule m ss) ≡ ss
unfolding requests run
run_requests rule m [] = refl
run_requests rule m (s ∷ ss) = ap (λ l. s ∷ l) (run_requests rule (step rule m s).image ss)

-- ---- events of the same records, with the same news refused for room

-- what is refused for room is answered 9, with the value 0
abbrev Blank : Event → Type 0
Blank e = refused_for_room e ≡ true → (e.done.number ≡ 9) × (e.done.value ≡ 0)

-- events of one record, both refused for room or neither
record Matched (d e : Event) : Type 0 where
  same_request : d.request ≡ e.request
  same_room : refused_for_room d ≡ refused_for_room e
  blanks : Blank d × Blank e

data Alike : List Event → List Event → Type 0 where
  alike_nil : Alike [] []
  alike_cons : {ds es : List Event} {d e : Event} → Matched d e → Alike ds es → Alike (d ∷ ds) (e ∷ es)

step_blank : (rule : Placing) (m : Image) (s : Step) → Blank (record { got = m; request = s; done = step rule m s })
unfolding refused_for_room for_room
step_blank rule m s e =
    let n : (step rule m s).number ≡ 9 = eqb-true _ _ (and_split (is (kind_of s.kind) new) (eqb (step rule m s).number 9) e).1 in
    (n, (refused_same rule m s (λ z. omega arith)).1)

same_bool : (a b : Bool) → either a b (not b) ≡ true → a ≡ b
unfolding either
same_bool true b e = sym e
same_bool false true e = e
same_bool false false e = refl

either_swap : (a b : Bool) → either b a (not a) ≡ either a b (not b)
unfolding either
either_swap true true = refl
either_swap true false = refl
either_swap false true = refl
either_swap false false = refl

-- the shared parts of two runs of one list are the runs of one list
record Prefix (rule other : Placing) (m n : Image) (ss : List Step) : Type 0 where
  front : List Step
  first_is : shared (run rule m ss) (run other n ss) ≡ run rule m front
  second_is : shared (run other n ss) (run rule m ss) ≡ run other n front
  alike : Alike (run rule m front) (run other n front)

prefix : (rule other : Placing) (m n : Image) (ss : List Step) → Prefix rule other m n ss
unfolding shared run room_alike
prefix rule other m n [] = record { front = []; first_is = refl; second_is = refl; alike = alike_nil }
prefix rule other m n (s ∷ ss) =
    let d : Event = record { got = m; request = s; done = step rule m s } in
    let e : Event = record { got = n; request = s; done = step other n s } in
    let ih = prefix rule other (step rule m s).image (step other n s).image ss in
    elim (bool_cases (either (refused_for_room d) (refused_for_room e) (not (refused_for_room e)))) [
      | inl q ↦ record {
        front = s ∷ ih.front;
        first_is = rw q (ap (λ l. d ∷ l) ih.first_is);
        second_is = rw (either_swap (refused_for_room d) (refused_for_room e) ∙ q) (ap (λ l. e ∷ l) ih.second_is);
        alike = alike_cons (record { same_request = refl; same_room = same_bool _ _ q; blanks = (step_blank rule m s, step_blank other n s) }) ih.alike;
      }
      | inr q ↦ record { front = []; first_is = rw q; second_is = rw (either_swap (refused_for_room d) (refused_for_room e) ∙ q); alike = alike_nil }
    ]

-- ---- the plain store is fed the same

module _ {d e : Event} (k : Matched d e) where
  same_kind : kind_of d.request.kind ≡ kind_of e.request.kind
  same_kind = ap (λ (r : Step). kind_of r.kind) k.same_request

  same_fed : feeds_event d ≡ feeds_event e
  unfolding feeds_event feeds refused_for_room
  same_fed =
      ap (λ x. x && not (refused_for_room d)) (ap by_player same_kind)
      ∙ ap (λ x. by_player (kind_of e.request.kind) && not x) k.same_room

feed_alike : {ds es : List Event} → Alike ds es → (i : ℕ) → feed i ds ≡ feed i es
unfolding feed
feed_alike alike_nil i = refl
feed_alike (alike_cons k a) i = rw (same_fed k, k.same_request, feed_alike a (suc i))

-- ---- from the answers that are compared with the plain store's to all answers of kinds 1 to 8

-- an event that is refused for room reads the same by any news
nine_reading : (f : ℕ → Object) (e : Event) → (e.done.number ≡ 9) × (e.done.value ≡ 0) → reading f e ≡ record { number = 9; value = as_is 0 }
unfolding reading
nine_reading f e (n, v) = let off : eqb e.done.number 0 ≡ false = ne_eqb e.done.number 0 (λ z. omega arith) in rw (off, and-false, n, v)

head_or : Reply → List Reply → Reply
head_or z [] = z
head_or z (x ∷ l) = x

tail_of : List Reply → List Reply
tail_of [] = []
tail_of (x ∷ l) = l

same_cons : (x y : Reply) (l r : List Reply) → x ∷ l ≡ y ∷ r → (x ≡ y) × (l ≡ r)
unfolding head_or tail_of
same_cons x y l r e = (ap (head_or x) e, ap tail_of e)

answers_alike : {ds es : List Event} → Alike ds es → (f g : ℕ → Object) (i : ℕ) → readings f i ds ≡ readings g i es → players_answers f i ds ≡ players_answers g i es
unfolding readings players_answers feeds_event feeds refused_for_room
answers_alike alike_nil f g i r = refl
answers_alike (alike_cons {d = d} {e = e} k a) f g i r =
    let n : Kind = kind_of e.request.kind in
    let ih = answers_alike a (named f i d) (named g i e) (suc i) in
    elim (bool_cases (by_player n)) [
      | inr p ↦ rw (same_kind k, p) (ih (rw (same_kind k, p) at r))
      | inl p ↦ elim (bool_cases (refused_for_room e)) [
        | inl t ↦
            let h : reading (named f i d) d ≡ reading (named g i e) e = nine_reading _ d (k.blanks.0 (k.same_room ∙ t)) ∙ sym (nine_reading _ e (k.blanks.1 t)) in
            rw (same_kind k, p, h) (ap (λ l. reading (named g i e) e ∷ l) (ih (rw (same_fed k, p, t) at r)))
        | inr t ↦
            let c = same_cons _ _ _ _ (rw (same_fed k, p, t) at r) in
            rw (same_kind k, p, c.0) (ap (λ l. reading (named g i e) e ∷ l) (ih c.1))
      ]
    ]

-- ---- both rules

-- demand 3e under each of them
same_readings : (rule other : Placing) (w : ℕ) (m : Image) (ss : List Step) → Passes w m → Alike (run rule m ss) (run other m ss)
    → readings old 0 (run rule m ss) ≡ readings old 0 (run other m ss)
unfolding SameAnswers
same_readings rule other w m ss p a = plain_answers rule w m ss p ∙ ap (plain_run (plain_of m)) (feed_alike a 0) ∙ sym (plain_answers other w m ss p)

-- no other hypothesis, and for every width
pub both_rules : (rule other : Placing) (w : ℕ) (ws : List ℕ) (bs : List Lent) → judge_at w ws ≡ 0 → BothRules rule other w ws bs
both_rules rule other w ws bs e =
    let m : Image = parts w ws in
    let p = prefix rule other m m (records_run w bs) in
    let h = history_run rule w ws bs e in
    let o = history_run other w ws bs e in
    let same = same_readings rule other w m p.front (judge_use w ws e) p.alike in
    record {
      same_results = results_run rule w ws bs e ∙ sym (results_run other w ws bs e);
      same_requests = ap requests h ∙ run_requests rule m (records_run w bs) ∙ sym (ap requests o ∙ run_requests other m (records_run w bs));
      same_answers = rw (h, o, p.first_is, p.second_is) (answers_alike p.alike old old 0 same);
    }
