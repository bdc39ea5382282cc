-- Over a whole list of steps the plain store answers as the real one.
use mathlib.Core.Path.{◌≡◌, refl, sym, ap, ◌∙◌}
use mathlib.Core.Logic.{inl, inr}
use mathlib.Core.List.{List, [], ◌∷◌}
use Prim.Native.Nat.{ℕ, suc}
use Rattle.model.specs.Image.{Image}
use Rattle.model.specs.Records.{Step, Kind, finish, kind_of}
use Rattle.model.specs.Mutate.{Placing}
use Rattle.model.specs.Steps.{Done, Event, refusal, act, step, run}
use Rattle.model.specs.Plain.{Object, old, PlainStore, plain_of, PlainDone, plain_step, feeds, feeds_event, feed, plain_run, named, readings, SameAnswers}
use Rattle.model.proofs.Laws.{bool_cases}
use Rattle.theory.specs.Same.{Names, SameStore, Related, event, WordsStay}
use Rattle.theory.specs.Cycle.{Facts}
use Rattle.theory.proofs.plain.PlainLaws.{names_old, names_more, agrees_first, same_kept}
use Rattle.theory.proofs.steps.Steps.{outcome_number}
use Rattle.theory.proofs.plain.PlainAccepted.{fed_alike}
use Rattle.theory.proofs.plain.PlainFed.{fed_zero, fed_not_nine, unfed_named, unfed_kept}
use Rattle.theory.specs.New.{NewLeaves}

-- ---- the plain store's answers

-- Ok: the image is undamaged
module _ (rule : Placing) (Ok : Image → Type 0)
    (step_ok : (m : Image) (s : Step) → Ok m → Ok (step rule m s).image)
    (facts : (m : Image) → Ok m → Facts m)
    (new_made : (m : Image) (s : Step) → Ok m → NewLeaves rule m s)
    (finish_stays : (m : Image) (s : Step) → Ok m → refusal m s finish ≡ 0 → WordsStay m (act rule m s finish).image) where
  same_from : (ss : List Step) (name : ℕ → Object) (i : ℕ) (m : Image) (q : PlainStore) → Ok m → Names name i → SameStore name m q
      → readings name i (run rule m ss) ≡ plain_run q (feed i (run rule m ss))
  unfolding readings run plain_run feed feeds_event step plain_step
  same_from [] name i m q o ns S = refl
  same_from (s ∷ ss) name i m q o ns S =
      let n : Kind = kind_of s.kind in
      let d : Done = step rule m s in
      let e : Event = event m s d in
      let f : ℕ → Object = named name i e in
      let p : PlainDone = plain_step q s i in
      let number : feeds_event e ≡ feeds n (refusal m s n) = ap (feeds n) (outcome_number rule m s n (refusal m s n)) in
      elim (bool_cases (feeds_event e)) [
        | inl t ↦ let u = sym number ∙ t in
            let r : Related name i e p = fed_alike rule m (facts m o) s q name i ns S (new_made m s o) n (fed_zero n _ u) (fed_not_nine m s n u) refl in
            rw (t, r.same_reply) (ap (λ l. p.reply ∷ l) (same_from ss f (suc i) d.image p.plain (step_ok m s o) r.names_after r.same_after))
        | inr t ↦ let x : named name i e ≡ name = unfed_named name i e t in
            let S' = same_kept m (facts m o) d.image (unfed_kept rule m s (finish_stays m s o) (sym number ∙ t)) name q S in
            rw (t, x) (same_from ss name (suc i) d.image q (step_ok m s o) (names_more ns) S')
      ]

  -- for every undamaged image and every list of steps
  pub plain_store : (m : Image) (ss : List Step) → Ok m → SameAnswers m (run rule m ss)
  unfolding SameAnswers
  plain_store m ss o = same_from ss old 0 m (plain_of m) o names_old (agrees_first m)
