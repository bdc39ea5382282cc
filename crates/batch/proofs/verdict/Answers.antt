use borrow.Author.Rules.{rules}
use Rattle.std.proofs.Common.{◌≡◌, ◌∙◌, sym, ap, refl, List, map, ℕ, ◌*◌, ◌/◌, length, Option, Some, None, arith}
use Rattle.std.proofs.lemmas.Result.{err_from_is_err_and}
use Rattle.image.proofs.Words.{words_length}
use Rattle.image_laws.proofs.Size.{cards_sized}
use Rattle.image_laws.specs.Size.{extent_of}
use Rattle.image_laws.specs.declared.Fault.TheVariants.{Misfit}
use Rattle.show_store_laws.proofs.Batch.{batch_part, batch_answers, batch_misfit, batch_damaged, batch_run, judged_undamaged}
use Rattle.batch.proofs.verdict.Goals as goal
use Rattle.batch.proofs.verdict.Goals.{then-steps-RECORD-ne0-via-then-steps-RECORD-ne0, then-steps-RECORD-ne0-via-else-steps-RECORD-ne0+then-answers-n}

-- the extent and the answer space, by the numbers that words are
module _ {A : Type 0} {value : A → ℕ} {words : List A → List ℕ} (v : (l : List A) → words l ≡ map value l) (l : List A) where
  extent : (w : ℕ) (s : Option ℕ) → s ≡ extent_of w (length l) → s ≡ extent_of w (length (words l))
  extent w s e = e ∙ ap (extent_of w) (sym (words_length v l))

  space : {n r : ℕ} (b : ℕ) → n ≡ r → length l ≡ 2 * (b / n) → length (words l) ≡ 2 * (b / r)
  space b d e = words_length v l ∙ e ∙ rw d refl

pub returns-in_err-k : goal.returns-in_err-k
returns-in_err-k g c =
    let p = err_from_is_err_and c.from_residual.result c.from_residual.ensures.1 in
    let f : c.in_err-k.field-0.0 ≡ Misfit = grind (arith, c.in_err-k.ensures) in
    let q : c.cards.result ≡ None = grind (arith, c.in_err-k.ensures) in
    rw (p.1, p.2, f) (batch_misfit _ _ _ _ _ (extent g.met.W.Word.laws.by_value c.args.im.now _ _ c.cards.ensures) q)

pub returns-then-steps-RECORD-ne0 : goal.returns-then-steps-RECORD-ne0
returns-then-steps-RECORD-ne0 g c =
    let v = g.met.W.Word.laws.by_value in
    let e = extent v c.args.im.now _ _ c.cards.ensures in
    let q : c.cards.result ≡ Some c.in_ok-k.k = grind (arith, c.in_ok-k.ensures) in
    let d = c.RECORD.ensures ∙ g.met.W.Format.format.length_of_record in
    let d₂ = c.RECORD-2.ensures ∙ g.met.W.Format.format.length_of_record in
    elim c.then-steps-RECORD-ne0.branch [
      | then-steps-RECORD-ne0-via-then-steps-RECORD-ne0 w ↦ batch_part _ _ _ _ _ e _ q (λ x. w.if-steps-RECORD-ne0.true (rw d₂ x))
      | then-steps-RECORD-ne0-via-else-steps-RECORD-ne0+then-answers-n w ↦
          batch_answers _ _ _ _ _ e _ q (rw (← d₂) w.if-steps-RECORD-ne0.false) (λ x.
          let y : length c.args.answers.now ≡ 2 * (length c.args.steps.now / c.RECORD.result) = sym (words_length v c.args.answers.now) ∙ x ∙ rw d refl in
          omega (arith, y, w.if-answers-n.true))
    ]

pub is_undamaged-requires : goal.is_undamaged-requires
is_undamaged-requires g c =
    let q : c.cards.result ≡ Some c.in_ok-k.k = grind (arith, c.in_ok-k.ensures) in
    cards_sized _ _ _ (extent g.met.W.Word.laws.by_value c.args.im.now _ _ c.cards.ensures) _ q

pub returns-then-not-is_undamaged : goal.returns-then-not-is_undamaged
returns-then-not-is_undamaged g c =
    let v = g.met.W.Word.laws.by_value in
    let q : c.cards.result ≡ Some c.in_ok-k.k = grind (arith, c.in_ok-k.ensures) in
    let d = c.RECORD.ensures ∙ g.met.W.Format.format.length_of_record in
    let d₂ = c.RECORD-2.ensures ∙ g.met.W.Format.format.length_of_record in
    batch_damaged _ _ _ _ _ (extent v c.args.im.now _ _ c.cards.ensures) _ q (rw (← d₂) c.if-steps-RECORD-ne0.false) (space v c.args.answers.now _ d c.if-answers-n.false) _ c.is_undamaged.ensures (search rules)

pub run_all-requires-clause-sized : goal.run_all-requires-clause-sized
run_all-requires-clause-sized g c =
    let q : c.cards.result ≡ Some c.in_ok-k.k = grind (arith, c.in_ok-k.ensures) in
    cards_sized _ _ _ (extent g.met.W.Word.laws.by_value c.args.im.now _ _ c.cards.ensures) _ q

pub run_all-requires-clause-undamaged : goal.run_all-requires-clause-undamaged
run_all-requires-clause-undamaged g c =
    let q : c.cards.result ≡ Some c.in_ok-k.k = grind (arith, c.in_ok-k.ensures) in
    judged_undamaged _ _ _ _ _ (extent g.met.W.Word.laws.by_value c.args.im.now _ _ c.cards.ensures) q c.is_undamaged.ensures (search rules)

pub returns : goal.returns
returns g c =
    let v = g.met.W.Word.laws.by_value in
    let q : c.cards.result ≡ Some c.in_ok-k.k = grind (arith, c.in_ok-k.ensures) in
    let d = c.RECORD.ensures ∙ g.met.W.Format.format.length_of_record in
    let d₂ = c.RECORD-2.ensures ∙ g.met.W.Format.format.length_of_record in
    batch_run _ _ _ _ _ (extent v c.args.im.now _ _ c.cards.ensures) _ q (rw (← d₂) c.if-steps-RECORD-ne0.false) (space v c.args.answers.now _ d c.if-answers-n.false) _ c.is_undamaged.ensures (search rules)
    _ _ (words_length v c.run_all.new.im ∙ c.run_all.auto.im ∙ sym (words_length v c.args.im.now)) c.run_all.ensures.im_after c.run_all.ensures.answers_after
