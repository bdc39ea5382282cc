use borrow.Author.Rules.{rules}
use Rattle.std.proofs.Common.{◌≡◌, arith}
use Rattle.std.proofs.lemmas.Result.{err_from_is_err_and}
use Rattle.image.proofs.Words.{words_length}
use Rattle.image_laws.specs.declared.Fault.TheVariants.{Misfit}
use Rattle.judge_laws.proofs.Verdict.{judged_misfit, judged_sized, judged_0, judged_2}
use Rattle.judge.proofs.verdict.Goals as goal

pub returns-in_err-k : goal.returns-in_err-k
returns-in_err-k g c =
    let p = err_from_is_err_and c.from_residual.result c.from_residual.ensures.1 in
    let f : c.in_err-k.field-0.0 ≡ Misfit = grind (arith, c.in_err-k.ensures) in
    rw (p.1, p.2, f) (search (rules, words_length g.met.W.Word.laws.by_value c.args.im.now, c.in_err-k.ensures, judged_misfit))

pub is_undamaged-requires : goal.is_undamaged-requires
is_undamaged-requires g c = search (rules, words_length g.met.W.Word.laws.by_value c.args.im.now, c.in_ok-k.ensures, judged_sized)

pub returns-then-not-is_undamaged : goal.returns-then-not-is_undamaged
returns-then-not-is_undamaged g c = search (rules, words_length g.met.W.Word.laws.by_value c.args.im.now, c.in_ok-k.ensures, judged_2)

pub returns : goal.returns
returns g c = search (rules, words_length g.met.W.Word.laws.by_value c.args.im.now, c.in_ok-k.ensures, judged_0)
