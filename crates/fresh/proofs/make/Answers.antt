use borrow.Author.Rules.{rules}
use Rattle.std.proofs.Common.{◌≡◌, arith}
use Rattle.std.proofs.lemmas.Result.{err_from_is_err_and}
use Rattle.image.proofs.Words.{words_length}
use Rattle.image_laws.specs.declared.Fault.TheVariants.{Misfit}
use Rattle.image_laws.proofs.Fresh.{fresh_misfit, fresh_made}
use Rattle.image_laws.proofs.Size.{cards_sized}
use Rattle.fresh.proofs.make.Goals as goal

pub returns-in_err-k : goal.returns-in_err-k
returns-in_err-k g c =
    let p = err_from_is_err_and c.from_residual.result c.from_residual.ensures.1 in
    let f : c.in_err-k.field-0.0 ≡ Misfit = grind (arith, c.in_err-k.ensures) in
    rw (p.1, p.2, f) (search (rules, words_length g.met.W.Word.laws.by_value c.args.im.now, c.in_err-k.ensures, fresh_misfit))

pub make_fresh-requires : goal.make_fresh-requires
make_fresh-requires g c = search (rules, words_length g.met.W.Word.laws.by_value c.args.im.now, c.in_ok-k.ensures, cards_sized)

pub returns : goal.returns
returns g c = search (rules, words_length g.met.W.Word.laws.by_value c.args.im.now, c.in_ok-k.ensures, fresh_made)
