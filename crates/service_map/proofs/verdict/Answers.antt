use borrow.Author.Rules.{rules}
use Rattle.std.proofs.Common.{◌≡◌, arith}
use Rattle.std.proofs.lemmas.Result.{err_from_is_err_and}
use Rattle.image.proofs.Words.{words_length}
use Rattle.image_laws.specs.declared.Fault.TheVariants.{Misfit}
use Rattle.image_laws.specs.Sized.{Sized}
use Rattle.image_laws.proofs.Places.{few_cards}
use Rattle.image_laws.proofs.Size.{cards_sized}
use Rattle.service_map_laws.proofs.Calls.{map-misfit, map_output, map_damaged, map_drawn}
use Rattle.service_map.proofs.verdict.Goals as goal

pub returns-in_err-k : goal.returns-in_err-k
returns-in_err-k g c =
    let p = err_from_is_err_and c.from_residual.result c.from_residual.ensures.1 in
    let f : c.in_err-k.field-0.0 ≡ Misfit = grind (arith, c.in_err-k.ensures) in
    rw (p.1, p.2, f) (search (rules, words_length g.met.W.Word.laws.by_value c.args.im.now, c.in_err-k.ensures, map-misfit))

pub overflow_mul-k : goal.overflow_mul-k
overflow_mul-k g c =
    let z : Sized g.W.Word.BITS c.in_ok-k.k (g.W.Word.words c.args.im.now) = search (rules, words_length g.met.W.Word.laws.by_value c.args.im.now, c.in_ok-k.ensures, cards_sized) in
    record { fits = omega (arith, few_cards g.met.W.Word.laws.one_of_two z.high) }

pub returns-then-output-k : goal.returns-then-output-k
returns-then-output-k g c = search (rules, words_length g.met.W.Word.laws.by_value c.args.im.now, c.in_ok-k.ensures, map_output)

pub is_undamaged-requires : goal.is_undamaged-requires
is_undamaged-requires g c = search (rules, words_length g.met.W.Word.laws.by_value c.args.im.now, c.in_ok-k.ensures, cards_sized)

pub returns-then-not-is_undamaged : goal.returns-then-not-is_undamaged
returns-then-not-is_undamaged g c = search (rules, words_length g.met.W.Word.laws.by_value c.args.im.now, c.in_ok-k.ensures, map_damaged)

pub draw-requires-clause-sized : goal.draw-requires-clause-sized
draw-requires-clause-sized g c = search (rules, words_length g.met.W.Word.laws.by_value c.args.im.now, c.in_ok-k.ensures, cards_sized)

pub returns : goal.returns
returns g c = search (rules, words_length g.met.W.Word.laws.by_value c.args.im.now, c.in_ok-k.ensures, map_drawn)
