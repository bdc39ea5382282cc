use borrow.Author.Rules.{rules}
use Rattle.std.proofs.lemmas.Result.{err_from_is_err_and}
use mathlib.Core.Path.{sym, ◌∙◌}
use Rattle.request_laws.proofs.Fields.{unknown_kinds, admit_stray, admit_beyond, admit_owing, admit_passed, off_found}
use Rattle.model.specs.Image.{image, image_of}
use Rattle.request.proofs.fields.admit.Goals as goal

pub returns-in_err-kind-clause-admission : goal.returns-in_err-kind-clause-admission
unfolding image_of image
returns-in_err-kind-clause-admission g c =
    let p = err_from_is_err_and c.from_residual.result c.from_residual.ensures.1 in
    rw (p.1, p.2, c.in_err-kind.ensures.0) (unknown_kinds _ _ c.in_err-kind.ensures.1)

pub returns-then-some_stray : goal.returns-then-some_stray
unfolding image_of image
returns-then-some_stray g c = search (rules, admit_stray)

pub returns-then-some_beyond-no_card : goal.returns-then-some_beyond-no_card
unfolding image_of image
returns-then-some_beyond-no_card g c = search (rules, admit_beyond, off_found)

pub some_owing-requires-clause-on_desk : goal.some_owing-requires-clause-on_desk
unfolding image_of image
some_owing-requires-clause-on_desk g c = sym (off_found _ _ _ c.requires.in_range c.some_beyond.ensures c.no_card.ensures) ∙ c.if-some_beyond-no_card.false

pub returns-then-some_owing : goal.returns-then-some_owing
unfolding image_of image
returns-then-some_owing g c = search (rules, admit_owing, off_found)

pub returns : goal.returns
unfolding image_of image
returns g c = search (rules, admit_passed, off_found)
