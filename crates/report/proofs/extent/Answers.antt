use borrow.Author.Rules.{rules}
use native.Mathlib.Omega.{arith}
use Rattle.image_laws.specs.Sized.{Sized}
use Rattle.image_laws.proofs.Size.{cards_sized}
use Rattle.report_laws.proofs.Calls.{first_misfit, second_misfit, bytes_misfit, scratch_misfit, lengths_fit}
use Rattle.report.proofs.extent.Goals as goal

pub returns-in_err-k : goal.returns-in_err-k
returns-in_err-k c = search (rules, c.in_err-k.ensures, c.from_residual.ensures, first_misfit)

pub returns-then-second-first : goal.returns-then-second-first
returns-then-second-first c = search (rules, c.in_ok-k.ensures, second_misfit)

pub returns-then-report-ne0 : goal.returns-then-report-ne0
returns-then-report-ne0 c = search (rules, c.in_ok-k.ensures, bytes_misfit)

pub overflow_mul-k : goal.overflow_mul-k
overflow_mul-k c =
    let z : Sized 16 c.in_ok-k.k c.args.first.now = search (rules, c.in_ok-k.ensures, cards_sized) in
    record { fits = omega (arith, z.high) }

pub returns-then-scratch-k : goal.returns-then-scratch-k
returns-then-scratch-k c = search (rules, c.in_ok-k.ensures, scratch_misfit)

pub returns : goal.returns
returns c = search (rules, c.in_ok-k.ensures, lengths_fit)
