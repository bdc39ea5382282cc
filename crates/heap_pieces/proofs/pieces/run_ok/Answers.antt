use borrow.Author.Rules.{rules}
use Rattle.soundness_laws.proofs.Pieces.{run_fits, run_no, run_short, run_yes}
use native.Mathlib.Omega.{arith}
use mathlib.Core.Path.{◌∙◌}
use Rattle.heap_pieces.proofs.pieces.run_ok.Goals as goal

pub returns-then-not-fits : goal.returns-then-not-fits
returns-then-not-fits g c = search (rules, run_no)

pub zero_rest-requires : goal.zero_rest-requires
zero_rest-requires g c = record { sized = search rules; le_s = run_fits _ _ _ c.requires.sized _ c.requires.g_bound c.args.next c.args.run _ (c.value-s.ensures.value ∙ c.word.ensures) c.if-not-fits.false }

pub returns-then-s-le8 : goal.returns-then-s-le8
returns-then-s-le8 g c = search (rules, run_short)

pub zero_part-requires : goal.zero_part-requires
zero_part-requires g c = record { sized = search rules; a_le_e = omega (arith, run_fits _ _ _ c.requires.sized _ c.requires.g_bound c.args.next c.args.run _ (c.value-s.ensures.value ∙ c.word.ensures) c.if-not-fits.false) }

pub returns : goal.returns
returns g c = search (rules, run_yes)
