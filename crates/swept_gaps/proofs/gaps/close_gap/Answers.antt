use Rattle.finish_laws.proofs.gaps.Code.{gap_some, gap_none}
use borrow.Author.Rules.{rules}
use native.Mathlib.Omega.{arith}
use Rattle.swept_gaps.proofs.gaps.close_gap.Goals as goal

pub returns-then-a-e : goal.returns-then-a-e
returns-then-a-e g c = record { im_after = search (rules, gap_some); value = search rules }

pub returns : goal.returns
returns g c = record { im_after = search (rules, gap_none); value = omega arith }
