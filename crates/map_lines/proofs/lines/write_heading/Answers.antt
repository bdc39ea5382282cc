use borrow.Author.Rules.{rules}
use Rattle.service_map_laws.proofs.Lines.{heading_none, heading_more, heading_end}
use Rattle.map_lines.proofs.lines.write_heading.Goals as goal

pub loop-j-init : goal.loop-j-init
loop-j-init g c = search (rules, heading_none)

pub loop-j-preserved : goal.loop-j-preserved
loop-j-preserved g c = search (rules, heading_more)

pub shape_of-out : goal.shape_of-out
shape_of-out g c = c.loop-j.invariant.same

pub returns : goal.returns
returns g c = search (rules, heading_end)
