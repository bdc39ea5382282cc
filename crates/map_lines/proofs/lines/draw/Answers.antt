use borrow.Author.Rules.{rules}
use Rattle.model.specs.Image.{image_of, image}
use Rattle.service_map_laws.proofs.Lines.{lines_none, line_more, lines_end}
use Rattle.map_lines.proofs.lines.draw.Goals as goal

pub loop-c-init : goal.loop-c-init
loop-c-init g c = search (rules, lines_none)

pub loop-c-preserved : goal.loop-c-preserved
loop-c-preserved g c = search (rules, line_more)

pub shape_of-out : goal.shape_of-out
shape_of-out g c = c.loop-c.invariant.drawn.same

pub returns : goal.returns
unfolding image_of image
returns g c = search (rules, lines_end)
