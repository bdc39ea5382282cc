use native.Mathlib.Omega.{arith}
use borrow.Author.Rules.{rules}
use Rattle.model.specs.Image.{granules, image_of, image}
use Rattle.runs_laws.proofs.Chain.{walk_first, walk_end, walk_in, walk_less, walk_exact, walk_taken, walk_passed}
use Rattle.runs.proofs.chain.find_room.Goals as goal
use Rattle.runs.proofs.chain.find_room.Goals.{then-tighter+else-length-b, else-tighter}

pub loop-g-init : goal.loop-g-init
unfolding granules image_of image
loop-g-init g c = search (rules, walk_first)

pub run_length-length-requires : goal.run_length-length-requires
unfolding granules image_of image
run_length-length-requires g c = record { sized = search rules; g_bound = omega (arith, walk_in _ _ _ _ _ _ c.loop-g.invariant c.loop-g-test.true) }

pub returns-then-length-b : goal.returns-then-length-b
unfolding granules image_of image
returns-then-length-b g c = walk_exact _ _ _ _ _ _ c.loop-g.invariant c.loop-g-test.true _ c.run_length-length.ensures _ c.tighter.ensures c.if-tighter.true (omega arith)

pub next_run-g-requires : goal.next_run-g-requires
unfolding granules image_of image
next_run-g-requires g c = record { sized = search rules; g_bound = omega (arith, walk_in _ _ _ _ _ _ c.loop-g.invariant c.loop-g-test.true) }

pub loop-g-smaller : goal.loop-g-smaller
unfolding granules image_of image
loop-g-smaller g c = rw c.next_run-g.ensures (walk_less _ _ _ _ _ _ c.loop-g.invariant c.loop-g-test.true)

pub loop-g-preserved : goal.loop-g-preserved
unfolding granules image_of image
loop-g-preserved g c =
    let w = c.loop-g.invariant in
    let h = c.loop-g-test.true in
    rw c.next_run-g.ensures (elim c.if-tighter.branch [
      | then-tighter+else-length-b u ↦ rw (u.best-is, u.least-is) (walk_taken _ _ _ _ _ _ w h _ c.run_length-length.ensures _ c.tighter.ensures u.if-tighter.true)
      | else-tighter u ↦ rw (u.best-is, u.least-is) (walk_passed _ _ _ _ _ _ w h _ c.run_length-length.ensures _ c.tighter.ensures u.if-tighter.false)
    ])

pub returns : goal.returns
unfolding granules image_of image
returns g c = search (rules, walk_end)
