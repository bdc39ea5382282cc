use mathlib.Core.Path.{ap, ◌∙◌}
use Prim.Native.Nat.{◌+◌}
use native.Mathlib.Omega.{arith}
use borrow.Author.Rules.{rules}
use Rattle.soundness_laws.proofs.Small.{w_from}
use Rattle.soundness_laws.proofs.Heap.{byte_digit, w_fits, w_link, w_stop, w_room, w_less, w_more, w_end}
use Rattle.soundness.proofs.heap.walk.Goals as goal

pub loop-g-init : goal.loop-g-init
loop-g-init g c = search (rules, w_from)

pub returns-then-not-piece_ok : goal.returns-then-not-piece_ok
returns-then-not-piece_ok g c = search (rules, w_stop)

pub object_links-requires-clause-links_inside : goal.object_links-requires-clause-links_inside
object_links-requires-clause-links_inside g c = search (rules, w_room)

pub returns-then-not-object_links : goal.returns-then-not-object_links
returns-then-not-object_links g c = search (rules, w_link)

pub overflow_add-seen : goal.overflow_add-seen
overflow_add-seen g c = omega (arith, w_fits _ _ _ c.requires.sized _ _ _ _ c.loop-g.invariant c.is_start-object.result)

pub loop-g-smaller : goal.loop-g-smaller
loop-g-smaller g c = w_less _ _ _ c.requires.sized _ _ _ _ c.loop-g.invariant c.loop-g-test.true _ c.piece_ok.ensures (search rules) _ (c.value.ensures.value ∙ c.word.ensures)

pub loop-g-preserved : goal.loop-g-preserved
loop-g-preserved g c = w_more _ _ _ c.requires.sized _ _ _ _ c.loop-g.invariant c.loop-g-test.true _ c.piece_ok.ensures (search rules) _ _ _ _ _ _ c.is_start-object.ensures c.object_links.ensures (search rules) (ap (λ n. c.loop-g.seen + n) (byte_digit _)) c.next_run-next.ensures (c.value.ensures.value ∙ c.word.ensures) c.run_end-end.ensures

pub returns : goal.returns
returns g c = search (rules, w_end)
