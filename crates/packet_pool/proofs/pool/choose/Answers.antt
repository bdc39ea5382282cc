use Rattle.std.proofs.Common.{refl, arith, ap, ◌≡◌, ◌∙◌, ◌&&◌, ℕ, Bool}
use borrow.Author.Rules.{rules}
use Rattle.model.specs.Image.{image_of}
use Rattle.packet_pool.specs.Walk.{Decides, walk_to}
use Rattle.collector_laws.specs.Pool.{Choice, choice, chosen_by}
use Rattle.collector_laws.proofs.Pool.{choice_more, in_pool, chosen_yes, chosen_no}
use Rattle.packet_pool.proofs.pool.choose.Goals as goal
use Rattle.packet_pool.proofs.pool.choose.Goals.{then-in_pool-better, else-in_pool-better}

pub loop-p-init : goal.loop-p-init
unfolding choice
loop-p-init g c = (search rules, λ less d. refl)

pub loop-p-preserved : goal.loop-p-preserved
loop-p-preserved g c =
    let L = c.loop-p in
    let J = c.if-in_pool-better in
    let m = image_of g.W.Word.BITS c.args.k (g.W.Word.words c.args.im.now) in
    let before : Choice = record { packet = L.packet; entries = L.entries } in
    let free = in_pool m _ _ _ c.held_packets-held.ensures c.in_pool.ensures in
    let more = λ (less : ℕ → ℕ → Bool) (d : Decides (λ n e. g.F.Fn.post c.args.better (n, (e, tt))) less) (x : Choice) (e : x ≡ chosen_by (c.in_pool.result && c.better.result) L.p c.count-n.result before).
    let t : c.better.result ≡ less c.count-n.result L.entries = d _ _ _ (search rules) (search rules) c.better.ensures in
    choice_more less _ _ _ L.p _ _ before x (L.invariant.1 less d) free c.count-n.ensures (rw t at e) in
    elim J.branch [
      | then-in_pool-better w ↦ (rw w.entries-is (search rules), λ less d. rw (w.packet-is, w.entries-is) (more less d _ (chosen_yes _ _ _ before w.if-in_pool-better.true)))
      | else-in_pool-better w ↦ (rw w.entries-is (search rules), λ less d. rw (w.packet-is, w.entries-is) (more less d _ (chosen_no _ _ _ before w.if-in_pool-better.false)))
    ]

pub returns : goal.returns
returns g c = λ less d.
    let m = image_of g.W.Word.BITS c.args.k (g.W.Word.words c.args.im.now) in
    let q : c.loop-p.p ≡ 32 = omega arith in
    ap (λ (x : Choice). x.packet) (c.loop-p.invariant.1 less d ∙ ap (walk_to less c.args.bound m) q)
