use Rattle.std.proofs.Common.{◌≡◌, ℕ, Bool, ◌<◌, ◌^◌}
use Rattle.model.specs.Image.{image_of}
use Rattle.packet_pool.specs.Walk.{Decides, walk_to}
use Rattle.packet_pool.proofs.pool.choose.Given as goal

abbrev pub invariant-loop-p : goal.invariant-loop-p
invariant-loop-p g l =
    (l.entries < 2 ^ 64)
    × ((less : ℕ → ℕ → Bool) → Decides (λ n e. g.F.Fn.post l.better (n, (e, tt))) less → record { packet = l.packet; entries = l.entries } ≡ walk_to less l.bound (image_of g.W.Word.BITS l.k (g.W.Word.words l.im)) l.p)
