-- A tracer by value: a link is done, and the next comes or the hand is empty.
use mathlib.Core.Path.{◌≡◌}
use Prim.Native.Nat.{ℕ, ◌+◌, ◌≤◌, ◌<◌}
use borrow.Author.Tests.{lt-ltb, le-ltb}
use Rattle.tracers_laws.specs.Tracer.{Tracer, at_next_link, hand_empty, link_done}

module _ (x : Tracer) (n : ℕ) where
  pub link_next : x.link + 1 < n → at_next_link x ≡ link_done x n
  unfolding link_done
  link_next h = rw (lt-ltb (x.link + 1) n h)

  pub link_last : n ≤ x.link + 1 → hand_empty x ≡ link_done x n
  unfolding link_done
  link_last h = rw (le-ltb (x.link + 1) n h)
