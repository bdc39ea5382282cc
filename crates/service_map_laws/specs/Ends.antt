-- How far objects reach: what the walk over the granules carries from one to the next.
use Rattle.std.specs.Prelude.{cond, ℕ, zero, suc, ◌+◌, max}
use Rattle.model.specs.Image.{Image, is_start, size}

-- how far the objects reach that start below g: the granule behind the furthest of them; 0 where there is none
unfoldable pub end_before : Image → ℕ → ℕ
end_before m zero = 0
end_before m (suc g) = max (end_before m g) (cond (is_start m g) (g + size m g) 0)
