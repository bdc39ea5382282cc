-- The sweep of a finish as the code does it: from the last granule down, by mark bits; and the granules of the runs, counted.
use Rattle.std.specs.Prelude.{ℕ, zero, suc, ◌+◌, ◌*◌, ◌-◌, ◌≤◌, cond, ltb, eqb}
use Rattle.model.specs.Image.{Image, marked, size, first_run, with_heap, set_first_run, set_word}
use Rattle.image_laws.specs.Clearing.{zeroed}
use Rattle.runs_laws.specs.declared.Free.{Free}
use Rattle.runs_laws.specs.Granules.{none_free, grown}

-- the lowest kept object so far and the free granules behind it lie in the heap of k cards
pub record Within (k start : ℕ) (f : Free) : Type 0 where
  pub room : start + f.granules ≤ 64 * k
  pub fewer : f.usable ≤ f.granules

-- an image, the first granule of the lowest kept object so far, and the free granules behind it
pub record Edged : Type 0 where
  pub start : ℕ
  pub free : Free
  pub image : Image

abbrev pub edged : ℕ → Free → Image → Edged
edged e f m = record { start = e; free = f; image = m }

-- granule a becomes the first of a run
unfoldable pub head_at : Image → ℕ → ℕ → ℕ → Image
head_at m a length next = set_word (set_word (set_word (set_word m a 0 length) a 1 next) a 2 0) a 3 0

-- granules a to e become a run, the first one
unfoldable pub run_from : Image → ℕ → ℕ → Image
run_from m a e = let h = head_at m a (e - a) (first_run m) in set_first_run (with_heap h (zeroed (4 * a + 4) (4 * e) h.heap)) a

-- what lies between a and e, if anything
unfoldable pub gap : Image → ℕ → ℕ → Image
gap m a e = cond (ltb a e) (run_from m a e) m

-- what is kept at h and ends at a closes the gap behind it
unfoldable pub closed_at : ℕ → ℕ → Edged → Edged
closed_at h a s = edged h (grown s.free (s.start - a)) (gap s.image a s.start)

-- the kept object at h; where the next one starts right behind h, its size is not asked
unfoldable pub kept_at : ℕ → Edged → Edged
kept_at h s = cond (eqb s.start (h + 1)) (edged h s.free s.image) (closed_at h (h + size s.image h) s)

-- granule h
unfoldable pub passed : Edged → ℕ → Edged
passed s h = cond (marked s.image h) (kept_at h s) s

-- the i granules below n, from the last down
unfoldable pub swept_from : ℕ → Edged → ℕ → Edged
swept_from n s zero = s
swept_from n s (suc i) = passed (swept_from n s i) (n - suc i)

-- all granules; granule 0, which no object has, closes the gap before the lowest kept object
unfoldable pub swept_all : ℕ → Image → Edged
swept_all k m = closed_at 0 1 (swept_from (64 * k) (edged (64 * k) none_free (set_first_run m 0)) (64 * k))
