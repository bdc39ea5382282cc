-- Free granules counted: those of an image, with a run more, and with a run that shrinks.
use Rattle.std.specs.Prelude.{ℕ, ◌+◌, ◌-◌}
use Rattle.model.specs.Image.{Image}
use Rattle.model.specs.Mutate.{free_granules, if_long, usable_run, usable_granules}
use Rattle.runs_laws.specs.declared.Free.{Free}

-- of an image
abbrev pub free_of : Image → Free
free_of m = record { granules = free_granules m; usable = usable_granules m }

-- of no run
abbrev pub none_free : Free
none_free = record { granules = 0; usable = 0 }

-- with a run of n granules more
unfoldable pub grown : Free → ℕ → Free
grown f n = record { granules = f.granules + n; usable = f.usable + if_long usable_run n }

-- with a run of n granules that shrinks by b; none of it is left where n is b
unfoldable pub shrunk : Free → ℕ → ℕ → Free
shrunk f n b = record { granules = f.granules - b; usable = f.usable - if_long usable_run n + if_long usable_run (n - b) }
