-- What a call returns and leaves, as the model's record.
use Rattle.std.specs.Prelude.{List, ℕ}
use Rattle.model.specs.Map.{Mapped}

abbrev pub mapped_of : ℕ → List ℕ → Mapped
mapped_of r output = record { result = r; output = output }
