-- The plain record of a tracer, whatever the width of its words.
use Rattle.std.specs.Prelude.{ℕ}
use Rattle.tracers_laws.specs.Tracer as tracers
use Rattle.tracers.specs.declared.tracer.Tracer.{Tracer}

-- `value` gives the number that a word is
abbrev pub tracer_of : {W : Type 0} → (W → ℕ) → Tracer W → tracers.Tracer
tracer_of value x = record {
  input = value x.input;
  output = value x.output;
  hand = value x.hand;
  link = value x.link;
  card = value x.card;
  granule = value x.granule;
}
