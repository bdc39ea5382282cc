use Rattle.std.proofs.Math.Pow.{pow-lt}
use Rattle.std.proofs.lemmas.Nat.{or_lt}
use Rattle.image_laws.proofs.Places.{few_bits}
use Rattle.image_laws.proofs.Masks.{one_shl, or_shifted}
use Rattle.image.proofs.word.Word.with_bit.Goals as goal

pub of-requires : goal.of-requires
of-requires g c =
    rw (one_shl 64 c.args.j (few_bits g.met.Self.Word.laws.one_of_two c.requires)) (or_lt _ _ _ c.value.ensures.fits (pow-lt c.requires))

pub returns : goal.returns
returns g c = or_shifted c.value.ensures.value c.of.ensures (few_bits g.met.Self.Word.laws.one_of_two c.requires)
